use Rattle.channels.proofs.Payloads.{psm_command, asks_other, asks_request}
use Rattle.channels.proofs.asks_rfcomm.Goals as goal

pub bounds-c-0 : goal.bounds-c-0
bounds-c-0 c = search psm_command

pub returns-then-eq : goal.returns-then-eq
returns-then-eq c = search asks_request

pub returns-else-eq : goal.returns-else-eq
returns-else-eq c = search asks_other
