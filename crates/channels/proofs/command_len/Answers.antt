use Rattle.channels.proofs.Payloads.{bytes_missing, bytes_least}
use Rattle.channels.proofs.command_len.Goals as goal

pub returns-in_default : goal.returns-in_default
returns-in_default c = search bytes_missing

pub returns : goal.returns
returns c = search bytes_least
