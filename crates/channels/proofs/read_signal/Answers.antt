use Rattle.channels.proofs.Payloads.{some_command, says_missing, says_missing₂, says_other, says_request, says_response}
use Rattle.channels.proofs.read_signal.Goals as goal

pub returns-in_err-x : goal.returns-in_err-x
returns-in_err-x c = rw c.from_residual.ensures (search (says_missing, c.in_err-x.was))

pub returns-in_err-y : goal.returns-in_err-y
returns-in_err-y c = rw c.from_residual-in_err-y.ensures (search (says_missing₂, c.in_err-y.was))

pub bounds-c-0 : goal.bounds-c-0
bounds-c-0 c = some_command _ _ c.body_of-b.ensures _ c.field16.ensures _ c.in_ok-x.was

pub returns-in-2 : goal.returns-in-2
returns-in-2 c = search (says_request, c.in_ok-x.was, c.in_ok-y.was)

pub returns-in-3 : goal.returns-in-3
returns-in-3 c = search (says_response, c.in_ok-x.was, c.in_ok-y.was)

pub returns-in_default : goal.returns-in_default
returns-in_default c = search (says_other, c.in_ok-y.was)
