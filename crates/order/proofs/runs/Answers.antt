use Rattle.std.proofs.Common.{arith}
use Rattle.items.proofs.Entries.{gave_entry}
use Rattle.order.proofs.Running.{whole_none, whole_pre, whole_runs}
use Rattle.order.proofs.runs.Goals as goal

pub returns-in-None : goal.returns-in-None
returns-in-None c = whole_none _ _ (omega arith) (omega (arith, c.in-None.ensures.steps.0))

pub runs_on-requires : goal.runs_on-requires
runs_on-requires c = whole_pre c.args.names _ _ (gave_entry _ _ _ c.in-Some-Ok.ensures.steps _ c.in-Some-Ok.field-0-is) (omega arith) _ c.head_of.ensures

pub returns-in-Some-Ok : goal.returns-in-Some-Ok
returns-in-Some-Ok c = whole_runs c.args.names _ _ (gave_entry _ _ _ c.in-Some-Ok.ensures.steps _ c.in-Some-Ok.field-0-is) (omega arith) _ c.head_of.ensures _ _ c.runs_on.ensures
