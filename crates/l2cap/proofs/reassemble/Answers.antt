use mathlib.Core.Path.{refl}
use Rattle.l2cap.proofs.Running.{link_run, run_all}
use Rattle.l2cap.proofs.reassemble.Goals as goal

pub run-requires : goal.run-requires
run-requires c = rw c.begun.ensures (link_run _ _ _ c.requires _ refl _ _ c.link_packets-rows.ensures)

pub returns : goal.returns
returns c = run_all _ _ _ c.requires _ refl _ _ c.link_packets-rows.ensures _ _ (rw c.begun.ensures at c.run.ensures)
