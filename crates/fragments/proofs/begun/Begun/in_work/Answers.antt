use lib.ListN.{length-drop}
use lib.Seq.{take_all}
use Rattle.words.proofs.Front.{front_refl}
use Rattle.fragments.proofs.Walking.{work_rows, work_walk}
use native.Mathlib.Omega.{arith}
use Rattle.fragments.proofs.begun.Begun.in_work.Goals as goal

pub invariant_of-result : goal.invariant_of-result
invariant_of-result c = record {
  walk = work_walk _ _ _ _ _ c.requires _ _ (front_refl _ _) (work_rows _ _ _ _ _ c.requires) (take_all _ _ (simp length-drop (omega arith)));
}
