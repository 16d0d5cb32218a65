use native.Mathlib.Omega.{arith}
use Rattle.words.proofs.Parts.{parts_start, parts_turn, parts_end}
use Rattle.words.proofs.copy_long.Goals as goal
use Rattle.words.proofs.copy_long.Goals.{else-loop-i-test, then-loop-i-test+else-last-i-gt16}

pub loop-i-init : goal.loop-i-init
loop-i-init c = search parts_start

pub loop-i-preserved : goal.loop-i-preserved
loop-i-preserved c = search parts_turn

pub returns : goal.returns
returns c =
    elim c.loop-i-test.branch [
      | else-loop-i-test w ↦
          parts_end _ _ _ _ _ c.loop-i.invariant (omega arith) (omega arith) _ (rw w.out-is at c.copy_part-2.ensures)
      | then-loop-i-test+else-last-i-gt16 w ↦
          parts_end _ _ _ _ _ (parts_turn _ _ _ _ _ c.loop-i.invariant (omega arith) _ w.copy_part.ensures) (omega arith) (omega arith) _
          (rw w.out-is at c.copy_part-2.ensures)
    ]
