use Rattle.words.proofs.Copies.{numbering_start, numbering_turn, numbering_end}
use native.Mathlib.Omega.{arith}
use Rattle.words.proofs.put_le.Goals as goal

pub loop-i-init : goal.loop-i-init
loop-i-init c = search numbering_start

pub bounds-out-at : goal.bounds-out-at
bounds-out-at c = omega (arith, c.loop-i.invariant.emits.long)

pub loop-i-preserved : goal.loop-i-preserved
loop-i-preserved c = search numbering_turn

pub returns : goal.returns
returns c = numbering_end _ _ _ _ _ _ _ c.loop-i.invariant (omega arith)
