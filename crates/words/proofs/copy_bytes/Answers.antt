use native.Mathlib.Omega.{arith}
use native.Mathlib.Nat.{add-zero}
use Rattle.laws.proofs.Stores.{emit_start}
use Rattle.words.proofs.Copies.{few_turn, few_end}
use Rattle.words.proofs.copy_bytes.Goals as goal

pub loop-i-init : goal.loop-i-init
loop-i-init c = rw add-zero (emit_start _ _ _)

pub bounds-out-at : goal.bounds-out-at
bounds-out-at c = omega (arith, c.loop-i.invariant.long)

pub loop-i-preserved : goal.loop-i-preserved
loop-i-preserved c = search few_turn

pub returns : goal.returns
returns c = search few_end
