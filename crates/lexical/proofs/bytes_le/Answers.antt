use Rattle.lexical.proofs.Comparing.{eight_same, eight_less}
use mathlib.Core.Path.{◌≡◌}
use Prim.Native.Nat.{◌+◌, ◌*◌}
use native.Mathlib.Omega.{arith}
use Rattle.lexical.proofs.bytes_le.Goals as goal

pub returns-then-x-y : goal.returns-then-x-y
returns-then-x-y c = eight_less _ _ (λ k. omega (arith, c.type_inv.a k)) (λ k. omega (arith, c.type_inv.b k)) _ _ _ c.loop-i.invariant (omega arith) (omega arith) c.get_be64-x.ensures c.get_be64-y.ensures c.if-x-y.true

pub loop-i-preserved : goal.loop-i-preserved
loop-i-preserved c =
    let e : 8 * c.loop-i.i + 8 ≡ 8 * (c.loop-i.i + 1) = omega arith in
    rw e at (eight_same _ _ (λ k. omega (arith, c.type_inv.a k)) (λ k. omega (arith, c.type_inv.b k)) _ _ _ c.loop-i.invariant (omega arith) (omega arith) c.get_be64-x.ensures c.get_be64-y.ensures c.if-x-y.false)
