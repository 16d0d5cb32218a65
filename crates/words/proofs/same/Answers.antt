use native.Mathlib.Omega.{arith}
use Rattle.words.proofs.Fields.{alike_start, alike_eight, other_lengths, other_eight, last_eight}
use Rattle.words.proofs.same.Goals as goal

pub returns-then-n-b : goal.returns-then-n-b
returns-then-n-b c = search other_lengths

pub loop-k-init : goal.loop-k-init
loop-k-init c = search alike_start

pub returns-then-get_le64 : goal.returns-then-get_le64
returns-then-get_le64 c = search other_eight

pub loop-k-preserved : goal.loop-k-preserved
loop-k-preserved c = alike_eight _ _ (λ k. omega (arith, c.type_inv.a k)) (λ k. omega (arith, c.type_inv.b k)) _ _ _ _ c.loop-k.invariant (omega arith) c.get_le64.ensures c.get_le64-in-loop-k.ensures c.if-get_le64.false

pub returns : goal.returns
returns c = last_eight _ _ (λ k. omega (arith, c.type_inv.a k)) (λ k. omega (arith, c.type_inv.b k)) _ _ _ _ c.loop-k.invariant (omega (arith, c.loop-k.auto.k-end)) (omega arith) (omega arith) c.get_le64-2.ensures c.get_le64-3.ensures
