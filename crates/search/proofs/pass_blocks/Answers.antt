use Rattle.search.proofs.Searching.{seeking_block, passed_block, passed_last}
use native.Mathlib.Omega.{arith}
use Rattle.search.proofs.pass_blocks.Goals as goal

pub returns-then-not-is_without : goal.returns-then-not-is_without
returns-then-not-is_without c = passed_block _ _ _ c.loop-i.invariant _ (omega arith) c.is_without.ensures c.if-not-is_without.true

pub loop-i-preserved : goal.loop-i-preserved
loop-i-preserved c = seeking_block _ _ _ c.loop-i.invariant _ (omega arith) c.is_without.ensures c.if-not-is_without.false

pub returns : goal.returns
returns c = passed_last _ _ _ c.loop-i.invariant _ (omega (arith, c.saturating_sub-last.ensures)) (omega arith)

pub returns-else-not-is_without : goal.returns-else-not-is_without
returns-else-not-is_without c =
    passed_last _ _ _ (seeking_block _ _ _ c.loop-i.invariant _ (omega arith) c.is_without.ensures c.if-not-is_without.false) _ (omega (arith, c.saturating_sub-last.ensures)) (omega arith)
