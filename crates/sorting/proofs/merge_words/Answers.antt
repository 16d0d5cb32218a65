use Rattle.sorting.proofs.Places.{ends_left, merging_left, ends_right, merging_right}
use Rattle.sorting.proofs.merge_words.Goals as goal

pub returns-then-i-h : goal.returns-then-i-h
returns-then-i-h c = ends_left _ _ _ _ _ c.requires _ _ _ _ _ c.loop-out.invariant _ c.is_first.ensures c.if-is_first.true _ c.put32.ensures c.if-i-h.true

pub loop-out-preserved-then-is_first : goal.loop-out-preserved-then-is_first
loop-out-preserved-then-is_first c = merging_left _ _ _ _ _ c.requires _ _ _ _ _ c.loop-out.invariant _ c.is_first.ensures c.if-is_first.true _ c.put32.ensures _ c.if-i-h.false c.head_at-a.ensures

pub returns-then-j-m : goal.returns-then-j-m
returns-then-j-m c = ends_right _ _ _ _ _ c.requires _ _ _ _ _ c.loop-out.invariant _ c.is_first.ensures c.if-is_first.false _ c.put32-else-is_first.ensures _ c.if-j-m.true c.copy_words.ensures

pub loop-out-preserved : goal.loop-out-preserved
loop-out-preserved c = merging_right _ _ _ _ _ c.requires _ _ _ _ _ c.loop-out.invariant _ c.is_first.ensures c.if-is_first.false _ c.put32-else-is_first.ensures _ c.if-j-m.false c.head_at-b.ensures
