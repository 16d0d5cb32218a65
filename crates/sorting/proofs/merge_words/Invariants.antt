use Rattle.sorting.proofs.Places.{Merging}
use Prim.Native.Nat.{◌+◌, ◌-◌}
use Rattle.sorting.proofs.merge_words.Given as goal

abbrev pub invariant-loop-out : goal.invariant-loop-out
invariant-loop-out l = Merging l.names l.fn.halves l.initial.out l.out l.i l.j l.a l.b

abbrev pub decreases-loop-out : goal.decreases-loop-out
decreases-loop-out l = (l.fn.halves.h - l.i) + (l.fn.halves.m - l.j)
