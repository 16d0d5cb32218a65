use Rattle.gathering.proofs.CountTable.{count_found, count_none, count_row}
use native.Mathlib.Omega.{arith}
use Rattle.gathering.proofs.count_of.Goals as goal

pub overflow_mul-i : goal.overflow_mul-i
overflow_mul-i c = let h = count_row _ _ _ c.args.counts.ready _ c.seek_near.ensures _ c.in-Some.is in omega arith

pub overflow_add-counts : goal.overflow_add-counts
overflow_add-counts c = let h = count_row _ _ _ c.args.counts.ready _ c.seek_near.ensures _ c.in-Some.is in omega arith

pub overflow_add-counts-in-Some : goal.overflow_add-counts-in-Some
overflow_add-counts-in-Some c = let h = count_row _ _ _ c.args.counts.ready _ c.seek_near.ensures _ c.in-Some.is in omega arith

pub get32-requires : goal.get32-requires
get32-requires c = let h = count_row _ _ _ c.args.counts.ready _ c.seek_near.ensures _ c.in-Some.is in omega arith

pub returns-in-Some : goal.returns-in-Some
returns-in-Some c = search count_found

pub returns-in-None : goal.returns-in-None
returns-in-None c = search count_none
