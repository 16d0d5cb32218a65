use Rattle.split.proofs.Steps.{tables_lying, join_gather, join_put, join_small, join_done}
use native.Mathlib.Omega.{arith}
use Rattle.split.proofs.join.Goals as goal

pub gather-requires : goal.gather-requires
gather-requires c = join_gather _ _ _ _ _ c.requires _ c.split_at_mut-tables.ensures.front _ c.split_at_mut-tables.ensures.back

pub invariant_of-s : goal.invariant_of-s
invariant_of-s c = record { lying = tables_lying _ _ _ _ _ c.requires _ c.split_at_mut-tables.ensures.front _ c.split_at_mut-tables.ensures.back }

pub put_part-requires : goal.put_part-requires
put_part-requires c = join_put _ _ _ _ _ c.requires _ c.split_at_mut-tables.ensures.front _ c.split_at_mut-tables.ensures.back _ c.gather.ensures _ c.length_of-n.ensures

pub overflow_add-result : goal.overflow_add-result
overflow_add-result c = let g = join_small _ _ _ _ _ c.requires _ c.split_at_mut-tables.ensures.front _ c.split_at_mut-tables.ensures.back _ c.gather.ensures _ c.length_of-n.ensures in omega arith

pub returns : goal.returns
returns c = join_done _ _ _ _ _ c.requires _ c.split_at_mut-tables.ensures.front _ c.split_at_mut-tables.ensures.back _ c.gather.ensures _ c.length_of-n.ensures _ c.put_part.ensures
