use Rattle.writing.proofs.Writing.{close_time, close_sum, close_gather, close_put, close_written}
use native.Mathlib.Omega.{arith}
use Rattle.writing.proofs.write_closed.Goals as goal

pub put_le-body-requires : goal.put_le-body-requires
put_le-body-requires c = close_time _ _ _ c.args.s.lying _ _ _ _ _ c.requires _ _ _ c.put_head-time.ensures

pub gather-requires : goal.gather-requires
gather-requires c = close_gather _ _ _ c.args.s.lying _ _ _ _ _ c.requires _ _ _ c.put_head-time.ensures _ _ _ c.put_le-body.ensures

pub overflow_add-rest : goal.overflow_add-rest
overflow_add-rest c = omega (arith, c.well_formed, c.ranges, close_sum _ _ _ c.args.s.lying _ _ _ _ _ c.requires _ _ _ c.put_head-time.ensures _ _ _ c.put_le-body.ensures)

pub put_part-requires : goal.put_part-requires
put_part-requires c = close_put _ _ _ c.args.s.lying _ _ _ _ _ c.requires _ _ _ c.put_head-time.ensures _ _ _ c.put_le-body.ensures _ c.gather.ensures

pub overflow_add-result : goal.overflow_add-result
overflow_add-result c = omega (arith, c.well_formed, c.ranges, close_sum _ _ _ c.args.s.lying _ _ _ _ _ c.requires _ _ _ c.put_head-time.ensures _ _ _ c.put_le-body.ensures)

pub returns : goal.returns
returns c = close_written _ _ _ c.args.s.lying _ _ _ _ _ c.requires _ _ _ c.direction_of.ensures c.kind.ensures c.time_of.ensures _ _ c.put_head-time.ensures _ _ c.put_le-body.ensures _ c.gather.ensures _ c.put_part.ensures
