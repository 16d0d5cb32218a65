use Rattle.table.proofs.Table.{found_below}
use Rattle.channels.proofs.Grades.{standing_none, standing_row}
use native.Mathlib.Omega.{arith}
use mathlib.Core.Path.{◌∙◌}
use Rattle.channels.proofs.look.Goals as goal

pub returns-in_err-i : goal.returns-in_err-i
returns-in_err-i c = c.from_residual.ensures ∙ standing_none _ _ _ _ _ c.seek_near.ensures c.in_err-i.was

pub overflow_mul-i : goal.overflow_mul-i
overflow_mul-i c = omega (arith, found_below _ _ _ _ _ _ c.seek_near.ensures c.in_ok-i.was, c.args.f.ready.stands.few)

pub overflow_add-t : goal.overflow_add-t
overflow_add-t c = omega (arith, found_below _ _ _ _ _ _ c.seek_near.ensures c.in_ok-i.was, c.args.f.ready.stands.rows, c.args.f.ready.stands.room)

pub overflow_add-t-2 : goal.overflow_add-t-2
overflow_add-t-2 c = omega (arith, found_below _ _ _ _ _ _ c.seek_near.ensures c.in_ok-i.was, c.args.f.ready.stands.rows, c.args.f.ready.stands.room)

pub get32-requires : goal.get32-requires
get32-requires c = omega (arith, found_below _ _ _ _ _ _ c.seek_near.ensures c.in_ok-i.was, c.args.f.ready.stands.rows, c.args.f.ready.stands.room)

pub returns : goal.returns
returns c = standing_row _ _ _ _ _ _ c.seek_near.ensures c.in_ok-i.was _ c.get32.ensures _ c.from.ensures
