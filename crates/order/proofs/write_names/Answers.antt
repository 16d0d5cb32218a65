use Rattle.order.proofs.Arranging.{writing_turn, writing_end, writing_room, writing_left}
use native.Mathlib.Omega.{arith}
use Rattle.order.proofs.write_names.Goals as goal

pub get32-place-requires : goal.get32-place-requires
get32-place-requires c = omega (arith, writing_room _ _ _ _ _ _ c.loop-i.invariant)

pub put_before-to-requires-clause-long : goal.put_before-to-requires-clause-long
put_before-to-requires-clause-long c = omega (arith, c.loop-i.invariant.room, writing_left _ _ _ _ _ _ c.loop-i.invariant _ _ c.loop-i-test.true c.get32-place.ensures c.name_of-name.ensures)

pub loop-i-preserved : goal.loop-i-preserved
loop-i-preserved c = search writing_turn

pub returns : goal.returns
returns c = search writing_end
