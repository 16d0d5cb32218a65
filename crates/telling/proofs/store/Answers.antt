use mathlib.Core.Path.{refl, ◌∙◌}
use native.Mathlib.Omega.{arith}
use Rattle.telling.specs.Telling.{stored}
use Rattle.telling.proofs.TellLaws.{stored_whole, stored_one, stored_part}
use Rattle.telling.proofs.store.Goals as goal

pub returns-then-n-room : goal.returns-then-n-room
returns-then-n-room c = rw c.copy_from_slice.ensures.after (stored_whole c.args.list.now c.args.values.now c.if-n-room.true)

pub loop-i-init : goal.loop-i-init
unfolding stored
loop-i-init c = refl

pub loop-i-preserved : goal.loop-i-preserved
loop-i-preserved c = rw c.loop-i.invariant (stored_one _ _ _ (omega arith) (omega arith))

pub returns : goal.returns
returns c = c.loop-i.invariant ∙ stored_part _ _ _ c.loop-i-test.false
