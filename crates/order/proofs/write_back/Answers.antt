use Rattle.order.proofs.Turning.{backing_turn, backing_end}
use Rattle.order.proofs.write_back.Goals as goal

pub loop-name-preserved : goal.loop-name-preserved
loop-name-preserved c = (tt, tt, backing_turn _ _ _ _ _ c.loop-name.invariant.2 _ _ c.in-Some.ensures.steps _ _ c.put_before-to.ensures)

pub returns : goal.returns
returns c = backing_end _ _ c.args.out.now _ _ c.loop-name.invariant.2 c.in-None.ensures.steps.0
