use Rattle.order.proofs.Running.{running_start, running_turn, running_on, running_end, same_bools}
use Rattle.order.proofs.runs_on.Goals as goal

pub loop-name-init : goal.loop-name-init
loop-name-init c = rw c.into_iter-name-iterator.ensures.into_iter_gives (tt, tt, c.requires.over, running_start _ _ _ c.requires)

pub loop-name-preserved : goal.loop-name-preserved
loop-name-preserved c = (
  tt,
  tt,
  running_on _ _ _ _ _ _ c.loop-name.invariant.2 c.loop-name.invariant.3 _ _ c.in-Some.ensures.steps _ c.in-Ok.is,
  running_turn _ _ _ _ _ _ c.loop-name.invariant.2 c.loop-name.invariant.3 _ _ c.in-Some.ensures.steps _ c.in-Ok.is _ _ c.head_of-b.ensures c.is_first.ensures (same_bools _ _ c.if-is_first-up.false),
)

pub returns : goal.returns
returns c = running_end _ _ _ _ _ _ c.loop-name.invariant.2 c.loop-name.invariant.3 c.in-None.ensures.steps.0
