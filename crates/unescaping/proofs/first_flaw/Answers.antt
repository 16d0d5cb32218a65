use Rattle.unescaping.proofs.Flaws.{flaw_plain, flaw_pair, flaw_trailing, flaw_bad, flaw_end}
use Rattle.unescaping.proofs.first_flaw.Goals as goal

pub returns-in_default-next : goal.returns-in_default-next
returns-in_default-next c = flaw_trailing _ _ _ _ c.loop-b.invariant c.in-Some.ensures.steps c.if-b-eq61.true c.in_default-next.ensures.steps.0

pub returns-then-not-is_within : goal.returns-then-not-is_within
returns-then-not-is_within c = flaw_bad _ _ _ _ c.loop-b.invariant c.in-Some.ensures.steps _ _ c.if-b-eq61.true c.in-Some-next.ensures.steps _ c.is_within.ensures c.if-not-is_within.true

pub loop-b-preserved-else-not-is_within : goal.loop-b-preserved-else-not-is_within
loop-b-preserved-else-not-is_within c = flaw_pair _ _ _ _ c.loop-b.invariant c.in-Some.ensures.steps _ _ c.if-b-eq61.true c.in-Some-next.ensures.steps _ c.is_within.ensures c.if-not-is_within.false

pub loop-b-preserved : goal.loop-b-preserved
loop-b-preserved c = flaw_plain _ _ _ _ c.loop-b.invariant c.in-Some.ensures.steps c.if-b-eq61.false

pub returns : goal.returns
returns c = flaw_end _ _ c.loop-b.invariant c.in_default.ensures.steps.0
