use Rattle.samples.proofs.Comparing.{compared_rest}
use Rattle.samples.proofs.has_output.Goals as goal

pub returns-then-starts_with : goal.returns-then-starts_with
returns-then-starts_with c = compared_rest _ _ _ c.starts_with.ensures.value c.if-starts_with.true (c.starts_with.ensures.bound c.if-starts_with.true) _ c.is_untouched.ensures
