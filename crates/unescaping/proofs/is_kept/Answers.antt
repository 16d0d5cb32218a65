use Rattle.unescaping.proofs.Flaws.{kept_bare}
use Rattle.unescaping.proofs.is_kept.Goals as goal

pub returns-then-sentries-eq0 : goal.returns-then-sentries-eq0
returns-then-sentries-eq0 c = search kept_bare
