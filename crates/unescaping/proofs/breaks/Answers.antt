use Rattle.unescaping.proofs.Flaws.{breach_plain, breach_is}
use Rattle.unescaping.proofs.breaks.Goals as goal

pub returns-then-b-eq61 : goal.returns-then-b-eq61
returns-then-b-eq61 c = search breach_is

pub returns-else-b-eq61 : goal.returns-else-b-eq61
returns-else-b-eq61 c = search breach_plain
