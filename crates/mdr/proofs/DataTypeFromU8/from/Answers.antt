use Rattle.std.proofs.Common.{rules}
use borrow.Author.Tests.{tests}
use Rattle.mdr.specs.Types.{type_of}
use Rattle.mdr.proofs.DataTypeFromU8.from.Goals as goal

pub returns-in_default : goal.returns-in_default
unfolding type_of
returns-in_default c = search (tests, rules)
