use Rattle.std.proofs.Common.{le-leb}
use borrow.Author.Tests.{lt-leb}
use Rattle.mdr.specs.Escape.{within}
use Rattle.blocks.proofs.is_within.Goals as goal

pub returns-then-b : goal.returns-then-b
unfolding within
returns-then-b g c = rw (le-leb _ _ c.if-b.true)

pub returns-else-b : goal.returns-else-b
unfolding within
returns-else-b g c = simp (lt-leb _ _ c.if-b.false)
