use Rattle.sorting.proofs.Places.{name_none, name_some}
use Rattle.sorting.proofs.name_of.Goals as goal

pub returns-then-names-start : goal.returns-then-names-start
returns-then-names-start c = search name_none

pub returns : goal.returns
returns c =
    name_some _ _ _ _ c.if-names-start.false c.get_le32.ensures c.min-size.ensures
