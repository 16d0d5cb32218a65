use Rattle.letters.proofs.Stems.{named_some, named_endless, named_none}
use Rattle.letters.proofs.is_named_from.Goals as goal

pub returns-in_default : goal.returns-in_default
returns-in_default c = named_none _ _ (rw c.in_default.is at c.rest_after.ensures)

pub returns-in-Some-find_ending : goal.returns-in-Some-find_ending
returns-in-Some-find_ending c =
    named_some _ _ c.in-Some.rest c.in-Some.ensures _ c.in-Some-find_ending.ensures _ c.is_pair.ensures

pub returns-in-None : goal.returns-in-None
returns-in-None c = named_endless _ _ c.in-Some.rest c.in-Some.ensures c.in-None.ensures
