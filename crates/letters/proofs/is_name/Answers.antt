use Rattle.letters.proofs.Joining.{name_unlike, name_same, name_other}
use Rattle.letters.proofs.is_name.Goals as goal

pub returns-then-name-name_len : goal.returns-then-name-name_len
returns-then-name-name_len c = search name_unlike

pub returns-in-Some : goal.returns-in-Some
returns-in-Some c = name_same _ _ c.halves_of-h.ensures _ c.in-Some.rest c.in-Some.ensures _ c.part.ensures _ c.same.ensures

pub returns-in-None : goal.returns-in-None
returns-in-None c = name_other _ _ c.halves_of-h.ensures _ c.in-None.ensures
