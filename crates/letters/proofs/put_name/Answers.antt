use Rattle.letters.proofs.Joining.{stem_written, name_written}
use Rattle.letters.proofs.put_name.Goals as goal

pub returns-then-h-eq-NONE : goal.returns-then-h-eq-NONE
returns-then-h-eq-NONE c = stem_written _ _ c.halves_of-h.ensures _ _ _ _ c.if-h-eq-NONE.true c.put_part-then.ensures

pub returns : goal.returns
returns c = name_written _ _ c.halves_of-h.ensures _ _ _ _ _ _ c.put_part-then.ensures c.put_part.ensures
