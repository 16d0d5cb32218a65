use Rattle.counter.proofs.Reading.{after_found, after_none}
use Rattle.std.proofs.lemmas.List.{take_rest}
use Rattle.counter.proofs.after_hyphen.Goals as goal

pub returns-then-at-s : goal.returns-then-at-s
returns-then-at-s c = rw take_rest (after_found _ _ c.find_soon-at.ensures c.if-at-s.true)

pub returns-else-at-s : goal.returns-else-at-s
returns-else-at-s c = rw take_rest (after_none _ _ c.find_soon-at.ensures c.if-at-s.false)
