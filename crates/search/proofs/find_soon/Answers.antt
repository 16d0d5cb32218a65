use Rattle.search.proofs.Searching.{sought, soon_found, soon_past}
use Rattle.std.proofs.lemmas.List.{take_rest}
use native.Mathlib.Omega.{arith}
use Rattle.search.proofs.find_soon.Goals as goal

pub returns-then-s : goal.returns-then-s
returns-then-s g c = search sought

pub returns-then-at : goal.returns-then-at
returns-then-at g c = soon_found _ _ _ (omega arith) _ c.find_few-at.ensures c.if-at.true

pub returns : goal.returns
returns g c = soon_past _ _ _ (omega arith) _ c.find_few-at.ensures c.if-at.false _ (rw take_rest at c.find.ensures)
