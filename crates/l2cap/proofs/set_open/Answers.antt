use Rattle.l2cap.proofs.Opens.{words_some, words_none, opens_first, open_is}
use native.Mathlib.Omega.{arith}
use Rattle.l2cap.proofs.set_open.Goals as goal
use Rattle.l2cap.proofs.set_open.Goals.{in-Some, in-None}

pub overflow_add-first : goal.overflow_add-first
overflow_add-first c = omega (arith, opens_first _ _ _ c.requires _ c.in-Some.is)

pub overflow_cast-first : goal.overflow_cast-first
overflow_cast-first c = elim c.match-pdu.branch [
  | in-Some w ↦ omega (arith, c.requires, words_some _ _ w.in-Some.is _ w.first-is)
  | in-None w ↦ omega (arith, c.requires, words_none _ w.in-None.is _ w.first-is)
]

pub overflow_cast-got : goal.overflow_cast-got
overflow_cast-got c = elim c.match-pdu.branch [
  | in-Some w ↦ omega (arith, c.requires, words_some _ _ w.in-Some.is _ w.first-is)
  | in-None w ↦ omega (arith, c.requires, words_none _ w.in-None.is _ w.first-is)
]

pub returns : goal.returns
returns c = elim c.match-pdu.branch [
  | in-Some w ↦ open_is _ _ _ _ _ _ (words_some _ _ w.in-Some.is _ w.first-is) _ _ c.put32.ensures c.put32-2.ensures
  | in-None w ↦ open_is _ _ _ _ _ _ (words_none _ w.in-None.is _ w.first-is) _ _ c.put32.ensures c.put32-2.ensures
]
