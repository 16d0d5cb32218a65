use Rattle.l2cap.proofs.Opens.{arrive_start, arrive_closed, arrive_more, arrive_small}
use native.Mathlib.Omega.{arith}
use Rattle.l2cap.proofs.arrive.Goals as goal

pub returns-then-starts : goal.returns-then-starts
returns-then-starts c = search arrive_start

pub overflow_add-result : goal.overflow_add-result
overflow_add-result c = omega (arith, arrive_small _ _ _ _ _ c.starts.ensures c.len_of-n.ensures c.if-starts.false _ c.look.ensures c.requires c.in_ok-first.field-0.first c.in_ok-first.field-0.got c.in_ok-first.was)

pub returns-in_err-first : goal.returns-in_err-first
returns-in_err-first c = rw c.from_residual.ensures (search (arrive_closed, c.in_err-first.was))

pub returns : goal.returns
returns c = arrive_more _ _ _ _ _ c.starts.ensures c.len_of-n.ensures c.if-starts.false _ c.look.ensures c.in_ok-first.field-0.first c.in_ok-first.field-0.got c.in_ok-first.was
