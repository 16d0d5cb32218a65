use Rattle.l2cap.proofs.Stepping.{step_row, step_arrive, step_skip, step_walk, step_finish, full_opens, hold_opens, step_hold, step_full}
use Rattle.l2cap.proofs.step.Goals as goal

pub row_of-at-requires : goal.row_of-at-requires
row_of-at-requires c = search step_row

pub arrive-requires : goal.arrive-requires
arrive-requires c = search step_arrive

pub returns-in_default : goal.returns-in_default
returns-in_default c = search step_skip

pub in_work-requires : goal.in_work-requires
in_work-requires c = step_walk _ _ _ _ _ c.requires _ c.row_of-at.ensures _ c.arrive.ensures _ _ c.in-Some.is

pub finish-end-requires : goal.finish-end-requires
finish-end-requires c = step_finish _ _ _ _ _ c.requires _ c.row_of-at.ensures _ c.arrive.ensures _ _ c.in-Some.is _ (rw c.in_work.ensures at c.needed-need.ensures) c.if-need-pdu.true

pub set_open-requires : goal.set_open-requires
set_open-requires c = full_opens _ _ _ _ _ c.requires _ c.row_of-at.ensures _ _ _ _ c.finish-end.ensures

pub returns-then-need-pdu : goal.returns-then-need-pdu
returns-then-need-pdu c = step_full _ _ _ _ _ c.requires _ c.row_of-at.ensures _ c.arrive.ensures _ _ c.in-Some.is _ (rw c.in_work.ensures at c.needed-need.ensures) c.if-need-pdu.true _ _ c.finish-end.ensures _ c.set_open.ensures

pub set_open-requires-2 : goal.set_open-requires-2
set_open-requires-2 c = hold_opens _ _ _ _ _ c.requires _ c.row_of-at.ensures _ c.arrive.ensures _ _ c.in-Some.is

pub returns : goal.returns
returns c = step_hold _ _ _ _ _ c.requires _ c.row_of-at.ensures _ c.arrive.ensures _ _ c.in-Some.is _ (rw c.in_work.ensures at c.needed-need.ensures) c.if-need-pdu.false _ c.set_open-2.ensures
