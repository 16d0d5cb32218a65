use Rattle.l2cap.proofs.Rows.{got_work, got_file}
use Rattle.l2cap.proofs.payload.Goals as goal

pub returns-then-joined-eq1 : goal.returns-then-joined-eq1
returns-then-joined-eq1 c = search got_work

pub returns : goal.returns
returns c = search got_file
