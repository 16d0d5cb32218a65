use Rattle.l2cap.proofs.Rows.{row_is}
use Rattle.l2cap.proofs.put_pdu.Goals as goal

pub returns : goal.returns
returns c = row_is _ _ _ _ _ _ _ _ _ _ c.from.ensures c.put32.ensures c.put32-2.ensures c.put32-3.ensures c.put32-4.ensures c.put32-5.ensures c.put64.ensures
