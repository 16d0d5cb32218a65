-- A PDU as the code reads it.
use Rattle.std.specs.Prelude.{ℕ, ◌+◌, ◌≡◌, List, eqb}
use Rattle.words.specs.Words.{word}
use Rattle.l2cap.specs.PduTable.{pdu_at}
use Rattle.l2cap.specs.declared.Pdu.{Pdu}

-- it is the one whose row is at a word
pub record PduIs (f w : List ℕ) (at : ℕ) (p : Pdu) : Type 0 where
  pub side : p.side ≡ word w at
  pub cid : p.cid ≡ word w (at + 1)
  pub joined : p.joined ≡ eqb (word w (at + 2)) 1
  pub start : p.start ≡ word w (at + 3)
  pub payload : p.payload.now ≡ (pdu_at f w at).payload
