-- What the PDU of a row is: the code's verdict against the kind that is defined.
use Rattle.std.specs.Prelude.{ℕ, ◌+◌, ◌-◌, ◌<◌, ◌≤◌, ◌≡◌, Bool, ◌||◌, cond, List, length, take, drop, eqb}
use Rattle.words.specs.Words.{word}
use Rattle.l2cap.specs.PduTable.{pdu_at}
use Rattle.l2cap.specs.PduFrames.{Lent}
use Rattle.l2cap.specs.declared.Pdu.{Pdu}
use Rattle.channels.specs.Signals.{Signal}
use Rattle.channels.specs.ChannelTable.{Tells}
use Rattle.channels.specs.Passing.{Tries}
use Rattle.uih.specs.Frames.{frame_of}
use Rattle.rfcomm.specs.Pieces.{Kind, asks, opens, carries, wrong, passed, frame_kind, kind_of}
use Rattle.uih.specs.declared.Uih.{Uih}
use Rattle.rfcomm.specs.declared.Info.{Info}
use Rattle.rfcomm.specs.declared.Verdict.{Verdict}
use Rattle.rfcomm.specs.declared.Verdict.TheVariants.{Asks, Opens, Carries, Wrong, Passed}

unfoldable pub kind_shown : List ℕ → List ℕ → Verdict → Kind
kind_shown f w Asks = asks
kind_shown f w (Opens d) = opens d
kind_shown f w (Carries i) = carries i.dlci (take i.len (drop i.start (cond i.joined w f)))
kind_shown f w (Wrong d) = wrong d
kind_shown f w Passed = passed

-- the information of a verdict lies in the payload of the row
pub record Carried (w : List ℕ) (row : ℕ) (i : Info) : Type 0 where
  pub least : 0 < i.dlci
  pub most : i.dlci < 64
  pub few : i.len < 32768
  pub inside : i.start + i.len ≤ word w (row + 3) + word w (row + 4)
  pub less : i.len + 4 ≤ word w (row + 4)
  pub joined : i.joined ≡ eqb (word w (row + 2)) 1

abbrev pub Borne : List ℕ → ℕ → Verdict → Type 0
Borne w row Asks = Unit {0}
Borne w row (Opens d) = d < 64
Borne w row (Carries i) = Carried w row i
Borne w row (Wrong d) = Unit {0}
Borne w row Passed = Unit {0}

-- ---- the frame in a PDU's payload

unfoldable pub placed_uih : Pdu → Uih → Verdict
placed_uih p u =
    cond (eqb u.dlci 0 || eqb u.len 0) Passed
    (Carries (record { dlci = u.dlci; start = p.start + u.start; len = u.len; joined = p.joined }))

-- the same as kind_shown, by the payload: it starts where the PDU says
unfoldable pub kind_in : Pdu → Verdict → Kind
kind_in p Asks = asks
kind_in p (Opens d) = opens d
kind_in p (Carries i) = carries i.dlci (take i.len (drop (i.start - p.start) p.payload.now))
kind_in p (Wrong d) = wrong d
kind_in p Passed = passed

-- the information of a verdict lies in the payload
pub record CarriedIn (p : Pdu) (i : Info) : Type 0 where
  pub least : 0 < i.dlci
  pub most : i.dlci < 64
  pub few : i.len < 32768
  pub from : p.start ≤ i.start
  pub inside : i.start + i.len ≤ p.start + length p.payload.now
  pub less : i.len + 4 ≤ length p.payload.now
  pub joined : i.joined ≡ p.joined

abbrev pub BorneIn : Pdu → Verdict → Type 0
BorneIn p Asks = Unit {0}
BorneIn p (Opens d) = d < 64
BorneIn p (Carries i) = CarriedIn p i
BorneIn p (Wrong d) = Unit {0}
BorneIn p Passed = Unit {0}

pub record FrameVerdict (fcs : Bool) (p : Pdu) (r : Verdict) : Type 0 where
  pub shows : frame_kind fcs (frame_of p.payload.now) ≡ kind_in p r
  pub borne : BorneIn p r

-- ---- the PDU of a row

pub record JudgePre (f w : List ℕ) (row q n : ℕ) : Type 0 where
  pub lent : Lent f w row
  pub tries : Tries w q n

-- the verdict is right for all signals that the rows tell of
pub record VerdictIs (fcs : Bool) (f w : List ℕ) (row b n : ℕ) (r : Verdict) : Type 0 where
  pub shows : (ss : List Signal) → Tells ss w b n → kind_of fcs ss (pdu_at f w row) ≡ kind_shown f w r
  pub borne : Borne w row r
