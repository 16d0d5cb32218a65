-- Sessions and links for each handle of an adapter (a PDU's `link`), and the pieces of information with the stretch that each belongs to.
use Rattle.std.specs.Prelude.{ℕ, zero, suc, ◌+◌, Bool, false, cond, ◌&&◌, List, [], ◌∷◌, ◌++◌, map, length, ltb, eqb}
use Rattle.laws.specs.Keys.{Key}
use Rattle.laws.specs.Keyed.{Machine, run}
use Rattle.l2cap.specs.Pdus.{Pdu}
use Rattle.channels.specs.Signals.{Signal}
use Rattle.channels.specs.Channels.{is_tried, asks_session}
use Rattle.channels.specs.Tried.{ChannelRule, source, tried_by}
use Rattle.uih.specs.Frames.{Uih, Frame, sabm, uih, wrong_fcs, other, frame_of}

-- what a PDU is once it is judged
pub data Kind : Type 0 where
  -- a PSM 3 request: one more session
  asks : Kind
  -- SABM on a DLCI: on DLCI 0 one more session, else one more link
  opens : ℕ → Kind
  -- UIH with information on a DLCI that is not 0
  carries : ℕ → List ℕ → Kind
  -- UIH with a wrong FCS on a DLCI, with information or without; only where FCS is checked
  wrong : ℕ → Kind
  passed : Kind

-- DLCI 0 and empty information are passed over
unfoldable pub uih_kind : Uih → Kind
uih_kind u = cond (ltb 0 u.dlci && ltb 0 (length u.information)) (carries u.dlci u.information) passed

-- where FCS is checked, frames with a wrong one are passed over, but counted; else it makes no difference
unfoldable pub frame_kind : Bool → Frame → Kind
frame_kind fcs (sabm e) = opens e
frame_kind fcs (uih u) = uih_kind u
frame_kind fcs (wrong_fcs u) = cond fcs (wrong u.dlci) (uih_kind u)
frame_kind fcs other = passed

-- what PDUs are judged by: a channel rule, and whether FCS is checked
pub record Judging : Type 0 where
  pub rule : ChannelRule
  pub fcs : Bool

abbrev pub unchecked : ChannelRule → Judging
unchecked rule = record { rule = rule; fcs = false }

-- what a PDU is by the PDUs up to and with it, and by all
unfoldable pub kind_by : Judging → List Pdu → List Pdu → Pdu → Kind
kind_by by up_to all p = cond (asks_session p) asks (cond (tried_by by.rule up_to all p) (frame_kind by.fcs (frame_of p.payload)) passed)

pub record Judged : Type 0 where
  pub pdu : Pdu
  pub kind : Kind

-- each PDU at its place, after those before
unfoldable pub judged_from : Judging → List Pdu → List Pdu → List Pdu → List Judged
judged_from by all before [] = []
judged_from by all before (p ∷ ps) = record { pdu = p; kind = kind_by by (before ++ (p ∷ [])) all p } ∷ judged_from by all (before ++ (p ∷ [])) ps

-- a file's PDUs, judged
unfoldable pub judged_by : Judging → List Pdu → List Judged
judged_by by ps = judged_from by ps [] ps

-- by the source's rule, with FCS checked or not
unfoldable pub judged : Bool → List Pdu → List Judged
judged fcs ps = judged_by (record { rule = source; fcs = fcs }) ps

-- ---- by the source's rule the place of a PDU does not matter, only the signals of the whole file

unfoldable pub kind_of : Bool → List Signal → Pdu → Kind
kind_of fcs ss p = cond (asks_session p) asks (cond (is_tried ss p) (frame_kind fcs (frame_of p.payload)) passed)

abbrev pub told : Bool → List Signal → Pdu → Judged
told fcs ss p = record { pdu = p; kind = kind_of fcs ss p }

-- ---- frames with a wrong FCS

abbrev pub kinds : List Judged → List Kind
kinds js = map (λ j. j.kind) js

unfoldable pub is_wrong : ℕ → Kind → Bool
is_wrong d asks = false
is_wrong d (opens e) = false
is_wrong d (carries e i) = false
is_wrong d (wrong e) = eqb e d
is_wrong d passed = false

-- how many there are on a DLCI
unfoldable pub wrong_on : ℕ → List Kind → ℕ
wrong_on d [] = 0
wrong_on d (k ∷ ks) = cond (is_wrong d k) 1 0 + wrong_on d ks

-- ---- sessions and links

-- sessions of a handle of an adapter, and links of it for each DLCI
pub record Counts : Type 0 where
  pub sessions : ℕ
  pub links : ℕ → ℕ

unfoldable pub counted : Counts → Kind → Counts
counted c asks = record { sessions = suc c.sessions; links = c.links }
counted c (opens zero) = record { sessions = suc c.sessions; links = c.links }
counted c (opens (suc e)) = record { sessions = c.sessions; links = λ j. cond (eqb j (suc e)) (suc (c.links j)) (c.links j) }
counted c (carries e i) = c
counted c (wrong e) = c
counted c passed = c

pub record Piece : Type 0 where
  pub dlci : ℕ
  -- the stretch (link, CID, session, link count) and the direction
  pub key : Key
  pub rx : ℕ
  pub time : ℕ
  pub bytes : List ℕ

unfoldable pub piece_of : Counts → Pdu → ℕ → List ℕ → Piece
piece_of c p e i = record { dlci = e; key = p.link ∷ p.cid ∷ c.sessions ∷ c.links e ∷ p.rx ∷ []; rx = p.rx; time = p.time; bytes = i }

unfoldable pub brought : Counts → Pdu → Kind → List Piece
brought c p asks = []
brought c p (opens e) = []
brought c p (carries e i) = piece_of c p e i ∷ []
brought c p (wrong e) = []
brought c p passed = []

abbrev pub counting : Machine Judged Piece
counting = record { S = Counts; key = λ j. j.pdu.link ∷ []; next = λ c j. counted c j.kind; out = λ c j. brought c j.pdu j.kind }

abbrev pub no_counts : Key → Counts
no_counts k = record { sessions = 0; links = λ e. 0 }

-- the pieces of every DLCI, in order
unfoldable pub pieces : List Judged → List Piece
pieces js = run counting no_counts js
