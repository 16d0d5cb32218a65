-- What a cut leaves, from the recording and n alone: records, data PDUs, frames, the link directions that end mid-frame, and the bytes of these.
use Rattle.std.specs.Prelude.{ℕ, zero, suc, ◌+◌, ◌-◌, Bool, cond, ◌&&◌, ◌||◌, List, [], ◌∷◌, map, length, leb, ltb, eqb}
use Rattle.std.proofs.Math.Option.{Option, none, some}
use Rattle.laws.specs.Lists.{flat}
use Rattle.laws.specs.Keys.{Key}
use Rattle.laws.specs.Keyed.{Machine, of, run}
use Rattle.items.specs.declared.Direction.{Direction}
use Rattle.items.specs.declared.Direction.TheVariants.{Rx, Tx}
use Rattle.items.specs.Items.{Span, span, rx_of}
use Rattle.container.specs.Container.{Container}
use Rattle.container.specs.Packets.{Packet}
use Rattle.cut.specs.Recording.{LinkOf, Mark, free, part, last, Record, RecordingOf, rows, Framing}

-- ---- records

-- the records, from an offset on, whose last byte is among the first n of the file
unfoldable pub left_from : ℕ → ℕ → List Record → List Record
left_from at n [] = []
left_from at n (r ∷ rs) = cond (leb (at + length r.bytes) n) (r ∷ left_from (at + length r.bytes) n rs) (left_from (at + length r.bytes) n rs)

-- a record is left if its last byte is kept
unfoldable pub records_left : {C : Container} {S : Framing} → RecordingOf C S → ℕ → List Record
records_left {C} R n = left_from C.head n R.records

-- the end of the last record left: the header, and the records left
unfoldable pub tail_left : {C : Container} {S : Framing} → RecordingOf C S → ℕ → ℕ
tail_left {C} R n = C.head + length (flat (rows (records_left R n)))

-- ---- data PDUs

-- a packet with the mark of the record that holds it
pub record Sent : Type 0 where
  pub packet : Packet
  pub mark : Mark

abbrev pub or_passed : Option Packet → Mark → List Sent → List Sent
or_passed none m xs = xs
or_passed (some p) m xs = record { packet = p; mark = m } ∷ xs

-- the packets of records, by a reader of one record; a record that holds none is passed over
unfoldable pub sent : (List ℕ → Option Packet) → List Record → List Sent
sent read [] = []
sent read (r ∷ rs) = or_passed (read r.bytes) r.mark (sent read rs)

-- by the recording's header
abbrev pub sent_in : {C : Container} {S : Framing} → RecordingOf C S → List Record → List Sent
sent_in {C} R rs = sent (C.packet R.header) rs

-- a data PDU, by the packet that completes it
pub record Data : Type 0 where
  pub link : ℕ
  pub rx : ℕ
  pub time : ℕ
  pub information : List ℕ

abbrev pub if_last : Packet → Mark → List Data → List Data
if_last p free xs = xs
if_last p part xs = xs
if_last p (last i) xs = record { link = p.link; rx = p.rx; time = p.time; information = i } ∷ xs

unfoldable pub data_of : List Sent → List Data
data_of [] = []
data_of (x ∷ xs) = if_last x.packet x.mark (data_of xs)

-- a data PDU is left if the record completing it is left; they stand in the order of these records
unfoldable pub data_left : {C : Container} {S : Framing} → RecordingOf C S → ℕ → List Data
data_left R n = data_of (sent_in R (records_left R n))

abbrev pub data_key : Data → Key
data_key x = x.link ∷ x.rx ∷ []

abbrev pub link_key : {S : Framing} → LinkOf S → Direction → Key
link_key l t = l.handle ∷ rx_of t ∷ []

-- the information that the data PDUs of a link direction carry, one after another
abbrev pub information_of : Key → List Data → List ℕ
information_of k xs = flat (map (λ x. x.information) (of data_key k xs))

-- ---- frames

-- the wires that stand one after another from `at` on, whose closing 3C, the byte before `at + length w`, lies in the bytes from a up to b
unfoldable pub closed_in : ℕ → ℕ → ℕ → List (List ℕ) → List (List ℕ)
closed_in at a b [] = []
closed_in at a b (w ∷ ws) = cond (ltb a (at + length w) && leb (at + length w) b) (w ∷ closed_in (at + length w) a b ws) (closed_in (at + length w) a b ws)

abbrev pub direction_of : ℕ → Direction
direction_of zero = Tx
direction_of (suc r) = Rx

-- what the link of a handle has in a direction, or else nothing
unfoldable pub of_handle : {A : Type 0} {S : Framing} → A → (LinkOf S → Direction → A) → List (LinkOf S) → ℕ → ℕ → A
of_handle else f [] h rx = else
of_handle else f (l ∷ ls) h rx = cond (eqb l.handle h) (f l (direction_of rx)) (of_handle else f ls h rx)

-- the wires of the frames of a link direction
abbrev pub wires : {S : Framing} → LinkOf S → Direction → List (List ℕ)
wires {S} l t = map S.on_wire (l.frames t)

abbrev pub wires_of : {S : Framing} → List (LinkOf S) → ℕ → ℕ → List (List ℕ)
wires_of ls h rx = of_handle [] wires ls h rx

-- the frames that each data PDU brings the closing 3C of, with that PDU's direction and time, by the wires of each handle and direction; the state is how many bytes of it came before
abbrev pub closing : (ℕ → ℕ → List (List ℕ)) → Machine Data Span
closing wiresAt = record {
  S = ℕ;
  key = data_key;
  next = λ came x. came + length x.information;
  out = λ came x. map (λ w. span x.rx x.time w) (closed_in 0 came (came + length x.information) (wiresAt x.link x.rx));
}

-- a packed frame is left if its closing 3C lies in the information of a data PDU left.
-- Frames complete in the order of the records completing those PDUs, and within one PDU in the order of their bytes.
unfoldable pub frames_left : {C : Container} {S : Framing} → RecordingOf C S → ℕ → List Span
frames_left R n = run (closing (wires_of R.links)) (λ k. 0) (data_left R n)

-- ---- link directions that end mid-frame

-- of the wires that stand one after another from `at` on, and a partial one behind them: one has bytes among those that came, but its closing 3C is not
unfoldable pub mid_frame : ℕ → ℕ → List (List ℕ) → Bool
mid_frame at came [] = ltb at came
mid_frame at came (w ∷ ws) = (ltb at came && ltb came (at + length w)) || mid_frame (at + length w) came ws

-- a link direction ends mid-frame if its data PDUs left carry bytes of a frame but not its closing 3C
unfoldable pub ends_mid : {C : Container} {S : Framing} → RecordingOf C S → ℕ → LinkOf S → Direction → Bool
ends_mid R n l t = mid_frame 0 (length (information_of (link_key l t) (data_left R n))) (wires l t)

unfoldable pub mid_in : {C : Container} {S : Framing} → RecordingOf C S → ℕ → List (LinkOf S) → ℕ
mid_in R n [] = 0
mid_in R n (l ∷ ls) = cond (ends_mid R n l Rx) 1 0 + cond (ends_mid R n l Tx) 1 0 + mid_in R n ls

-- how many link directions end mid-frame
unfoldable pub mid_left : {C : Container} {S : Framing} → RecordingOf C S → ℕ → ℕ
mid_left R n = mid_in R n R.links

-- ---- where the bytes left went

-- of the wires that stand one after another from `at` on, and a partial one behind them: how many of the bytes that came stand after the last closing 3C among them
unfoldable pub past_close : ℕ → ℕ → List (List ℕ) → ℕ
past_close at came [] = came - at
past_close at came (w ∷ ws) = cond (leb (at + length w) came) (past_close (at + length w) came ws) (came - at)

-- of a link direction, whose data PDUs left carry the bytes that came
unfoldable pub past_link : {C : Container} {S : Framing} → RecordingOf C S → ℕ → LinkOf S → Direction → ℕ
past_link R n l t = past_close 0 (length (information_of (link_key l t) (data_left R n))) (wires l t)

unfoldable pub past_in : {C : Container} {S : Framing} → RecordingOf C S → ℕ → List (LinkOf S) → ℕ
past_in R n [] = 0
past_in R n (l ∷ ls) = past_link R n l Rx + past_link R n l Tx + past_in R n ls

-- of all link directions
unfoldable pub past_left : {C : Container} {S : Framing} → RecordingOf C S → ℕ → ℕ
past_left R n = past_in R n R.links
