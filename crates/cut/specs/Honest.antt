-- An honest recording, rule by rule. Where document 01 leaves room, the weaker assumption is taken. A handle means the pair of an adapter's index
-- and a handle, as document 02 asks: it is a packet's `link`. What another adapter does on the same handle is free.
use Rattle.std.specs.Prelude.{ℕ, ◌+◌, ◌/◌, ◌≤◌, ◌<◌, ◌≡◌, ◌≢◌, Bool, true, false, cond, ◌||◌, length, take, drop, eqb}
use mathlib.Core.List.{List, [], ◌∷◌, ◌++◌, map, Memᴰ}
use Rattle.std.proofs.Math.Option.{Option, none, some}
use Rattle.laws.specs.Lists.{flat, All}
use Rattle.laws.specs.Numbers.{le16}
use Rattle.laws.specs.Keys.{Key}
use Rattle.laws.specs.Keyed.{Machine, put, of, run}
use Rattle.items.specs.declared.Direction.{Direction}
use Rattle.items.specs.Items.{rx_of}
use Rattle.container.specs.Container.{Container}
use Rattle.container.specs.Packets.{Packet, packets}
use Rattle.l2cap.specs.Pdus.{Pdu, is_complete, pdu_of, packet_key, reassembly, pdus}
use Rattle.channels.specs.Signals.{triple, signals}
use Rattle.channels.specs.Channels.{named, admitted, channel_of}
use Rattle.channels.specs.Core.{holds}
use Rattle.channels.specs.Tried.{ChannelRule, source, core}
use Rattle.uih.specs.Frames.{is_right, frame_of}
use Rattle.rfcomm.specs.Pieces.{Kind, asks, opens, carries, wrong, passed, frame_kind, Judging, Judged, judged_by}
use Rattle.cut.specs.Recording.{LinkOf, Mark, free, part, last, Record, RecordingOf, rows, file, Framing}
use Rattle.cut.specs.Left.{records_left, Sent, sent_in, data_key, link_key, information_of, data_of, data_left, wires}

-- ---- the PDUs of some records, and what each of them is there

-- by import's own definitions
unfoldable pub pdus_in : {C : Container} {S : Framing} → RecordingOf C S → List Record → List Pdu
pdus_in {C} R rs = pdus (packets (C.packet R.header) (rows rs))

-- a PDU with the mark of the record that completes it
pub record MarkedPdu : Type 0 where
  pub pdu : Pdu
  pub mark : Mark

abbrev pub marking : Machine Sent MarkedPdu
marking = record {
  S = Option (List ℕ);
  key = λ x. packet_key x.packet;
  next = λ s x. reassembly.next s x.packet;
  out = λ s x. map (λ p. record { pdu = p; mark = x.mark }) (reassembly.out s x.packet);
}

abbrev pub nothing_open : Key → Option (List ℕ)
nothing_open k = none

unfoldable pub marked_pdus : List Sent → List MarkedPdu
marked_pdus xs = run marking nothing_open xs

-- a PDU with that mark, and what it is judged to be
pub record JudgedPdu : Type 0 where
  pub pdu : Pdu
  pub kind : Kind
  pub mark : Mark

-- each judged PDU with its mark: the two lists are of the same PDUs
unfoldable pub with_marks : List Judged → List MarkedPdu → List JudgedPdu
with_marks [] qs = []
with_marks (j ∷ js) [] = []
with_marks (j ∷ js) (q ∷ qs) = record { pdu = j.pdu; kind = j.kind; mark = q.mark } ∷ with_marks js qs

-- the PDUs of some records, each judged at its place by these records alone: tried or not
unfoldable pub judged_in : {C : Container} {S : Framing} → Judging → RecordingOf C S → List Record → List JudgedPdu
judged_in by R rs = with_marks (judged_by by (pdus_in R rs)) (marked_pdus (sent_in R rs))

unfoldable pub is_data_of : ℕ → Packet → Mark → Bool
is_data_of h p free = false
is_data_of h p part = eqb p.link h
is_data_of h p (last i) = eqb p.link h

-- the packets up to and with a handle's first data fragment; all, if it has none
unfoldable pub to_data : ℕ → List Sent → List Sent
to_data h [] = []
to_data h (x ∷ xs) = cond (is_data_of h x.packet x.mark) (x ∷ []) (x ∷ to_data h xs)

-- the PDUs of some records, but those that are complete with a handle's first data fragment
unfoldable pub after_data : {C : Container} {S : Framing} → Judging → RecordingOf C S → List Record → ℕ → List JudgedPdu
after_data by R rs h = drop (length (marked_pdus (to_data h (sent_in R rs)))) (judged_in by R rs)

-- it adds to the sessions, or to the links on d
unfoldable pub adds : ℕ → Kind → Bool
adds d asks = true
adds d (opens e) = eqb e 0 || eqb e d
adds d (carries e i) = false
adds d (wrong e) = false
adds d passed = false

-- it is UIH with data on d or on the other DLCI of its channel. (DLCI 0 is never one that carries; a wrong FCS that is checked carries nothing.)
unfoldable pub carries_on : ℕ → Kind → Bool
carries_on d asks = false
carries_on d (opens e) = false
carries_on d (carries e i) = eqb (e / 2) (d / 2)
carries_on d (wrong e) = false
carries_on d passed = false

-- ---- fragments

-- one more fragment, of at least 1 byte: the first with flag other than 1, the rest 1. Before it the bytes so far (none: no data PDU is under way), then with it
pub data Joins (p : Packet) : Option (List ℕ) → List ℕ → Type 0 where
  first : p.start ≡ true → 1 ≤ length p.bytes → Joins p none p.bytes
  further : {b : List ℕ} → p.start ≡ false → 1 ≤ length p.bytes → Joins p (some b) (b ++ p.bytes)

-- a data PDU of a link: on its CID of the direction, UIH on d with the information i, its FCS right or not
pub record DataPdu {C : Container} {S : Framing} (R : RecordingOf C S) (p : Pdu) (i : List ℕ) : Type 0 where
  pub link : LinkOf S
  pub direction : Direction
  pub listed : Memᴰ link R.links
  pub handle : p.link ≡ link.handle
  pub way : p.rx ≡ rx_of direction
  pub channel : p.cid ≡ link.cid direction
  pub uih : frame_kind false (frame_of p.payload) ≡ carries R.d i

-- the packets with their marks, from the bytes so far of the data PDU under way for each handle and direction. Packets that lack a field are not among them.
pub data Fragments {C : Container} {S : Framing} (R : RecordingOf C S) : (Key → Option (List ℕ)) → List Sent → Type 0 where
  stop : {σ : Key → Option (List ℕ)} → Fragments R σ []
  -- no other packet of that handle and direction between
  other : {σ : Key → Option (List ℕ)} {p : Packet} {xs : List Sent} → σ (packet_key p) ≡ none → Fragments R σ xs → Fragments R σ (record { packet = p; mark = free } ∷ xs)
  -- not yet complete
  more :
      {σ : Key → Option (List ℕ)} {p : Packet} {xs : List Sent} {b : List ℕ} → Joins p (σ (packet_key p)) b → is_complete b ≡ false →
      Fragments R (put σ (packet_key p) (some b)) xs → Fragments R σ (record { packet = p; mark = part } ∷ xs)
  -- ending with the PDU
  end :
      {σ : Key → Option (List ℕ)} {p : Packet} {xs : List Sent} {b i : List ℕ} → Joins p (σ (packet_key p)) b → 4 + le16 b 0 ≡ length b → DataPdu R (pdu_of b p) i →
      Fragments R (put σ (packet_key p) none) xs → Fragments R σ (record { packet = p; mark = last i } ∷ xs)

-- ---- the rules

-- no member twice
pub data Different : List ℕ → Type 0 where
  no_more : Different []
  one_more : {h : ℕ} {hs : List ℕ} → All (λ k. k ≢ h) hs → Different hs → Different (h ∷ hs)

-- the channel of a link in a direction
pub data Channel {C : Container} {S : Framing} (R : RecordingOf C S) (l : LinkOf S) (t : Direction) : Type 0 where
  -- admitted by PDUs that are complete before the direction's first data PDU is, by whatever commands
  before :
      (n : ℕ) → of data_key (link_key l t) (data_left R n) ≡ [] →
      admitted (signals (pdus_in R (records_left R n))) (triple l.handle (rx_of t) (l.cid t)) ≡ true → Channel R l t
  -- named by nothing in the file: its handle, direction and CID together
  unnamed : named (signals (pdus_in R R.records)) (triple l.handle (rx_of t) (l.cid t)) ≡ false → Channel R l t

-- a data PDU's channel when the PDU is complete, with all PDUs up to it
pub data Open {C : Container} {S : Framing} (R : RecordingOf C S) (up_to : List Pdu) (p : Pdu) : Type 0 where
  -- it holds: it is between success and end
  held : holds up_to (channel_of p) ≡ true → Open R up_to p
  -- named by nothing in the file: its handle, direction and CID together
  unheard : named (signals (pdus_in R R.records)) (channel_of p) ≡ false → Open R up_to p

abbrev pub pdus_of : List MarkedPdu → List Pdu
pdus_of qs = map (λ q. q.pdu) qs

-- at each data PDU of the file, by the PDUs up to and with it
abbrev pub AtData : {C : Container} {S : Framing} → RecordingOf C S → (List Pdu → Pdu → Type 0) → Type 0
AtData R P = (a : List MarkedPdu) (p : Pdu) (i : List ℕ) (b : List MarkedPdu) → marked_pdus (sent_in R R.records) ≡ a ++ record { pdu = p; mark = last i } ∷ b → P (pdus_of a ++ (p ∷ [])) p

-- what each channel rule asks of the links' channels
pub data Channels {C : Container} {S : Framing} (R : RecordingOf C S) : ChannelRule → Type 0 where
  -- Either a PSM 3 request and successful response admitting both are complete before its data, or nothing in the file names them.
  source_channels : All (λ l. (t : Direction) → Channel R l t) R.links → Channels R source
  -- An honest link that is named has its data between success and end.
  core_channels : AtData R (Open R) → Channels R core

-- the first bytes of a frame, fewer than all; none of them if nothing follows the whole frames
pub record Beginning (S : Framing) (b : List ℕ) : Type 0 where
  pub frame : S.Form
  pub size : S.Allowed frame
  pub count : ℕ
  pub short : count < length (S.on_wire frame)
  pub is : b ≡ take count (S.on_wire frame)

-- honest by a channel rule, and with FCS checked or not, in whichever container and of whichever frames
pub record Honest {C : Container} {S : Framing} (by : Judging) (R : RecordingOf C S) : Type 0 where
  -- A header that 3 and 4 (pcap: 21 and 22) do not refuse,
  pub header : (length R.header ≡ C.head) × (C.is_file R.header ≡ true) × (C.is_taken (C.link_type R.header) ≡ true)
  -- and whole records,
  pub whole : All (λ r. C.size R.header r.bytes ≡ length r.bytes) R.records
  -- at most 1,048,576 bytes;
  pub small : length (file R) ≤ 1048576
  -- 1 or more links with different handles (a recording without links is let pass: nothing is left of it),
  pub handles : Different (map (λ l. l.handle) R.links)
  -- all on one DLCI d from 1 to 63.
  pub dlci : (1 ≤ R.d) × (R.d ≤ 63)
  -- Each link has one CID of at least 0x40 per direction.
  pub dynamic : All (λ l. (t : Direction) → 0x40 ≤ l.cid t) R.links
  -- Its data come when the rule has its channels open.
  pub channels : Channels R by.rule
  -- Its data PDUs are UIH on d with information, sent in fragments of at least 1 byte: the first with flag other than 1, the rest 1,
  -- ending with the PDU, no other packet of that handle and direction between. (The file may end before a data PDU does.)
  pub fragments : Fragments R nothing_open (sent_in R R.records)
  -- With FCS checked, its data PDUs also have correct FCS bytes. (Nothing is asked of other frames.)
  pub checks : by.fcs ≡ true → AtData R (λ up_to p. is_right p.payload ≡ true)
  -- Each direction's information is packed frames, one after another; the last may be partial,
  pub information : All (λ l. (t : Direction) → information_of (link_key l t) (data_of (sent_in R R.records)) ≡ flat (wires l t) ++ l.partial t) R.links
  -- of at most 65,536 wire bytes;
  pub sizes : All (λ l. (t : Direction) → All S.Allowed (l.frames t)) R.links
  -- a beginning without its end.
  pub beginnings : All (λ l. (t : Direction) → Beginning S (l.partial t)) R.links
  -- After a handle's first data fragment, nothing adds to its sessions, nor to its links on d:
  -- no PDU that a later record completes, tried in the file or any cut of it that has the PDU.
  pub settled : (n h : ℕ) → All (λ q. q.pdu.link ≡ h → adds R.d q.kind ≡ false) (after_data by R (records_left R n) h)
  -- No other tried PDU is UIH with data on d or on the other DLCI of its channel, tried in the file or any cut of it that has the PDU.
  pub alone : (n : ℕ) → All (λ q. q.mark ≡ free → carries_on R.d q.kind ≡ false) (judged_in by R (records_left R n))
