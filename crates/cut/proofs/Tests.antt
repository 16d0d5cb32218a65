-- The rules of honesty as tests that compute: a recording that passes all of them is honest.
use Prim.Native.Nat.{ℕ, ◌+◌, ◌-◌, ◌≤◌, ◌<◌}
use mathlib.Core.Path.{◌≡◌, refl}
use mathlib.Core.Logic.{◌≢◌}
use mathlib.Core.Bool.{Bool, true, false, not, cond, ◌&&◌, ◌||◌}
use mathlib.Core.List.{List, [], ◌∷◌, ◌++◌, map, Memᴰ, append_assoc}
use mathlib.Core.Option.{Option, none, some}
use native.Mathlib.Omega.{arith}
use lib.ListN.{length, take, drop_of_length-le}
use lib.Dec.{leb, ltb, eqb}
use borrow.Author.Tests.{leb-true, ltb-true, eqb-true, eqb-false, eq-eqb, ne_eqb, le-leb, lt-leb, not-true}
use Rattle.laws.proofs.Choice.{split_b, no_way, split≤}
use Rattle.laws.specs.Lists.{flat, All, all_nil, all_cons}
use Rattle.laws.specs.Numbers.{le16}
use Rattle.laws.specs.Keys.{Key, eq_k}
use Rattle.laws.proofs.Keys.{eq_k_true}
use Rattle.laws.specs.Keyed.{put, of}
use Rattle.items.specs.declared.Direction.{Direction}
use Rattle.items.specs.declared.Direction.TheVariants.{Rx, Tx}
use Rattle.items.specs.Items.{rx_of}
use Rattle.mdr.specs.Frame.{unpacks_of}
use Rattle.container.specs.Container.{Container, Lawful}
use Rattle.container.specs.Packets.{Packet}
use Rattle.l2cap.specs.Pdus.{Pdu, is_complete, pdu_of, packet_key}
use Rattle.channels.specs.Signals.{triple, signals}
use Rattle.channels.specs.Channels.{any, named, admitted, channel_of}
use Rattle.channels.specs.Core.{holds}
use Rattle.channels.specs.Tried.{ChannelRule, source, core}
use Rattle.uih.specs.Frames.{is_right, frame_of}
use Rattle.rfcomm.specs.Pieces.{Kind, asks, opens, carries, wrong, passed, frame_kind, Judging, Judged, judged_by}
use Rattle.cut.specs.Recording.{wire, Framing, packed_frames, LinkOf, Mark, free, part, last, Record, RecordingOf, file}
use Rattle.cut.specs.Left.{left_from, records_left, Sent, sent_in, Data, data_key, link_key, information_of, data_of, data_left, direction_of, wires}
use Rattle.cut.specs.Honest.{pdus_in, MarkedPdu, pdus_of, nothing_open, marked_pdus, JudgedPdu, with_marks, judged_in, is_data_of, to_data, after_data, adds, carries_on, Joins, first, further, DataPdu, Fragments, stop, other, more, end, Different, no_more, one_more, Channel, before, unnamed, Open, held, unheard, AtData, Channels, source_channels, core_channels, Beginning, Honest}
use Rattle.cut.proofs.PlainWires.{Passes, plain_wires}
use Rattle.cut.proofs.CutRecords.{WholeRecord, whole_some, left_none}

-- ---- tests of lists

unfoldable pub every : {A : Type 0} → (A → Bool) → List A → Bool
every f [] = true
every f (x ∷ xs) = f x && every f xs

and_left : (a b : Bool) → a && b ≡ true → a ≡ true
and_left true b e = refl
and_left false b e = e

and_right : (a b : Bool) → a && b ≡ true → b ≡ true
and_right true b e = e
and_right false b e = no_way e refl

every_all : {A : Type 0} (T : A → Type 0) (f : A → Bool) → ((x : A) → f x ≡ true → T x) → (xs : List A) → every f xs ≡ true → All T xs
unfolding every
every_all T f g [] e = all_nil
every_all T f g (x ∷ xs) e = all_cons (g x (and_left (f x) (every f xs) e)) (every_all T f g xs (and_right (f x) (every f xs) e))

any_one : {A G : Type 0} (f : A → Bool) (xs : List A) → any f xs ≡ true → ((x : A) → Memᴰ x xs → f x ≡ true → G) → G
unfolding any
any_one f [] e g = no_way e refl
any_one f (x ∷ xs) e g =
    split_b (f x)
    (λ q. g x (Memᴰ.head refl) q)
    (λ q. any_one f xs (rw q at e) (λ y m. g y (Memᴰ.tail m)))

-- each number once
unfoldable pub once : List ℕ → List ℕ
once [] = []
once (k ∷ ks) = cond (any (λ j. eqb j k) ks) (once ks) (k ∷ once ks)

abbrev pub both : (Direction → Bool) → Bool
both f = f Rx && f Tx

both_at : (f : Direction → Bool) → both f ≡ true → (t : Direction) → f t ≡ true
both_at f e Rx = and_left (f Rx) (f Tx) e
both_at f e Tx = and_right (f Rx) (f Tx) e

abbrev pub implies : Bool → Bool → Bool
implies a b = not a || b

implied : (a b : Bool) → implies a b ≡ true → a ≡ true → b ≡ true
implied true b e h = e
implied false b e h = no_way h refl

-- where records end: the cuts that differ
unfoldable pub ends : ℕ → List Record → List ℕ
ends at [] = at ∷ []
ends at (r ∷ rs) = at ∷ ends (at + length r.bytes) rs

-- ---- the tests

-- a test of what a framing lets be sent
pub record Checked (S : Framing) : Type 0 where
  pub is_fine : S.Form → Bool
  pub fine : (f : S.Form) → is_fine f ≡ true → S.Allowed f

abbrev pub packed_checked : Checked packed_frames
packed_checked = record { is_fine = λ f. leb (length (wire f)) 65536; fine = λ f e. leb-true (length (wire f)) 65536 e }

unfoldable pub is_plain : List ℕ → Bool
is_plain w = unpacks_of w && (leb (length w) 65536 && every (λ b. not (eqb b 0x3C)) (take (length w - 1) w))

pub plain_fine : (w : List ℕ) → is_plain w ≡ true → Passes w
unfolding is_plain
plain_fine w e =
    let f = and_right (unpacks_of w) _ e in
    record {
      unpacks = and_left _ _ e;
      size = leb-true (length w) 65536 (and_left _ _ f);
      once = every_all (λ (b : ℕ). b ≢ 0x3C) (λ b. not (eqb b 0x3C)) (λ b z. eqb-false b 0x3C (not-true (eqb b 0x3C) z)) (take (length w - 1) w) (and_right (leb (length w) 65536) _ f);
    }

abbrev pub plain_checked : Checked plain_wires
plain_checked = record { is_fine = is_plain; fine = plain_fine }

module _ {C : Container} {S : Framing} (R : RecordingOf C S) where
  unfoldable pub header_test : Bool
  header_test = eqb (length R.header) C.head && (C.is_file R.header && C.is_taken (C.link_type R.header))

  unfoldable pub whole_test : Bool
  whole_test = every (λ r. eqb (C.size R.header r.bytes) (length r.bytes)) R.records

  unfoldable pub small_test : Bool
  small_test = leb (length (file R)) 1048576

  unfoldable pub dlci_test : Bool
  dlci_test = leb 1 R.d && leb R.d 63

  unfoldable pub dynamic_test : Bool
  dynamic_test = every (λ l. both (λ t. leb 0x40 (l.cid t))) R.links

  abbrev pub is_nil : List Data → Bool
  is_nil [] = true
  is_nil (x ∷ xs) = false

  unfoldable pub channel_test : LinkOf S → Direction → Bool
  channel_test l t =
      not (named (signals (pdus_in R R.records)) (triple l.handle (rx_of t) (l.cid t)))
      || any (λ n. is_nil (of data_key (link_key l t) (data_left R n)) && admitted (signals (pdus_in R (records_left R n))) (triple l.handle (rx_of t) (l.cid t))) (ends C.head R.records)

  abbrev pub is_last : Mark → Bool
  is_last free = false
  is_last part = false
  is_last (last i) = true

  -- from the PDUs before on
  unfoldable pub open_test : List Pdu → List MarkedPdu → Bool
  open_test ps [] = true
  open_test ps (q ∷ qs) =
      implies (is_last q.mark) (holds (ps ++ (q.pdu ∷ [])) (channel_of q.pdu) || not (named (signals (pdus_in R R.records)) (channel_of q.pdu)))
      && open_test (ps ++ (q.pdu ∷ [])) qs

  unfoldable pub channels_test : ChannelRule → Bool
  channels_test source = every (λ l. both (λ t. channel_test l t)) R.links
  channels_test core = open_test [] (marked_pdus (sent_in R R.records))

  -- asked only with FCS checked
  unfoldable pub right_test : List MarkedPdu → Bool
  right_test qs = every (λ q. implies (is_last q.mark) (is_right q.pdu.payload)) qs

  unfoldable pub checks_test : Bool → Bool
  checks_test fcs = implies fcs (right_test (marked_pdus (sent_in R R.records)))

  unfoldable pub information_test : Bool
  information_test = every (λ l. both (λ t. eq_k (information_of (link_key l t) (data_of (sent_in R R.records))) (flat (wires l t) ++ l.partial t))) R.links

  unfoldable pub sizes_test : Checked S → Bool
  sizes_test k = every (λ l. both (λ t. every k.is_fine (l.frames t))) R.links

  -- a partial frame is the beginning of the frame told
  unfoldable pub beginnings_test : Checked S → (LinkOf S → Direction → S.Form) → Bool
  beginnings_test k told = every (λ l. both (λ t. k.is_fine (told l t) && (ltb (length (l.partial t)) (length (S.on_wire (told l t))) && eq_k (l.partial t) (take (length (l.partial t)) (S.on_wire (told l t)))))) R.links

  unfoldable pub settled_in : Judging → List Record → ℕ → Bool
  settled_in by rs h = every (λ q. implies (eqb q.pdu.link h) (not (adds R.d q.kind))) (after_data by R rs h)

  unfoldable pub settled_test : Judging → Bool
  settled_test by = every (λ n. every (settled_in by (records_left R n)) (once (map (λ x. x.packet.link) (sent_in R (records_left R n))))) (ends C.head R.records)

  abbrev pub is_free : Mark → Bool
  is_free free = true
  is_free part = false
  is_free (last i) = false

  unfoldable pub alone_in : Judging → List Record → Bool
  alone_in by rs = every (λ q. implies (is_free q.mark) (not (carries_on R.d q.kind))) (judged_in by R rs)

  unfoldable pub alone_test : Judging → Bool
  alone_test by = every (λ n. alone_in by (records_left R n)) (ends C.head R.records)

unfoldable pub handles_test : List ℕ → Bool
handles_test [] = true
handles_test (h ∷ hs) = every (λ k. not (eqb k h)) hs && handles_test hs

-- ---- fragments

abbrev pub with : Option (List ℕ) → Packet → List ℕ
with none p = p.bytes
with (some b) p = b ++ p.bytes

abbrev pub joins_test : Option (List ℕ) → Packet → Bool
joins_test none p = p.start && leb 1 (length p.bytes)
joins_test (some b) p = not p.start && leb 1 (length p.bytes)

abbrev pub is_none : Option (List ℕ) → Bool
is_none none = true
is_none (some b) = false

abbrev pub carries_test : ℕ → List ℕ → Kind → Bool
carries_test d i asks = false
carries_test d i (opens e) = false
carries_test d i (carries e j) = eqb e d && eq_k j i
carries_test d i (wrong e) = false
carries_test d i passed = false

unfoldable pub data_test : {C : Container} {S : Framing} → RecordingOf C S → Pdu → List ℕ → Bool
data_test R p i =
    any (λ l. eqb p.link l.handle && (eqb p.rx (rx_of (direction_of p.rx)) && eqb p.cid (l.cid (direction_of p.rx)))) R.links
    && carries_test R.d i (frame_kind false (frame_of p.payload))

-- what a mark asks, from the bytes so far of the data PDU under way
unfoldable pub mark_test : {C : Container} {S : Framing} → RecordingOf C S → Option (List ℕ) → Packet → Mark → Bool
mark_test R s p free = is_none s
mark_test R s p part = joins_test s p && not (is_complete (with s p))
mark_test R s p (last i) = joins_test s p && (eqb (4 + le16 (with s p) 0) (length (with s p)) && data_test R (pdu_of (with s p) p) i)

-- and what is under way after it
abbrev pub under : (Key → Option (List ℕ)) → Packet → Mark → Key → Option (List ℕ)
under σ p free = σ
under σ p part = put σ (packet_key p) (some (with (σ (packet_key p)) p))
under σ p (last i) = put σ (packet_key p) none

unfoldable pub fragments_test : {C : Container} {S : Framing} → RecordingOf C S → (Key → Option (List ℕ)) → List Sent → Bool
fragments_test R σ [] = true
fragments_test R σ (x ∷ xs) = mark_test R (σ (packet_key x.packet)) x.packet x.mark && fragments_test R (under σ x.packet x.mark) xs

-- all of them, in the order of the rules
unfoldable pub rules : {C : Container} {S : Framing} → Judging → Checked S → (LinkOf S → Direction → S.Form) → RecordingOf C S → List Bool
rules by k told R =
    header_test R ∷ whole_test R ∷ small_test R ∷ handles_test (map (λ l. l.handle) R.links) ∷ dlci_test R ∷ dynamic_test R ∷ channels_test R by.rule ∷ fragments_test R nothing_open (sent_in R R.records) ∷
    checks_test R by.fcs ∷ information_test R ∷ sizes_test R k ∷ beginnings_test R k told ∷ settled_test R by ∷ alone_test R by ∷ []

-- ---- a recording that passes is honest

module _ {C : Container} {S : Framing} (R : RecordingOf C S) where
  header_passed : header_test R ≡ true → (length R.header ≡ C.head) × (C.is_file R.header ≡ true) × (C.is_taken (C.link_type R.header) ≡ true)
  unfolding header_test
  header_passed e =
      let f = and_right (eqb (length R.header) C.head) _ e in
      (eqb-true (length R.header) C.head (and_left _ _ e), and_left (C.is_file R.header) _ f, and_right (C.is_file R.header) _ f)

  whole_passed : whole_test R ≡ true → All (WholeRecord C R.header) R.records
  unfolding whole_test
  whole_passed e = every_all (WholeRecord C R.header) _ (λ r q. eqb-true (C.size R.header r.bytes) (length r.bytes) q) R.records e

  dynamic_passed : dynamic_test R ≡ true → All (λ (l : LinkOf S). (t : Direction) → 0x40 ≤ l.cid t) R.links
  unfolding dynamic_test
  dynamic_passed e = every_all (λ (l : LinkOf S). (t : Direction) → 0x40 ≤ l.cid t) _ (λ l q t. leb-true 0x40 (l.cid t) (both_at (λ t. leb 0x40 (l.cid t)) q t)) R.links e

  is_nil_law : (xs : List Data) → is_nil R xs ≡ true → xs ≡ []
  is_nil_law [] e = refl
  is_nil_law (x ∷ xs) e = no_way e refl

  channel_passed : (l : LinkOf S) (t : Direction) → channel_test R l t ≡ true → Channel R l t
  unfolding channel_test
  channel_passed l t e =
      split_b (named (signals (pdus_in R R.records)) (triple l.handle (rx_of t) (l.cid t)))
      (λ q. any_one _ (ends C.head R.records) (rw q at e) (λ n m z. before n (is_nil_law (of data_key (link_key l t) (data_left R n)) (and_left _ _ z)) (and_right (is_nil R (of data_key (link_key l t) (data_left R n))) _ z)))
      (λ q. unnamed q)

  open_passed : (up_to : List Pdu) (p : Pdu) → holds up_to (channel_of p) || not (named (signals (pdus_in R R.records)) (channel_of p)) ≡ true → Open R up_to p
  open_passed up_to p e =
      split_b (holds up_to (channel_of p))
      (λ q. held q)
      (λ q. unheard (not-true (named (signals (pdus_in R R.records)) (channel_of p)) (rw q at e)))

  all_open : (ps : List Pdu) (a : List MarkedPdu) (p : Pdu) (i : List ℕ) (b : List MarkedPdu) → open_test R ps (a ++ record { pdu = p; mark = last i } ∷ b) ≡ true → Open R (ps ++ (pdus_of a ++ (p ∷ []))) p
  unfolding open_test
  all_open ps [] p i b e = open_passed (ps ++ (p ∷ [])) p (and_left _ _ e)
  all_open ps (q ∷ a) p i b e =
      rw (append_assoc ps (q.pdu ∷ []) (pdus_of a ++ (p ∷ []))) at
      (all_open (ps ++ (q.pdu ∷ [])) a p i b (and_right (implies (is_last R q.mark) (holds (ps ++ (q.pdu ∷ [])) (channel_of q.pdu) || not (named (signals (pdus_in R R.records)) (channel_of q.pdu)))) _ e))

  channels_passed : (rule : ChannelRule) → channels_test R rule ≡ true → Channels R rule
  unfolding channels_test
  channels_passed source e = source_channels (every_all (λ (l : LinkOf S). (t : Direction) → Channel R l t) _ (λ l q t. channel_passed l t (both_at (channel_test R l) q t)) R.links e)
  channels_passed core e = core_channels (λ a p i b q. all_open [] a p i b (rw q at e))

  right_passed : (a : List MarkedPdu) (p : Pdu) (i : List ℕ) (b : List MarkedPdu) → right_test R (a ++ record { pdu = p; mark = last i } ∷ b) ≡ true → is_right p.payload ≡ true
  unfolding right_test every
  right_passed [] p i b e = and_left (is_right p.payload) _ e
  right_passed (q ∷ a) p i b e = right_passed a p i b (and_right (implies (is_last R q.mark) (is_right q.pdu.payload)) _ e)

  checks_passed : (fcs : Bool) → checks_test R fcs ≡ true → fcs ≡ true → AtData R (λ up_to p. is_right p.payload ≡ true)
  unfolding checks_test
  checks_passed fcs e h a p i b q = right_passed a p i b (rw q at (implied fcs (right_test R (marked_pdus (sent_in R R.records))) e h))

  information_passed : information_test R ≡ true → All (λ (l : LinkOf S). (t : Direction) → information_of (link_key l t) (data_of (sent_in R R.records)) ≡ flat (wires l t) ++ l.partial t) R.links
  unfolding information_test
  information_passed e =
      every_all (λ (l : LinkOf S). (t : Direction) → information_of (link_key l t) (data_of (sent_in R R.records)) ≡ flat (wires l t) ++ l.partial t) _
      (λ l q t. eq_k_true (information_of (link_key l t) (data_of (sent_in R R.records))) (flat (wires l t) ++ l.partial t) (both_at (λ t. eq_k (information_of (link_key l t) (data_of (sent_in R R.records))) (flat (wires l t) ++ l.partial t)) q t)) R.links e

  sizes_passed : (k : Checked S) → sizes_test R k ≡ true → All (λ (l : LinkOf S). (t : Direction) → All S.Allowed (l.frames t)) R.links
  unfolding sizes_test
  sizes_passed k e =
      every_all (λ (l : LinkOf S). (t : Direction) → All S.Allowed (l.frames t)) _
      (λ l q t. every_all S.Allowed _ k.fine (l.frames t) (both_at (λ t. every k.is_fine (l.frames t)) q t)) R.links e

  beginnings_passed : (k : Checked S) (told : LinkOf S → Direction → S.Form) → beginnings_test R k told ≡ true → All (λ (l : LinkOf S). (t : Direction) → Beginning S (l.partial t)) R.links
  unfolding beginnings_test
  beginnings_passed k told e = every_all (λ (l : LinkOf S). (t : Direction) → Beginning S (l.partial t)) _ (λ l q t. one l t (both_at (test l) q t)) R.links e
    where
      test : LinkOf S → Direction → Bool
      test l t = k.is_fine (told l t) && (ltb (length (l.partial t)) (length (S.on_wire (told l t))) && eq_k (l.partial t) (take (length (l.partial t)) (S.on_wire (told l t))))

      one : (l : LinkOf S) (t : Direction) → test l t ≡ true → Beginning S (l.partial t)
      one l t z =
          let y = and_right (k.is_fine (told l t)) _ z in
          record {
            frame = told l t;
            size = k.fine (told l t) (and_left _ _ z);
            count = length (l.partial t);
            short = ltb-true (length (l.partial t)) (length (S.on_wire (told l t))) (and_left _ _ y);
            is = eq_k_true (l.partial t) (take (length (l.partial t)) (S.on_wire (told l t))) (and_right (ltb (length (l.partial t)) (length (S.on_wire (told l t)))) _ y);
          }

  -- ---- fragments

  joins_passed : (s : Option (List ℕ)) (p : Packet) → joins_test s p ≡ true → Joins p s (with s p)
  joins_passed none p e = first (and_left p.start _ e) (leb-true 1 (length p.bytes) (and_right p.start _ e))
  joins_passed (some b) p e = further (not-true p.start (and_left (not p.start) _ e)) (leb-true 1 (length p.bytes) (and_right (not p.start) _ e))

  is_none_law : (s : Option (List ℕ)) → is_none s ≡ true → s ≡ none
  is_none_law none e = refl
  is_none_law (some b) e = no_way e refl

  carries_passed : (d : ℕ) (i : List ℕ) (k : Kind) → carries_test d i k ≡ true → k ≡ carries d i
  carries_passed d i asks e = no_way e refl
  carries_passed d i (opens x) e = no_way e refl
  carries_passed d i (carries x j) e = let p : x ≡ d = eqb-true x d (and_left _ _ e) in let q : j ≡ i = eq_k_true j i (and_right (eqb x d) _ e) in rw (p, q)
  carries_passed d i (wrong x) e = no_way e refl
  carries_passed d i passed e = no_way e refl

  data_passed : (p : Pdu) (i : List ℕ) → data_test R p i ≡ true → DataPdu R p i
  unfolding data_test
  data_passed p i e =
      any_one test R.links (and_left _ _ e)
      (λ l m z.
      let y = and_right (eqb p.link l.handle) _ z in
      record {
        link = l;
        direction = direction_of p.rx;
        listed = m;
        handle = eqb-true p.link l.handle (and_left _ _ z);
        way = eqb-true p.rx (rx_of (direction_of p.rx)) (and_left _ _ y);
        channel = eqb-true p.cid (l.cid (direction_of p.rx)) (and_right (eqb p.rx (rx_of (direction_of p.rx))) _ y);
        uih = carries_passed R.d i (frame_kind false (frame_of p.payload)) (and_right (any test R.links) _ e);
      })
    where
      test : LinkOf S → Bool
      test l = eqb p.link l.handle && (eqb p.rx (rx_of (direction_of p.rx)) && eqb p.cid (l.cid (direction_of p.rx)))

  mark_passed : (σ : Key → Option (List ℕ)) (p : Packet) (k : Mark) (xs : List Sent) → mark_test R (σ (packet_key p)) p k ≡ true → Fragments R (under σ p k) xs → Fragments R σ (record { packet = p; mark = k } ∷ xs)
  unfolding mark_test
  mark_passed σ p free xs e t = other (is_none_law (σ (packet_key p)) e) t
  mark_passed σ p part xs e t = more (joins_passed (σ (packet_key p)) p (and_left _ _ e)) (not-true (is_complete (with (σ (packet_key p)) p)) (and_right (joins_test (σ (packet_key p)) p) _ e)) t
  mark_passed σ p (last i) xs e t =
      let b = with (σ (packet_key p)) p in
      let f = and_right (joins_test (σ (packet_key p)) p) _ e in
      end (joins_passed (σ (packet_key p)) p (and_left _ _ e)) (eqb-true (4 + le16 b 0) (length b) (and_left _ _ f)) (data_passed (pdu_of b p) i (and_right (eqb (4 + le16 b 0) (length b)) _ f)) t

  fragments_passed : (σ : Key → Option (List ℕ)) (xs : List Sent) → fragments_test R σ xs ≡ true → Fragments R σ xs
  unfolding fragments_test
  fragments_passed σ [] e = stop
  fragments_passed σ (x ∷ xs) e =
      mark_passed σ x.packet x.mark xs (and_left _ _ e)
      (fragments_passed (under σ x.packet x.mark) xs (and_right (mark_test R (σ (packet_key x.packet)) x.packet x.mark) _ e))

-- ---- every cut is one at a record's end

ends_past : (at : ℕ) (rs : List Record) → All (λ (e : ℕ). at ≤ e) (ends at rs)
unfolding ends
ends_past at [] = all_cons {x = at} (omega arith) all_nil
ends_past at (r ∷ rs) = all_cons {x = at} (omega arith) (all_weaker (at + length r.bytes) at (omega arith) (ends_past (at + length r.bytes) rs))
  where
    all_weaker : (a b : ℕ) → b ≤ a → {es : List ℕ} → All (λ (e : ℕ). a ≤ e) es → All (λ (e : ℕ). b ≤ e) es
    all_weaker a b h all_nil = all_nil
    all_weaker a b h (all_cons {x = e} p ps) = all_cons {x = e} (omega arith) (all_weaker a b h ps)

module _ (at : ℕ) (r : Record) (rs : List Record) (T : List Record → Type 0) where
  with_first : {es : List ℕ} → All (λ (e : ℕ). at + length r.bytes ≤ e) es → All (λ (e : ℕ). T (left_from at e (r ∷ rs))) es → All (λ (e : ℕ). T (r ∷ left_from (at + length r.bytes) e rs)) es
  unfolding left_from
  with_first all_nil all_nil = all_nil
  with_first (all_cons {x = e} h hs) (all_cons p ps) = all_cons (rw (le-leb (at + length r.bytes) e h) at p) (with_first hs ps)

every_cut : {C : Container} → Lawful C → (h : List ℕ) (T : List Record → Type 0) (at : ℕ) {rs : List Record} → All (WholeRecord C h) rs → All (λ (e : ℕ). T (left_from at e rs)) (ends at rs) → (n : ℕ) → T (left_from at n rs)
unfolding left_from ends
every_cut L g T at all_nil (all_cons p ps) n = p
every_cut L g T at (all_cons {x = r} {xs = rs} w ws) (all_cons p ps) n =
    let z : 0 < length r.bytes = whole_some L g r w in
    split≤ (at + length r.bytes) n
    (λ h. rw (le-leb (at + length r.bytes) n h) (every_cut L g (λ (l : List Record). T (r ∷ l)) (at + length r.bytes) ws (with_first at r rs T (ends_past (at + length r.bytes) rs) ps) n))
    (λ h. rw (lt-leb (at + length r.bytes) n h, left_none (at + length r.bytes) n rs h) (rw (lt-leb (at + length r.bytes) at (omega arith), left_none (at + length r.bytes) at rs (omega arith)) at p))

module _ (by : Judging) {C : Container} {S : Framing} (R : RecordingOf C S) where
  abbrev Settled : List Record → Type 0
  Settled rs = (h : ℕ) → All (λ (q : JudgedPdu). q.pdu.link ≡ h → adds R.d q.kind ≡ false) (after_data by R rs h)

  abbrev Alone : List Record → Type 0
  Alone rs = All (λ (q : JudgedPdu). q.mark ≡ free → carries_on R.d q.kind ≡ false) (judged_in by R rs)

  abbrev links : List Sent → List ℕ
  links xs = map (λ (x : Sent). x.packet.link) xs

  not_data : (h : ℕ) (p : Packet) (k : Mark) → p.link ≢ h → is_data_of h p k ≡ false
  unfolding is_data_of
  not_data h p free n = refl
  not_data h p part n = ne_eqb p.link h n
  not_data h p (last i) n = ne_eqb p.link h n

  no_data : (h : ℕ) (xs : List Sent) → any (λ k. eqb k h) (links xs) ≡ false → to_data h xs ≡ xs
  unfolding to_data any
  no_data h [] e = refl
  no_data h (x ∷ xs) e =
      split_b (eqb x.packet.link h)
      (λ q. no_way refl (rw q at e))
      (λ q. rw (not_data h x.packet x.mark (eqb-false x.packet.link h q), no_data h xs (rw q at e)))

  marks_most : (js : List Judged) (qs : List MarkedPdu) → length (with_marks js qs) ≤ length qs
  unfolding with_marks
  marks_most [] qs = omega arith
  marks_most (j ∷ js) [] = omega arith
  marks_most (j ∷ js) (q ∷ qs) = omega (arith, marks_most js qs)

  -- after the data of a handle that no packet has comes nothing
  none_after : (rs : List Record) (h : ℕ) → any (λ k. eqb k h) (links (sent_in R rs)) ≡ false → after_data by R rs h ≡ []
  unfolding after_data judged_in
  none_after rs h e = rw (no_data h (sent_in R rs) e) (drop_of_length-le (with_marks (judged_by by (pdus_in R rs)) (marked_pdus (sent_in R rs))) (marks_most (judged_by by (pdus_in R rs)) (marked_pdus (sent_in R rs))))

  settled_one : (rs : List Record) (h : ℕ) → settled_in R by rs h ≡ true → All (λ (q : JudgedPdu). q.pdu.link ≡ h → adds R.d q.kind ≡ false) (after_data by R rs h)
  unfolding settled_in
  settled_one rs h e =
      every_all (λ (q : JudgedPdu). q.pdu.link ≡ h → adds R.d q.kind ≡ false) _
      (λ q z w. not-true (adds R.d q.kind) (implied (eqb q.pdu.link h) (not (adds R.d q.kind)) z (eq-eqb q.pdu.link h w))) (after_data by R rs h) e

  at_key : (f : ℕ → Bool) (h : ℕ) (ks : List ℕ) → every f (once ks) ≡ true → any (λ k. eqb k h) ks ≡ true → f h ≡ true
  unfolding every any once
  at_key f h [] e m = no_way m refl
  at_key f h (k ∷ ks) e m =
      split_b (any (λ j. eqb j k) ks)
      (λ a. split_b (eqb k h)
      (λ q. at_key f h ks (rw a at e) (rw (eqb-true k h q) at a))
      (λ q. at_key f h ks (rw a at e) (rw q at m)))
      (λ a. let w : f k && every f (once ks) ≡ true = rw a at e in
      split_b (eqb k h)
      (λ q. rw (eqb-true k h q) at (and_left (f k) (every f (once ks)) w))
      (λ q. at_key f h ks (and_right (f k) (every f (once ks)) w) (rw q at m)))

  settled_cut : (rs : List Record) → every (settled_in R by rs) (once (links (sent_in R rs))) ≡ true → Settled rs
  settled_cut rs e h =
      split_b (any (λ k. eqb k h) (links (sent_in R rs)))
      (λ m. settled_one rs h (at_key (settled_in R by rs) h (links (sent_in R rs)) e m))
      (λ m. rw (none_after rs h m) all_nil)

  settled_passed : Lawful C → All (WholeRecord C R.header) R.records → settled_test R by ≡ true → (n : ℕ) → Settled (records_left R n)
  unfolding settled_test records_left
  settled_passed L w e n = every_cut L R.header Settled C.head w (every_all (λ (n : ℕ). Settled (left_from C.head n R.records)) _ (λ n z. settled_cut (left_from C.head n R.records) z) (ends C.head R.records) e) n

  free_true : (k : Mark) → k ≡ free → is_free R k ≡ true
  free_true k e = rw e

  alone_cut : (rs : List Record) → alone_in R by rs ≡ true → Alone rs
  unfolding alone_in
  alone_cut rs e =
      every_all (λ (q : JudgedPdu). q.mark ≡ free → carries_on R.d q.kind ≡ false) _
      (λ q z w. not-true (carries_on R.d q.kind) (implied (is_free R q.mark) (not (carries_on R.d q.kind)) z (free_true q.mark w))) (judged_in by R rs) e

  alone_passed : Lawful C → All (WholeRecord C R.header) R.records → alone_test R by ≡ true → (n : ℕ) → Alone (records_left R n)
  unfolding alone_test records_left
  alone_passed L w e n = every_cut L R.header Alone C.head w (every_all (λ (n : ℕ). Alone (left_from C.head n R.records)) _ (λ n z. alone_cut (left_from C.head n R.records) z) (ends C.head R.records) e) n

different : (hs : List ℕ) → handles_test hs ≡ true → Different hs
unfolding handles_test
different [] e = no_more
different (h ∷ hs) e =
    one_more
    (every_all (λ (k : ℕ). k ≢ h) (λ k. not (eqb k h)) (λ k z. eqb-false k h (not-true (eqb k h) z)) hs (and_left _ _ e))
    (different hs (and_right (every (λ k. not (eqb k h)) hs) _ e))

-- every rule is passed
abbrev pub passed_all : List Bool
passed_all = true ∷ true ∷ true ∷ true ∷ true ∷ true ∷ true ∷ true ∷ true ∷ true ∷ true ∷ true ∷ true ∷ true ∷ []

pub honest : {C : Container} {S : Framing} → Lawful C → (by : Judging) (k : Checked S) (told : LinkOf S → Direction → S.Form) (R : RecordingOf C S) → rules by k told R ≡ passed_all → Honest by R
unfolding rules small_test dlci_test
honest {C} L by k told R e =
    let wholes : All (WholeRecord C R.header) R.records = whole_passed R (cc) in
    let lo : leb 1 R.d && leb R.d 63 ≡ true = cc in
    record {
      header = header_passed R (cc);
      whole = wholes;
      small = leb-true (length (file R)) 1048576 (cc);
      handles = different (map (λ l. l.handle) R.links) (cc);
      dlci = (leb-true 1 R.d (and_left _ _ lo), leb-true R.d 63 (and_right (leb 1 R.d) _ lo));
      dynamic = dynamic_passed R (cc);
      channels = channels_passed R by.rule (cc);
      fragments = fragments_passed R nothing_open (sent_in R R.records) (cc);
      checks = checks_passed R by.fcs (cc);
      information = information_passed R (cc);
      sizes = sizes_passed R k (cc);
      beginnings = beginnings_passed R k told (cc);
      settled = λ n h. settled_passed by R L wholes (cc) n h;
      alone = λ n. alone_passed by R L wholes (cc) n;
    }
