-- Each packet is told by the row of its key; the walk leaves the packets that began what is open at the end.
use Rattle.std.specs.Prelude.{Option as Maybe, Some, None}
use Prim.Native.Nat.{ℕ, ◌+◌, ◌/◌, ◌<◌, ◌≤◌}
use mathlib.Core.Path.{◌≡◌, refl, sym, ap, ◌∙◌}
use mathlib.Core.Bool.{Bool, false, cond}
use mathlib.Core.List.{List, [], ◌∷◌, ◌++◌, map, append_assoc, append-nil, map-append}
use mathlib.Core.Option.{Option, none, some}
use native.Mathlib.Omega.{arith}
use lib.ListN.{length, length-append}
use Rattle.laws.proofs.Choice.{split_b, no_way}
use Rattle.laws.specs.Keyed.{keep}
use Rattle.laws.proofs.Keyed.{keep_append}
use Rattle.container.specs.Packets.{Packet}
use Rattle.acl.specs.Reading.{between}
use Rattle.trace.specs.Formats.{packet_by}
use Rattle.trace.specs.Reader.{Starts}
use Rattle.trace.specs.Finding.{bytes_of, FoundHere, Reads}
use Rattle.trace.proofs.Finding.{reads_same, found_here, found_told, found_end, found_none}
use Rattle.trace.specs.declared.Format.{Format}
use Rattle.trace.specs.declared.Trace.{Trace}
use Rattle.trace.specs.declared.record.Record.{Record}
use Rattle.trace.specs.declared.reader.Reader.{Reader}
use Rattle.l2cap.specs.Steps.{open_from, row_at, open_in}
use Rattle.l2cap.specs.declared.Open.{Open}
use Rattle.signs.specs.Places.{Placed, placed_packet, placed_packets, packets_at}
use Rattle.signs.specs.Partial.{Begun, placed_key, at_end, began_at, left_open}
use Rattle.signs.specs.Recorded.{is_none}
use Rattle.signs.specs.Counting.{Counted, noted}
use Rattle.signs.specs.Following.{Followed, begun_place, open_place, place_at}
use Rattle.signs.specs.declared.Gap.{Gap}
use Rattle.signs.proofs.Counting.{no_sign, default_none, counted_none, counted_one}
use Rattle.signs.proofs.Places.{rest_at, rest_turn, packets_start, rest_none}
use Rattle.signs.proofs.PlaceOrder.{place_here, places_many, table_has, places_tell}
use Rattle.leftover.specs.Meeting.{began_by, counted_at, met_at, CountPre, MeetPre}
use Rattle.leftover.specs.declared.Met.{Met}

-- ---- a packet is told by the row of its key

module _ (g : Format) (f w : List ℕ) (count : ℕ) (d : Followed g f w count) (before : List (Placed Packet)) (a : Placed Packet) (rest : List (Placed Packet)) (e : before ++ (a ∷ rest) ≡ packets_at g f) where
  number_less : length before < count
  number_less = omega (arith, places_many g f w count d.list, ap length e, length-append before (a ∷ rest))

  told : began_by (open_in w (row_at w (length f / 4) (length before))) (length before) ≡ began_at (at_end (packets_at g f) (placed_key a)) a.at
  unfolding began_by began_at open_place
  told =
      go (open_in w (row_at w (length f / 4) (length before))) (at_end (packets_at g f) (placed_key a))
      (λ x n q. d.known (length before) x n number_less q)
      (rw (table_has g f w count d.list before a rest (sym e)) at (d.opened (length before) number_less)) where
        here : place_at (packets_at g f) (length before) ≡ a.at
        here = ap (λ (ps : List (Placed Packet)). place_at ps (length before)) (sym e) ∙ place_here before a rest

        go :
            (o : Maybe Open) (b : Begun) → ((x n : ℕ) → o ≡ open_from x n → x < count) →
            open_place (packets_at g f) o ≡ begun_place b → began_by o (length before) ≡ began_at b a.at
        go None none k q = refl
        go None (some b) k q = no_way refl cc
        go (Some pdu) none k q = no_way refl cc
        go (Some pdu) (some b) k q =
            let many : length (packets_at g f) ≡ count = places_many g f w count d.list in
            let p : place_at (packets_at g f) pdu.first ≡ b.at = cc in
            sym (places_tell g f pdu.first (length before) (omega (arith, k pdu.first pdu.got refl)) (omega (arith, number_less))) ∙ rw (p, here)

-- ---- the walk

-- the packets among some that began what is open at the end of all
unfoldable pub left_of : List (Placed Packet) → List (Placed Packet) → List ℕ
left_of ps few = map (λ a. a.at) (keep (λ a. began_at (at_end ps (placed_key a)) a.at) few)

-- the packets before where a reader stands are met
pub record Leaving (t : Trace) (q : Reader) (m : Met) : Type 0 where
  pub trace : q.trace ≡ t
  pub before : List (Placed Packet)
  pub all : before ++ placed_packets (packet_by t.format) (rest_at t.format t.file.now q.at) ≡ packets_at t.format t.file.now
  pub number : m.packets ≡ length before
  pub few : m.left.many ≤ m.packets
  pub counted : Counted (left_of (packets_at t.format t.file.now) before) m.left

leaving_from : (t : Trace) (q : Reader) → Starts t q → (n : ℕ) (g : Gap) → n ≡ 0 → g ≡ no_sign → Leaving t q (record { packets = n; left = g })
unfolding left_of keep
leaving_from t q h n g en eg = rw (en, eg) (record { trace = h.trace; before = []; all = rw h.at (packets_start t.format t.file.now); number = refl; few = omega arith; counted = counted_none })

pub leaving_start : (t : Trace) (q : Reader) → Starts t q → (m : Met) → m.packets ≡ 0 → (m.left.many ≡ 0) × (m.left.first ≡ 0) → Leaving t q m
leaving_start t q h m en eg = leaving_from t q h m.packets m.left en (default_none m.left eg)

-- ---- one packet more

left_snoc :
    (ps before : List (Placed Packet)) (a : Placed Packet) →
    left_of ps (before ++ (a ∷ [])) ≡ left_of ps before ++ cond (began_at (at_end ps (placed_key a)) a.at) (a.at ∷ []) []
unfolding left_of keep
left_snoc ps before a =
    let began : Placed Packet → Bool = λ b. began_at (at_end ps (placed_key b)) b.at in
    rw (keep_append began before (a ∷ []), map-append (λ (b : Placed Packet). b.at) (keep began before) (keep began (a ∷ [])))
    (split_b (began a) (λ q. rw q) (λ q. rw q))

counted_few : (w : List ℕ) (q i : ℕ) (g : Gap) (at : ℕ) → g.many ≤ i → (counted_at w q i g at).many ≤ i + 1
unfolding counted_at noted
counted_few w q i g at h = split_b (began_by (open_in w (row_at w q i)) i) (λ t. rw t (omega arith)) (λ t. rw t (omega arith))

counted_next :
    (g : Format) (f w : List ℕ) (count : ℕ) → Followed g f w count → (before : List (Placed Packet)) (a : Placed Packet) (rest : List (Placed Packet)) →
    before ++ (a ∷ rest) ≡ packets_at g f → (l : Gap) → Counted (left_of (packets_at g f) before) l → (i : ℕ) → i ≡ length before →
    Counted (left_of (packets_at g f) (before ++ (a ∷ []))) (counted_at w (length f / 4) i l a.at)
unfolding counted_at
counted_next g f w count d before a rest e l c i n =
    let t = told g f w count d before a rest e in
    rw (left_snoc (packets_at g f) before a, ← t, n)
    (split_b (began_by (open_in w (row_at w (length f / 4) (length before))) (length before))
    (λ q. rw q (counted_one l (left_of (packets_at g f) before) a.at c))
    (λ q. rw (q, append-nil (left_of (packets_at g f) before)) c))

module _ (t : Trace) (w : List ℕ) (count : ℕ) (d : Followed t.format t.file.now w count) (q : Reader) (m : Met) (l : Leaving t q m) where
  abbrev g : Format
  g = t.format

  abbrev f : List ℕ
  f = t.file.now

  module _ (x : Maybe Record) (z : Reader) (h : Reads q x z) where
    module _ (r : Record) (y : x ≡ Some r) where
      found : FoundHere t q.at r
      found = found_here t q l.trace x z h r y

      abbrev later : List (Placed Packet)
      later = placed_packets (packet_by g) (rest_at g f r.end)

      -- the record's packet comes next, if there is one
      next : l.before ++ (placed_packet q.at (packet_by g (between f q.at r.end)) ++ later) ≡ packets_at g f
      unfolding placed_packets
      next = rw (rest_turn g f q.at r.end (found_told t q l.trace x z h r y)) at l.all

      few_packets : m.packets ≤ count
      few_packets = omega (arith, l.number, places_many g f w count d.list, ap length l.all, length-append l.before (placed_packets (packet_by g) (rest_at g f q.at)))

      pub leaving_pre : MeetPre r w (length f / 4) m
      unfolding is_none placed_packet
      leaving_pre = record {
        few = omega (arith, few_packets, d.tabled.total, d.small);
        count = rw (found.same, found.starts) (go (packet_by g (between f q.at r.end)) next);
      } where
        go : (o : Option Packet) → l.before ++ (placed_packet q.at o ++ later) ≡ packets_at g f → is_none o ≡ false → CountPre w (length f / 4) m.packets m.left
        go none n e = no_way refl e
        go (some p) n e =
            let less : m.packets < count = rw l.number (number_less g f w count d l.before (record { at = q.at; is = p }) later n) in
            record {
              began = record { row = d.rows m.packets less; room = d.room m.packets less };
              note = record { small = omega (arith, l.few, less, d.tabled.total, d.small) };
            }

      pub leaving_turn : (n : Met) → n ≡ met_at w (length f / 4) r.at m (is_none (packet_by r.trace.format (bytes_of r))) → Leaving t z n
      unfolding met_at is_none placed_packet
      leaving_turn n e = rw met (go (packet_by g (between f q.at r.end)) next) where
        met : n ≡ met_at w (length f / 4) q.at m (is_none (packet_by g (between f q.at r.end)))
        met = e ∙ rw (found.same, found.starts)

        same : z.trace ≡ t
        same = reads_same t q l.trace x z h

        at_end_of : z.at ≡ r.end
        at_end_of = found_end t q l.trace x z h r y

        go : (o : Option Packet) → l.before ++ (placed_packet q.at o ++ later) ≡ packets_at g f → Leaving t z (met_at w (length f / 4) q.at m (is_none o))
        go none n = record { trace = same; before = l.before; all = rw at_end_of n; number = l.number; few = l.few; counted = l.counted }
        go (some p) n = record {
          trace = same;
          before = l.before ++ (record { at = q.at; is = p } ∷ []);
          all = rw at_end_of (append_assoc l.before (record { at = q.at; is = p } ∷ []) later ∙ n);
          number = omega (arith, l.number, length-append l.before (record { at = q.at; is = p } ∷ []));
          few = counted_few w (length f / 4) m.packets m.left q.at l.few;
          counted = counted_next g f w count d l.before (record { at = q.at; is = p }) later n m.left l.counted m.packets l.number;
        }

    pub leaving_end : x ≡ None → Counted (left_open (packets_at g f)) m.left
    unfolding left_open left_of placed_packets
    leaving_end n = let e : l.before ≡ packets_at g f = sym (append-nil l.before) ∙ (rw (rest_none g f q.at (found_none t q l.trace x z h n)) at l.all) in rw e at l.counted
