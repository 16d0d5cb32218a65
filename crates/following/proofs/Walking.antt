-- The walk over the records, from the first to the end of the whole ones.
use Rattle.std.specs.Prelude.{Option as Maybe, Some, None}
use Prim.Native.Nat.{ℕ, suc, ◌+◌, ◌-◌, ◌*◌, ◌/◌, ◌<◌}
use mathlib.Core.Path.{◌≡◌, refl, sym, ap, ◌∙◌}
use mathlib.Core.Bool.{true, false}
use mathlib.Core.List.{List, [], ◌∷◌}
use mathlib.Core.Option.{Option, none, some}
use native.Mathlib.Omega.{arith}
use lib.ListN.{length}
use Rattle.laws.proofs.Choice.{split≤, no_way}
use Rattle.laws.specs.Keys.{Key}
use Rattle.laws.specs.Keyed.{after}
use Rattle.words.specs.Words.{word}
use Rattle.container.specs.Packets.{Packet}
use Rattle.acl.specs.Reading.{between}
use Rattle.trace.specs.Formats.{file_head, packet_by, packets_by}
use Rattle.trace.specs.Walk.{RecordAt}
use Rattle.trace.specs.Reader.{Starts}
use Rattle.trace.specs.Finding.{bytes_of, FoundHere, Reads}
use Rattle.trace.proofs.Finding.{reads_same, found_here, found_told, found_end, found_none}
use Rattle.trace.specs.declared.Trace.{Trace}
use Rattle.trace.specs.declared.reader.Reader.{Reader}
use Rattle.trace.specs.declared.Format.{Format}
use Rattle.packets.specs.PacketTable.{packet_at, packets_from, Read}
use Rattle.packets.proofs.PacketFrames.{packets_next, packets_front}
use Rattle.trace.specs.declared.record.Record.{Record}
use Rattle.fragments.specs.Bytes.{number_of}
use Rattle.fragments.specs.Links.{LinkedTo}
use Rattle.fragments.proofs.Walking.{number_at}
use Rattle.l2cap.specs.Pdus.{packet_key}
use Rattle.l2cap.specs.Steps.{open_from, open_at, open_in, row_at, held_of, map_of, begun_tables}
use Rattle.l2cap.specs.declared.Tables.{Tables}
use Rattle.l2cap.proofs.Running.{Fresh, going_start, going_low, going_row, going_room, going_open, run_closed, link_fresh}
use Rattle.signs.specs.Places.{Placed, placed_packet, placed_packets, packets_at}
use Rattle.signs.specs.Recorded.{is_none}
use Rattle.signs.specs.Partial.{Begun, begun_at, nothing, stray_out, strays, given_up_out, given_up, at_end}
use Rattle.signs.specs.Following.{Followed, begun_place, open_place}
use Rattle.signs.proofs.Places.{rest_at, packets_start, file_packets, rest_packets, rest_none}
use Rattle.signs.proofs.Counting.{no_sign, counted_gap}
use Rattle.following.specs.Passing.{RecordTurn, Turned, RecordTurned, first_pass, FollowedTo}
use Rattle.signs.specs.declared.Gap.{Gap}
use Rattle.following.specs.declared.Pass.{Pass}
use Rattle.following.proofs.Begun.{begun_in, begun_place_law}
use Rattle.following.proofs.Counting.{met_start, met_end}
use Rattle.following.proofs.Following.{Following, way_at, turn_pre, turn_next}

-- ---- before the first packet

-- the packets of the whole records from a place on
unfoldable pub coming : Format → List ℕ → ℕ → List (Placed Packet)
coming g f at = placed_packets (packet_by g) (rest_at g f at)

coming_start : (g : Format) (f : List ℕ) → coming g f (file_head g) ≡ packets_at g f
unfolding coming
coming_start g f = packets_start g f

module _ (g : Format) (f w : List ℕ) (count : ℕ) (pre : Read g f w count) (q : ℕ) (e : q ≡ length f / 4) where
  module _ (v : List ℕ) (n : ℕ) (l : LinkedTo w q count v n) where
    begun : Fresh f v q n count
    begun = link_fresh f w count pre.tabled q e v n l

    list_start : packets_from f v 0 count ≡ packets_by g f
    list_start = packets_front (4 * (3 * q)) f v w 0 count (omega (arith, pre.tabled.total, e)) l.front ∙ pre.list

    none_begun : (k : ℕ) → begun_in f v (3 * q) n (packets_at g f) 0 k ≡ none
    unfolding begun_in map_of held_of begun_at
    none_begun k = rw (run_closed f v q n count begun k)

    first_follows : Following g f v q count v (first_pass q n) (packets_at g f)
    unfolding at_end
    first_follows = record {
      going = going_start f v q n count begun;
      list = list_start;
      packets = let z : count - 0 ≡ count = omega arith in rw z (file_packets g f ∙ sym list_start);
      places = λ j. let z : 0 + j ≡ j = omega arith in rw z;
      states = nothing;
      agree = λ p h. sym (none_begun (number_of p));
      stray = met_start stray_out (packets_at g f);
      given = met_start given_up_out (packets_at g f);
      ends = refl;
    }

    follow_first : (s : Pass) → s ≡ first_pass q n → (at : ℕ) → at ≡ file_head g → Following g f v q count v s (coming g f at)
    follow_first s z at h = rw (z, h, coming_start g f) first_follows

-- ---- a record

split_none : {G : Type 0} (o : Option Packet) → (o ≡ none → G) → ((p : Packet) → o ≡ some p → G) → G
split_none none a b = a refl
split_none (some p) a b = b p refl

module _ (g : Format) (f : List ℕ) (at e : ℕ) (here : RecordAt g f at e) where
  coming_none : packet_by g (between f at e) ≡ none → coming g f at ≡ coming g f e
  unfolding coming placed_packet
  coming_none o = rest_packets g f at e here (packet_by g) ∙ rw o

  coming_some : (p : Packet) → packet_by g (between f at e) ≡ some p → coming g f at ≡ record { at = at; is = p } ∷ coming g f e
  unfolding coming placed_packet
  coming_some p o = rest_packets g f at e here (packet_by g) ∙ rw o

-- a reader of the trace stands before what is still to come
pub record Walking (t : Trace) (w₀ : List ℕ) (q count : ℕ) (w : List ℕ) (s : Pass) (k : Reader) : Type 0 where
  pub trace : k.trace ≡ t
  pub follows : Following t.format t.file.now w₀ q count w s (coming t.format t.file.now k.at)

-- no packet is read
pub first_is : (q n : ℕ) (t : Tables) → t ≡ begun_tables q n → (a b : Gap) → a ≡ no_sign → b ≡ no_sign → record { count = 0; tables = t; signs = record { stray = a; given_up = b } } ≡ first_pass q n
first_is q n t et a b ea eb = rw (et, ea, eb)

pub follow_start :
    (t : Trace) (w : List ℕ) (count : ℕ) → Read t.format t.file.now w count → (q : ℕ) → q ≡ length t.file.now / 4 → (v : List ℕ) (n : ℕ) → LinkedTo w q count v n →
    (s : Pass) → s ≡ first_pass q n → (k : Reader) → Starts t k → Walking t v q count v s k
follow_start t w count pre q e v n l s z k h = record { trace = h.trace; follows = follow_first t.format t.file.now w count pre q e v n l s z k.at h.at }

module _ (t : Trace) (w₀ : List ℕ) (q count : ℕ) (w : List ℕ) (s : Pass) (k : Reader) (v : Walking t w₀ q count w s k) where
  module _ (x : Maybe Record) (n : Reader) (h : Reads k x n) (r : Record) (z : x ≡ Some r) where
    abbrev g : Format
    g = t.format

    abbrev f : List ℕ
    f = t.file.now

    found : FoundHere t k.at r
    found = found_here t k v.trace x n h r z

    here : RecordAt g f k.at r.end
    here = found_told t k v.trace x n h r z

    pub follow_pre : RecordTurn r w s
    unfolding is_none
    follow_pre = record {
      turn = rw (found.same, found.starts, ← v.follows.going.run.ready.quarter) (split_none (packet_by g (between f k.at r.end))
          (λ o m. no_way (rw o) m)
          (λ p o m. turn_pre g f w₀ q count w s (record { at = k.at; is = p }) (coming g f r.end) (rw (coming_some g f k.at r.end here p o) at v.follows)));
    }

    turned : (u : List ℕ) (d : Pass) → RecordTurned r w s u d → Following g f w₀ q count u d (coming g f r.end)
    unfolding is_none
    turned u d m =
        split_none (packet_by g (between f k.at r.end))
        (λ o.
        let l : is_none (packet_by r.trace.format (bytes_of r)) ≡ true = rw (found.same, found.starts, o) in
        rw ((m.skips l).0, (m.skips l).1) (rw (coming_none g f k.at r.end here o) at v.follows))
        (λ p o.
        let l : is_none (packet_by r.trace.format (bytes_of r)) ≡ false = rw (found.same, found.starts, o) in
        let y : Turned f w q k.at s u d = rw (found.same, found.starts, ← v.follows.going.run.ready.quarter) at (m.turned l) in
        turn_next g f w₀ q count w s (record { at = k.at; is = p }) (coming g f r.end) (rw (coming_some g f k.at r.end here p o) at v.follows) u d y)

    pub follow_again : (u : List ℕ) (d : Pass) → RecordTurned r w s u d → Walking t w₀ q count u d n
    follow_again u d m = record {
      trace = reads_same t k v.trace x n h;
      follows = rw (found_end t k v.trace x n h r z) (turned u d m);
    }

-- ---- the end

module _ (g : Format) (f w₀ : List ℕ) (q count : ℕ) (w : List ℕ) (s : Pass) (v : Following g f w₀ q count w s []) where
  all_read : s.count ≡ count
  all_read =
      split≤ count s.count
      (λ h. omega (arith, v.going.run.within))
      (λ h. let z : 0 ≡ suc (length (packets_from f w₀ (s.count + 1) (count - (s.count + 1)))) = ap length (v.packets ∙ packets_next f w₀ s.count count h) in absurd (omega arith))

  end_states : (k : Key) → at_end (packets_at g f) k ≡ v.states k
  unfolding after
  end_states k = ap (λ (m : Key → Begun). m k) (sym v.ends)

  module _ (j : ℕ) (h : j < count) where
    end_open : open_at w (3 * q) s.tables.live (word w (6 * j)) ≡ open_in w (row_at w q j)
    end_open = going_open f w₀ q count w s.tables s.count v.going j h

    end_begun : open_place (packets_at g f) (open_in w (row_at w q j)) ≡ begun_place (at_end (packets_at g f) (packet_key (packet_at f w j)))
    unfolding begun_in map_of
    end_begun =
        rw (
          ← end_open,
          end_states (packet_key (packet_at f w j)),
          v.agree (packet_at f w j) (way_at f w j),
          number_at f w j,
        ) (begun_place_law f w (packets_at g f) (word w (6 * j)) s.count (open_at w (3 * q) s.tables.live (word w (6 * j))))

    end_known : (a n : ℕ) → open_in w (row_at w q j) ≡ open_from a n → a < count
    end_known a n e = omega (arith, (v.going.run.ready.sound.sound (word w (6 * j)) a n (end_open ∙ e)).0, all_read)

  end_followed : Followed g f w count
  end_followed = record {
    small = v.going.run.tabled.small;
    tabled = v.going.run.tabled;
    list = packets_front (4 * q) f w w₀ 0 count (omega (arith, going_low f w₀ q count w s.tables s.count v.going)) v.going.front ∙ v.list;
    rows = rw (← v.going.run.ready.quarter) (going_row f w₀ q count w s.tables s.count v.going);
    room = rw (← v.going.run.ready.quarter) (going_room f w₀ q count w s.tables s.count v.going);
    opened = rw (← v.going.run.ready.quarter) end_begun;
    known = rw (← v.going.run.ready.quarter) (λ j a n h e. end_known j h a n e);
  }

  ended : FollowedTo g f count w s.signs
  unfolding strays given_up
  ended = record {
    stray = counted_gap s.signs.stray (strays (packets_at g f)) (met_end stray_out (packets_at g f) v.states s.count s.signs.stray v.stray);
    given = counted_gap s.signs.given_up (given_up (packets_at g f)) (met_end given_up_out (packets_at g f) v.states s.count s.signs.given_up v.given);
    followed = end_followed;
  }

coming_nil : (g : Format) (f : List ℕ) (at : ℕ) → rest_at g f at ≡ [] → coming g f at ≡ []
unfolding coming placed_packets
coming_nil g f at e = rw e

module _ (t : Trace) (w₀ : List ℕ) (q count : ℕ) (w : List ℕ) (s : Pass) (k : Reader) (v : Walking t w₀ q count w s k) (x : Maybe Record) (n : Reader) (h : Reads k x n) where
  pub follow_end : x ≡ None → FollowedTo t.format t.file.now count w s.signs
  follow_end e = ended t.format t.file.now w₀ q count w s (rw (coming_nil t.format t.file.now k.at (rest_none t.format t.file.now k.at (found_none t k v.trace x n h e))) at v.follows)
