-- Some packets are read, and the others are still to come.
use Rattle.std.specs.Prelude.{Option}
use Prim.Native.Nat.{ℕ, suc, ◌+◌, ◌-◌, ◌*◌, ◌%◌, ◌<◌, ◌≤◌}
use mathlib.Core.Path.{◌≡◌, sym, ap, ◌∙◌}
use mathlib.Core.List.{List, ◌∷◌, head_d, tail, map}
use native.Mathlib.Omega.{arith}
use lib.ListN.{length}
use Rattle.laws.proofs.Choice.{split≤}
use Rattle.laws.specs.Keys.{Key}
use Rattle.laws.specs.Keyed.{step, after}
use Rattle.words.specs.Words.{word}
use Rattle.container.specs.Packets.{Packet}
use Rattle.trace.specs.Formats.{packets_by}
use Rattle.trace.specs.declared.Format.{Format}
use Rattle.packets.specs.PacketTable.{packet_at, packets_from}
use Rattle.packets.proofs.PacketFrames.{packets_next, packets_none}
use Rattle.fragments.specs.Bytes.{number_of}
use Rattle.l2cap.specs.Pdus.{packet_key}
use Rattle.l2cap.specs.Steps.{open_at, open_in, row_at, held_of, map_of}
use Rattle.l2cap.specs.declared.Open.{Open}
use Rattle.l2cap.proofs.Running.{Going, going_step, going_packet, going_open, going_turn, same_key}
use Rattle.signs.specs.Places.{Placed, packets_at}
use Rattle.signs.specs.Partial.{Begun, begun_at, placed_key, following, stray_out, given_up_out, at_end}
use Rattle.signs.specs.Following.{place_at}
use Rattle.following.specs.Showing.{shown_by}
use Rattle.following.specs.Passing.{Turn, Turned}
use Rattle.following.specs.declared.Pass.{Pass}
use Rattle.following.proofs.Begun.{began_of, begun_in, number_is, begun_step, start_is}
use Rattle.following.proofs.Counting.{Met, met_turn, stray_counted, given_counted, shown_few}

-- those still to come, with their places, are the rest of the table; w₀ is work before the first of them all is read
pub record Following (g : Format) (f w₀ : List ℕ) (q count : ℕ) (w : List ℕ) (s : Pass) (rest : List (Placed Packet)) : Type 0 where
  pub going : Going f w₀ q count w s.tables s.count
  pub list : packets_from f w₀ 0 count ≡ packets_by g f
  pub packets : map (λ (a : Placed Packet). a.is) rest ≡ packets_from f w₀ s.count (count - s.count)
  pub places : (j : ℕ) → place_at (packets_at g f) (s.count + j) ≡ place_at rest j
  -- the states of the machines are those of the rows
  pub states : Key → Begun
  pub agree : (p : Packet) → p.rx ≤ 1 → states (packet_key p) ≡ begun_in f w (3 * q) s.tables.live (packets_at g f) s.count (number_of p)
  pub stray : Met stray_out (packets_at g f) rest states s.count s.signs.stray
  pub given : Met given_up_out (packets_at g f) rest states s.count s.signs.given_up
  pub ends : after (following stray_out) states rest ≡ at_end (packets_at g f)

-- a direction is 0 or 1
pub way_at : (f w : List ℕ) (i : ℕ) → (packet_at f w i).rx ≤ 1
unfolding packet_at
way_at f w i = let z : word w (6 * i) % 2 ≤ 1 = omega arith in z

-- a packet is read
module _
    (g : Format) (f w₀ : List ℕ) (q count : ℕ) (w : List ℕ) (s : Pass) (a : Placed Packet) (rest : List (Placed Packet))
    (v : Following g f w₀ q count w s (a ∷ rest)) where
  turn_less : s.count < count
  turn_less =
      split≤ count s.count
      (λ h. let z : suc (length (map (λ (x : Placed Packet). x.is) rest)) ≡ 0 = ap length (v.packets ∙ packets_none f w₀ s.count count h) in absurd (omega arith))
      (λ h. h)

  coming_eq : map (λ (x : Placed Packet). x.is) (a ∷ rest) ≡ packet_at f w₀ s.count ∷ packets_from f w₀ (s.count + 1) (count - (s.count + 1))
  coming_eq = v.packets ∙ packets_next f w₀ s.count count turn_less

  turn_is : a.is ≡ packet_at f w s.count
  unfolding head_d
  turn_is = ap (λ l. head_d l a.is) coming_eq ∙ sym (going_packet f w₀ q count w s.tables s.count v.going turn_less)

  turn_place : place_at (packets_at g f) s.count ≡ a.at
  unfolding place_at
  turn_place = let z : s.count + 0 ≡ s.count = omega arith in (rw z at (v.places 0))

  turn_way : a.is.rx ≤ 1
  turn_way = rw turn_is (way_at f w s.count)

  pub turn_pre : Turn f w q s
  turn_pre = record {
    step = going_step f w₀ q count w s.tables s.count v.going turn_less;
    stray = v.stray.few;
    given = v.given.few;
  }

  -- what is open before it, by its row and by the machine
  abbrev was : Option Open
  was = open_at w (3 * q) s.tables.live (word w (6 * s.count))

  turn_open : open_in w (row_at w q s.count) ≡ was
  turn_open = sym (going_open f w₀ q count w s.tables s.count v.going s.count turn_less)

  turn_state : v.states (placed_key a) ≡ begun_at (began_of (packets_at g f) was) (held_of f w (word w (6 * s.count)) s.count was)
  unfolding begun_in map_of
  turn_state = v.agree a.is turn_way ∙ rw (number_is f w s.count a turn_is)

  module _ (u : List ℕ) (r : Pass) (d : Turned f w q a.at s u r) where
    turn_signs : r.signs ≡ shown_by was a.is.start a.at s.signs
    turn_signs = d.signs ∙ rw (turn_open, turn_is, start_is f w s.count)

    pub turn_next : Following g f w₀ q count u r rest
    unfolding place_at after
    turn_next = record {
      going = rw d.count (going_turn f w₀ q count w s.tables s.count v.going turn_less u r.tables d.stepped);
      list = v.list;
      packets = rw d.count (ap tail coming_eq);
      places = λ j. let z : s.count + 1 + j ≡ s.count + suc j = omega arith in rw (d.count, z) (v.places (suc j));
      states = step (following stray_out) v.states a;
      agree = λ p h.
          rw (
            same_key p a.is h turn_way,
            v.agree p h,
            v.agree a.is turn_way,
            d.count,
            begun_step f w q s.tables s.count u r.tables d.stepped (packets_at g f) a turn_place turn_is (number_of p),
          );
      stray = rw d.count (met_turn stray_out (packets_at g f) rest v.states s.count s.signs.stray a v.stray r.signs.stray
          (λ ats c. rw (turn_signs, turn_state) (stray_counted f w (packets_at g f) (word w (6 * s.count)) s.count s.signs a was ats c))
          (rw turn_signs (shown_few was a.is.start a.at s.signs).0));
      given = rw d.count (met_turn given_up_out (packets_at g f) rest v.states s.count s.signs.given_up a v.given r.signs.given_up
          (λ ats c. rw (turn_signs, turn_state) (given_counted f w (packets_at g f) (word w (6 * s.count)) s.count s.signs a was ats c))
          (rw turn_signs (shown_few was a.is.start a.at s.signs).1));
      ends = v.ends;
    }
