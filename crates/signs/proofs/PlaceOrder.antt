-- The places of a file's packets: which is whose, and that they rise with the number of the packet.
use Prim.Native.Nat.{ℕ, zero, suc, ◌+◌, ◌<◌, ◌≤◌}
use mathlib.Core.Path.{◌≡◌, refl, sym, ap, ◌∙◌}
use mathlib.Core.Logic.{◌≢◌}
use mathlib.Core.List.{List, [], ◌∷◌, ◌++◌, map}
use mathlib.Core.Option.{Option, none, some}
use native.Mathlib.Omega.{arith}
use lib.ListN.{length, length-map}
use lib.Dec.{eqb}
use borrow.Author.Tests.{eq-eqb, ne_eqb}
use Rattle.laws.proofs.Choice.{split≡, split≤}
use Rattle.container.specs.Packets.{Packet}
use Rattle.trace.specs.Formats.{file_head, packet_by, records_by, packets_by}
use Rattle.trace.proofs.Formats.{packet_room}
use Rattle.trace.specs.declared.Format.{Format}
use Rattle.packets.specs.PacketTable.{packet_at, packets_from}
use Rattle.signs.specs.Places.{Placed, placed, placed_packet, placed_packets, records_at, packets_at}
use Rattle.signs.specs.Following.{place_at}
use Rattle.signs.proofs.Places.{file_packets}

-- ---- a packet among others

pub place_here : (before : List (Placed Packet)) (a : Placed Packet) (rest : List (Placed Packet)) → place_at (before ++ (a ∷ rest)) (length before) ≡ a.at
unfolding place_at
place_here [] a rest = refl
place_here (b ∷ before) a rest = place_here before a rest

-- ---- the table holds as many packets, and the same

pub table_long : (f w : List ℕ) (i m : ℕ) → length (packets_from f w i m) ≡ m
unfolding packets_from
table_long f w i zero = refl
table_long f w i (suc m) = ap suc (table_long f w (suc i) m)

table_here :
    (f w : List ℕ) (before : List (Placed Packet)) (a : Placed Packet) (rest : List (Placed Packet)) (i m : ℕ) →
    map (λ (p : Placed Packet). p.is) (before ++ (a ∷ rest)) ≡ packets_from f w i m → packet_at f w (i + length before) ≡ a.is
unfolding packets_from
table_here f w [] a rest i zero e = let z : suc _ ≡ 0 = ap length e in absurd (omega arith)
table_here f w [] a rest i (suc m) e = let z : i + 0 ≡ i = omega arith in rw z (let y : a.is ≡ packet_at f w i = cc in sym y)
table_here f w (b ∷ before) a rest i zero e = let z : suc _ ≡ 0 = ap length e in absurd (omega arith)
table_here f w (b ∷ before) a rest i (suc m) e =
    let z : i + suc (length before) ≡ suc i + length before = omega arith in
    rw z (table_here f w before a rest (suc i) m cc)

module _ (g : Format) (f w : List ℕ) (count : ℕ) (l : packets_from f w 0 count ≡ packets_by g f) where
  pub places_many : length (packets_at g f) ≡ count
  places_many =
      sym (length-map (packets_at g f) (λ (p : Placed Packet). p.is))
      ∙ ap length (file_packets g f ∙ sym l) ∙ table_long f w 0 count

  pub table_has : (before : List (Placed Packet)) (a : Placed Packet) (rest : List (Placed Packet)) → packets_at g f ≡ before ++ (a ∷ rest) → packet_at f w (length before) ≡ a.is
  table_has before a rest e =
      let z : 0 + length before ≡ length before = omega arith in
      rw z at (table_here f w before a rest 0 count (ap (λ (ps : List (Placed Packet)). map (λ (p : Placed Packet). p.is) ps) (sym e) ∙ file_packets g f ∙ sym l))

-- ---- places rise: a record with a packet has bytes, and the next record starts behind them

module _ (g : Format) where
  abbrev from : ℕ → List (List ℕ) → List (Placed Packet)
  from at rs = placed_packets (packet_by g) (placed at rs)

  place_least : (at : ℕ) (rs : List (List ℕ)) (i : ℕ) → i < length (from at rs) → at ≤ place_at (from at rs) i
  unfolding placed placed_packets placed_packet place_at
  place_least at [] i h = absurd (omega arith)
  place_least at (r ∷ rs) i h = go (place_least (at + length r) rs) (packet_by g r) i h where
    go :
        ((j : ℕ) → j < length (from (at + length r) rs) → at + length r ≤ place_at (from (at + length r) rs) j) →
        (o : Option Packet) (j : ℕ) → j < length (placed_packet at o ++ from (at + length r) rs) → at ≤ place_at (placed_packet at o ++ from (at + length r) rs) j
    go k none j h = omega (arith, k j h)
    go k (some p) zero h = omega arith
    go k (some p) (suc j) h = omega (arith, k j (omega arith))

  place_later : (at : ℕ) (rs : List (List ℕ)) (i j : ℕ) → i < j → j < length (from at rs) → place_at (from at rs) i < place_at (from at rs) j
  unfolding placed placed_packets placed_packet place_at
  place_later at [] i j l h = absurd (omega arith)
  place_later at (r ∷ rs) i j l h = go (place_later (at + length r) rs) (packet_by g r) refl i j l h where
    go :
        ((i j : ℕ) → i < j → j < length (from (at + length r) rs) → place_at (from (at + length r) rs) i < place_at (from (at + length r) rs) j) →
        (o : Option Packet) → packet_by g r ≡ o → (i j : ℕ) → i < j → j < length (placed_packet at o ++ from (at + length r) rs) →
        place_at (placed_packet at o ++ from (at + length r) rs) i < place_at (placed_packet at o ++ from (at + length r) rs) j
    go k none e i j l h = k i j l h
    go k (some p) e i zero l h = absurd (omega arith)
    go k (some p) e zero (suc j) l h = omega (arith, packet_room g r p e, place_least (at + length r) rs j (omega arith))
    go k (some p) e (suc i) (suc j) l h = k i j (omega arith) (omega arith)

pub places_rise : (g : Format) (f : List ℕ) (i j : ℕ) → i < j → j < length (packets_at g f) → place_at (packets_at g f) i < place_at (packets_at g f) j
unfolding packets_at records_at
places_rise g f i j l h = place_later g (file_head g) (records_by g f) i j l h

-- so a place tells the packet
pub places_tell : (g : Format) (f : List ℕ) (i j : ℕ) → i < length (packets_at g f) → j < length (packets_at g f) → eqb (place_at (packets_at g f) i) (place_at (packets_at g f) j) ≡ eqb i j
places_tell g f i j h k =
    split≡ i j
    (λ e. rw e (eq-eqb (place_at (packets_at g f) j) (place_at (packets_at g f) j) refl ∙ sym (eq-eqb j j refl)))
    (λ e.
    let d : place_at (packets_at g f) i ≢ place_at (packets_at g f) j =
    λ q. split≤ i j (λ l. e (split≤ j i (λ b. omega arith) (λ b. absurd (omega (arith, places_rise g f i j b k))))) (λ l. absurd (omega (arith, places_rise g f j i l h))) in
    ne_eqb (place_at (packets_at g f) i) (place_at (packets_at g f) j) d ∙ sym (ne_eqb i j e))
