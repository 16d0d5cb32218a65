-- Laws on the table of packets: one packet at a time, and what a write behind it leaves.
use mathlib.Core.Path.{◌≡◌, refl}
use mathlib.Core.List.{List, [], ◌∷◌, ◌++◌}
use Prim.Native.Nat.{ℕ, zero, suc, ◌+◌, ◌-◌, ◌*◌, ◌%◌, ◌<◌, ◌≤◌}
use native.Mathlib.Nat.{add-zero}
use native.Mathlib.Omega.{arith}
use native.Mathlib.Numerals.{add-one}
use lib.ListN.{length}
use Rattle.laws.proofs.Choice.{split≤}
use Rattle.laws.specs.Lists.{All, all_nil, all_cons}
use Rattle.words.specs.Words.{word, long}
use Rattle.words.specs.Front.{Front}
use Rattle.words.proofs.Front.{front_word}
use Rattle.container.specs.Packets.{Packet}
use Rattle.packets.specs.PacketTable.{packet_at, packets_from, data_of, Tabled}

pub front_long : (n : ℕ) (u w : List ℕ) (j : ℕ) → 4 * j + 8 ≤ n → Front n u w → long u j ≡ long w j
unfolding long
front_long n u w j h a = rw (front_word n u w j (omega arith) a, front_word n u w (j + 1) (omega arith) a)

-- ---- from the front and from the end

pub packets_next : (f w : List ℕ) (i count : ℕ) → i < count → packets_from f w i (count - i) ≡ packet_at f w i ∷ packets_from f w (i + 1) (count - (i + 1))
unfolding packets_from
packets_next f w i count h = let z : count - i ≡ suc (count - (i + 1)) = omega arith in rw (z, add-one)

pub packets_none : (f w : List ℕ) (i count : ℕ) → count ≤ i → packets_from f w i (count - i) ≡ []
unfolding packets_from
packets_none f w i count h = let z : count - i ≡ 0 = omega arith in rw z

pub packets_snoc : (f w : List ℕ) (i m : ℕ) → packets_from f w i (suc m) ≡ packets_from f w i m ++ (packet_at f w (i + m) ∷ [])
unfolding packets_from
packets_snoc f w i zero = rw add-zero
packets_snoc f w i (suc m) = let z : i + suc m ≡ suc i + m = omega arith in rw (z, packets_snoc f w (suc i) m)

pub data_next : (w : List ℕ) (i : ℕ) → data_of w (i + 1) ≡ data_of w i + word w (6 * i + 3)
unfolding data_of
data_next w i = rw add-one

pub data_mono : (w : List ℕ) (i j : ℕ) → i ≤ j → data_of w i ≤ data_of w j
unfolding data_of
data_mono w i zero h = let z : i ≡ 0 = omega arith in rw z (omega arith)
data_mono w i (suc j) h = split≤ i j (λ l. omega (arith, data_mono w i j l)) (λ l. let z : i ≡ suc j = omega arith in rw z (omega arith))

-- the first packets of a table are a table
pub tabled_less : (f w : List ℕ) (i count : ℕ) → i ≤ count → Tabled f w count → Tabled f w i
tabled_less f w i count h t = record {
  fits = record { fits = λ j l. t.fits.fits j (omega arith) };
  total = omega (arith, t.total, data_mono w i count h);
  small = t.small;
  room = t.room;
}

-- a direction is 0 or 1
pub two_ways : (f w : List ℕ) (i m : ℕ) → All (λ (p : Packet). p.rx ≤ 1) (packets_from f w i m)
unfolding packets_from packet_at
two_ways f w i zero = all_nil
two_ways f w i (suc m) = let z : word w (6 * i) % 2 ≤ 1 = omega arith in all_cons z (two_ways f w (suc i) m)

-- ---- the frame

pub packet_front : (n : ℕ) (f u w : List ℕ) (i : ℕ) → 24 * i + 24 ≤ n → Front n u w → packet_at f u i ≡ packet_at f w i
unfolding packet_at
packet_front n f u w i h a =
    rw (
      front_word n u w (6 * i) (omega arith) a,
      front_word n u w (6 * i + 1) (omega arith) a,
      front_word n u w (6 * i + 2) (omega arith) a,
      front_word n u w (6 * i + 3) (omega arith) a,
      front_long n u w (6 * i + 4) (omega arith) a,
    )

pub packets_front : (n : ℕ) (f u w : List ℕ) (i m : ℕ) → 24 * (i + m) ≤ n → Front n u w → packets_from f u i m ≡ packets_from f w i m
unfolding packets_from
packets_front n f u w i zero h a = refl
packets_front n f u w i (suc m) h a = rw (packet_front n f u w i (omega arith) a, packets_front n f u w (suc i) m (omega arith) a)

pub data_front : (n : ℕ) (u w : List ℕ) (i : ℕ) → 24 * i ≤ n → Front n u w → data_of u i ≡ data_of w i
unfolding data_of
data_front n u w zero h a = refl
data_front n u w (suc i) h a = rw (data_front n u w i (omega arith) a, front_word n u w (6 * i + 3) (omega arith) a)

pub tabled_front : (n : ℕ) (f u w : List ℕ) (count : ℕ) → 24 * count ≤ n → Front n u w → length u ≡ length w → Tabled f w count → Tabled f u count
tabled_front n f u w count h a l t = record {
  fits = record { fits = λ i lt. rw (front_word n u w (6 * i + 2) (omega arith) a, front_word n u w (6 * i + 3) (omega arith) a) (t.fits.fits i lt) };
  total = rw (data_front n u w count h a) t.total;
  small = t.small;
  room = rw l t.room;
}
