-- Sums and counts: a turn over a byte, a turn over a part, and the end.
use Rattle.std.proofs.Common.{◌≡◌, ℕ, ◌+◌, ◌&&◌, ◌%◌, ◌<◌, ◌≤◌, Bool, true, false, cond, List, [], ◌∷◌, ◌++◌, length, get_or, drop, refl, ap, ◌∙◌, arith, length-drop, length-append}
use Rattle.laws.proofs.Lists.{drop_step, drop_end}
use Rattle.mdr.specs.Sum.{total, checksum_of}
use Rattle.mdr.specs.Escape.{within}
use Rattle.mdr.specs.Escaping.{count_in}
use Rattle.mdr.proofs.Escaping.{count_append}
use Rattle.std.specs.Int.{from_bool}
use Rattle.std.specs.Bool.{beq}
use Rattle.laws.proofs.Choice.{no_way}
use Rattle.blocks.specs.Blocks.{Tallied, AllAre}
use Rattle.blocks.specs.declared.Totals.{Totals}

pub total_append : (xs ys : List ℕ) → total (xs ++ ys) ≡ total xs + total ys
total_append [] ys = omega arith
total_append (x ∷ xs) ys = let ih = total_append xs ys in omega arith

pub bit : (t : Bool) → (from_bool t ≡ cond t 1 0) × (from_bool t ≤ 1)
bit true = (refl, omega arith)
bit false = (refl, omega arith)

-- the sum and the count so far, and what is left
pub record Tallying (l : List ℕ) (lo hi sum hits : ℕ) (rest : List ℕ) : Type 0 where
  pub most : hits + length rest ≤ length l
  pub small : sum < 256
  pub summed : (sum + total rest) % 256 ≡ total l % 256
  pub counted : hits + count_in lo hi rest ≡ count_in lo hi l

pub tally_start : (l : List ℕ) (lo hi : ℕ) → Tallying l lo hi 0 0 l
tally_start l lo hi = record {
  most = omega arith;
  small = omega arith;
  summed = omega arith;
  counted = omega arith;
}

module _ (l : List ℕ) (lo hi sum hits : ℕ) (rest : List ℕ) (s : Tallying l lo hi sum hits rest) where
  pub tally_part : (a rest' : List ℕ) → rest ≡ a ++ rest' → (t : Totals) → Tallied a lo hi t → (sum' : ℕ) → sum' ≡ (sum + t.sum) % 256 → Tallying l lo hi sum' (hits + t.hits) rest'
  tally_part a rest' e t v sum' p =
      let x : total rest ≡ total a + total rest' = ap total e ∙ total_append a rest' in
      let y : count_in lo hi rest ≡ count_in lo hi a + count_in lo hi rest' = ap (count_in lo hi) e ∙ count_append lo hi a rest' in
      let u : length rest ≡ length a + length rest' = ap length e ∙ length-append a rest' in
      let z : t.sum ≡ total a % 256 = v.sum in
      let w : t.hits ≡ count_in lo hi a = v.hits in record {
        most = omega (arith, v.most);
        small = omega arith;
        summed = omega arith;
        counted = omega arith;
      }

  pub tally_end : length rest ≡ 0 → (t : Totals) → t.sum ≡ sum → t.hits ≡ hits → Tallied l lo hi t
  tally_end n t p q =
      let e : rest ≡ [] = drop_end rest 0 (omega arith) in record {
        sum = omega (arith, ap total e);
        hits = omega (arith, ap (count_in lo hi) e);
        most = omega arith;
      }

-- what is left starts at a place
module _ (l : List ℕ) (lo hi sum hits i : ℕ) (s : Tallying l lo hi sum hits (drop i l)) where
  pub tally_turn : i < length l → (sum' : ℕ) → sum' ≡ (sum + get_or l i 0) % 256 → (t : Bool) → t ≡ within lo hi (get_or l i 0) → (h : ℕ) → h ≡ from_bool t → Tallying l lo hi sum' (hits + h) (drop (i + 1) l)
  tally_turn n sum' p t q h r =
      let e = drop_step l i n in
      let b = bit t in record {
        most = omega (arith, r, b.1, ap length e);
        small = omega arith;
        summed = omega (arith, ap total e);
        counted = omega (arith, ap (count_in lo hi) e, rw q at b.0, rw q at r);
      }

  pub tally_few_hits : i < length l → hits < length l
  tally_few_hits n = omega (arith, length-drop i l)

  pub tally_all : length l ≤ i → (t : Totals) → t.sum ≡ sum → t.hits ≡ hits → Tallied l lo hi t
  tally_all n t p q = tally_end l lo hi sum hits (drop i l) s (omega (arith, length-drop i l)) t p q

-- the bytes so far are as asked: in the two values, or outside of them
pub record Asking (inside : Bool) (l : List ℕ) (lo hi : ℕ) (all : Bool) (i : ℕ) : Type 0 where
  pub few : i ≤ length l
  pub are : all ≡ true → count_in lo hi l ≡ cond inside i 0 + count_in lo hi (drop i l)

pub asking_start : (inside : Bool) (l : List ℕ) (lo hi : ℕ) → Asking inside l lo hi true 0
asking_start true l lo hi = record { few = omega arith; are = λ e. omega arith }
asking_start false l lo hi = record { few = omega arith; are = λ e. omega arith }

asked : (inside t : Bool) (i n m k : ℕ) → beq t inside ≡ true → n ≡ cond inside i 0 + m → m ≡ cond t 1 0 + k → n ≡ cond inside (i + 1) 0 + k
asked true true i n m k e p q = omega (arith, p, q)
asked false false i n m k e p q = omega (arith, p, q)
asked true false i n m k e p q = no_way e refl
asked false true i n m k e p q = no_way e refl

pub both : (t u : Bool) → t && u ≡ true → (t ≡ true) × (u ≡ true)
both true true e = (refl, refl)
both true false e = no_way e refl
both false u e = no_way e refl

module _ (inside : Bool) (l : List ℕ) (lo hi : ℕ) (all : Bool) (i : ℕ) (s : Asking inside l lo hi all i) where
  pub asking_turn : i < length l → (t : Bool) → t ≡ within lo hi (get_or l i 0) → Asking inside l lo hi (all && beq t inside) (i + 1)
  asking_turn n t q = record {
    few = omega arith;
    are = λ e. let b = both all (beq t inside) e in asked inside t i _ _ _ b.1 (s.are b.0) (ap (count_in lo hi) (drop_step l i n) ∙ rw q refl);
  }

  pub asking_end : length l ≤ i → AllAre inside lo hi l all
  asking_end n =
      let k : i ≡ length l = omega (arith, s.few) in
      record { are = λ e. omega (arith, rw k at (s.are e), ap (count_in lo hi) (drop_end l (length l) (omega arith))) }

-- the sum alone
pub record Summing (l : List ℕ) (sum i : ℕ) : Type 0 where
  pub few : i ≤ length l
  pub small : sum < 256
  pub summed : (sum + total (drop i l)) % 256 ≡ total l % 256

pub sum_start : (l : List ℕ) → Summing l 0 0
sum_start l = record { few = omega arith; small = omega arith; summed = omega arith }

module _ (l : List ℕ) (sum i : ℕ) (s : Summing l sum i) where
  pub sum_turn : i < length l → (sum' : ℕ) → sum' ≡ (sum + get_or l i 0) % 256 → Summing l sum' (i + 1)
  sum_turn n sum' p =
      let e = drop_step l i n in
      record { few = omega arith; small = omega arith; summed = omega (arith, ap total e) }

  pub sum_end : length l ≤ i → sum ≡ checksum_of l
  unfolding checksum_of
  sum_end n = let e = drop_end l i n in omega (arith, ap total e)
