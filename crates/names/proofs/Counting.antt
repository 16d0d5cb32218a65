-- Digits counted and written one by one.
use mathlib.Core.Path.{◌≡◌, refl, sym, ap, ◌∙◌}
use mathlib.Core.List.{List, [], ◌∷◌, ◌++◌}
use Prim.Native.Nat.{ℕ, zero, suc, ◌+◌, ◌-◌, ◌*◌, ◌/◌, ◌%◌, ◌^◌, ◌<◌, ◌≤◌}
use native.Mathlib.Nat.{pow-suc}
use native.Mathlib.Omega.{arith}
use native.Mathlib.Numerals.{add-one}
use Rattle.std.specs.Prelude.{max}
use lib.ListN.{length, length-append, set, take, length-set, replicate, length-replicate}
use lib.Seq.{sets}
use Rattle.laws.proofs.Choice.{split≤}
use Rattle.laws.specs.Stores.{Writes}
use Rattle.laws.proofs.Stores.{writes_then, sets_append, sets_swap}
use Rattle.names.specs.Digits.{hex_digit, hex2, decimal, decimal6, DigitCount}
use Rattle.names.proofs.Digits.{decimal_small, decimal_more, length_small, length_more, decimal_some}

pub hex_written : (d : List ℕ) (at b x y : ℕ) → x ≡ hex_digit (b / 16) → y ≡ hex_digit (b % 16) → Writes d at (hex2 b) (at + 2) (set (set d at x) (at + 1) y)
unfolding hex2
hex_written d at b x y p q = record { next = refl; writes = rw (p, q, add-one) }

-- ---- counting: by the greatest power of ten that is not above the number

power_some : (k : ℕ) → 1 ≤ 10 ^ k
power_some zero = omega arith
power_some (suc k) = omega (arith, pow-suc 10 k, power_some k)

powers : (k n : ℕ) → 10 ^ k ≤ n → n < 10 * 10 ^ k → length (decimal n) ≡ k + 1
powers zero n h g = length_small n (omega arith)
powers (suc k) n h g =
    let r : length (decimal (n / 10)) ≡ k + 1 = powers k (n / 10) (omega (arith, pow-suc 10 k)) (omega (arith, pow-suc 10 k)) in
    omega (arith, r, length_more n (omega (arith, pow-suc 10 k, power_some k)))

-- 0 has a digit as 1 has
pub counted : (n m k : ℕ) → m ≡ max n 1 → 10 ^ k ≤ m → m < 10 * 10 ^ k → k < 20 → DigitCount n (k + 1)
counted n m k e h g few =
    let r : length (decimal m) ≡ k + 1 = powers k m h g in
    record {
      is = split≤ 1 n (λ l. let z : m ≡ n = omega arith in sym (rw z at r)) (λ l. omega (arith, r, length_small m (omega arith), length_small n (omega arith)));
      some = omega arith;
      few = omega arith;
    }

-- ---- writing from the back: what is left completes to the whole

-- the last so many digits of a number, zeros before it
abbrev pub last_digits : ℕ → ℕ → List ℕ
last_digits zero n = []
last_digits (suc k) n = last_digits k (n / 10) ++ ((48 + n % 10) ∷ [])

length_last : (k n : ℕ) → length (last_digits k n) ≡ k
length_last zero n = refl
length_last (suc k) n = omega (arith, length-append (last_digits k (n / 10)) ((48 + n % 10) ∷ []), length_last k (n / 10))

all_digits : (k n : ℕ) → k ≡ length (decimal n) → last_digits k n ≡ decimal n
all_digits zero n h = absurd (omega (arith, decimal_some n))
all_digits (suc zero) n h =
    split≤ 10 n
    (λ g. absurd (omega (arith, length_more n g, decimal_some (n / 10))))
    (λ g. ap (λ (m : ℕ). (48 + m) ∷ []) (let e : n % 10 ≡ n = omega arith in e) ∙ sym (decimal_small n g))
all_digits (suc (suc k)) n h =
    split≤ 10 n
    (λ g. rw (decimal_more n g, all_digits (suc k) (n / 10) (omega (arith, length_more n g))))
    (λ g. absurd (omega (arith, length_small n g)))

pub record Backward (n : ℕ) (out₀ : List ℕ) (at : ℕ) (out : List ℕ) (to rest : ℕ) : Type 0 where
  pub past : at ≤ to
  pub long : length out ≡ length out₀
  pub room : to ≤ length out
  pub done : sets out at (last_digits (to - at) rest) ≡ sets out₀ at (decimal n)

sets_last : (xs d : List ℕ) (at x : ℕ) → sets (set d (at + length xs) x) at xs ≡ sets d at (xs ++ (x ∷ []))
sets_last xs d at x = sets_swap xs (x ∷ []) d at (at + length xs) (omega arith) ∙ sym (sets_append d at xs (x ∷ []))

pub backward_start : (n : ℕ) (out : List ℕ) (at k : ℕ) → at + length (decimal n) ≤ length out → DigitCount n k → Backward n out at out (at + k) n
backward_start n out at k h c = record {
  past = omega arith;
  long = refl;
  room = omega (arith, c.is);
  done = let e : (at + k) - at ≡ k = omega arith in rw (e, all_digits k n c.is);
}

pub backward_turn : (n : ℕ) (out₀ : List ℕ) (at : ℕ) (out : List ℕ) (to rest : ℕ) → Backward n out₀ at out to rest → at < to → Backward n out₀ at (set out (to - 1) (48 + rest % 10)) (to - 1) (rest / 10)
backward_turn n out₀ at out to rest c h =
    let x = 48 + rest % 10 in
    let k = to - 1 - at in
    let e : to - at ≡ suc k = omega arith in
    let p : to - 1 ≡ at + length (last_digits k (rest / 10)) = omega (arith, length_last k (rest / 10)) in
    record {
      past = omega arith;
      long = length-set out (to - 1) x ∙ c.long;
      room = omega (arith, c.room, length-set out (to - 1) x);
      done = ap (λ (j : ℕ). sets (set out j x) at (last_digits k (rest / 10))) p ∙ sets_last (last_digits k (rest / 10)) out at x ∙ (rw e at c.done);
    }

pub backward_end : (n : ℕ) (out₀ : List ℕ) (at : ℕ) (out : List ℕ) (to rest k : ℕ) → Backward n out₀ at out to rest → to ≤ at → DigitCount n k → Writes out₀ at (decimal n) (at + k) out
backward_end n out₀ at out to rest k c h d = record {
  next = rw d.is;
  writes = let e : to - at ≡ 0 = omega arith in rw e at c.done;
}

-- ---- zeros before it

take_replicate : (k n : ℕ) → k ≤ n → take k (replicate {A = ℕ} n 48) ≡ replicate k 48
take_replicate zero n h = refl
take_replicate (suc k) zero h = absurd (omega arith)
take_replicate (suc k) (suc n) h = rw (take_replicate k n (omega arith))

abbrev six : List ℕ
six = 48 ∷ 48 ∷ 48 ∷ 48 ∷ 48 ∷ 48 ∷ []

pub zeros_long : (k : ℕ) → k ≤ 6 → k ≡ length (take k six)
zeros_long k h = rw (take_replicate k 6 h) (sym (length-replicate {A = ℕ} k 48))

pub zeros_written : (d : List ℕ) (at k r : ℕ) (e : List ℕ) → k ≤ 6 → Writes d at (take k six) r e → Writes d at (replicate k 48) r e
zeros_written d at k r e h w = rw (take_replicate k 6 h) at w

pub counter_written : (d : List ℕ) (at n k z r : ℕ) (e : List ℕ) (s : ℕ) (g : List ℕ) → DigitCount n k → z ≡ 6 - k → Writes d at (replicate z 48) r e → Writes e r (decimal n) s g → Writes d at (decimal6 n) s g
unfolding decimal6
counter_written d at n k z r e s g c q v w =
    let p : z ≡ 6 - length (decimal n) = rw (← c.is) q in
    rw p at (writes_then d at (replicate z 48) r e (decimal n) s g v w)
