-- Laws of specs/Digits.
use mathlib.Core.Path.{◌≡◌, refl}
use mathlib.Core.List.{[], ◌∷◌, ◌++◌}
use Prim.Native.Nat.{ℕ, zero, suc, ◌+◌, ◌-◌, ◌/◌, ◌%◌, ◌<◌, ◌≤◌}
use native.Mathlib.Omega.{arith}
use lib.ListN.{length, length-append, replicate, length-replicate}
use borrow.Author.Tests.{lt-ltb, le-ltb}
use Rattle.laws.proofs.Choice.{split≤}
use Rattle.names.specs.Digits.{hex2, digits, decimal, decimal6}

-- ---- a number below 10 is its digit; another ends in one

pub decimal_small : (n : ℕ) → n < 10 → decimal n ≡ (48 + n) ∷ []
unfolding decimal digits
decimal_small zero h = refl
decimal_small (suc n) h = rw (lt-ltb (suc n) 10 h)

enough : (k m n : ℕ) → n ≤ k → n ≤ m → digits k n ≡ digits m n
unfolding digits
enough zero zero n h g = refl
enough zero (suc m) n h g = rw (lt-ltb n 10 (omega arith))
enough (suc k) zero n h g = rw (lt-ltb n 10 (omega arith))
enough (suc k) (suc m) n h g = rw (enough k m (n / 10) (omega arith) (omega arith))

pub decimal_more : (n : ℕ) → 10 ≤ n → decimal n ≡ decimal (n / 10) ++ ((48 + n % 10) ∷ [])
unfolding decimal digits
decimal_more zero h = absurd (omega arith)
decimal_more (suc n) h = rw (le-ltb (suc n) 10 h, enough n (suc n / 10) (suc n / 10) (omega arith) (omega arith))

-- ---- how many digits

pub length_small : (n : ℕ) → n < 10 → length (decimal n) ≡ 1
length_small n h = rw (decimal_small n h)

pub length_more : (n : ℕ) → 10 ≤ n → length (decimal n) ≡ length (decimal (n / 10)) + 1
length_more n h = rw (decimal_more n h) (length-append (decimal (n / 10)) ((48 + n % 10) ∷ []))

pub decimal_some : (n : ℕ) → 1 ≤ length (decimal n)
decimal_some n = split≤ 10 n (λ h. omega (arith, length_more n h)) (λ h. omega (arith, length_small n h))

pub length_six : (n : ℕ) → length (decimal6 n) ≡ (6 - length (decimal n)) + length (decimal n)
unfolding decimal6
length_six n = rw (length-append (replicate (6 - length (decimal n)) 48) (decimal n), length-replicate {A = ℕ} (6 - length (decimal n)) 48)

pub length_hex : (b : ℕ) → length (hex2 b) ≡ 2
unfolding hex2
length_hex b = refl
