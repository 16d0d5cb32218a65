-- The check as the code makes it, for all 512 heads; and six heads that are known.
use Prim.Native.Nat.{ℕ, zero, suc, ◌*◌, ◌/◌, ◌%◌, ◌<◌}
use mathlib.Core.Path.{◌≡◌, refl}
use mathlib.Core.Bool.{Bool, true, false, cond}
use mathlib.Core.List.{[], ◌∷◌}
use native.Mathlib.Omega.{arith}
use lib.Bits.{bit_xor}
use lib.Dec.{eqb}
use borrow.Author.Tests.{eqb-true, ne_eqb}
use Rattle.laws.proofs.Choice.{split_b, split≡, no_way}
use Rattle.uih.specs.Fcs.{shift_one, shifted, register, fcs_of}
use Rattle.uih.specs.Frames.{is_uih}

-- of address and control
pub checks :
    (fcs_of (0x49 ∷ 0xEF ∷ []) ≡ 0x14) × (fcs_of (0x4B ∷ 0xEF ∷ []) ≡ 0xCE) × (fcs_of (0x03 ∷ 0xEF ∷ []) ≡ 0x70) ×
    (fcs_of (0x01 ∷ 0xEF ∷ []) ≡ 0xAA) × (fcs_of (0x4B ∷ 0xFF ∷ []) ≡ 0xD2) × (fcs_of (0x49 ∷ 0xFF ∷ []) ≡ 0x08)
unfolding fcs_of register shifted shift_one
checks = (refl, refl, refl, refl, refl, refl)

-- ---- the product that the code makes of an address

unfoldable product : ℕ → ℕ
product s = bit_xor (bit_xor s (s / 4)) (s / 16)

unfoldable reduced : ℕ → ℕ
reduced t = bit_xor (bit_xor (bit_xor (t / 16) (16 * (t % 16))) (16 * (t % 16) / 2)) (16 * (t % 16) / 4)

-- a test of all numbers below n
abbrev below : ℕ → (ℕ → Bool) → Bool
below zero p = true
below (suc n) p = cond (p n) (below n p) false

below_at : (n : ℕ) (p : ℕ → Bool) → below n p ≡ true → (a : ℕ) → a < n → p a ≡ true
below_at zero p h a l = absurd (omega arith)
below_at (suc n) p h a l = split_b (p n)
    (λ e. split≡ a n (λ q. rw q e) (λ q. below_at n p (rw e at h) a (omega arith)))
    (λ e. no_way (rw e at h) refl)

-- for a control, and the number that stands for all but the address
abbrev right_at : ℕ → ℕ → ℕ → Bool
right_at c k a = eqb (bit_xor (reduced (product (16 * a))) k) (fcs_of (a ∷ c ∷ []))

-- all heads, by computation
all_plain : below 256 (right_at 0xEF 0xC7) ≡ true
unfolding product reduced fcs_of register shifted shift_one
all_plain = refl

all_final : below 256 (right_at 0xFF 0xDB) ≡ true
unfolding product reduced fcs_of register shifted shift_one
all_final = refl

right_sum : (c k : ℕ) → below 256 (right_at c k) ≡ true → (a : ℕ) → a < 256 → bit_xor (reduced (product (16 * a))) k ≡ fcs_of (a ∷ c ∷ [])
right_sum c k all a h = eqb-true (bit_xor (reduced (product (16 * a))) k) (fcs_of (a ∷ c ∷ [])) (below_at 256 (right_at c k) all a h)

-- a control of UIH that is not 0xFF
is_plain : (c : ℕ) → is_uih c ≡ true → (c ≡ 0xFF → ⊥) → c ≡ 0xEF
unfolding is_uih
is_plain c u q = split_b (eqb c 0xEF) (λ e. eqb-true c 0xEF e) (λ e. no_way (rw (e, ne_eqb c 0xFF q) at u) refl)

-- of an address that the code has as a number
module _ (a r : ℕ) (e : r ≡ a) (h : r < 256) where
  abbrev sum : ℕ → ℕ
  sum k =
      let t : ℕ = bit_xor (bit_xor (16 * r) (16 * r / 4)) (16 * r / 16) in
      bit_xor (bit_xor (bit_xor (bit_xor (t / 16) (16 * (t % 16))) (16 * (t % 16) / 2)) (16 * (t % 16) / 4)) k

  pub fcs_final : (c : ℕ) → c ≡ 0xFF → sum 0xDB ≡ fcs_of (a ∷ c ∷ [])
  unfolding product reduced
  fcs_final c q = rw (← e, q) (right_sum 0xFF 0xDB all_final r h)

  pub fcs_plain : (c : ℕ) → is_uih c ≡ true → (c ≡ 0xFF → ⊥) → sum 0xC7 ≡ fcs_of (a ∷ c ∷ [])
  unfolding product reduced
  fcs_plain c u q = rw (← e, is_plain c u q) (right_sum 0xEF 0xC7 all_plain r h)
