-- Parts that tell their own size: the first part, and the parts of what is left.
use Prim.Native.Nat.{ℕ, zero, suc, pred, ◌<◌}
use mathlib.Core.Path.{◌≡◌, refl}
use mathlib.Core.Bool.{Bool, false, cond}
use mathlib.Core.List.{List, [], ◌∷◌}
use native.Mathlib.Omega.{arith}
use lib.ListN.{take, drop}
use Rattle.laws.specs.Chop.{chop_from, chop}

module _ (whole : List ℕ → Bool) (size : List ℕ → ℕ) where
  passed : (s : ℕ) (b : List ℕ) → chop_from whole size s b ≡ chop_from whole size 0 (drop s b)
  unfolding chop_from
  passed zero [] = refl
  passed zero (x ∷ xs) = refl
  passed (suc s) [] = refl
  passed (suc s) (x ∷ xs) = passed s xs

  drop_pred : (n x : ℕ) (xs : List ℕ) → 0 < n → drop (pred n) xs ≡ drop n (x ∷ xs)
  drop_pred zero x xs h = absurd (omega arith)
  drop_pred (suc n) x xs h = refl

  -- the next part, and the parts of what is left
  pub chop_eq : (whole [] ≡ false) → ((b : List ℕ) → 0 < size b) → (b : List ℕ) → chop whole size b ≡ cond (whole b) (take (size b) b ∷ chop whole size (drop (size b) b)) []
  unfolding chop chop_from
  chop_eq e p [] = rw e
  chop_eq e p (x ∷ xs) = rw (passed (pred (size (x ∷ xs))) xs, drop_pred (size (x ∷ xs)) x xs (p (x ∷ xs)))
