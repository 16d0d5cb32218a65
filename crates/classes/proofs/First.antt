-- Laws of specs/First.
use mathlib.Core.Path.{◌≡◌, refl, sym, ap, ◌∙◌}
use mathlib.Core.Bool.{Bool, true, false}
use Prim.Native.Nat.{ℕ, zero, suc, ◌+◌, ◌<◌, ◌≤◌}
use native.Mathlib.Omega.{arith}
use Rattle.laws.proofs.Choice.{split_b, split≡, split≤, no_way}
use Rattle.laws.specs.Keys.{Key, eq_k}
use Rattle.laws.proofs.Keys.{eq_k_true, eq_eq_k, ne_eq_k}
use Rattle.classes.specs.First.{first_from, class_of}

module _ (t : ℕ → Bool) where
  pub first_is : (i m j : ℕ) → i ≤ j → j < i + m → t j ≡ true → ((k : ℕ) → i ≤ k → k < j → t k ≡ false) → first_from t i m ≡ j
  unfolding first_from
  first_is i zero j lo hi e h = absurd (omega arith)
  first_is i (suc m) j lo hi e h = split≡ i j
      (λ q. rw (q, e))
      (λ q. let l : i < j = later q in rw (h i (omega arith) l) (first_is (suc i) m j (omega arith) (omega arith) e (λ k a b. h k (omega arith) b))) where
        later : (i ≡ j → ⊥) → i < j
        later q = split≤ j i (λ g. absurd (q (omega arith))) (λ g. g)

  pub first_holds : (i m j : ℕ) → i ≤ j → j < i + m → t j ≡ true → t (first_from t i m) ≡ true
  unfolding first_from
  first_holds i zero j lo hi e = absurd (omega arith)
  first_holds i (suc m) j lo hi e = split_b (t i)
      (λ q. rw (q, q))
      (λ q. rw q (first_holds (suc i) m j (later q) (omega arith) e)) where
        later : t i ≡ false → suc i ≤ j
        later q = split≡ i j (λ g. no_way (rw (← g) at e) q) (λ g. omega arith)

  pub first_most : (i m j : ℕ) → i ≤ j → j < i + m → t j ≡ true → first_from t i m ≤ j
  unfolding first_from
  first_most i zero j lo hi e = absurd (omega arith)
  first_most i (suc m) j lo hi e = split_b (t i)
      (λ q. rw q lo)
      (λ q. rw q (first_most (suc i) m j (later q) (omega arith) e)) where
        later : t i ≡ false → suc i ≤ j
        later q = split≡ i j (λ g. no_way (rw (← g) at e) q) (λ g. omega arith)

module _ (κ : ℕ → Key) (n : ℕ) where
  pub class_key : (i : ℕ) → i < n → κ (class_of κ n (κ i)) ≡ κ i
  unfolding class_of
  class_key i l = eq_k_true _ _ (first_holds (λ j. eq_k (κ j) (κ i)) 0 n i (omega arith) (omega arith) (eq_eq_k (κ i) (κ i) refl))

  pub class_most : (i : ℕ) → i < n → class_of κ n (κ i) ≤ i
  unfolding class_of
  class_most i l = first_most (λ j. eq_k (κ j) (κ i)) 0 n i (omega arith) (omega arith) (eq_eq_k (κ i) (κ i) refl)

  pub class_new : (i : ℕ) → i < n → ((j : ℕ) → j < i → κ j ≡ κ i → ⊥) → class_of κ n (κ i) ≡ i
  unfolding class_of
  class_new i l h = first_is (λ j. eq_k (κ j) (κ i)) 0 n i (omega arith) (omega arith) (eq_eq_k (κ i) (κ i) refl) (λ k a b. ne_eq_k (κ k) (κ i) (h k b))

  -- rows are in one class just if they have the same key
  pub class_same : (i j : ℕ) → i < n → j < n → class_of κ n (κ i) ≡ class_of κ n (κ j) → κ i ≡ κ j
  class_same i j a b e = sym (class_key i a) ∙ ap κ e ∙ class_key j b
