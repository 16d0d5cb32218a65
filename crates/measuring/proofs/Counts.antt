-- The sum over the different keys of a list, when a key comes at its end and the number of that key alone may change.
use Prim.Native.Nat.{ℕ, ◌+◌, ◌<◌, ◌≤◌}
use mathlib.Core.Path.{◌≡◌, refl, sym, ◌∙◌}
use mir.Val.{bool_byte}
use lib.Dec.{ltb}
use mathlib.Core.Logic.{◌≢◌}
use mathlib.Core.Bool.{Bool, true, false, cond}
use mathlib.Core.List.{List, [], ◌∷◌, ◌++◌}
use native.Mathlib.Omega.{arith}
use borrow.Author.Tests.{lt-ltb, le-ltb}
use Rattle.laws.proofs.Choice.{split_b, split≤, no_way}
use Rattle.laws.specs.Keys.{Key, eq_k}
use Rattle.laws.proofs.Keys.{split_k, eq_eq_k, ne_eq_k}
use Rattle.laws.specs.Count.{mem, nub, count}
use Rattle.laws.specs.Totals.{total}
use Rattle.measuring.specs.Counting.{sign}

-- a count is a sum of ones
pub count_total : (p : Key → Bool) (ks : List Key) → count p ks ≡ total (λ k. cond (p k) 1 0) ks
unfolding count total
count_total p [] = refl
count_total p (k ∷ ks) = split_b (p k) (λ e. rw (e, count_total p ks) (omega arith)) (λ e. rw (e, count_total p ks) (omega arith))

-- whether something is held, as a number
pub sign_from : (n x : ℕ) → x ≡ bool_byte (ltb 0 n) → x ≡ sign n
unfolding sign
sign_from n x e = e ∙ split_b (ltb 0 n) (λ b. rw b) (λ b. rw b)

mem_own : (k : Key) (xs : List Key) → mem k (xs ++ (k ∷ [])) ≡ true
unfolding mem
mem_own k [] = rw (eq_eq_k k k refl)
mem_own k (x ∷ xs) = rw (mem_own k xs) (split_b (eq_k k x) (λ e. rw e) (λ e. rw e))

mem_other : (k j : Key) (xs : List Key) → j ≢ k → mem j (xs ++ (k ∷ [])) ≡ mem j xs
unfolding mem
mem_other k j [] n = rw (ne_eq_k j k n)
mem_other k j (x ∷ xs) n = rw (mem_other k j xs n)

module _ (p q : Key → ℕ) (k : Key) (same : (j : Key) → j ≢ k → p j ≡ q j) where
  -- a key that is new
  fresh : (xs : List Key) → mem k xs ≡ false → total q (nub (xs ++ (k ∷ []))) ≡ total p (nub xs) + q k
  unfolding mem nub total
  fresh [] h = omega arith
  fresh (x ∷ xs) h =
      split_k k x
      (λ e. no_way {b = true} refl (rw (eq_eq_k k x e) at h))
      (λ e. let n : x ≢ k = λ z. e (sym z) in
      let ih : total q (nub (xs ++ (k ∷ []))) ≡ total p (nub xs) + q k = fresh xs (rw (ne_eq_k k x e) at h) in
      split_b (mem x xs)
      (λ m. rw (mem_other k x xs n, m) ih)
      (λ m. rw (mem_other k x xs n, m, same x n, ih) (omega arith)))

  pub again : (xs : List Key) → (mem k xs ≡ false → p k ≡ 0) → total q (nub (xs ++ (k ∷ []))) + p k ≡ total p (nub xs) + q k
  unfolding mem nub total
  again [] n = omega (arith, n refl)
  again (x ∷ xs) n =
      split_k k x
      (λ e. split_b (mem k xs)
      (λ m. rw (← e, mem_own k xs, m) (again xs (λ z. no_way m z)))
      (λ m. rw (← e, mem_own k xs, m, fresh xs m) (omega arith)))
      (λ e. let z : x ≢ k = λ y. e (sym y) in
      let ih : total q (nub (xs ++ (k ∷ []))) + p k ≡ total p (nub xs) + q k = again xs (λ m. n (rw (ne_eq_k k x e) m)) in
      split_b (mem x xs)
      (λ m. rw (mem_other k x xs z, m) ih)
      (λ m. rw (mem_other k x xs z, m, same x z) (omega (arith, ih))))

-- ---- 1 if something is held

pub sign_zero : (n : ℕ) → n ≤ 0 → 0 ≡ sign n
unfolding sign
sign_zero n h = rw (le-ltb 0 n h)

pub sign_one : (n : ℕ) → 0 < n → 1 ≡ sign n
unfolding sign
sign_one n h = rw (lt-ltb 0 n h)

pub sign_le : (n : ℕ) → sign n ≤ 1
sign_le n = split≤ n 0 (λ h. omega (arith, sign_zero n h)) (λ h. omega (arith, sign_one n h))
