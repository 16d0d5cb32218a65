-- Laws of specs/Totals: sums over the different keys of a list, and the outputs of keyed machines added up key by key.
use Prim.Native.Nat.{ℕ, suc, ◌+◌}
use mathlib.Core.Path.{◌≡◌, refl, sym, ap, ◌∙◌}
use mathlib.Core.Logic.{◌≢◌}
use mathlib.Core.Bool.{true, cond}
use mathlib.Core.List.{List, [], ◌∷◌, ◌++◌, map}
use native.Mathlib.Omega.{arith}
use native.Mathlib.Nat.{zero-add}
use Rattle.laws.proofs.Choice.{split_b}
use Rattle.laws.specs.Lists.{All, all_nil, all_cons}
use Rattle.laws.specs.Keys.{Key}
use Rattle.laws.proofs.Keys.{split_k, eq_eq_k, ne_eq_k}
use Rattle.laws.specs.Keyed.{Machine, of, step, run, run1}
use Rattle.laws.specs.Count.{mem, nub, count}
use Rattle.laws.specs.Totals.{total, hits, Among}

pub total_append : {A : Type 0} (f : A → ℕ) (xs ys : List A) → total f (xs ++ ys) ≡ total f xs + total f ys
unfolding total
total_append f [] ys = omega arith
total_append f (x ∷ xs) ys = rw (total_append f xs ys) (omega arith)

pub total_map : {A B : Type 0} (f : B → ℕ) (g : A → B) (xs : List A) → total f (map g xs) ≡ total (λ x. f (g x)) xs
unfolding total
total_map f g [] = refl
total_map f g (x ∷ xs) = rw (total_map f g xs)

pub total_same : {A : Type 0} (f g : A → ℕ) → ((x : A) → f x ≡ g x) → (xs : List A) → total f xs ≡ total g xs
unfolding total
total_same f g h [] = refl
total_same f g h (x ∷ xs) = rw (h x, total_same f g h xs)

-- ---- how often a key stands in a list

-- once, if the list is that of different keys
hits_nub : (k : Key) (xs : List Key) → hits k (nub xs) ≡ cond (mem k xs) 1 0
unfolding count nub mem
hits_nub k [] = refl
hits_nub k (x ∷ xs) =
    split_b (mem x xs)
    (λ h. split_k k x
    (λ e. rw (h, hits_nub k xs, eq_eq_k k x e) (rw (e, h)))
    (λ e. rw (h, hits_nub k xs, ne_eq_k k x e)))
    (λ h. split_k k x
    (λ e. rw (h, eq_eq_k k x e) (ap suc (hits_nub k xs ∙ rw (e, h))))
    (λ e. rw (h, ne_eq_k k x e) (hits_nub k xs)))

-- ---- a sum over keys, of which one changes

module _ (k : Key) (f g : Key → ℕ) (same : (j : Key) → j ≢ k → f j ≡ g j) where
  sum_off : (ks : List Key) → hits k ks ≡ 0 → total f ks ≡ total g ks
  unfolding total count
  sum_off [] h = refl
  sum_off (j ∷ ks) h =
      split_k k j
      (λ e. absurd (let z : suc (hits k ks) ≡ 0 = rw (eq_eq_k k j e) at h in omega arith))
      (λ e. rw (same j (λ q. e (sym q)), sum_off ks (rw (ne_eq_k k j e) at h)))

  pub sum_one : (a b : ℕ) → a + f k ≡ b + g k → (ks : List Key) → hits k ks ≡ 1 → a + total f ks ≡ b + total g ks
  unfolding total count
  sum_one a b q [] h = absurd (omega arith)
  sum_one a b q (j ∷ ks) h =
      split_k k j
      (λ e.
      let z : suc (hits k ks) ≡ 1 = rw (eq_eq_k k j e) at h in
      let o : total f ks ≡ total g ks = sum_off ks (omega arith) in
      rw (← e, o) (omega arith))
      (λ e.
      let z : a + total f ks ≡ b + total g ks = sum_one a b q ks (rw (ne_eq_k k j e) at h) in
      rw (same j (λ p. e (sym p))) (omega arith))

  sum_more : (a : ℕ) → a + f k ≡ g k → (ks : List Key) → hits k ks ≡ 1 → a + total f ks ≡ total g ks
  sum_more a q ks h = sum_one a 0 (omega arith) ks h ∙ zero-add (total g ks)

-- ---- the keys of a list, each once

module _ {X : Type 0} (key : X → Key) where
  members : (xs : List X) (zs : List Key) → ((k : Key) → mem k (map key xs) ≡ true → mem k zs ≡ true) → All (λ x. mem (key x) zs ≡ true) xs
  unfolding mem
  members [] zs h = all_nil
  members (x ∷ xs) zs h =
      all_cons (h (key x) (rw (eq_eq_k (key x) (key x) refl)))
      (members xs zs (λ k q. h k (split_k k (key x) (λ e. rw (eq_eq_k k (key x) e)) (λ e. rw (ne_eq_k k (key x) e) q))))

  once_each : (zs : List Key) {xs : List X} → All (λ x. mem (key x) zs ≡ true) xs → All (Among key (nub zs)) xs
  once_each zs all_nil = all_nil
  once_each zs (all_cons {x = x} p ps) = all_cons (record { once = hits_nub (key x) zs ∙ rw p }) (once_each zs ps)

  pub among_nub : (xs : List X) → All (Among key (nub (map key xs))) xs
  among_nub xs = once_each (map key xs) (members xs (map key xs) (λ k h. h))

nothing : {A Y : Type 0} (w : Y → ℕ) (xs : List A) → total w [] ≡ total (λ x. total w []) xs
unfolding total
nothing w [] = refl
nothing w (x ∷ xs) = rw (← nothing w xs)

-- ---- the outputs of a machine, added up key by key

module _ {X Y : Type 0} (M : Machine X Y) where
  pub total_run : (w : Y → ℕ) (ks : List Key) (m : Key → M.S) {xs : List X} → All (Among M.key ks) xs → total w (run M m xs) ≡ total (λ k. total w (run1 M (m k) (of M.key k xs))) ks
  unfolding run run1 of
  total_run w ks m all_nil = nothing w ks
  total_run w ks m (all_cons {x = x} {xs = xs} a others) =
      let ih : total w (run M (step M m x) xs) ≡ total (λ j. total w (run1 M (step M m x j) (of M.key j xs))) ks = total_run w ks (step M m x) others in
      total_append w (M.out (m (M.key x)) x) (run M (step M m x) xs) ∙ rw ih
      (sum_more (M.key x)
      (λ j. total w (run1 M (step M m x j) (of M.key j xs)))
      (λ j. total w (run1 M (m j) (of M.key j (x ∷ xs))))
      (λ j n. rw (ne_eq_k j (M.key x) n, ne_eq_k (M.key x) j (λ q. n (sym q))))
      (total w (M.out (m (M.key x)) x))
      (rw (eq_eq_k (M.key x) (M.key x) refl) (sym (total_append w (M.out (m (M.key x)) x) (run1 M (M.next (m (M.key x)) x) (of M.key (M.key x) xs)))))
      ks a.once)
