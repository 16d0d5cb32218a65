-- Keyed machines over lists that are put together, over one key's inputs, and over the inputs of some keys.
use mathlib.Core.Path.{◌≡◌, refl, sym, ◌∙◌}
use mathlib.Core.Bool.{Bool, true, cond}
use mathlib.Core.List.{List, [], ◌∷◌, ◌++◌, append_assoc}
use Rattle.laws.proofs.Choice.{split_b, no_way}
use Rattle.laws.specs.Keys.{Key}
use Rattle.laws.proofs.Keys.{split_k, eq_eq_k, ne_eq_k}
use Rattle.laws.specs.Keyed.{Machine, of, step, run, after, after1, keep}

module _ {X Y : Type 0} (M : Machine X Y) where
  -- a front of the inputs gives a front of the outputs
  pub run_append : (m : Key → M.S) (xs ys : List X) → run M m (xs ++ ys) ≡ run M m xs ++ run M (after M m xs) ys
  unfolding run after
  run_append m [] ys = refl
  run_append m (x ∷ xs) ys = rw (run_append (step M m x) xs ys, append_assoc)

  pub after_append : (m : Key → M.S) (xs ys : List X) → after M m (xs ++ ys) ≡ after M (after M m xs) ys
  unfolding after
  after_append m [] ys = refl
  after_append m (x ∷ xs) ys = after_append (step M m x) xs ys

  -- the state of a key is that of its own machine over its own inputs
  pub after_at : (m : Key → M.S) (xs : List X) (k : Key) → after M m xs k ≡ after1 M (m k) (of M.key k xs)
  unfolding after after1 of
  after_at m [] k = refl
  after_at m (x ∷ xs) k =
      rw (after_at (step M m x) xs k)
      (split_k (M.key x) k
      (λ e. rw (e, eq_eq_k k k refl))
      (λ e. rw (ne_eq_k (M.key x) k, ne_eq_k k (M.key x) (λ q. e (sym q)))))

-- ---- some keys alone

pub keep_append : {A : Type 0} (p : A → Bool) (xs ys : List A) → keep p (xs ++ ys) ≡ keep p xs ++ keep p ys
unfolding keep
keep_append p [] ys = refl
keep_append p (x ∷ xs) ys = split_b (p x) (λ e. rw (e, keep_append p xs ys)) (λ e. rw (e, keep_append p xs ys))

-- the outputs of the keys that p picks are the run of the inputs with those keys, from any states that agree there
module _ {X Y : Type 0} (M : Machine X Y) (p : Key → Bool) (q : Y → Bool)
    (own : (s : M.S) (x : X) → keep q (M.out s x) ≡ cond (p (M.key x)) (M.out s x) []) where
  pub run_kept : (m n : Key → M.S) → ((k : Key) → p k ≡ true → m k ≡ n k) →
      (xs : List X) → keep q (run M m xs) ≡ run M n (keep (λ x. p (M.key x)) xs)
  unfolding run keep
  run_kept m n same [] = refl
  run_kept m n same (x ∷ xs) =
      keep_append q (M.out (m (M.key x)) x) (run M (step M m x) xs)
      ∙ split_b (p (M.key x))
      (λ e. rw (
        own (m (M.key x)) x,
        e,
        run_kept (step M m x) (step M n x) (λ k h. split_k k (M.key x)
            (λ z. rw (eq_eq_k k (M.key x) z, same (M.key x) e))
            (λ z. rw (ne_eq_k k (M.key x) z) (same k h))) xs,
        same (M.key x) e,
      ))
      (λ e. rw (
        own (m (M.key x)) x,
        e,
        run_kept (step M m x) n (λ k h. split_k k (M.key x)
            (λ z. no_way (rw z at h) e)
            (λ z. rw (ne_eq_k k (M.key x) z) (same k h))) xs,
      ))
