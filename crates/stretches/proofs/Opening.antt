-- Laws of specs/Open: a key that comes at the end of a list, and how many stretches are open.
use Prim.Native.Nat.{ℕ, suc}
use mathlib.Core.Path.{◌≡◌, refl, sym, ◌∙◌, ap}
use mathlib.Core.Logic.{◌≢◌}
use mathlib.Core.Bool.{Bool, true, false, cond, not, ◌&&◌}
use mathlib.Core.List.{List, [], ◌∷◌, ◌++◌, map, map-append}
use lib.ListN.{length}
use lib.Dec.{ltb}
use Rattle.laws.proofs.Choice.{split_b, no_way}
use Rattle.laws.specs.Keys.{Key, eq_k}
use Rattle.laws.proofs.Keys.{split_k, eq_eq_k, ne_eq_k}
use Rattle.laws.specs.Keyed.{keep}
use Rattle.laws.proofs.Keyed.{keep_append}
use Rattle.laws.specs.Count.{mem, nub, count}
use Rattle.rfcomm.specs.Pieces.{Piece}
use Rattle.spans.specs.Spans.{unfinished}
use Rattle.stretches.specs.Open.{firsts, stretch_of, open_of, held_after, open_stretches}

-- ---- a key at the end

pub mem_snoc : (k : Key) (xs : List Key) (x : Key) → mem k (xs ++ (x ∷ [])) ≡ cond (mem k xs) true (eq_k k x)
unfolding mem
mem_snoc k [] x = split_b (eq_k k x) (λ e. rw e) (λ e. rw e)
mem_snoc k (y ∷ xs) x = rw (mem_snoc k xs x) (split_b (eq_k k y) (λ e. rw e) (λ e. rw e))

pub firsts_snoc : (ks : List Key) (k : Key) → firsts (ks ++ (k ∷ [])) ≡ firsts ks ++ cond (mem k ks) [] (k ∷ [])
unfolding firsts keep mem
firsts_snoc [] k = refl
firsts_snoc (x ∷ ks) k =
    rw (firsts_snoc ks k, keep_append (λ j. not (eq_k j x)) (firsts ks) (cond (mem k ks) [] (k ∷ [])))
    (split_b (eq_k k x)
    (λ e. split_b (mem k ks) (λ m. rw (m, e)) (λ m. rw (m, e)))
    (λ e. split_b (mem k ks) (λ m. rw (m, e)) (λ m. rw (m, e))))

pub open_append : (d : ℕ) (held : Key → ℕ) (a b : List Key) → open_of d held (a ++ b) ≡ open_of d held a ++ open_of d held b
unfolding open_of
open_append d held a b =
    rw (keep_append (λ k. ltb 0 (held k)) a b)
    (map-append (λ k. stretch_of d k (held k)) (keep (λ k. ltb 0 (held k)) a) (keep (λ k. ltb 0 (held k)) b))

pub open_none : (d : ℕ) (held : Key → ℕ) → open_of d held [] ≡ []
unfolding open_of keep
open_none d held = refl

pub open_one : (d : ℕ) (held : Key → ℕ) (k : Key) → open_of d held (k ∷ []) ≡ cond (ltb 0 (held k)) (stretch_of d k (held k) ∷ []) []
unfolding open_of keep
open_one d held k = split_b (ltb 0 (held k)) (λ e. rw e) (λ e. rw e)

-- ---- how many

-- all but one key
abbrev but : (Key → Bool) → Key → Key → Bool
but p x k = p k && not (eq_k k x)

count_keep : (p q : Key → Bool) (l : List Key) → count p (keep q l) ≡ count (λ k. p k && q k) l
unfolding count keep
count_keep p q [] = refl
count_keep p q (x ∷ l) =
    let ih : count p (keep q l) ≡ count (λ k. p k && q k) l = count_keep p q l in
    split_b (q x) (λ e. split_b (p x) (λ g. rw (e, g, ih)) (λ g. rw (e, g, ih))) (λ e. split_b (p x) (λ g. rw (e, g, ih)) (λ g. rw (e, g, ih)))

-- a key that is not there
count_absent : (p : Key → Bool) (x : Key) (xs : List Key) → mem x xs ≡ false → count (but p x) (nub xs) ≡ count p (nub xs)
unfolding count nub mem
count_absent p x [] h = refl
count_absent p x (y ∷ ys) h =
    split_k x y
    (λ e. no_way {b = true} refl (rw (eq_eq_k x y e) at h))
    (λ n. let ih : count (but p x) (nub ys) ≡ count p (nub ys) = count_absent p x ys (rw (ne_eq_k x y n) at h) in
    let m : y ≢ x = λ z. n (sym z) in
    split_b (mem y ys) (λ e. rw e ih)
    (λ e. rw e (split_b (p y) (λ g. rw (g, ne_eq_k y x m, ih)) (λ g. rw (g, ih)))))

-- a key that is there counts once
count_there : (p : Key → Bool) (x : Key) (xs : List Key) → mem x xs ≡ true → cond (p x) (suc (count (but p x) (nub xs))) (count (but p x) (nub xs)) ≡ count p (nub xs)
unfolding count nub mem
count_there p x [] h = no_way h refl
count_there p x (y ∷ ys) h =
    split_b (mem y ys)
    (λ e. rw e (count_there p x ys (split_k x y (λ z. rw z e) (λ n. rw (ne_eq_k x y n) at h))))
    (λ e. split_k x y
    (λ z. let gone : mem x ys ≡ false = rw z e in
    let a : count (but p x) (nub ys) ≡ count p (nub ys) = count_absent p x ys gone in
    rw (e, ap p z) (split_b (p y) (λ g. rw (g, eq_eq_k y x (sym z), a)) (λ g. rw (g, a))))
    (λ n. let m : y ≢ x = λ z. n (sym z) in
    let ih : cond (p x) (suc (count (but p x) (nub ys))) (count (but p x) (nub ys)) ≡ count p (nub ys) = count_there p x ys (rw (ne_eq_k x y n) at h) in
    rw e (split_b (p y)
    (λ g. rw (g, ne_eq_k y x m, ← ih) (split_b (p x) (λ o. rw o) (λ o. rw o)))
    (λ g. rw (g, ← ih)))))

-- each key once, at whichever of its places
count_firsts : (p : Key → Bool) (ks : List Key) → count p (firsts ks) ≡ count p (nub ks)
unfolding count firsts nub
count_firsts p [] = refl
count_firsts p (x ∷ ks) =
    let ih : count p (keep (λ j. not (eq_k j x)) (firsts ks)) ≡ count (but p x) (nub ks) = count_keep p (λ j. not (eq_k j x)) (firsts ks) ∙ count_firsts (but p x) ks in
    rw ih (split_b (mem x ks)
    (λ e. rw e (count_there p x ks e))
    (λ e. rw (e, count_absent p x ks e)))

length_kept : (d : ℕ) (held : Key → ℕ) (ks : List Key) → length (open_of d held ks) ≡ count (λ k. ltb 0 (held k)) ks
unfolding open_of keep count
length_kept d held [] = refl
length_kept d held (k ∷ ks) =
    let ih : length (open_of d held ks) ≡ count (λ k. ltb 0 (held k)) ks = length_kept d held ks in
    split_b (ltb 0 (held k)) (λ e. rw (e, ← ih)) (λ e. rw (e, ← ih))

-- as many as `unfinished` says
pub length_open : (d : ℕ) (ps : List Piece) → length (open_stretches d ps) ≡ unfinished ps
unfolding open_stretches unfinished
length_open d ps = length_kept d (held_after ps) (firsts (map (λ p. p.key) ps)) ∙ count_firsts (λ k. ltb 0 (held_after ps k)) (map (λ p. p.key) ps)
