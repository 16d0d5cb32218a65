-- Counting over lists of different keys.
use Prim.Native.Nat.{suc}
use mathlib.Core.Path.{◌≡◌, refl, sym, ap, ◌∙◌}
use mathlib.Core.Logic.{◌≢◌}
use mathlib.Core.Bool.{Bool, true, false, cond}
use mathlib.Core.List.{List, [], ◌∷◌, map}
use Rattle.laws.proofs.Choice.{split_b, no_way}
use Rattle.laws.specs.Keys.{Key, eq_k}
use Rattle.laws.proofs.Keys.{split_k, eq_eq_k, ne_eq_k}
use Rattle.laws.specs.Count.{mem, nub, count}
use Rattle.laws.specs.Totals.{hits}

-- no key twice
pub data Once : List Key → Type 0 where
  once_nil : Once []
  once_cons : {x : Key} {xs : List Key} → mem x xs ≡ false → Once xs → Once (x ∷ xs)

pub mem_head : (x : Key) (xs : List Key) → mem x (x ∷ xs) ≡ true
unfolding mem
mem_head x xs = rw (eq_eq_k x x refl)

pub mem_tail : (k x : Key) (xs : List Key) → mem k xs ≡ true → mem k (x ∷ xs) ≡ true
unfolding mem
mem_tail k x xs h = split_k k x (λ e. rw (eq_eq_k k x)) (λ e. rw (ne_eq_k k x, h))

pub mem_not : (k x : Key) (xs : List Key) → k ≢ x → mem k (x ∷ xs) ≡ mem k xs
unfolding mem
mem_not k x xs e = rw (ne_eq_k k x)

pub once_hits : (k : Key) {ks : List Key} → Once ks → hits k ks ≡ cond (mem k ks) 1 0
unfolding count mem
once_hits k once_nil = refl
once_hits k (once_cons {x = x} {xs = xs} n o) =
    split_k k x
    (λ e. let z : hits k xs ≡ 0 = once_hits k o ∙ rw (e, n) in rw (eq_eq_k k x e, z))
    (λ e. rw (ne_eq_k k x e) (once_hits k o))

-- a list less the first place of x
without : Key → List Key → List Key
without x [] = []
without x (y ∷ ys) = cond (eq_k x y) ys (y ∷ without x ys)

without_mem : (x k : Key) (ys : List Key) → k ≢ x → mem k (without x ys) ≡ mem k ys
unfolding without mem
without_mem x k [] n = refl
without_mem x k (y ∷ ys) n =
    split_k x y
    (λ e. rw (eq_eq_k x y, ne_eq_k k y (λ q. n (q ∙ sym e))))
    (λ e. rw (ne_eq_k x y, without_mem x k ys n))

without_none : (x : Key) {ys : List Key} → Once ys → mem x (without x ys) ≡ false
unfolding without mem
without_none x once_nil = refl
without_none x (once_cons {x = y} {xs = ys} h o) =
    split_k x y
    (λ e. rw (eq_eq_k x y) (rw e h))
    (λ e. rw (ne_eq_k x y) (rw (ne_eq_k x y) (without_none x o)))

without_once : (x : Key) {ys : List Key} → Once ys → Once (without x ys)
unfolding without
without_once x once_nil = once_nil
without_once x (once_cons {x = y} {xs = ys} h o) =
    split_k x y
    (λ e. rw (eq_eq_k x y) o)
    (λ e. rw (ne_eq_k x y) (once_cons {x = y} {xs = without x ys} (rw (without_mem x y ys (λ q. e (sym q))) h) (without_once x o)))

without_count : (p : Key → Bool) (x : Key) (ys : List Key) → p x ≡ true → mem x ys ≡ true → count p ys ≡ suc (count p (without x ys))
unfolding without count mem
without_count p x [] px h = no_way h refl
without_count p x (y ∷ ys) px h =
    split_k x y
    (λ e. let py : p y ≡ true = rw e at px in rw (eq_eq_k x y, py))
    (λ e. rw (ne_eq_k x y)
    (split_b (p y)
    (λ py. rw (py, without_count p x ys px (rw (ne_eq_k x y) at h)))
    (λ py. rw (py, without_count p x ys px (rw (ne_eq_k x y) at h)))))

none_count : (p : Key → Bool) (ys : List Key) → ((k : Key) → p k ≡ true → mem k ys ≡ false) → count p ys ≡ 0
unfolding count
none_count p [] h = refl
none_count p (y ∷ ys) h =
    split_b (p y)
    (λ py. no_way (mem_head y ys) (h y py))
    (λ py. rw (py, none_count p ys (λ k pk. split_b (mem k ys) (λ m. no_way (mem_tail k y ys m) (h k pk)) (λ m. m))))

-- two lists of different keys that hold the same keys with p count the same
pub count_same : (p : Key → Bool) {xs ys : List Key} → Once xs → Once ys → ((k : Key) → p k ≡ true → mem k xs ≡ mem k ys) → count p xs ≡ count p ys
unfolding count mem
count_same p {ys = ys} once_nil o same = rw (none_count p ys (λ k pk. sym (same k pk)))
count_same p {ys = ys} (once_cons {x = x} {xs = xs} h os) o same =
    split_b (p x)
    (λ px. rw (px, without_count p x ys px (sym (same x px) ∙ mem_head x xs))
    (ap suc (count_same p os (without_once x o) (λ k pk. split_k k x (λ e. rw e (h ∙ sym (without_none x o))) (λ e. sym (mem_not k x xs e) ∙ same k pk ∙ sym (without_mem x k ys e))))))
    (λ px. rw px (count_same p os o (λ k pk. split_k k x (λ e. no_way pk (rw e px)) (λ e. sym (mem_not k x xs e) ∙ same k pk))))

pub mem_nub : (k : Key) (xs : List Key) → mem k (nub xs) ≡ mem k xs
unfolding mem nub
mem_nub k [] = refl
mem_nub k (x ∷ xs) =
    split_b (mem x xs)
    (λ h. rw h (split_k k x (λ e. rw (eq_eq_k k x e, mem_nub k xs, e) h) (λ e. rw (ne_eq_k k x e) (mem_nub k xs))))
    (λ h. rw h (rw (mem_nub k xs)))

pub once_nub : (xs : List Key) → Once (nub xs)
unfolding nub
once_nub [] = once_nil
once_nub (x ∷ xs) =
    split_b (mem x xs)
    (λ h. rw h (once_nub xs))
    (λ h. rw h (once_cons {x = x} {xs = nub xs} (mem_nub x xs ∙ h) (once_nub xs)))

mem_respell : {A : Type 0} (f g : A → Key) → ((x y : A) → eq_k (f x) (f y) ≡ eq_k (g x) (g y)) → (x : A) (xs : List A) → mem (f x) (map f xs) ≡ mem (g x) (map g xs)
unfolding mem
mem_respell f g inj x [] = refl
mem_respell f g inj x (y ∷ ys) = rw (inj x y, mem_respell f g inj x ys)

-- another spelling of the keys counts the same
pub count_respell :
    {A : Type 0} (f g : A → Key) → ((x y : A) → eq_k (f x) (f y) ≡ eq_k (g x) (g y)) → (p q : Key → Bool) → ((x : A) → p (f x) ≡ q (g x)) →
    (xs : List A) → count p (nub (map f xs)) ≡ count q (nub (map g xs))
unfolding count nub
count_respell f g inj p q h [] = refl
count_respell f g inj p q h (x ∷ xs) =
    rw (mem_respell f g inj x xs)
    (split_b (mem (g x) (map g xs))
    (λ m. rw m (count_respell f g inj p q h xs))
    (λ m. rw (m, h x, count_respell f g inj p q h xs)))
