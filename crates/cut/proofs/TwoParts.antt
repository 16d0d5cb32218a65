-- Lists in two parts, and what holds of all members.
use Prim.Native.Nat.{ℕ, zero, suc, ◌+◌, ◌-◌, ◌≤◌}
use mathlib.Core.Path.{◌≡◌, refl}
use mathlib.Core.List.{List, [], ◌∷◌, ◌++◌, map, Memᴰ}
use native.Mathlib.Omega.{arith}
use lib.ListN.{length, take, drop}
use lib.Seq.{take-append-add}
use Rattle.laws.proofs.Choice.{split_b}
use Rattle.laws.specs.Lists.{All, all_nil, all_cons}
use Rattle.laws.specs.Keys.{Key, eq_k}
use Rattle.laws.specs.Keyed.{of}

-- one list is a front of the other
pub record Front {A : Type 0} (xs ys : List A) : Type 0 where
  pub back : List A
  pub whole : ys ≡ xs ++ back

pub take_past : {A : Type 0} (m : ℕ) (r x : List A) → length r ≤ m → take m (r ++ x) ≡ r ++ take (m - length r) x
take_past m r x h = let e : length r + (m - length r) ≡ m = omega arith in rw (← take-append-add r x (m - length r), e)

pub map_append : {A B : Type 0} (f : A → B) (xs ys : List A) → map f (xs ++ ys) ≡ map f xs ++ map f ys
map_append f [] ys = refl
map_append f (x ∷ xs) ys = rw (map_append f xs ys)

pub map_map : {A B C : Type 0} (g : B → C) (f : A → B) (xs : List A) → map g (map f xs) ≡ map (λ x. g (f x)) xs
map_map g f [] = refl
map_map g f (x ∷ xs) = rw (map_map g f xs)

pub of_append : {X : Type 0} (key : X → Key) (k : Key) (xs ys : List X) → of key k (xs ++ ys) ≡ of key k xs ++ of key k ys
unfolding of
of_append key k [] ys = refl
of_append key k (x ∷ xs) ys = split_b (eq_k (key x) k) (λ e. rw (e, of_append key k xs ys)) (λ e. rw (e, of_append key k xs ys))

-- ---- all members

pub all_at : {A : Type 0} {P : A → Type 0} {x : A} {xs : List A} → Memᴰ x xs → All P xs → P x
all_at (Memᴰ.head e) (all_cons p ps) = rw e p
all_at (Memᴰ.tail m) (all_cons p ps) = all_at m ps

pub all_map : {A : Type 0} {P Q : A → Type 0} → ((x : A) → P x → Q x) → {xs : List A} → All P xs → All Q xs
all_map g all_nil = all_nil
all_map g (all_cons {x = x} p ps) = all_cons (g x p) (all_map g ps)

pub all_take : {A : Type 0} {P : A → Type 0} (n : ℕ) {xs : List A} → All P xs → All P (take n xs)
all_take zero w = all_nil
all_take (suc n) all_nil = all_nil
all_take (suc n) (all_cons p w) = all_cons p (all_take n w)

pub all_drop : {A : Type 0} {P : A → Type 0} (n : ℕ) {xs : List A} → All P xs → All P (drop n xs)
all_drop zero w = w
all_drop (suc n) all_nil = all_nil
all_drop (suc n) (all_cons p w) = all_drop n w

pub all_back : {A : Type 0} {P : A → Type 0} (xs : List A) {ys : List A} → All P (xs ++ ys) → All P ys
all_back [] a = a
all_back (x ∷ xs) (all_cons p a) = all_back xs a

pub all_rest : {A : Type 0} {P : A → Type 0} {x : A} {xs : List A} → All P (x ∷ xs) → All P xs
all_rest (all_cons p a) = a
