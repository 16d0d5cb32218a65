-- Laws of specs/Keys.
use mathlib.Core.Path.{◌≡◌, refl}
use mathlib.Core.Logic.{◌≢◌}
use mathlib.Core.Bool.{true, false}
use mathlib.Core.List.{[], ◌∷◌}
use borrow.Author.Tests.{eq-eqb, ne_eqb}
use Rattle.laws.proofs.Choice.{split_b, split≡, no_way}
use Rattle.laws.specs.Keys.{Key, eq_k}

pub eq_k_true : (a b : Key) → eq_k a b ≡ true → a ≡ b
unfolding eq_k
eq_k_true [] [] e = refl
eq_k_true [] (y ∷ ys) e = no_way e refl
eq_k_true (x ∷ xs) [] e = no_way e refl
eq_k_true (x ∷ xs) (y ∷ ys) e =
    split≡ x y
    (λ p. let q : xs ≡ ys = eq_k_true xs ys (rw (eq-eqb x y) at e) in cc)
    (λ p. no_way (rw (ne_eqb x y) at e) refl)

eq_k_refl : (a : Key) → eq_k a a ≡ true
unfolding eq_k
eq_k_refl [] = refl
eq_k_refl (x ∷ xs) = rw (eq-eqb x x refl, eq_k_refl xs)

pub eq_eq_k : (a b : Key) → a ≡ b → eq_k a b ≡ true
eq_eq_k a b e = rw e (eq_k_refl b)

pub ne_eq_k : (a b : Key) → a ≢ b → eq_k a b ≡ false
ne_eq_k a b n = split_b (eq_k a b) (λ e. absurd (n (eq_k_true a b e))) (λ e. e)

pub split_k : {G : Type 0} (a b : Key) → (a ≡ b → G) → (a ≢ b → G) → G
split_k a b f g = split_b (eq_k a b) (λ e. f (eq_k_true a b e)) (λ e. g (λ q. no_way (eq_eq_k a b q) e))
