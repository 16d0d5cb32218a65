-- The order of names is total and transitive.
use mathlib.Core.Path.{◌≡◌, refl, sym, ◌∙◌}
use mathlib.Core.Bool.{Bool, true, false, cond}
use mathlib.Core.List.{List, [], ◌∷◌}
use Prim.Native.Nat.{ℕ, ◌<◌, ◌≤◌}
use native.Mathlib.Omega.{arith}
use lib.Dec.{ltb, eqb}
use borrow.Author.Tests.{eq-eqb, ne_eqb, lt-ltb, ltb-true, ltb-false}
use Rattle.laws.proofs.Choice.{split≡, no_way}
use Rattle.counter.specs.Counter.{counter, rank}
use Rattle.lexical.specs.Bytes.{le_bytes}
use Rattle.sorting.specs.Names.{le_name}

-- by a number first, then by what t says
abbrev pub first : ℕ → ℕ → Bool → Bool
first p q t = cond (eqb p q) t (ltb p q)

first_trans : (p q r : ℕ) (s t u : Bool) → (s ≡ true → t ≡ true → u ≡ true) → first p q s ≡ true → first q r t ≡ true → first p r u ≡ true
first_trans p q r s t u f a b =
    split≡ p q
    (λ e. split≡ q r
    (λ g. rw (eq-eqb p r (e ∙ g)) (f (rw (eq-eqb p q e) at a) (rw (eq-eqb q r g) at b)))
    (λ g. let h : q < r = ltb-true q r (rw (ne_eqb q r g) at b) in rw (ne_eqb p r (λ i. omega arith)) (lt-ltb p r (omega arith))))
    (λ e. split≡ q r
    (λ g. let h : p < q = ltb-true p q (rw (ne_eqb p q e) at a) in rw (ne_eqb p r (λ i. omega arith)) (lt-ltb p r (omega arith)))
    (λ g.
    let h : p < q = ltb-true p q (rw (ne_eqb p q e) at a) in
    let i : q < r = ltb-true q r (rw (ne_eqb q r g) at b) in
    rw (ne_eqb p r (λ j. omega arith)) (lt-ltb p r (omega arith))))

first_total : (p q : ℕ) (s t : Bool) → (s ≡ false → t ≡ true) → first p q s ≡ false → first q p t ≡ true
first_total p q s t f a =
    split≡ p q
    (λ e. rw (eq-eqb q p (sym e)) (f (rw (eq-eqb p q e) at a)))
    (λ e. let h : q ≤ p = ltb-false p q (rw (ne_eqb p q e) at a) in rw (ne_eqb q p (λ i. e (sym i))) (lt-ltb q p (omega arith)))

bytes_trans : (a b c : List ℕ) → le_bytes a b ≡ true → le_bytes b c ≡ true → le_bytes a c ≡ true
unfolding le_bytes
bytes_trans [] b c p q = refl
bytes_trans (x ∷ a) [] c p q = no_way p refl
bytes_trans (x ∷ a) (y ∷ b) [] p q = no_way q refl
bytes_trans (x ∷ a) (y ∷ b) (z ∷ c) p q = first_trans x y z (le_bytes a b) (le_bytes b c) (le_bytes a c) (bytes_trans a b c) p q

bytes_total : (a b : List ℕ) → le_bytes a b ≡ false → le_bytes b a ≡ true
unfolding le_bytes
bytes_total [] b p = no_way refl p
bytes_total (x ∷ a) [] p = refl
bytes_total (x ∷ a) (y ∷ b) p = first_total x y (le_bytes a b) (le_bytes b a) (bytes_total a b) p

pub name_trans : (a b c : List ℕ) → le_name a b ≡ true → le_name b c ≡ true → le_name a c ≡ true
unfolding le_name
name_trans a b c p q = first_trans (rank (counter a)) (rank (counter b)) (rank (counter c)) (le_bytes a b) (le_bytes b c) (le_bytes a c) (bytes_trans a b c) p q

pub name_total : (a b : List ℕ) → le_name a b ≡ false → le_name b a ≡ true
unfolding le_name
name_total a b p = first_total (rank (counter a)) (rank (counter b)) (le_bytes a b) (le_bytes b a) (bytes_total a b) p
