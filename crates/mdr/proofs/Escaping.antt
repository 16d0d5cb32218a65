-- Laws of specs/Escaping.
use Prim.Native.Nat.{ℕ, ◌+◌, ◌-◌, ◌≤◌}
use mathlib.Core.Path.{◌≡◌, refl, sym}
use mathlib.Core.List.{List, [], ◌∷◌, ◌++◌, append_assoc}
use mathlib.Core.Bool.{true, false}
use native.Mathlib.Omega.{arith}
use lib.ListN.{length}
use lib.Dec.{leb}
use borrow.Author.Tests.{leb-true, le-leb, ne_eqb}
use Rattle.laws.proofs.Choice.{split_b, no_way}
use Rattle.laws.specs.Lists.{All, all_nil, all_cons}
use Rattle.laws.specs.Answers.{gives}
use Rattle.mdr.specs.Escape.{within, special, escapee, escape_byte, escape, unescape}
use Rattle.mdr.specs.Escaping.{Quiet, count_in, specials}

pub all_append : {A : Type 0} {P : A → Type 0} {xs ys : List A} → All P xs → All P ys → All P (xs ++ ys)
all_append all_nil q = q
all_append (all_cons p ps) q = all_cons p (all_append ps q)

-- what a byte is, by its test
pub within_range : (lo hi b : ℕ) → within lo hi b ≡ true → (lo ≤ b) × (b ≤ hi)
unfolding within
within_range lo hi b e = split_b (leb lo b) (λ p. (leb-true lo b p, leb-true b hi (rw p at e))) (λ p. no_way (rw p at e) refl)

pub range_within : (lo hi b : ℕ) → lo ≤ b → b ≤ hi → within lo hi b ≡ true
unfolding within
range_within lo hi b p q = rw (le-leb lo b p, le-leb b hi q)

pub escapee_of : (b : ℕ) → special b ≡ true → escapee (b - 0x10) ≡ true
escapee_of b e = let r = within_range 0x3C 0x3E b e in range_within 0x2C 0x2E (b - 0x10) (omega (arith, r)) (omega (arith, r))

pub not_special : (b : ℕ) → special b ≡ false → Quiet b × (b ≡ 0x3D → ⊥)
unfolding within
not_special b e = ((λ q. no_way refl (rw q at e), λ q. no_way refl (rw q at e)), λ q. no_way refl (rw q at e))

pub escape_append : (xs ys : List ℕ) → escape (xs ++ ys) ≡ escape xs ++ escape ys
escape_append [] ys = refl
escape_append (x ∷ xs) ys = rw (escape_append xs ys) (sym (append_assoc (escape_byte x) (escape xs) (escape ys)))

-- unescaping what was escaped gives it back
pub unescape_escape : (l : List ℕ) → unescape (escape l) ≡ gives [] l
unescape_escape [] = refl
unescape_escape (b ∷ bs) =
    let ih = unescape_escape bs in
    split_b (special b)
    (λ e. let k : b - 0x10 + 0x10 ≡ b = omega (arith, within_range 0x3C 0x3E b e) in rw (e, escapee_of b e, ih, k))
    (λ e. rw (e, ne_eqb b 0x3D (not_special b e).1, ih))

pub count_most : (lo hi : ℕ) (l : List ℕ) → count_in lo hi l ≤ length l
count_most lo hi [] = omega arith
count_most lo hi (b ∷ bs) =
    let ih = count_most lo hi bs in
    split_b (within lo hi b) (λ e. rw e (omega arith)) (λ e. rw e (omega arith))

pub count_append : (lo hi : ℕ) (xs ys : List ℕ) → count_in lo hi (xs ++ ys) ≡ count_in lo hi xs + count_in lo hi ys
count_append lo hi [] ys = omega arith
count_append lo hi (x ∷ xs) ys = let ih = count_append lo hi xs ys in omega arith

pub escape_length : (l : List ℕ) → length (escape l) ≡ length l + specials l
escape_length [] = refl
escape_length (b ∷ bs) =
    let ih = escape_length bs in
    split_b (special b) (λ e. rw e (omega arith)) (λ e. rw e (omega arith))

-- no 3C and no 3E is left
pub escape_quiet : (l : List ℕ) → All Quiet (escape l)
escape_quiet [] = all_nil
escape_quiet (b ∷ bs) =
    let ih = escape_quiet bs in
    split_b (special b)
    (λ e.
    let r = within_range 0x3C 0x3E b e in
    let s : Quiet 0x3D = (λ q. omega arith, λ q. omega arith) in
    let x : Quiet (b - 0x10) = (λ q. omega arith, λ q. omega arith) in
    rw e (all_cons s (all_cons x ih)))
    (λ e. rw e (all_cons (not_special b e).0 ih))
