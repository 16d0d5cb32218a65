-- A stretch that is read from words, and one place of a list after another filled.
use Prim.Native.Nat.{ℕ, zero, suc, ◌+◌, ◌*◌, ◌/◌, ◌<◌, ◌≤◌}
use mathlib.Core.Path.{◌≡◌, refl, ap, ◌∙◌}
use mathlib.Core.List.{List, [], ◌∷◌, ◌++◌}
use native.Mathlib.Nat.{le_of_suc-le-suc, not-suc-le-zero}
use native.Mathlib.Omega.{arith}
use lib.Seq.{length-take-le}
use lib.ListN.{length, set, take, drop, length-append}
use borrow.Author.Tests.{lt-ltb, le-ltb}
use Rattle.words.specs.Words.{word}
use Rattle.stretches.specs.Filled.{stretch_at, filled_by, filled, stretches_to}
use Rattle.stretches.specs.declared.Stretch.{Stretch}

module _ (w : List ℕ) (i : ℕ) where
  pub stretch_there :
      i < length w / 24 → (a b c d e f : ℕ) → a ≡ word w (6 * i) → b ≡ word w (6 * i + 1) → c ≡ word w (6 * i + 2) → d ≡ word w (6 * i + 3) → e ≡ word w (6 * i + 4) → f ≡ word w (6 * i + 5) →
      record { way = a; cid = b; dlci = c; sessions = d; links = e; held = f } ≡ stretch_at w i
  unfolding stretch_at
  stretch_there h a b c d e f pa pb pc pd pe pf = rw (lt-ltb i (length w / 24) h, pa, pb, pc, pd, pe, pf)

  pub stretch_none :
      length w / 24 ≤ i → (a b c d e f : ℕ) → a ≡ 0 → b ≡ 0 → c ≡ 0 → d ≡ 0 → e ≡ 0 → f ≡ 0 →
      record { way = a; cid = b; dlci = c; sessions = d; links = e; held = f } ≡ stretch_at w i
  unfolding stretch_at
  stretch_none h a b c d e f pa pb pc pd pe pf = rw (le-ltb i (length w / 24) h, pa, pb, pc, pd, pe, pf)

pub length_filled : (f : ℕ → Stretch) (n : ℕ) (xs : List Stretch) → length (filled_by f n xs) ≡ length xs
length_filled f zero xs = refl
length_filled f (suc n) [] = refl
length_filled f (suc n) (x ∷ xs) = ap suc (length_filled (λ j. f (suc j)) n xs)

-- one place more
pub filled_more : (f : ℕ → Stretch) (i : ℕ) (xs : List Stretch) → i < length xs → set (filled_by f i xs) i (f i) ≡ filled_by f (suc i) xs
filled_more f i [] h = absurd (not-suc-le-zero h)
filled_more f zero (x ∷ xs) h = refl
filled_more f (suc i) (x ∷ xs) h = ap (λ (l : List Stretch). f 0 ∷ l) (filled_more (λ j. f (suc j)) i xs (le_of_suc-le-suc h))

-- the first n places of a list, filled by themselves
filled_front : (f : ℕ → Stretch) (n : ℕ) (xs : List Stretch) → filled_by f n (take n xs) ++ drop n xs ≡ filled_by f n xs
filled_front f zero xs = refl
filled_front f (suc n) [] = refl
filled_front f (suc n) (x ∷ xs) = ap (λ (l : List Stretch). f 0 ∷ l) (filled_front (λ j. f (suc j)) n xs)

pub filled_whole :
    (w : List ℕ) (n : ℕ) (xs : List Stretch) → n ≤ length xs → (i : ℕ) → i ≤ length (take n xs) → length (take n xs) ≤ i →
    (l : List Stretch) → l ≡ filled w i (take n xs) → l ++ drop n xs ≡ filled w n xs
filled_whole w n xs h i a b l e =
    let k : i ≡ n = omega (arith, length-take-le n xs h) in
    rw (e, k) (filled_front (stretch_at w) n xs)

-- ---- the places filled are the stretches in words, and those past them stay

list_by : (ℕ → Stretch) → ℕ → List Stretch
list_by f zero = []
list_by f (suc n) = list_by f n ++ (f n ∷ [])

list_cons : (f : ℕ → Stretch) (n : ℕ) → list_by f (suc n) ≡ f 0 ∷ list_by (λ j. f (suc j)) n
unfolding list_by
list_cons f zero = refl
list_cons f (suc n) = ap (λ (l : List Stretch). l ++ (f (suc n) ∷ [])) (list_cons f n)

filled_by_law : (f : ℕ → Stretch) (n : ℕ) (xs : List Stretch) → n ≤ length xs → filled_by f n xs ≡ list_by f n ++ drop n xs
unfolding list_by
filled_by_law f zero xs h = refl
filled_by_law f (suc n) [] h = absurd (not-suc-le-zero h)
filled_by_law f (suc n) (x ∷ xs) h = rw (list_cons f n) (ap (λ (l : List Stretch). f 0 ∷ l) (filled_by_law (λ j. f (suc j)) n xs (le_of_suc-le-suc h)))

list_to : (w : List ℕ) (n : ℕ) → list_by (stretch_at w) n ≡ stretches_to w n
unfolding list_by stretches_to
list_to w zero = refl
list_to w (suc n) = rw (list_to w n)

pub filled_is : (w : List ℕ) (n : ℕ) (xs : List Stretch) → n ≤ length xs → filled w n xs ≡ stretches_to w n ++ drop n xs
filled_is w n xs h = filled_by_law (stretch_at w) n xs h ∙ rw (list_to w n)

pub length_to : (w : List ℕ) (n : ℕ) → length (stretches_to w n) ≡ n
unfolding stretches_to
length_to w zero = refl
length_to w (suc n) = length-append (stretches_to w n) (stretch_at w n ∷ []) ∙ omega (arith, length_to w n)
