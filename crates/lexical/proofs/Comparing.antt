-- Laws of comparing byte strings.
use Rattle.std.specs.Ordering.{is_le, nat_cmp}
use Rattle.std.specs.Cmp.Lexicographic.{slice_cmp}
use Rattle.std.proofs.lemmas.List.{take_rest}
use mathlib.Core.Path.{◌≡◌, refl, ◌∙◌}
use mathlib.Core.Logic.{◌≢◌}
use mathlib.Core.List.{List, [], ◌∷◌}
use Prim.Native.Nat.{ℕ, ◌+◌, ◌-◌, ◌<◌, ◌≤◌}
use native.Mathlib.Omega.{arith}
use mathlib.Core.Bool.{Bool}
use lib.Dec.{ltb}
use lib.ListN.{length, get_or, take, drop}
use borrow.Author.Tests.{eq-eqb, ne_eqb, lt-ltb, le-ltb}
use Rattle.laws.proofs.Choice.{split≡, split≤}
use Rattle.laws.proofs.Lists.{drop_step}
use Rattle.laws.specs.Numbers.{be32, be64}
use Rattle.lexical.specs.Bytes.{le_bytes}

-- ---- byte by byte

-- the order of slices
pub le_is : (a b : List ℕ) → is_le (slice_cmp nat_cmp a b) ≡ le_bytes a b
unfolding le_bytes
le_is [] [] = refl
le_is [] (y ∷ b) = refl
le_is (x ∷ a) [] = refl
le_is (x ∷ a) (y ∷ b) =
    split≡ x y
    (λ e. rw (eq-eqb x y e, le-ltb x y (omega arith), le_is a b))
    (λ n. split≤ y x
    (λ h. rw (ne_eqb x y n, le-ltb x y h))
    (λ h. rw (ne_eqb x y n, lt-ltb x y h)))

-- the first i bytes of two lists decide nothing
pub record Comparing (a b : List ℕ) (i : ℕ) : Type 0 where
  pub left : i ≤ length a
  pub right : i ≤ length b
  pub same : le_bytes (drop i a) (drop i b) ≡ le_bytes a b

module _ (a b : List ℕ) (i : ℕ) (c : Comparing a b i) where
  compare_turn : i < length a → i < length b → get_or a i 0 ≡ get_or b i 0 → Comparing a b (i + 1)
  unfolding le_bytes
  compare_turn h k e = record { left = omega arith; right = omega arith; same = (rw (drop_step a i h, drop_step b i k, eq-eqb (get_or a i 0) (get_or b i 0) e) at c.same) }

  compare_found : i < length a → i < length b → get_or a i 0 ≢ get_or b i 0 → ltb (get_or a i 0) (get_or b i 0) ≡ le_bytes a b
  unfolding le_bytes
  compare_found h k n = rw (drop_step a i h, drop_step b i k, ne_eqb (get_or a i 0) (get_or b i 0) n) at c.same

  -- what is left decides
  pub compare_rest : (r : Bool) → r ≡ le_bytes (take (length a - i) (drop i a)) (take (length b - i) (drop i b)) → r ≡ le_bytes a b
  compare_rest r e = e ∙ rw (take_rest a i, take_rest b i) c.same

-- ---- eight bytes at once, as numbers with the highest byte first

-- where two numbers differ, so do two others, and in the same order
decides : (p q x y : ℕ) → x ≢ y → (x < y → p < q) → (y < x → q < p) → ltb p q ≡ ltb x y
decides p q x y n f g =
    split≤ y x
    (λ h. let k : q < p = g (omega arith) in rw (le-ltb x y h) (le-ltb p q (omega arith)))
    (λ h. rw (lt-ltb x y h) (lt-ltb p q (f h)))

module _ (a b : List ℕ) (bytes : (k : ℕ) → get_or a k 0 < 256) (bytes' : (k : ℕ) → get_or b k 0 < 256) where
  module _ (i : ℕ) (c : Comparing a b i) (h : i + 4 ≤ length a) (k : i + 4 ≤ length b) where
    -- the first byte of four that differs
    four : {G : Type 0} → (be32 a i ≡ be32 b i → Comparing a b (i + 4) → G) → (be32 a i ≢ be32 b i → ltb (be32 a i) (be32 b i) ≡ le_bytes a b → G) → G
    unfolding be32
    four same other =
        let a0 = bytes i in
        let a1 = bytes (i + 1) in
        let a2 = bytes (i + 2) in
        let a3 = bytes (i + 3) in
        let b0 = bytes' i in
        let b1 = bytes' (i + 1) in
        let b2 = bytes' (i + 2) in
        let b3 = bytes' (i + 3) in
        let n2 : i + 1 + 1 ≡ i + 2 = omega arith in
        let n3 : i + 2 + 1 ≡ i + 3 = omega arith in
        let n4 : i + 3 + 1 ≡ i + 4 = omega arith in
        split≡ (get_or a i 0) (get_or b i 0)
        (λ e0.
        let c1 : Comparing a b (i + 1) = compare_turn a b i c (omega arith) (omega arith) e0 in
        split≡ (get_or a (i + 1) 0) (get_or b (i + 1) 0)
        (λ e1.
        let c2 : Comparing a b (i + 2) = rw n2 at (compare_turn a b (i + 1) c1 (omega arith) (omega arith) e1) in
        split≡ (get_or a (i + 2) 0) (get_or b (i + 2) 0)
        (λ e2.
        let c3 : Comparing a b (i + 3) = rw n3 at (compare_turn a b (i + 2) c2 (omega arith) (omega arith) e2) in
        split≡ (get_or a (i + 3) 0) (get_or b (i + 3) 0)
        (λ e3. same (omega arith) (rw n4 at (compare_turn a b (i + 3) c3 (omega arith) (omega arith) e3)))
        (λ d. other (λ e. d (omega arith)) (decides (be32 a i) (be32 b i) (get_or a (i + 3) 0) (get_or b (i + 3) 0) d (λ l. omega arith) (λ l. omega arith) ∙ compare_found a b (i + 3) c3 (omega arith) (omega arith) d)))
        (λ d. other (λ e. d (omega arith)) (decides (be32 a i) (be32 b i) (get_or a (i + 2) 0) (get_or b (i + 2) 0) d (λ l. omega arith) (λ l. omega arith) ∙ compare_found a b (i + 2) c2 (omega arith) (omega arith) d)))
        (λ d. other (λ e. d (omega arith)) (decides (be32 a i) (be32 b i) (get_or a (i + 1) 0) (get_or b (i + 1) 0) d (λ l. omega arith) (λ l. omega arith) ∙ compare_found a b (i + 1) c1 (omega arith) (omega arith) d)))
        (λ d. other (λ e. d (omega arith)) (decides (be32 a i) (be32 b i) (get_or a i 0) (get_or b i 0) d (λ l. omega arith) (λ l. omega arith) ∙ compare_found a b i c (omega arith) (omega arith) d))

  word_small : (s : List ℕ) (i : ℕ) → ((k : ℕ) → get_or s k 0 < 256) → be32 s i < 4294967296
  unfolding be32
  word_small s i f = omega (arith, f i, f (i + 1), f (i + 2), f (i + 3))

  module _ (i x y : ℕ) (c : Comparing a b i) (h : i + 8 ≤ length a) (k : i + 8 ≤ length b) (e : x ≡ be64 a i) (f : y ≡ be64 b i) where
    eight : {G : Type 0} → (x ≡ y → Comparing a b (i + 8) → G) → (x ≢ y → ltb x y ≡ le_bytes a b → G) → G
    unfolding be64
    eight same other =
        let a0 = word_small a i bytes in
        let a1 = word_small a (i + 4) bytes in
        let b0 = word_small b i bytes' in
        let b1 = word_small b (i + 4) bytes' in
        let n : i + 4 + 4 ≡ i + 8 = omega arith in
        four i c (omega arith) (omega arith)
        (λ e0 c4. four (i + 4) c4 (omega arith) (omega arith)
        (λ e1 c8. same (omega arith) (rw n at c8))
        (λ d q. other (λ g. d (omega arith)) (decides x y (be32 a (i + 4)) (be32 b (i + 4)) d (λ l. omega arith) (λ l. omega arith) ∙ q)))
        (λ d q. other (λ g. d (omega arith)) (decides x y (be32 a i) (be32 b i) d (λ l. omega arith) (λ l. omega arith) ∙ q))

    pub eight_same : x ≡ y → Comparing a b (i + 8)
    eight_same g = eight (λ q r. r) (λ d q. absurd (d g))

    pub eight_less : x ≢ y → ltb x y ≡ le_bytes a b
    eight_less d = eight (λ g r. absurd (d g)) (λ g q. q)
