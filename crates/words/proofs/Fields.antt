-- Laws of specs/Fields.
use Rattle.std.specs.Prelude.{Option, Some, None}
use Prim.Native.Nat.{ℕ, ◌+◌, ◌<◌, ◌≤◌}
use mathlib.Core.Path.{◌≡◌, refl, sym, ap, ◌∙◌}
use mathlib.Core.Bool.{true, false}
use mathlib.Core.List.{List}
use native.Mathlib.Omega.{arith}
use lib.ListN.{length, get_or}
use lib.Seq.{ext_get_or}
use lib.Dec.{leb, eqb}
use borrow.Author.Tests.{le-leb, lt-leb, leb-true, leb-false, eq-eqb, ne_eqb}
use Rattle.laws.proofs.Choice.{split_b, split≡}
use Rattle.laws.specs.Numbers.{le16, le32, le64}
use Rattle.laws.specs.Keys.{eq_k}
use Rattle.laws.proofs.Keys.{eq_k_true, eq_eq_k}
use Rattle.words.specs.Fields.{field_of}

pub field_there : (b : List ℕ) (i : ℕ) (v : ℕ) → i + 2 ≤ length b → v ≡ le16 b i → Some v ≡ field_of b i
unfolding field_of
field_there b i v h e = rw (le-leb (i + 2) (length b) h, e)

pub field_missing : (b : List ℕ) (i : ℕ) → length b < i + 2 → None ≡ field_of b i
unfolding field_of
field_missing b i h = rw (lt-leb (i + 2) (length b) h)

-- what an answer says
pub field_value : (b : List ℕ) (i v : ℕ) (r : Option ℕ) → r ≡ field_of b i → r ≡ Some v → (i + 2 ≤ length b) × (v ≡ le16 b i)
unfolding field_of
field_value b i v r p q =
    split_b (leb (i + 2) (length b))
    (λ e. let h = rw e at (sym p ∙ q) in let z : v ≡ le16 b i = cc in (leb_holds e, z))
    (λ e. let h = rw e at (sym p ∙ q) in let z : ◌≡◌ {A = ℕ} 0 1 = cc in absurd (omega arith)) where
      leb_holds : leb (i + 2) (length b) ≡ true → i + 2 ≤ length b
      leb_holds e = leb-true (i + 2) (length b) e

pub field_none : (b : List ℕ) (i : ℕ) (r : Option ℕ) → r ≡ field_of b i → r ≡ None → length b < i + 2
unfolding field_of
field_none b i r p q =
    split_b (leb (i + 2) (length b))
    (λ e. let h = rw e at (sym p ∙ q) in let z : ◌≡◌ {A = ℕ} 0 1 = cc in absurd (omega arith))
    (λ e. leb-false (i + 2) (length b) e)

-- ---- two slices, of which the first i bytes are the same

pub record Alike (a b : List ℕ) (i : ℕ) : Type 0 where
  pub each : (k : ℕ) → k < i → get_or a k 0 ≡ get_or b k 0

pub alike_start : (a b : List ℕ) → Alike a b 0
alike_start a b = record { each = λ k h. absurd (omega arith) }

module _ (a b : List ℕ) where
  pub other_lengths : (length a ≡ length b → ⊥) → false ≡ eq_k a b
  other_lengths n = split_b (eq_k a b) (λ e. absurd (n (ap length (eq_k_true a b e)))) (λ e. sym e)

  pub other_byte : (i : ℕ) → (get_or a i 0 ≡ get_or b i 0 → ⊥) → false ≡ eq_k a b
  other_byte i n = split_b (eq_k a b) (λ e. absurd (n (ap (λ (l : List ℕ). get_or l i 0) (eq_k_true a b e)))) (λ e. sym e)

  pub other_four : (i x y : ℕ) → x ≡ le32 a i → y ≡ le32 b i → (x ≡ y → ⊥) → false ≡ eq_k a b
  other_four i x y p q n = split_b (eq_k a b) (λ e. absurd (n (p ∙ ap (λ (l : List ℕ). le32 l i) (eq_k_true a b e) ∙ sym q))) (λ e. sym e)

  pub other_eight : (i x y : ℕ) → x ≡ le64 a i → y ≡ le64 b i → (x ≡ y → ⊥) → false ≡ eq_k a b
  other_eight i x y p q n = split_b (eq_k a b) (λ e. absurd (n (p ∙ ap (λ (l : List ℕ). le64 l i) (eq_k_true a b e) ∙ sym q))) (λ e. sym e)

  pub alike_one : (i : ℕ) → Alike a b i → get_or a i 0 ≡ get_or b i 0 → Alike a b (i + 1)
  alike_one i s e = record { each = λ k h. split≡ k i (λ q. rw q e) (λ q. s.each k (omega arith)) }

  pub alike_end : (i : ℕ) → Alike a b i → length a ≡ length b → length a ≤ i → true ≡ eq_k a b
  alike_end i s l h = let e : a ≡ b = ext_get_or 0 a b l (λ k g. s.each k (omega arith)) in rw e (sym (eq_eq_k b b refl))

-- ---- eight bytes at once, as numbers

module _ (a b : List ℕ) (bytes : (k : ℕ) → get_or a k 0 < 256) (bytes' : (k : ℕ) → get_or b k 0 < 256) where
  four : (i : ℕ) → Alike a b i → le32 a i ≡ le32 b i → Alike a b (i + 4)
  unfolding le32
  four i s e =
      let a0 = bytes i in
      let a1 = bytes (i + 1) in
      let a2 = bytes (i + 2) in
      let a3 = bytes (i + 3) in
      let b0 = bytes' i in
      let b1 = bytes' (i + 1) in
      let b2 = bytes' (i + 2) in
      let b3 = bytes' (i + 3) in
      let n2 : i + 1 + 1 ≡ i + 2 = omega arith in
      let n3 : i + 2 + 1 ≡ i + 3 = omega arith in
      let n4 : i + 3 + 1 ≡ i + 4 = omega arith in
      let s1 : Alike a b (i + 1) = alike_one a b i s (omega arith) in
      let s2 : Alike a b (i + 2) = rw n2 at (alike_one a b (i + 1) s1 (omega arith)) in
      let s3 : Alike a b (i + 3) = rw n3 at (alike_one a b (i + 2) s2 (omega arith)) in
      rw n4 at (alike_one a b (i + 3) s3 (omega arith))

  -- four, and the last four
  module _ (l : length a ≡ length b) (h : 4 ≤ length a) (g : length a ≤ 8) (x y : ℕ) (p : x ≡ le32 a 0) (q : y ≡ le32 b 0) where
    pub other_first : (x ≡ y → ⊥) → eqb x y ≡ eq_k a b
    other_first n = rw (ne_eqb x y n) (other_four a b 0 x y p q n)

    pub last_four : x ≡ y → (j z w : ℕ) → j + 4 ≡ length a → z ≡ le32 a j → w ≡ le32 b j → eqb z w ≡ eq_k a b
    last_four e j z w r u v =
        let s : Alike a b 4 = four 0 (alike_start a b) (sym p ∙ e ∙ q) in
        let t : Alike a b j = record { each = λ k m. s.each k (omega arith) } in
        split≡ z w
        (λ n. rw (eq-eqb z w n) (alike_end a b (j + 4) (four j t (sym u ∙ n ∙ v)) l (omega arith)))
        (λ n. rw (ne_eqb z w n) (other_four a b j z w u v n))

  small : (l : List ℕ) (i : ℕ) → ((k : ℕ) → get_or l k 0 < 256) → le32 l i < 4294967296
  unfolding le32
  small l i f = omega (arith, f i, f (i + 1), f (i + 2), f (i + 3))

  pub alike_eight : (i j x y : ℕ) → Alike a b i → j ≡ i + 8 → x ≡ le64 a i → y ≡ le64 b i → x ≡ y → Alike a b j
  unfolding le64
  alike_eight i j x y s g p q e =
      let n : i + 4 + 4 ≡ j = omega arith in
      let u : le32 a i ≡ le32 b i = omega (arith, small a i bytes, small b i bytes') in
      let v : le32 a (i + 4) ≡ le32 b (i + 4) = omega (arith, small a i bytes, small b i bytes') in
      rw n at (four (i + 4) (four i s u) v)

  -- the last eight
  pub last_eight : (i j x y : ℕ) → Alike a b i → j ≤ i → j + 8 ≡ length a → length a ≡ length b → x ≡ le64 a j → y ≡ le64 b j → eqb x y ≡ eq_k a b
  last_eight i j x y s h r l p q =
      let t : Alike a b j = record { each = λ k g. s.each k (omega arith) } in
      split≡ x y
      (λ e. rw (eq-eqb x y e) (alike_end a b (j + 8) (alike_eight j (j + 8) x y t refl p q e) l (omega arith)))
      (λ n. rw (ne_eqb x y n) (other_eight a b j x y p q n))
