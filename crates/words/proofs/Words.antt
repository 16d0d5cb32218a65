-- Laws of specs/Words.
use mathlib.Core.Path.{◌≡◌, refl, ◌∙◌}
use mathlib.Core.List.{List}
use mathlib.Core.Logic.{⊎_elim, ◌⊎◌, inl, inr, ◌≢◌}
use mathlib.Core.Bool.{Bool, true, false}
use lib.Dec.{ltb}
use borrow.Author.Tests.{ltb-true, ltb-false}
use Prim.Native.Nat.{ℕ, ◌+◌, ◌*◌, ◌/◌, ◌%◌, ◌<◌, ◌≤◌}
use native.Mathlib.Omega.{arith}
use lib.ListN.{length, get_or, set, length-set}
use lib.Seq.{get_or-set_same, get_or-set_other}
use Rattle.laws.specs.Numbers.{le32, le64}
use Rattle.words.specs.Words.{word, put_word, long, put_long}

pub length_put : (w : List ℕ) (i v : ℕ) → length (put_word w i v) ≡ length w
unfolding put_word
length_put w i v = simp length-set

-- a byte that is none of the word's four stays
pub byte_put : (w : List ℕ) (i v k : ℕ) → ((k < 4 * i) ⊎ (4 * i + 4 ≤ k)) → get_or (put_word w i v) k 0 ≡ get_or w k 0
unfolding put_word
byte_put w i v k h =
    let n0 : k ≢ 4 * i = λ e. ⊎_elim (λ x. omega arith) (λ x. omega arith) h in
    let n1 : k ≢ 4 * i + 1 = λ e. ⊎_elim (λ x. omega arith) (λ x. omega arith) h in
    let n2 : k ≢ 4 * i + 2 = λ e. ⊎_elim (λ x. omega arith) (λ x. omega arith) h in
    let n3 : k ≢ 4 * i + 3 = λ e. ⊎_elim (λ x. omega arith) (λ x. omega arith) h in
    simp get_or-set_other

-- cases on an order
pub lt_or_ge : (a b : ℕ) → (a < b) ⊎ (b ≤ a)
lt_or_ge a b = pick (ltb a b) refl where
  pick : (t : Bool) → ltb a b ≡ t → (a < b) ⊎ (b ≤ a)
  pick true e = inl (ltb-true a b e)
  pick false e = inr (ltb-false a b e)

module _ (w : List ℕ) (p a b c d : ℕ) (fits : p + 4 ≤ length w) where
  four₃ : get_or (set (set (set (set w p a) (p + 1) b) (p + 2) c) (p + 3) d) (p + 3) 0 ≡ d
  four₃ = get_or-set_same (set (set (set w p a) (p + 1) b) (p + 2) c) (p + 3) d 0 (simp length-set (omega arith))

  four₂ : get_or (set (set (set (set w p a) (p + 1) b) (p + 2) c) (p + 3) d) (p + 2) 0 ≡ c
  four₂ =
      let n : p + 2 ≢ p + 3 = λ e. omega arith in
      rw get_or-set_other (get_or-set_same (set (set w p a) (p + 1) b) (p + 2) c 0 (simp length-set (omega arith)))

  four₁ : get_or (set (set (set (set w p a) (p + 1) b) (p + 2) c) (p + 3) d) (p + 1) 0 ≡ b
  four₁ =
      let n : p + 1 ≢ p + 3 = λ e. omega arith in
      let m : p + 1 ≢ p + 2 = λ e. omega arith in
      simp get_or-set_other (get_or-set_same (set w p a) (p + 1) b 0 (simp length-set (omega arith)))

  four₀ : get_or (set (set (set (set w p a) (p + 1) b) (p + 2) c) (p + 3) d) p 0 ≡ a
  four₀ =
      let n : p ≢ p + 3 = λ e. omega arith in
      let m : p ≢ p + 2 = λ e. omega arith in
      let o : p ≢ p + 1 = λ e. omega arith in
      simp get_or-set_other (get_or-set_same w p a 0 (omega arith))

digits : (v : ℕ) → v % 256 + 256 * (v / 256 % 256) + 65536 * (v / 65536 % 256) + 16777216 * (v / 16777216) ≡ v
digits v = omega arith

pub word_put_same : (w : List ℕ) (i v : ℕ) → 4 * i + 4 ≤ length w → word (put_word w i v) i ≡ v
unfolding put_word word le32
word_put_same w i v h = rw (four₀ w (4 * i) _ _ _ _ h, four₁ w (4 * i) _ _ _ _ h, four₂ w (4 * i) _ _ _ _ h, four₃ w (4 * i) _ _ _ _ h) (digits v)

-- two lists that agree on a word's bytes agree on the word
pub word_of_bytes : (w u : List ℕ) (i : ℕ) → ((k : ℕ) → 4 * i ≤ k → k < 4 * i + 4 → get_or w k 0 ≡ get_or u k 0) → word w i ≡ word u i
unfolding word le32
word_of_bytes w u i h = rw (h (4 * i) (omega arith) (omega arith), h (4 * i + 1) (omega arith) (omega arith), h (4 * i + 2) (omega arith) (omega arith), h (4 * i + 3) (omega arith) (omega arith))

pub word_put_other : (w : List ℕ) (i v j : ℕ) → (i ≡ j → ⊥) → word (put_word w i v) j ≡ word w j
word_put_other w i v j n = word_of_bytes _ _ j (λ k lo hi. byte_put w i v k (apart k lo hi)) where
  apart : (k : ℕ) → 4 * j ≤ k → k < 4 * j + 4 → (k < 4 * i) ⊎ (4 * i + 4 ≤ k)
  apart k lo hi = ⊎_elim (λ l. inl l) (λ g. ⊎_elim (λ l. absurd (n (omega arith))) (λ r. inr r) (lt_or_ge k (4 * i + 4))) (lt_or_ge k (4 * i))

pub long_put_same : (w : List ℕ) (i v : ℕ) → 4 * i + 8 ≤ length w → long (put_long w i v) i ≡ v
unfolding long put_long
long_put_same w i v h =
    let n : i + 1 ≡ i → ⊥ = λ e. omega arith in
    let a : word (put_word (put_word w i (v % 4294967296)) (i + 1) (v / 4294967296)) i ≡ v % 4294967296 =
    word_put_other (put_word w i (v % 4294967296)) (i + 1) (v / 4294967296) i n ∙ word_put_same w i (v % 4294967296) (omega arith) in
    let b : word (put_word (put_word w i (v % 4294967296)) (i + 1) (v / 4294967296)) (i + 1) ≡ v / 4294967296 =
    word_put_same (put_word w i (v % 4294967296)) (i + 1) (v / 4294967296) (simp length_put (omega arith)) in
    rw (a, b) (omega arith)

-- two words one after the other are one number of eight bytes
pub long_read : (w : List ℕ) (i : ℕ) → le64 w (4 * i) ≡ long w i
unfolding long word le64
long_read w i = let n : 4 * (i + 1) ≡ 4 * i + 4 = omega arith in rw n
