-- The pieces linked: the four words of a piece's key and the key are told from each other.
use Prim.Native.Nat.{ℕ, zero, suc, ◌+◌, ◌*◌, ◌/◌, ◌%◌, ◌<◌, ◌≤◌}
use mathlib.Core.Path.{◌≡◌, refl, sym, ap, ◌∙◌}
use mathlib.Core.List.{List, [], ◌∷◌}
use native.Mathlib.Omega.{arith}
use lib.ListN.{get_or}
use borrow.Author.Tests.{eq-eqb, ne_eqb}
use Rattle.laws.specs.Keys.{Key}
use Rattle.laws.proofs.Keys.{split_k, eq_eq_k, ne_eq_k}
use Rattle.words.specs.Words.{word}
use Rattle.table.specs.Chain.{newest}
use Rattle.classes.specs.Classes.{key_at as words_at}
use Rattle.classes.specs.Linking.{LinkedTo as ClassLinked}
use Rattle.split.specs.Rows.{row_of, tail_at, key_at, newest_of}
use Rattle.split.specs.Walks.{LinkRoom, LinkedTo}
use Rattle.split.specs.declared.Plan.{Plan}

-- the four words of a key
four : Key → Key
four k = get_or k 0 0 ∷ (2 * get_or k 1 0 + get_or k 5 0) ∷ get_or k 2 0 ∷ (get_or k 3 0 + 65536 * get_or k 4 0) ∷ []

abbrev words_of : List ℕ → Plan → ℕ → ℕ → Key
words_of w p links i = words_at w (record { at = p.rows; n = p.n; links = links }) i

halves : (a : ℕ) → 2 * (a / 2) + a % 2 ≡ a
halves a = omega arith

parts : (a : ℕ) → a % 65536 + 65536 * (a / 65536) ≡ a
parts a = omega arith

four_at : (w : List ℕ) (p : Plan) (links i : ℕ) → four (key_at w p i) ≡ words_of w p links i
unfolding four key_at tail_at words_at
four_at w p links i = rw (halves (word w (p.rows + 8 * i + 1)), parts (word w (p.rows + 8 * i + 3)))

-- the same four words, the same key
back : (w : List ℕ) (p : Plan) (links i j : ℕ) → words_of w p links i ≡ words_of w p links j → key_at w p i ≡ key_at w p j
unfolding key_at tail_at words_at
back w p links i j e =
    let a : word w (row_of p i) ≡ word w (row_of p j) = cc in
    let b : word w (row_of p i + 1) ≡ word w (row_of p j + 1) = cc in
    let c : word w (row_of p i + 2) ≡ word w (row_of p j + 2) = cc in
    let d : word w (row_of p i + 3) ≡ word w (row_of p j + 3) = cc in
    rw (a, b, c, d)

-- the newest of a bucket that holds the pieces of one key alone is the newest of the key
module _ (w : List ℕ) (p : Plan) (links : ℕ) (bucket : Key → ℕ) (exact : (i j : ℕ) → i < p.n → j < p.n → bucket (words_of w p links i) ≡ bucket (words_of w p links j) → words_of w p links i ≡ words_of w p links j) where
  newest_key : (i m : ℕ) → i < p.n → m ≤ i → newest (λ j. bucket (words_of w p links j)) (bucket (words_of w p links i)) m ≡ newest_of (λ j. key_at w p j) (key_at w p i) m
  unfolding newest newest_of
  newest_key i zero h g = refl
  newest_key i (suc m) h g =
      split_k (key_at w p m) (key_at w p i)
      (λ e. let z : bucket (words_of w p links m) ≡ bucket (words_of w p links i) = ap bucket (sym (four_at w p links m) ∙ ap four e ∙ four_at w p links i) in
      rw (eq_eq_k (key_at w p m) (key_at w p i) e, eq-eqb (bucket (words_of w p links m)) (bucket (words_of w p links i)) z))
      (λ n. rw (ne_eq_k (key_at w p m) (key_at w p i) n, ne_eqb (bucket (words_of w p links m)) (bucket (words_of w p links i)) (λ e. n (back w p links m i (exact m i (omega arith) h e)))) (newest_key i m h (omega arith)))

module _ (w : List ℕ) (p : Plan) (links : ℕ) (g : LinkRoom w p links) where
  pub class_linked : (u : List ℕ) → ClassLinked w (record { at = p.rows; n = p.n; links = links }) p.chain u → LinkedTo w p u
  class_linked u l = record { linked = record { before = λ i h. l.chained.before i h ∙ newest_key u p links l.bucket l.exact i i h (omega arith) }; front = l.front }
