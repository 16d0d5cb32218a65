-- Laws of specs/Rows.
use mathlib.Core.Path.{◌≡◌, refl, ap, ◌∙◌}
use mathlib.Core.List.{List, [], ◌∷◌, ◌++◌}
use Prim.Native.Nat.{ℕ, zero, suc, ◌+◌, ◌*◌, ◌/◌, ◌%◌, ◌<◌, ◌≤◌}
use native.Mathlib.Nat.{add-zero}
use native.Mathlib.Omega.{arith}
use lib.ListN.{length, get_or}
use Rattle.words.specs.Words.{word, put_word, long}
use Rattle.words.proofs.Words.{length_put, word_put_same, word_put_other}
use Rattle.words.specs.Front.{Front}
use Rattle.words.proofs.Front.{front_refl, front_put, front_then}
use Rattle.words.specs.Rows.{put_words}

pub puts_append : (a b w : List ℕ) (at : ℕ) → put_words w at (a ++ b) ≡ put_words (put_words w at a) (at + length a) b
unfolding put_words
puts_append [] b w at = rw add-zero
puts_append (v ∷ a) b w at = puts_append a b (put_word w at v) (suc at) ∙ ap (λ (n : ℕ). put_words (put_words (put_word w at v) (suc at) a) n b) (omega arith)

pub length_puts : (vs w : List ℕ) (at : ℕ) → length (put_words w at vs) ≡ length w
unfolding put_words
length_puts [] w at = refl
length_puts (v ∷ vs) w at = length_puts vs (put_word w at v) (suc at) ∙ length_put w at v

pub front_puts : (n : ℕ) (vs w : List ℕ) (at : ℕ) → n ≤ 4 * at → Front n (put_words w at vs) w
unfolding put_words
front_puts n [] w at h = front_refl n w
front_puts n (v ∷ vs) w at h = front_then n _ _ w (front_puts n vs (put_word w at v) (suc at) (omega arith)) (front_put n w at v h)

-- a word before or after the row stays
pub puts_below : (vs w : List ℕ) (at j : ℕ) → j < at → word (put_words w at vs) j ≡ word w j
unfolding put_words
puts_below [] w at j h = refl
puts_below (v ∷ vs) w at j h = puts_below vs (put_word w at v) (suc at) j (omega arith) ∙ word_put_other w at v j (λ e. omega arith)

pub puts_above : (vs w : List ℕ) (at j : ℕ) → at + length vs ≤ j → word (put_words w at vs) j ≡ word w j
unfolding put_words
puts_above [] w at j h = refl
puts_above (v ∷ vs) w at j h = puts_above vs (put_word w at v) (suc at) j (omega arith) ∙ word_put_other w at v j (λ e. omega arith)

-- the words of the row
pub word_puts : (vs w : List ℕ) (at j : ℕ) → 4 * (at + length vs) ≤ length w → j < length vs → word (put_words w at vs) (at + j) ≡ get_or vs j 0
unfolding put_words
word_puts [] w at j r h = absurd (omega arith)
word_puts (v ∷ vs) w at zero r h = rw add-zero (puts_below vs (put_word w at v) (suc at) at (omega arith) ∙ word_put_same w at v (omega arith))
word_puts (v ∷ vs) w at (suc j) r h =
    let k : at + suc j ≡ suc at + j = omega arith in
    let l : length (put_word w at v) ≡ length w = length_put w at v in
    rw k (word_puts vs (put_word w at v) (suc at) j (omega arith) (omega arith))

-- a number of 64 bits in two of them
pub long_puts : (vs w : List ℕ) (at j t : ℕ) → 4 * (at + length vs) ≤ length w → j + 1 < length vs → get_or vs j 0 ≡ t % 4294967296 → get_or vs (j + 1) 0 ≡ t / 4294967296 → long (put_words w at vs) (at + j) ≡ t
unfolding long
long_puts vs w at j t r h p q =
    let k : at + j + 1 ≡ at + (j + 1) = omega arith in
    rw (k, word_puts vs w at j r (omega arith), word_puts vs w at (j + 1) r h, p, q) (omega arith)
