-- Laws of specs/Front.
use mathlib.Core.Path.{◌≡◌, refl, sym, ap, ◌∙◌}
use mathlib.Core.List.{List, [], ◌∷◌}
use Prim.Native.Nat.{ℕ, zero, suc, ◌+◌, ◌*◌, ◌<◌, ◌≤◌}
use native.Mathlib.Omega.{arith}
use lib.ListN.{get_or, set, take, drop}
use lib.Seq.{sets, take-set-le, take-take, get_or-take}
use Rattle.words.specs.Words.{word, put_word}
use Rattle.words.proofs.Words.{word_of_bytes}
use Rattle.words.specs.Front.{Front}

pub front_refl : (n : ℕ) (w : List ℕ) → Front n w w
front_refl n w = record { same = refl }

pub front_then : (n : ℕ) (u v w : List ℕ) → Front n u v → Front n v w → Front n u w
front_then n u v w a b = record { same = a.same ∙ b.same }

pub front_less : (m n : ℕ) (u w : List ℕ) → m ≤ n → Front n u w → Front m u w
front_less m n u w h a = record { same = sym (take-take m n u h) ∙ ap (take m) a.same ∙ take-take m n w h }

pub front_put : (n : ℕ) (w : List ℕ) (i v : ℕ) → n ≤ 4 * i → Front n (put_word w i v) w
unfolding put_word
front_put n w i v h = record {
  same =
      take-set-le n _ (4 * i + 3) _ (omega arith) ∙ take-set-le n _ (4 * i + 2) _ (omega arith) ∙ take-set-le n _ (4 * i + 1) _ (omega arith) ∙ take-set-le n w (4 * i) _ h;
}

take_sets : (n : ℕ) (vs w : List ℕ) (i : ℕ) → n ≤ i → take n (sets w i vs) ≡ take n w
take_sets n [] w i h = refl
take_sets n (x ∷ vs) w i h = take_sets n vs (set w i x) (suc i) (omega arith) ∙ take-set-le n w i x h

pub front_sets : (n : ℕ) (vs w : List ℕ) (i : ℕ) → n ≤ i → Front n (sets w i vs) w
front_sets n vs w i h = record { same = take_sets n vs w i h }

pub front_byte : (n : ℕ) (u w : List ℕ) (k : ℕ) → k < n → Front n u w → get_or u k 0 ≡ get_or w k 0
front_byte n u w k h a = sym (get_or-take n u k 0 h) ∙ ap (λ (l : List ℕ). get_or l k 0) a.same ∙ get_or-take n w k 0 h

pub front_word : (n : ℕ) (u w : List ℕ) (j : ℕ) → 4 * j + 4 ≤ n → Front n u w → word u j ≡ word w j
front_word n u w j h a = word_of_bytes u w j (λ k lo hi. front_byte n u w k (omega arith) a)

-- a part of the front is as it was
pub part_take : (a m n : ℕ) (l : List ℕ) → a + m ≤ n → take m (drop a l) ≡ take m (drop a (take n l))
part_take zero m n l h = sym (take-take m n l (omega arith))
part_take (suc a) m zero l h = absurd (omega arith)
part_take (suc a) m (suc n) [] h = refl
part_take (suc a) m (suc n) (x ∷ l) h = part_take a m n l (omega arith)

pub front_part : (n : ℕ) (u w : List ℕ) (a m : ℕ) → a + m ≤ n → Front n u w → take m (drop a u) ≡ take m (drop a w)
front_part n u w a m h s = part_take a m n u h ∙ ap (λ (l : List ℕ). take m (drop a l)) s.same ∙ sym (part_take a m n w h)
