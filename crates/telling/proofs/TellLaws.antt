-- Values over the front of a list, and from an answer to what a caller gets.
use Prim.Native.Nat.{zero, suc}
use lib.ListN.{set, get_or}
use Rattle.std.proofs.Common.{ℕ, ◌≡◌, ◌+◌, ◌<◌, ◌≤◌, List, [], ◌∷◌, ◌++◌, length, take, drop, refl, sym, ap, arith}
use Rattle.laws.specs.Answers.{Answer, Outcome, Meets}
use Rattle.telling.specs.Telling.{stored, Told, Calls}

-- all values, where there is room for them, and then the rest of the list
pub stored_whole : (l d : List ℕ) → length l ≤ length d → l ++ drop (length l) d ≡ stored l d
unfolding stored
stored_whole [] d h = refl
stored_whole (v ∷ l) [] h = absurd (omega arith)
stored_whole (v ∷ l) (x ∷ d) h = ap (λ (t : List ℕ). v ∷ t) (stored_whole l d (omega arith))

-- or as many as there is room for, one after another
stored_next : (l d : List ℕ) (i : ℕ) → i < length l → i < length d → set (stored (take i l) d) i (get_or l i 0) ≡ stored (take (suc i) l) d
unfolding stored
stored_next [] d i h g = absurd (omega arith)
stored_next (v ∷ l) [] i h g = absurd (omega arith)
stored_next (v ∷ l) (x ∷ d) zero h g = refl
stored_next (v ∷ l) (x ∷ d) (suc i) h g = ap (λ (t : List ℕ). v ∷ t) (stored_next l d i (omega arith) (omega arith))

pub stored_one : (l d : List ℕ) (i : ℕ) → i < length l → i < length d → set (stored (take i l) d) i (get_or l i 0) ≡ stored (take (i + 1) l) d
stored_one l d i h g = let n : i + 1 ≡ suc i = omega arith in rw n (stored_next l d i h g)

pub stored_part : (l d : List ℕ) (i : ℕ) → length d ≤ i → stored (take i l) d ≡ stored l d
unfolding stored
stored_part [] d zero h = refl
stored_part [] d (suc i) h = refl
stored_part (v ∷ l) [] zero h = refl
stored_part (v ∷ l) [] (suc i) h = refl
stored_part (v ∷ l) (x ∷ d) zero h = absurd (omega arith)
stored_part (v ∷ l) (x ∷ d) (suc i) h = ap (λ (t : List ℕ). v ∷ t) (stored_part l d i (omega arith))

pub calls : (o : Outcome) (d : List ℕ) (a : Answer) (e : List ℕ) → Meets o d a e → (v : List ℕ) (r : ℕ) (w : List ℕ) → Told a v r w → Calls o d e v r w
calls o d a e m v r w t = record { writes = m.writes; tells = rw (sym m.answers) t }
