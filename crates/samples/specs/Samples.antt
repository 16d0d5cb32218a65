-- What an output holds before a case's call, and what it has to hold after it.
use Rattle.std.specs.Prelude.{ℕ, ◌+◌, ◌%◌, ◌<◌, ◌≤◌, ◌≡◌, Bool, true, cond, List, length, get_or, ltb}

-- the byte at a place before a call
unfoldable pub untouched_of : ℕ → ℕ
untouched_of i = (i % 251 + 165) % 256

pub record Fresh (e : List ℕ) : Type 0 where
  pub bytes : (j : ℕ) → j < length e → get_or e j 0 ≡ untouched_of j

-- the bytes from a place on are those before a call
abbrev pub Untouched : ℕ → List ℕ → Type 0
Untouched from e = (j : ℕ) → j < length e → from ≤ j → get_or e j 0 ≡ untouched_of j

-- the byte at a place after a call that wrote w
unfoldable pub output_of : List ℕ → ℕ → ℕ
output_of w i = cond (ltb i (length w)) (get_or w i 0) (untouched_of i)

-- e begins with w, and the rest of it is untouched
pub record Holds (w e : List ℕ) : Type 0 where
  pub fits : length w ≤ length e
  pub bytes : (j : ℕ) → j < length e → get_or e j 0 ≡ output_of w j

-- a comparison that says yes only then
pub record Compared (w e : List ℕ) (r : Bool) : Type 0 where
  pub holds : r ≡ true → Holds w e
