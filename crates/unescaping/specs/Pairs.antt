-- Escaped bytes by pairs: a 3D and what follows it as one number.
use Rattle.std.specs.Prelude.{◌≡◌, ℕ, ◌+◌, ◌*◌, ◌/◌, ◌%◌, ◌<◌, ◌≤◌, Bool, true, List, [], ◌∷◌, length, take, slice_index}
use Rattle.mdr.specs.Escape.{escapee}

-- the two bytes that follow so many pairs, as one number, the lowest first
pub record PairIs (l : List ℕ) (i w : ℕ) : Type 0 where
  pub low : w % 256 ≡ slice_index l (2 * i)
  pub high : w / 256 ≡ slice_index l (2 * i + 1)

-- such a number of a 3D and what may follow it
pub record Pair (w : ℕ) : Type 0 where
  pub low : w % 256 ≡ 0x3D
  pub high : escapee (w / 256) ≡ true

pub record PairIf (w : ℕ) (t : Bool) : Type 0 where
  pub is : t ≡ true → Pair w

-- sixteen of them
pub record Paired (l : List ℕ) : Type 0 where
  pub first : (i : ℕ) → i < 16 → slice_index l (2 * i) ≡ 0x3D
  pub second : (i : ℕ) → i < 16 → escapee (slice_index l (2 * i + 1)) ≡ true

pub record PairedIf (l : List ℕ) (t : Bool) : Type 0 where
  pub is : t ≡ true → Paired l

pub record DenseIf (s : List ℕ) (t : Bool) : Type 0 where
  pub within : t ≡ true → 32 ≤ length s
  pub is : t ≡ true → Paired (take 32 s)

-- the bytes that they stand for
unfoldable pub halves : List ℕ → List ℕ
halves [] = []
halves (a ∷ []) = []
halves (a ∷ b ∷ l) = (b + 0x10) ∷ halves l
