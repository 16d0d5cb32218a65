-- What the parts of packing promise each other.
use Rattle.std.specs.Prelude.{ℕ, ◌+◌, ◌-◌, ◌*◌, ◌/◌, ◌%◌, ◌≤◌, List, [], ◌∷◌, ◌++◌, length, take}
use Rattle.laws.specs.Stores.{Writes}
use Rattle.mdr.specs.Escape.{escape_byte, escape}
use Rattle.packing.specs.declared.Ran.{Ran}

-- the escaped forms of bytes that all are escaped, each as one number, the lowest byte first; and their bytes
unfoldable pub twins : List ℕ → List ℕ
twins [] = []
twins (b ∷ bs) = (0x3D + 256 * (b - 0x10)) ∷ twins bs

unfoldable pub parted : List ℕ → List ℕ
parted [] = []
parted (w ∷ ws) = w % 256 ∷ w / 256 ∷ parted ws

-- so many bytes are stored escaped at a place, up to the place answered
pub record RanIs (l d : List ℕ) (at : ℕ) (r : Ran) (e : List ℕ) : Type 0 where
  pub few : r.used ≤ length l
  pub writes : Writes d at (escape (take r.used l)) r.at e

-- the same, sixteen at least
pub record MixedIs (l d : List ℕ) (at : ℕ) (r : Ran) (e : List ℕ) : Type 0 where
  pub least : 16 ≤ r.used
  pub ran : RanIs l d at r e

-- a frame by its parts: header, payload, sum
unfoldable pub framed : List ℕ → List ℕ → ℕ → List ℕ
framed head p sum = (0x3E ∷ escape head) ++ (escape p ++ (escape_byte sum ++ (0x3C ∷ [])))
