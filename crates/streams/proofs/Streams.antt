-- Laws of specs/Streams.
use Prim.Native.Nat.{ℕ}
use mathlib.Core.Path.{refl}
use mathlib.Core.List.{List}
use Rattle.rfcomm.specs.Pieces.{Piece}
use Rattle.rfcomm.specs.PieceTable.{Pieced}
use Rattle.streams.specs.Streams.{Tabled}

-- a table that holds a list of pieces is such a table
pub tabled : (f w : List ℕ) (n : ℕ) (ps : List Piece) → Pieced f w n ps → Tabled f w n
tabled f w n ps p = record { list = refl; within = p.within; few = p.few; small = p.small; room = p.room }
