-- The rows of pieces: one more, and all of them under a frame.
use Rattle.std.specs.Prelude.{ℕ, ◌+◌, ◌*◌, ◌/◌, ◌%◌, ◌<◌, ◌≤◌, cond, List, [], ◌∷◌, ◌++◌, length, take, drop}
use Rattle.rfcomm.specs.Pieces.{Piece}
use Rattle.rfcomm.specs.declared.Part.{Part}

unfoldable pub stretch_of : Part → List ℕ
stretch_of p = p.dlci ∷ p.way ∷ p.cid ∷ (p.sessions + 65536 * p.links) ∷ []

unfoldable pub bytes_of : ℕ → ℕ → ℕ → List ℕ
bytes_of start size t = start ∷ size ∷ t % 4294967296 ∷ t / 4294967296 ∷ []

unfoldable pub row_of : Part → ℕ → List ℕ
row_of p t = stretch_of p ++ bytes_of p.start (p.len + 65536 * cond p.joined 1 0) t

pub record PutPre (w : List ℕ) (at : ℕ) (p : Part) : Type 0 where
  pub room : 4 * at + 32 ≤ length w
  pub sessions : p.sessions < 65536
  pub links : p.links < 65536
  pub len : p.len < 65536

-- the piece that a row's numbers stand for, in the file or in work
unfoldable pub part_piece : List ℕ → List ℕ → Part → ℕ → Piece
part_piece f w p t = record {
  dlci = p.dlci;
  key = p.way / 2 ∷ p.cid ∷ p.sessions ∷ p.links ∷ p.way % 2 ∷ [];
  rx = p.way % 2;
  time = t;
  bytes = take p.len (drop p.start (cond p.joined w f));
}
