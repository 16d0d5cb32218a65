-- The pieces as the struct has them.
use Rattle.std.specs.Prelude.{ℕ, ◌≡◌, List}
use Rattle.rfcomm.specs.Pieces.{Piece}
use Rattle.split.specs.Rows.{piece, bytes_at, stream_to}
use Rattle.split.specs.declared.pieces.Pieces.{Pieces}
use Rattle.split.specs.declared.pieces.Table.{Table}

-- a piece by the definitions
abbrev pub piece_of : Pieces → ℕ → Piece
piece_of s i = piece s.file.now s.w.now s.plan i

-- its table alone
pub record SameTable (s : Pieces) (t : Table) : Type 0 where
  pub words : t.w.now ≡ s.w.now
  pub plan : t.plan ≡ s.plan

-- the bytes of a piece
abbrev pub bytes_of : Pieces → ℕ → List ℕ
bytes_of s i = bytes_at s.file.now s.w.now s.plan i

-- all that came under its key before it
abbrev pub stream_before : Pieces → ℕ → List ℕ
stream_before s i = stream_to s.file.now s.w.now s.plan i
