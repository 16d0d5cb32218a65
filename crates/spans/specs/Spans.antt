-- The spans of pieces, in order of completion, each with the direction and time of the piece that brought its 3C; and the buffers left.
use Rattle.std.specs.Prelude.{ℕ, cond, List, [], ◌∷◌, ◌++◌, map, length, ltb, eqb}
use Rattle.laws.specs.Keys.{Key}
use Rattle.laws.specs.Keyed.{Machine, run, after}
use Rattle.laws.specs.Count.{count, nub}
use Rattle.items.specs.Items.{Span}
use Rattle.rfcomm.specs.Pieces.{Piece}
use Rattle.spans.specs.Scan.{spans_of, rest_of, capped}

-- a buffer for each stretch and direction
abbrev pub scanner : Machine Piece Span
scanner = record {
  S = List ℕ;
  key = λ p. p.key;
  next = λ b p. capped (rest_of (b ++ p.bytes));
  out = λ b p. map (λ w. record { rx = p.rx; time = p.time; wire = w }) (spans_of (b ++ p.bytes));
}

abbrev pub emptied : Key → List ℕ
emptied k = []

unfoldable pub spans : List Piece → List Span
spans ps = run scanner emptied ps

-- the buffers that are not empty at the end
unfoldable pub unfinished : List Piece → ℕ
unfinished ps = count (λ k. ltb 0 (length (after scanner emptied ps k))) (nub (map (λ p. p.key) ps))

-- the pieces of one DLCI
unfoldable pub on_dlci : ℕ → List Piece → List Piece
on_dlci d [] = []
on_dlci d (p ∷ ps) = cond (eqb p.dlci d) (p ∷ on_dlci d ps) (on_dlci d ps)
