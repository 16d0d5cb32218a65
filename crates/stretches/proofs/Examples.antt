-- The open stretches of a few pieces, by computation.
use Prim.Native.Nat.{ℕ}
use mathlib.Core.Path.{◌≡◌, refl}
use mathlib.Core.List.{List, [], ◌∷◌}
use Rattle.laws.specs.Keys.{eq_k}
use Rattle.laws.specs.Keyed.{after, keep}
use Rattle.rfcomm.specs.Pieces.{Piece}
use Rattle.search.specs.Seek.{seek}
use Rattle.spans.specs.Scan.{rest_n, rest_of, capped}
use Rattle.stretches.specs.Open.{firsts, stretch_of, open_of, open_stretches}
use Rattle.stretches.specs.declared.Stretch.{Stretch}

-- on CID 0x41 of link 5, in the session and on the link, in the direction
abbrev piece : ℕ → ℕ → ℕ → List ℕ → Piece
piece sessions links rx bytes = record { dlci = 18; key = 5 ∷ 0x41 ∷ sessions ∷ links ∷ rx ∷ []; rx = rx; time = 0; bytes = bytes }

abbrev stretch : ℕ → ℕ → ℕ → ℕ → Stretch
stretch sessions links way held = record { way = way; cid = 0x41; dlci = 18; sessions = sessions; links = links; held = held }

-- Tx begins first and goes on last, Rx has one piece between: Tx first. What a 3C closed, and what never began, is not listed; another session
-- is another stretch.
pub example :
    open_stretches 18 (piece 1 2 0 (0x3E ∷ 1 ∷ []) ∷ piece 1 2 1 (0x3E ∷ []) ∷ piece 1 2 0 (2 ∷ []) ∷ []) ≡ stretch 1 2 10 3 ∷ stretch 1 2 11 1 ∷ []
unfolding open_stretches open_of stretch_of firsts keep after eq_k rest_of rest_n capped seek
example = refl

pub others :
    (open_stretches 18 (piece 1 2 0 (0x3E ∷ 1 ∷ []) ∷ piece 1 2 0 (0x3C ∷ []) ∷ piece 1 2 1 (7 ∷ []) ∷ []) ≡ []) ×
    (open_stretches 18 (piece 1 2 0 (0x3E ∷ []) ∷ piece 2 2 0 (0x3E ∷ 1 ∷ []) ∷ []) ≡ stretch 1 2 10 1 ∷ stretch 2 2 10 2 ∷ [])
unfolding open_stretches open_of stretch_of firsts keep after eq_k rest_of rest_n capped seek
others = (refl, refl)
