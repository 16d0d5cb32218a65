-- The table of pieces in work: eight words each, DLCI, 2 * link + direction, CID, session + 65536 * link count,
-- where the information starts, its length (and 65536 if it lies in work), the time.
use Rattle.std.specs.Prelude.{ℕ, zero, suc, ◌+◌, ◌*◌, ◌/◌, ◌%◌, ◌<◌, ◌≤◌, ◌≡◌, cond, List, [], ◌∷◌, length, take, drop, eqb}
use Rattle.words.specs.Words.{word, long}
use Rattle.rfcomm.specs.Pieces.{Piece}

-- the piece whose row is at a word
unfoldable pub piece_at : List ℕ → List ℕ → ℕ → Piece
piece_at f w at = record {
  dlci = word w at;
  key = word w (at + 1) / 2 ∷ word w (at + 2) ∷ word w (at + 3) % 65536 ∷ word w (at + 3) / 65536 ∷ word w (at + 1) % 2 ∷ [];
  rx = word w (at + 1) % 2;
  time = long w (at + 6);
  bytes = take (word w (at + 5) % 65536) (drop (word w (at + 4)) (cond (eqb (word w (at + 5) / 65536) 1) w f));
}

-- m pieces from the i-th on, of a table at word b
unfoldable pub pieces_from : List ℕ → List ℕ → ℕ → ℕ → ℕ → List Piece
pieces_from f w b i zero = []
pieces_from f w b i (suc m) = piece_at f w (b + 8 * i) ∷ pieces_from f w b (suc i) m

-- the information bytes of the first i pieces
unfoldable pub infos_of : List ℕ → ℕ → ℕ → ℕ
infos_of w b zero = 0
infos_of w b (suc i) = infos_of w b i + word w (b + 8 * i + 5) % 65536

-- the information lies in the file, or in the first top bytes of work; the DLCI has 6 bits and is not 0
pub record Within (f w : List ℕ) (at top : ℕ) : Type 0 where
  pub inside : word w (at + 4) + word w (at + 5) % 65536 ≤ cond (eqb (word w (at + 5) / 65536) 1) top (length f)
  pub least : 0 < word w at
  pub most : word w at < 64

-- the pieces that a list holds, as the split into spans finds them
pub record Pieced (f w : List ℕ) (n : ℕ) (ps : List Piece) : Type 0 where
  pub list : pieces_from f w (5 * (length f / 4)) 0 n ≡ ps
  pub within : (i : ℕ) → i < n → Within f w (5 * (length f / 4) + 8 * i) (8 * (length f / 4))
  pub few : 16 + 32 * n + infos_of w (5 * (length f / 4)) n ≤ length f
  pub small : length f ≤ 1048576
  pub room : 8 * length f ≤ length w
