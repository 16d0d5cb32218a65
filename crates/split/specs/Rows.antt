-- The table of pieces, and behind it words for each piece; one of them says how many bytes its key holds after it.
-- What a key holds before the i-th piece is the last so many bytes of all that came under the key.
use Rattle.std.specs.Prelude.{ℕ, zero, suc, ◌+◌, ◌-◌, ◌*◌, ◌/◌, ◌%◌, ◌<◌, ◌≤◌, ◌≡◌, Bool, cond, List, [], ◌∷◌, ◌++◌, length, take, drop, eqb, leb}
use Rattle.laws.specs.Keys.{Key, eq_k}
use Rattle.words.specs.Words.{word}
use Rattle.rfcomm.specs.Pieces.{Piece}
use Rattle.rfcomm.specs.PieceTable.{piece_at, pieces_from, infos_of, Within}
use Rattle.spans.specs.Spans.{on_dlci}
use Rattle.split.specs.Last.{lastn}
use Rattle.split.specs.declared.Plan.{Plan}

-- ---- one piece

abbrev pub row_of : Plan → ℕ → ℕ
row_of p i = p.rows + 8 * i

abbrev pub piece : List ℕ → List ℕ → Plan → ℕ → Piece
piece f w p i = piece_at f w (row_of p i)

abbrev pub dlci_at : List ℕ → Plan → ℕ → ℕ
dlci_at w p i = word w (row_of p i)

-- the stretch and direction, as the piece has them
unfoldable pub tail_at : List ℕ → Plan → ℕ → Key
tail_at w p i = word w (row_of p i + 1) / 2 ∷ word w (row_of p i + 2) ∷ word w (row_of p i + 3) % 65536 ∷ word w (row_of p i + 3) / 65536 ∷ word w (row_of p i + 1) % 2 ∷ []

-- the DLCI in front of them
unfoldable pub key_at : List ℕ → Plan → ℕ → Key
key_at w p i = dlci_at w p i ∷ tail_at w p i

abbrev pub len_at : List ℕ → Plan → ℕ → ℕ
len_at w p i = word w (row_of p i + 5) % 65536

abbrev pub start_at : List ℕ → Plan → ℕ → ℕ
start_at w p i = word w (row_of p i + 4)

-- what its key holds after it, and the place of its first 3C, which counting stores
abbrev pub held_at : List ℕ → Plan → ℕ → ℕ
held_at w p i = word w (p.held + i)

abbrev pub end_at : List ℕ → Plan → ℕ → ℕ
end_at w p i = word w (p.ends + i)

abbrev pub in_work : List ℕ → Plan → ℕ → Bool
in_work w p i = eqb (word w (row_of p i + 5) / 65536) 1

unfoldable pub bytes_at : List ℕ → List ℕ → Plan → ℕ → List ℕ
bytes_at f w p i = take (len_at w p i) (drop (start_at w p i) (cond (in_work w p i) w f))

-- ---- all that came under a key before the i-th piece, and how much of it is held

unfoldable pub stream_of : List ℕ → List ℕ → Plan → ℕ → Key → List ℕ
stream_of f w p zero k = []
stream_of f w p (suc i) k = stream_of f w p i k ++ cond (eq_k (key_at w p i) k) (bytes_at f w p i) []

unfoldable pub held_in : List ℕ → Plan → ℕ → Key → ℕ
held_in w p zero k = 0
held_in w p (suc i) k = cond (eq_k (key_at w p i) k) (word w (p.held + i)) (held_in w p i k)

-- of the DLCI: the buffers of the machine, before the i-th piece
unfoldable pub opened : List ℕ → List ℕ → Plan → ℕ → Key → List ℕ
opened f w p i k = lastn (held_in w p i (p.dlci ∷ k)) (stream_of f w p i (p.dlci ∷ k))

-- no more is held than came
pub record Fits (f w : List ℕ) (p : Plan) (i : ℕ) : Type 0 where
  pub at : (k : Key) → held_in w p i (p.dlci ∷ k) ≤ length (stream_of f w p i (p.dlci ∷ k))

-- for the key of the i-th piece
abbrev pub held_of : List ℕ → Plan → ℕ → ℕ
held_of w p i = held_in w p i (key_at w p i)

abbrev pub stream_to : List ℕ → List ℕ → Plan → ℕ → List ℕ
stream_to f w p i = stream_of f w p i (key_at w p i)

-- the buffer of that key, and the piece behind it
unfoldable pub joined : List ℕ → List ℕ → Plan → ℕ → List ℕ
joined f w p i = lastn (held_of w p i) (stream_to f w p i) ++ bytes_at f w p i

-- what is held of a rest: over 65,536 bytes clears the buffer
unfoldable pub capped_length : ℕ → ℕ
capped_length n = cond (leb n 65536) n 0

-- ---- the DLCI's pieces from the i-th on, and all of them

abbrev pub ahead : List ℕ → List ℕ → Plan → ℕ → List Piece
ahead f w p i = on_dlci p.dlci (pieces_from f w p.rows i (p.n - i))

abbrev pub all : List ℕ → List ℕ → Plan → List Piece
all f w p = on_dlci p.dlci (pieces_from f w p.rows 0 p.n)

-- ---- where the tables lie

-- one more than the newest of the first n rows, with their keys, that has the key k; 0 if none has
unfoldable pub newest_of : (ℕ → Key) → Key → ℕ → ℕ
newest_of κ k zero = 0
newest_of κ k (suc n) = cond (eq_k (κ n) k) (suc n) (newest_of κ k n)

-- one word for each piece says which piece of its key came before it
pub record Linked (w : List ℕ) (p : Plan) : Type 0 where
  pub before : (i : ℕ) → i < p.n → word w (p.chain + i) ≡ newest_of (λ j. key_at w p j) (key_at w p i) i

-- the pieces and the words that link them below the lengths held, these below the places of 3C, these below the area, and the area has
-- room for all information
pub record Laid (f w : List ℕ) (p : Plan) : Type 0 where
  pub rows : p.rows + 8 * p.n ≤ p.held
  pub chain : p.chain + p.n ≤ p.held
  pub linked : Linked w p
  pub ends : p.held + p.n ≤ p.ends
  pub area : 4 * (p.ends + p.n) ≤ p.area
  pub many : p.n ≤ 1048576
  pub sum : infos_of w p.rows p.n ≤ 1048576
  pub room : p.area + infos_of w p.rows p.n ≤ length w
  pub within : (i : ℕ) → i < p.n → Within f w (row_of p i) (4 * p.held)
