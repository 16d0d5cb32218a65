-- What the functions of both walks ask for and promise.
use Rattle.std.specs.Prelude.{ℕ, suc, Option, None, Some, ◌+◌, ◌*◌, ◌<◌, ◌≤◌, ◌≡◌, List, length}
use Rattle.std.proofs.lemmas.List.Edits.{sets}
use Rattle.words.specs.Words.{word}
use Rattle.words.specs.Front.{Front}
use Rattle.spans.specs.Scan.{rest_of}
use Rattle.search.specs.Seek.{seek}
use Rattle.rfcomm.specs.PieceTable.{Within}
use Rattle.split.specs.Rows.{row_of, dlci_at, key_at, len_at, start_at, bytes_at, held_of, stream_to, joined, capped_length, newest_of, Linked, Laid}
use Rattle.split.specs.declared.Plan.{Plan}

-- ---- one piece

pub record Row (w : List ℕ) (p : Plan) (i : ℕ) : Type 0 where
  pub rows : p.rows + 8 * p.n ≤ p.held
  pub ends : p.held + p.n ≤ p.ends
  pub words : 4 * (p.ends + p.n) ≤ length w
  pub row : i < p.n

-- the tables that are read lie in w, and the pieces are linked
pub record Chained (w : List ℕ) (p : Plan) : Type 0 where
  pub rows : p.rows + 8 * p.n ≤ p.held
  pub chain : p.chain + p.n ≤ p.held
  pub linked : Linked w p
  pub ends : p.held + p.n ≤ p.ends
  pub words : 4 * (p.ends + p.n) ≤ length w

-- room to link the pieces: three words for each, from word links on
pub record LinkRoom (w : List ℕ) (p : Plan) (links : ℕ) : Type 0 where
  pub rows : p.rows + 8 * p.n ≤ p.chain
  pub chain : p.chain + p.n ≤ p.held
  pub over : p.held ≤ links
  pub room : 4 * (links + 3 * p.n) ≤ length w
  pub many : p.n ≤ 1048576

pub record LinkedTo (w : List ℕ) (p : Plan) (u : List ℕ) : Type 0 where
  pub linked : Linked u p
  pub front : Front (4 * p.chain) u w

-- the word of a piece that may be missing: one more than its number, or 0
unfoldable pub one_more : Option ℕ → ℕ
one_more None = 0
one_more (Some j) = suc j

-- one more than the piece of its key before piece i, or 0
pub record Earlier (w : List ℕ) (p : Plan) (i r : ℕ) : Type 0 where
  pub newest : r ≡ newest_of (λ j. key_at w p j) (key_at w p i) i
  pub less : r ≤ i
  pub mine : (j : ℕ) → r ≡ suc j → key_at w p j ≡ key_at w p i

pub record StartIs (w : List ℕ) (p : Plan) (i r : ℕ) : Type 0 where
  pub at : r ≡ start_at w p i
  pub small : r < 4294967296

-- below the tables in w lies what was joined, and the rest in f; w may end behind the tables, so that there is no area
pub record Lying (f w : List ℕ) (p : Plan) : Type 0 where
  pub chained : Chained w p
  pub within : (i : ℕ) → i < p.n → Within f w (row_of p i) (4 * p.held)

-- m bytes of the piece j from skip on, to a place in out
pub record PutPre (w : List ℕ) (p : Plan) (j skip m : ℕ) (out : List ℕ) (to : ℕ) : Type 0 where
  pub row : j < p.n
  pub part : skip + m ≤ len_at w p j
  pub fits : to + m ≤ length out

-- ---- the buffer of a key

pub record GatherPre (f w : List ℕ) (p : Plan) (i h : ℕ) (out : List ℕ) (at : ℕ) : Type 0 where
  pub row : i < p.n
  pub come : h ≤ length (stream_to f w p i)
  pub fits : at + h ≤ length out

pub record JoinPre (f w : List ℕ) (p : Plan) (i h : ℕ) : Type 0 where
  pub laid : Laid f w p
  pub row : i < p.n
  pub held : h ≡ held_of w p i
  pub fits : h ≤ length (stream_to f w p i)

pub record Joined (f w : List ℕ) (p : Plan) (i : ℕ) (u : List ℕ) (r : ℕ) : Type 0 where
  pub put : u ≡ sets w p.area (joined f w p i)
  pub size : r ≡ length (joined f w p i)
  pub fits : p.area + r ≤ length w
  pub small : r ≤ 1048576

-- ---- what is stored of a piece

-- what lies below the words of piece i is as it was
pub record Kept (w : List ℕ) (p : Plan) (i : ℕ) (u : List ℕ) : Type 0 where
  pub front : Front (4 * p.held) u w
  pub long : length u ≡ length w
  pub held : (j : ℕ) → j < i → word u (p.held + j) ≡ word w (p.held + j)
  pub ends : (j : ℕ) → j < i → word u (p.ends + j) ≡ word w (p.ends + j)

-- the words of piece i: how much its key holds after it, and where its first 3C stands
pub record Told (f w : List ℕ) (p : Plan) (i : ℕ) : Type 0 where
  pub holds : word w (p.held + i) ≡ capped_length (length (rest_of (joined f w p i)))
  pub end : word w (p.ends + i) ≡ seek 0x3C (bytes_at f w p i)

-- those of the DLCI's pieces before the n-th
pub record AllTold (f w : List ℕ) (p : Plan) (n : ℕ) : Type 0 where
  pub at : (i : ℕ) → i < n → dlci_at w p i ≡ p.dlci → Told f w p i

-- the step by piece i
pub record Moved (f w : List ℕ) (p : Plan) (i : ℕ) (u : List ℕ) : Type 0 where
  pub kept : Kept w p i u
  pub told : Told f u p i
