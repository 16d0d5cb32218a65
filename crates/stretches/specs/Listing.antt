-- The open stretches listed in words below the table of pieces: what the functions ask for and promise.
use Rattle.std.specs.Prelude.{ℕ, zero, suc, ◌+◌, ◌-◌, ◌*◌, ◌/◌, ◌%◌, ◌<◌, ◌≤◌, ◌≡◌, Bool, cond, ◌&&◌, List, [], ◌∷◌, ◌++◌, length, eqb, ltb}
use Rattle.words.specs.Words.{word}
use Rattle.words.specs.Front.{Front}
use Rattle.split.specs.Rows.{row_of, dlci_at, key_at, held_in, all, Linked, Laid}
use Rattle.split.specs.Walks.{Chained, AllTold}
use Rattle.split.specs.declared.Plan.{Plan}
use Rattle.stretches.specs.Open.{open_stretches}
use Rattle.stretches.specs.Filled.{stretches_to}
use Rattle.stretches.specs.declared.Stretch.{Stretch}

-- six words for each piece below the pieces; the pieces and what links them below the lengths held
pub record ListRoom (w : List ℕ) (p : Plan) : Type 0 where
  pub low : 6 * p.n ≤ p.rows
  pub after : p.rows ≤ p.chain
  pub rows : p.rows + 8 * p.n ≤ p.held
  pub chain : p.chain + p.n ≤ p.held
  pub ends : p.held + p.n ≤ p.ends
  pub words : 4 * (p.ends + p.n) ≤ length w
  pub many : p.n ≤ 1048576

pub record PieceIn (w : List ℕ) (p : Plan) (i : ℕ) : Type 0 where
  pub chained : Chained w p
  pub row : i < p.n

-- ---- what each key holds at the end, told to each of its pieces

-- the piece before it of its key, if there is one, is told the length held after it; nothing else changes
pub record Handed (w : List ℕ) (p : Plan) (i : ℕ) (u : List ℕ) : Type 0 where
  pub front : Front (4 * p.held) u w
  pub told : 0 < word w (p.chain + i) → word u (p.held + (word w (p.chain + i) - 1)) ≡ word w (p.held + i)
  pub kept : (j : ℕ) → (word w (p.chain + i) ≡ suc j → ⊥) → word u (p.held + j) ≡ word w (p.held + j)

pub record SpreadPre (w : List ℕ) (p : Plan) : Type 0 where
  pub room : ListRoom w p
  pub linked : Linked w p

-- every piece is told the length held after the last piece of its key
pub record Spread (w : List ℕ) (p : Plan) (u : List ℕ) : Type 0 where
  pub front : Front (4 * p.held) u w
  pub last : (i : ℕ) → i < p.n → word u (p.held + i) ≡ held_in w p p.n (key_at w p i)

-- ---- the list

-- the first piece of its key, of the DLCI, and something is held
unfoldable pub is_open : List ℕ → Plan → ℕ → Bool
is_open w p i = eqb (dlci_at w p i) p.dlci && (eqb (word w (p.chain + i)) 0 && ltb 0 (word w (p.held + i)))

-- the stretch of a piece
unfoldable pub row_stretch : List ℕ → Plan → ℕ → Stretch
row_stretch w p i = record {
  way = word w (row_of p i + 1);
  cid = word w (row_of p i + 2);
  dlci = dlci_at w p i;
  sessions = word w (row_of p i + 3) % 65536;
  links = word w (row_of p i + 3) / 65536;
  held = word w (p.held + i);
}

-- its six words
unfoldable pub words_of : Stretch → List ℕ
words_of s = s.way ∷ s.cid ∷ s.dlci ∷ s.sessions ∷ s.links ∷ s.held ∷ []

-- what piece i adds to the list
unfoldable pub added : List ℕ → Plan → ℕ → List Stretch
added w p i = cond (is_open w p i) (row_stretch w p i ∷ []) []

-- a piece, and k stretches listed before it
pub record AddPre (w : List ℕ) (p : Plan) (i k : ℕ) : Type 0 where
  pub pre : SpreadPre w p
  pub row : i < p.n
  pub fewer : k ≤ i

-- the words from the pieces on are as they were
abbrev pub Above : Plan → List ℕ → List ℕ → Type 0
Above p u w = (j : ℕ) → p.rows ≤ j → word u j ≡ word w j

pub record Added (w : List ℕ) (p : Plan) (i k : ℕ) (u : List ℕ) (r : ℕ) : Type 0 where
  pub list : stretches_to u r ≡ stretches_to w k ++ added w p i
  pub above : Above p u w
  pub fewer : r ≤ i + 1

-- what the first i pieces add
unfoldable pub open_to : List ℕ → Plan → ℕ → List Stretch
open_to w p zero = []
open_to w p (suc i) = open_to w p i ++ added w p i

pub record SpreadListed (w : List ℕ) (p : Plan) (u : List ℕ) (r : ℕ) : Type 0 where
  pub list : stretches_to u r ≡ open_to w p p.n
  pub few : r ≤ p.n

-- the r stretches listed are those of the DLCI's pieces that are open, whatever file the pieces are of
pub record OpenListed (w : List ℕ) (p : Plan) (u : List ℕ) (r : ℕ) : Type 0 where
  pub list : (f : List ℕ) → Laid f w p → AllTold f w p p.n → stretches_to u r ≡ open_stretches p.dlci (all f w p)
  pub few : r ≤ p.n
