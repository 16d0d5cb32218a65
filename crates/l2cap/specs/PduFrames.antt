-- Laws on the table of PDUs, for the passes that read it: one PDU at a time, its payload, and what a write behind the table leaves.
use Rattle.std.specs.Prelude.{List, ℕ, ◌+◌, ◌*◌, ◌<◌, ◌≤◌, length}
use Rattle.l2cap.specs.PduTable.{Inside}

-- ---- a payload that can be lent

pub record Lent (f w : List ℕ) (at : ℕ) : Type 0 where
  pub room : 4 * at + 28 ≤ length w
  pub inside : Inside f w at (length w)

-- ---- the frame

-- the rows of a table lie in the file, or in the first top bytes of work
abbrev pub Placed : List ℕ → List ℕ → ℕ → ℕ → ℕ → Type 0
Placed f w b n top = (j : ℕ) → j < n → Inside f w (b + 7 * j) top
