-- Where the bytes of the pieces still to come go: what the next piece adds to those taken in and to those cleared.
use Prim.Native.Nat.{ℕ, ◌+◌, ◌-◌, ◌*◌, ◌<◌}
use mathlib.Core.Path.{◌≡◌}
use mathlib.Core.List.{List}
use native.Mathlib.Omega.{arith}
use lib.ListN.{length}
use lib.Dec.{leb}
use Rattle.laws.proofs.Choice.{split_b}
use Rattle.laws.specs.Keys.{Key}
use Rattle.laws.specs.Keyed.{step, run}
use Rattle.laws.specs.Totals.{total}
use Rattle.words.specs.Front.{Front}
use Rattle.rfcomm.specs.Pieces.{Piece}
use Rattle.spans.specs.Scan.{rest_of}
use Rattle.spans.specs.Spans.{scanner}
use Rattle.spans.specs.Account.{cleared_of, weighing, taken_in}
use Rattle.split.specs.Rows.{piece, dlci_at, len_at, opened, joined, capped_length, ahead}
use Rattle.split.specs.Walks.{Lying}
use Rattle.split.specs.declared.Plan.{Plan}
use Rattle.split.proofs.Tables.{piece_bytes, length_bytes}
use Rattle.split.proofs.Aheads.{ahead_own, own_joined, next_ahead}

-- what of a rest is not held is cleared
pub cleared_rest : (b : List ℕ) → length b - capped_length (length b) ≡ cleared_of b
unfolding capped_length cleared_of
cleared_rest b = split_b (leb (length b) 65536) (λ e. rw e (omega arith)) (λ e. rw e (omega arith))

-- bytes cleared over the limit, from some buffers on
abbrev pub cleared_from : (Key → List ℕ) → List Piece → ℕ
cleared_from m ps = total (λ n. n) (run (weighing (λ b. cleared_of (rest_of b))) m ps)

module _ (f w : List ℕ) (p : Plan) (i : ℕ) (h : i < p.n) (d : dlci_at w p i ≡ p.dlci) (u : List ℕ) (l : Lying f w p) (s : Front (4 * p.held) u w) (m : opened f u p (i + 1) ≡ step scanner (opened f w p i) (piece f w p i)) where
  pub next_taken : taken_in (ahead f w p i) ≡ len_at w p i + taken_in (ahead f u p (i + 1))
  unfolding taken_in total
  next_taken = rw (ahead_own f w p i h d, next_ahead f w p i h d u l s m, piece_bytes f w p i, length_bytes f w p l i h)

  pub next_cleared : cleared_from (opened f w p i) (ahead f w p i) ≡ cleared_of (rest_of (joined f w p i)) + cleared_from (opened f u p (i + 1)) (ahead f u p (i + 1))
  unfolding run total
  next_cleared = rw (ahead_own f w p i h d, next_ahead f w p i h d u l s m, m, own_joined f w p i h d)
