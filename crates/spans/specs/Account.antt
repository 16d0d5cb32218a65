-- Where every byte went. Document 02, job 4: bytes in spans, bytes dropped before a start marker or for want of one, bytes cleared over the limit,
-- and bytes left in buffers. Each is defined from the scanning rule; none is the rest of a sum.
use Rattle.std.specs.Prelude.{ℕ, zero, suc, ◌+◌, cond, List, [], ◌∷◌, ◌++◌, map, length, drop, leb}
use Rattle.laws.specs.Keyed.{Machine, run, after}
use Rattle.laws.specs.Count.{nub}
use Rattle.laws.specs.Totals.{total}
use Rattle.rfcomm.specs.Pieces.{Piece}
use Rattle.search.specs.Seek.{seek}
use Rattle.spans.specs.Scan.{begun, end, ended, rest_of, capped}
use Rattle.spans.specs.Spans.{scanner, emptied, spans}

-- ---- one buffer with a piece behind it

-- drop bytes before the first 3E (all, if none): as many as stand before it, each time round; repeated n times at most, as the spans are
unfoldable pub dropped_n : ℕ → List ℕ → ℕ
dropped_n zero b = 0
dropped_n (suc n) b = seek 0x3E b + cond (ended (begun b)) (dropped_n n (drop (end (begun b)) (begun b))) 0

unfoldable pub dropped_of : List ℕ → ℕ
dropped_of b = dropped_n (suc (length b)) b

-- of what is left: over 65,536 bytes all of it is cleared
unfoldable pub cleared_of : List ℕ → ℕ
cleared_of b = cond (leb (length b) 65536) 0 (length b)

-- ---- pieces

-- a number for each piece, from its buffer with the piece behind it; the buffers are the scanner's
abbrev pub weighing : (List ℕ → ℕ) → Machine Piece ℕ
weighing f = record {
  S = List ℕ;
  key = λ p. p.key;
  next = λ b p. capped (rest_of (b ++ p.bytes));
  out = λ b p. f (b ++ p.bytes) ∷ [];
}

-- bytes in spans: the wires of all of them, markers included, unpacking or not
unfoldable pub in_spans : List Piece → ℕ
in_spans ps = total (λ s. length s.wire) (spans ps)

-- bytes dropped before a start marker or for want of one, at each piece
unfoldable pub dropped : List Piece → ℕ
dropped ps = total (λ n. n) (run (weighing dropped_of) emptied ps)

-- bytes cleared over the limit, at each piece
unfoldable pub cleared : List Piece → ℕ
cleared ps = total (λ n. n) (run (weighing (λ b. cleared_of (rest_of b))) emptied ps)

-- bytes left in buffers at the end
unfoldable pub left : List Piece → ℕ
left ps = total (λ k. length (after scanner emptied ps k)) (nub (map (λ p. p.key) ps))

-- ---- the account

pub record Account : Type 0 where
  pub in_spans : ℕ
  pub dropped : ℕ
  pub cleared : ℕ
  pub left : ℕ

abbrev pub account_of : List Piece → Account
account_of ps = record { in_spans = in_spans ps; dropped = dropped ps; cleared = cleared ps; left = left ps }

-- the order in which it is told
abbrev pub account_values : Account → List ℕ
account_values a = a.in_spans ∷ a.dropped ∷ a.cleared ∷ a.left ∷ []

-- what the four add up to: the information bytes of the pieces taken in
unfoldable pub taken_in : List Piece → ℕ
taken_in ps = total (λ p. length p.bytes) ps
