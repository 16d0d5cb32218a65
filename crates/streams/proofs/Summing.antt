-- The stream of a DLCI, from what is counted of it: the bytes in spans from their list, and the bytes dropped from the law of the sum.
use Prim.Native.Nat.{ℕ, ◌+◌, ◌-◌, ◌*◌, ◌<◌}
use mathlib.Core.Path.{◌≡◌}
use mathlib.Core.List.{List}
use native.Mathlib.Omega.{arith}
use Rattle.rfcomm.specs.Pieces.{Piece}
use Rattle.spans.specs.Spans.{spans, on_dlci}
use Rattle.spans.specs.Account.{in_spans, dropped}
use Rattle.spans.proofs.Account.{conserved, list_length}
use Rattle.split.specs.Rows.{all}
use Rattle.split.specs.declared.Plan.{Plan}
use Rattle.measuring.specs.Counting.{CountIs}
use Rattle.measuring.specs.declared.Sums.{Sums}
use Rattle.streams.specs.Streams.{Accountable, stream_summed, stream_of}

module _ (f w : List ℕ) (p : Plan) (u : List ℕ) (s : Sums) (c : CountIs f w p u s) where
  -- the list has 14 bytes before each wire
  wires : s.tally.bytes ≡ 14 * s.tally.count + in_spans (all f w p)
  unfolding in_spans
  wires = rw (c.bytes, c.count) (list_length (spans (all f w p)))

  -- the four numbers are the bytes taken in
  sum : in_spans (all f w p) + dropped (all f w p) + s.cleared + s.left ≡ s.taken
  sum = rw (c.clears, c.holds, c.takes) (conserved (all f w p))

  pub accountable : (d : ℕ) → d < 256 → Accountable d s
  accountable d h = record { small = h; listed = omega (arith, wires); taken = omega (arith, wires, sum) }

  pub stream_summed_law : (ps : List Piece) (d : ℕ) → all f w p ≡ on_dlci d ps → stream_summed d s ≡ stream_of ps d
  unfolding stream_summed stream_of
  stream_summed_law ps d e =
      let a : s.tally.bytes - 14 * s.tally.count ≡ in_spans (all f w p) = omega (arith, wires) in
      let b : s.taken - (s.tally.bytes - 14 * s.tally.count) - s.cleared - s.left ≡ dropped (all f w p) = omega (arith, wires, sum) in
      rw (b, a, c.count, c.bytes, c.live, c.clears, c.holds, e)
