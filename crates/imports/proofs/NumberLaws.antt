-- From numbers to options.
use Prim.Native.Nat.{ℕ, ◌<◌}
use mathlib.Core.Path.{◌≡◌}
use borrow.Author.Tests.{le-leb, lt-leb}
use Rattle.std.specs.Prelude.{Result, Ok, Err, OkIff}
use Rattle.std.specs.Result.{result_ok}
use Rattle.laws.proofs.Choice.{split≤}
use native.Mathlib.Omega.{arith}
use Rattle.streams.specs.Streams.{channel_of}
use Rattle.outcome.specs.Import.{by_source}
use Rattle.options.specs.Numbers.{tail_number}
use Rattle.options.proofs.Numbers.{fcs_two}
use Rattle.imports.specs.Numbers.{channel_number, options_number}

-- the channel that a byte can hold, or any
pub channel_law : {E : Type 0} (n : ℕ) (r : Result ℕ E) → OkIff r (n < 256) n → channel_of (result_ok r) ≡ channel_number n
unfolding channel_of channel_number
channel_law n (Ok x) k = rw (k.1, le-leb n 255 (omega (arith, k.0)))
channel_law n (Err e) k = split≤ 256 n (λ h. rw (lt-leb n 255 (omega arith))) (λ h. absurd (k h))

-- two numbers ask for document 01's import
pub number_by_source : (channel tail : ℕ) → options_number channel tail ≡ by_source (channel_number channel) (tail_number tail)
number_by_source channel tail = rw (fcs_two channel tail)
