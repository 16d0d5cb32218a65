-- What one record shows, as the code finds it in the file.
use Rattle.std.specs.List.{list_all}
use Prim.Native.Nat.{ℕ, ◌≤◌}
use mathlib.Core.Path.{◌≡◌, refl, ap}
use mathlib.Core.Bool.{◌&&◌}
use mathlib.Core.List.{List, [], ◌∷◌}
use native.Mathlib.Omega.{arith}
use lib.ListN.{length}
use lib.Dec.{eqb}
use Rattle.trace.specs.Finding.{bytes_of}
use Rattle.trace.proofs.Finding.{bytes_least}
use Rattle.trace.proofs.Formats.{head_least}
use Rattle.trace.specs.declared.record.Record.{Record}
use Rattle.signs.specs.Recorded.{is_zeros}

-- a record has 16 bytes at least
pub bytes_head : (r : Record) (b : List ℕ) → b ≡ bytes_of r → 16 ≤ length b
bytes_head r b s = rw s (omega (arith, head_least r.trace.format, bytes_least r))

pub zeros_all : (b : List ℕ) → list_all (λ x. eqb x 0) b ≡ is_zeros b
unfolding is_zeros
zeros_all [] = refl
zeros_all (x ∷ xs) = ap (λ t. eqb x 0 && t) (zeros_all xs)
