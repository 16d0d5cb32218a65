-- The bytes that import says it wrote lie in its output.
use Rattle.std.specs.Prelude.{Ok, ℕ, ◌≤◌, ◌≡◌, List, length}
use Rattle.capture.specs.declared.Summary.{Summary}
use Rattle.capture.specs.Calls.{Imported}

pub record Lies (r : Imported) (out : List ℕ) : Type 0 where
  pub within : (s : Summary) → r ≡ Ok s → s.stream.bytes ≤ length out
