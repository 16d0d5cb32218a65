-- Listing the records over the C interface.
use Rattle.std.specs.Prelude.{ℕ, ◌≡◌, List}
use Rattle.trace.specs.Formats.{container_of}
use Rattle.trace.specs.Listing.{listing, starts_of}
use Rattle.trace.specs.declared.Container.{Container}
use Rattle.telling.specs.Telling.{stored, Told}

-- the answer, told; and where each record starts, as many as the list d has room for: nothing after a refusal
pub record RecordsCalls (b : Container) (f d v : List ℕ) (r : ℕ) (d' v' : List ℕ) : Type 0 where
  pub tells : Told (listing (container_of b) f) v r v'
  pub starts : d' ≡ stored (starts_of (container_of b) f) d
