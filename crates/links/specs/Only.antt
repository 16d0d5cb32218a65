-- The file with only one link's records.
use Rattle.std.specs.Prelude.{ℕ, Bool, false, List, ◌++◌, take, eqb}
use Rattle.std.proofs.Math.Option.{Option, none, some}
use Rattle.laws.specs.Keyed.{keep}
use Rattle.laws.specs.Lists.{flat}
use Rattle.container.specs.Packets.{Packet}
use Rattle.container.specs.Container.{Container, records}

-- what a record holds is a packet of the link
unfoldable pub is_of : ℕ → Option Packet → Bool
is_of l none = false
is_of l (some a) = eqb a.link l

module _ (C : Container) where
  -- the link's records, in order: those that hold a packet of it
  unfoldable pub link_records : ℕ → List ℕ → List (List ℕ)
  link_records l f = keep (λ r. is_of l (C.packet f r)) (records C f)

  -- the file's header, and that link's records alone
  unfoldable pub only : ℕ → List ℕ → List ℕ
  only l f = take C.head f ++ flat (link_records l f)
