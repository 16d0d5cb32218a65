-- Records and packets with their places: the byte of the file at which the record starts.
use Rattle.std.specs.Prelude.{ℕ, ◌+◌, Bool, cond, List, [], ◌∷◌, ◌++◌, length}
use Rattle.std.proofs.Math.Option.{Option, none, some}
use Rattle.container.specs.Packets.{Packet}
use Rattle.trace.specs.Formats.{file_head, packet_by, records_by}
use Rattle.trace.specs.declared.Format.{Format}

pub record Placed (A : Type 0) : Type 0 where
  pub at : ℕ
  pub is : A

-- records that follow one another from a place on
unfoldable pub placed : ℕ → List (List ℕ) → List (Placed (List ℕ))
placed at [] = []
placed at (r ∷ rs) = record { at = at; is = r } ∷ placed (at + length r) rs

-- the packet of a record at a place, if there is one
unfoldable pub placed_packet : ℕ → Option Packet → List (Placed Packet)
placed_packet at none = []
placed_packet at (some p) = record { at = at; is = p } ∷ []

-- the packets of records, by a reader of one record
unfoldable pub placed_packets : (List ℕ → Option Packet) → List (Placed (List ℕ)) → List (Placed Packet)
placed_packets read [] = []
placed_packets read (r ∷ rs) = placed_packet r.at (read r.is) ++ placed_packets read rs

-- the places of the records that a test picks
unfoldable pub where_is : (List ℕ → Bool) → List (Placed (List ℕ)) → List ℕ
where_is t [] = []
where_is t (r ∷ rs) = cond (t r.is) (r.at ∷ where_is t rs) (where_is t rs)

-- the whole records of a file, by what its header says
unfoldable pub records_at : Format → List ℕ → List (Placed (List ℕ))
records_at g f = placed (file_head g) (records_by g f)

-- the ACL packets that they hold
unfoldable pub packets_at : Format → List ℕ → List (Placed Packet)
packets_at g f = placed_packets (packet_by g) (records_at g f)
