-- What following the packets leaves in work for the walk that finds what is open at the end.
use Rattle.std.specs.Prelude.{Option as Maybe, Some, None, ℕ, zero, suc, ◌+◌, ◌*◌, ◌/◌, ◌<◌, ◌≤◌, ◌≡◌, List, [], ◌∷◌, length}
use Rattle.std.proofs.Math.Option.{Option, none, some}
use Rattle.container.specs.Packets.{Packet}
use Rattle.trace.specs.Formats.{packets_by}
use Rattle.trace.specs.declared.Format.{Format}
use Rattle.packets.specs.PacketTable.{packet_at, packets_from, Tabled}
use Rattle.l2cap.specs.Pdus.{packet_key}
use Rattle.l2cap.specs.Steps.{open_from, row_at, RowPre, open_in}
use Rattle.l2cap.specs.declared.Open.{Open}
use Rattle.signs.specs.Places.{Placed, packets_at}
use Rattle.signs.specs.Partial.{Begun, at_end}

-- the place of packet number i
unfoldable pub place_at : List (Placed Packet) → ℕ → ℕ
place_at [] i = 0
place_at (a ∷ rest) zero = a.at
place_at (a ∷ rest) (suc i) = place_at rest i

-- the place of what is open
abbrev pub begun_place : Begun → Option ℕ
begun_place none = none
begun_place (some b) = some b.at

-- the same as the table has it, by the number of the packet that began it
unfoldable pub open_place : List (Placed Packet) → Maybe Open → Option ℕ
open_place ps None = none
open_place ps (Some pdu) = some (place_at ps pdu.first)

-- The table of the file's packets, and for each of them the row of its key, which says what is open under the key at the end.
pub record Followed (g : Format) (f w : List ℕ) (count : ℕ) : Type 0 where
  pub small : length f ≤ 1048576
  pub tabled : Tabled f w count
  pub list : packets_from f w 0 count ≡ packets_by g f
  pub rows : (i : ℕ) → i < count → RowPre w (length f / 4) i
  pub room : (i : ℕ) → i < count → 4 * row_at w (length f / 4) i + 16 ≤ length w
  pub opened :
      (i : ℕ) → i < count →
      open_place (packets_at g f) (open_in w (row_at w (length f / 4) i)) ≡ begun_place (at_end (packets_at g f) (packet_key (packet_at f w i)))
  -- what is open began with a packet of the table
  pub known : (i a n : ℕ) → i < count → open_in w (row_at w (length f / 4) i) ≡ open_from a n → a < count
