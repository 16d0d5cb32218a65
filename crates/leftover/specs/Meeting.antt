-- What the functions of the walk ask and promise.
use Rattle.std.specs.Prelude.{Option, Some, None, ℕ, ◌+◌, ◌*◌, ◌≤◌, ◌≡◌, Bool, false, cond, List, length, eqb}
use Rattle.trace.specs.Formats.{packet_by}
use Rattle.trace.specs.Finding.{bytes_of}
use Rattle.trace.specs.declared.record.Record.{Record}
use Rattle.l2cap.specs.Steps.{row_at, RowPre, open_in}
use Rattle.l2cap.specs.declared.Open.{Open}
use Rattle.signs.specs.Counting.{noted, NotePre}
use Rattle.signs.specs.Recorded.{is_none}
use Rattle.signs.specs.declared.Gap.{Gap}
use Rattle.leftover.specs.declared.Met.{Met}

-- what is open was begun by packet i
unfoldable pub began_by : Option Open → ℕ → Bool
began_by None i = false
began_by (Some pdu) i = eqb pdu.first i

-- packet i, whose record starts at a place
unfoldable pub counted_at : List ℕ → ℕ → ℕ → Gap → ℕ → Gap
counted_at w q i g at = cond (began_by (open_in w (row_at w q i)) i) (noted g 1 at) g

-- a record at a place, which may lack a packet
unfoldable pub met_at : List ℕ → ℕ → ℕ → Met → Bool → Met
met_at w q at m lacks = cond lacks m (record { packets = m.packets + 1; left = counted_at w q m.packets m.left at })

pub record BeganPre (w : List ℕ) (q i : ℕ) : Type 0 where
  pub row : RowPre w q i
  pub room : 4 * row_at w q i + 16 ≤ length w

pub record CountPre (w : List ℕ) (q i : ℕ) (g : Gap) : Type 0 where
  pub began : BeganPre w q i
  pub note : NotePre g 1

pub record MeetPre (r : Record) (w : List ℕ) (q : ℕ) (m : Met) : Type 0 where
  pub few : m.packets ≤ 1048576
  pub count : is_none (packet_by r.trace.format (bytes_of r)) ≡ false → CountPre w q m.packets m.left
