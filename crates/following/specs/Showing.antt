-- What one packet shows.
use Rattle.std.specs.Prelude.{Option, Some, None, ℕ, ◌+◌, ◌*◌, ◌≤◌, Bool, cond, List, length}
use Rattle.l2cap.specs.Steps.{row_at, RowPre}
use Rattle.l2cap.specs.declared.Open.{Open}
use Rattle.signs.specs.Counting.{noted, NotePre}
use Rattle.following.specs.declared.Partial.{Partial}

-- a packet at a place, by what is open before it and whether it starts: a continuation of nothing, or a start where something is open
unfoldable pub shown_by : Option Open → Bool → ℕ → Partial → Partial
shown_by None start at g = cond start g (record { stray = noted g.stray 1 at; given_up = g.given_up })
shown_by (Some pdu) start at g = cond start (record { stray = g.stray; given_up = noted g.given_up 1 at }) g

pub record Show (w : List ℕ) (q i : ℕ) (g : Partial) : Type 0 where
  pub row : RowPre w q i
  pub room : 4 * row_at w q i + 16 ≤ length w
  pub low : 24 * i + 24 ≤ length w
  pub stray : NotePre g.stray 1
  pub given : NotePre g.given_up 1
