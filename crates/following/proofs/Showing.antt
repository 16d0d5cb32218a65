-- One packet: what its signs need, and what its step does.
use Prim.Native.Nat.{ℕ, ◌+◌, ◌*◌}
use mathlib.Core.Path.{◌≡◌, refl}
use mathlib.Core.List.{List}
use native.Mathlib.Omega.{arith}
use lib.Dec.{eqb}
use Rattle.words.specs.Words.{word}
use Rattle.l2cap.specs.Steps.{row_at, open_in, Ran}
use Rattle.l2cap.specs.declared.Tables.{Tables}
use Rattle.l2cap.proofs.Stepping.{step_row, at_room}
use Rattle.l2cap.proofs.Ranges.{ran_one}
use Rattle.following.specs.Showing.{shown_by, Show}
use Rattle.following.specs.Passing.{Turn, Turned}
use Rattle.following.specs.declared.Partial.{Partial}
use Rattle.following.specs.declared.Pass.{Pass}

pub turn_show : (f w : List ℕ) (q : ℕ) (s : Pass) → Turn f w q s → Show w q s.count s.signs
turn_show f w q s p = record {
  row = step_row f w q s.tables s.count p.step;
  room = at_room f w q s.tables s.count p.step (row_at w q s.count) refl;
  low = omega (arith, p.step.tabled.total, p.step.tabled.room);
  stray = record { small = omega (arith, p.stray, p.step.tabled.total, p.step.tabled.small) };
  given = record { small = omega (arith, p.given, p.step.tabled.total, p.step.tabled.small) };
}

-- its step was a range of one packet
pub turn_done :
    (f w : List ℕ) (q at : ℕ) (s : Pass) (g : Partial) →
    g ≡ shown_by (open_in w (row_at w q s.count)) (eqb (word w (6 * s.count + 1)) 1) at s.signs →
    (u : List ℕ) (t : Tables) → Ran f q w s.tables s.count u t (s.count + 1) → Turned f w q at s u (record { count = s.count + 1; tables = t; signs = g })
turn_done f w q at s g ge u t ran = record { count = refl; stepped = ran_one f q w s.tables s.count u t ran; signs = ge }
