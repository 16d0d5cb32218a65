-- From numbers to directions and tests.
use Prim.Native.Nat.{ℕ}
use mathlib.Core.Path.{◌≡◌}
use mathlib.Core.List.{List}
use lib.Dec.{eqb}
use Rattle.laws.proofs.Choice.{split_b}
use Rattle.laws.specs.Answers.{Answer, Meets}
use Rattle.items.specs.Items.{rx_of}
use Rattle.items.specs.declared.Direction.{Direction}
use Rattle.items.specs.Walks.{direction_of}
use Rattle.names.specs.Names.{fixture_name}
use Rattle.telling.specs.Telling.{Calls, Told}
use Rattle.telling.proofs.TellLaws.{calls}
use Rattle.told.specs.Numbers.{way_of}

way_is : (w : ℕ) → rx_of (direction_of w) ≡ way_of w
unfolding way_of rx_of direction_of
way_is w = split_b (eqb w 1) (λ e. rw e) (λ e. rw e)

-- a name's direction by number
pub named_calls :
    (ms counter way : ℕ) (d : Direction) (k : ℕ) → k ≡ way → d ≡ direction_of k → (wire out : List ℕ) (a : Answer) (out' : List ℕ) → Meets (fixture_name ms counter (rx_of d) wire) out a out' →
    (v : List ℕ) (r : ℕ) (v' : List ℕ) → Told a v r v' → Calls (fixture_name ms counter (way_of way) wire) out out' v r v'
named_calls ms counter way d k q e wire out a out' m v r v' t = rw (← way_is way, ← q, ← e) (calls (fixture_name ms counter (rx_of d) wire) out a out' m v r v' t)
