use lib.ListN.{take}
use Rattle.telling.specs.Telling.{stored}
use Prim.Native.Nat.{ℕ}
use mathlib.Core.Path.{◌≡◌}
use mathlib.Core.List.{List}
use Rattle.telling.proofs.store.Given as goal

abbrev pub invariant-loop-i : goal.invariant-loop-i
invariant-loop-i l = ◌≡◌ {A = List ℕ} l.values (stored (take l.i l.list) l.initial.values)
