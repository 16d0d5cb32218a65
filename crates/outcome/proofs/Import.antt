-- Import with a lent list of stretches is import, where the places suffice.
use Prim.Native.Nat.{ℕ}
use mathlib.Core.Path.{◌≡◌}
use mathlib.Core.Bool.{true}
use mathlib.Core.List.{List}
use Rattle.laws.proofs.Choice.{split_b}
use Rattle.container.specs.Container.{Container}
use Rattle.outcome.specs.Import.{Options, fits, places_suffice, imported, imported_in}

module _ (C : Container) where
  -- with enough places it is the same on every input
  pub same_in : (f : List ℕ) (work places : ℕ) (o : Options) → places_suffice f places ≡ true → imported_in C f work places o ≡ imported C f work o
  unfolding imported_in imported
  same_in f work places o h = split_b (fits f) (λ e. rw (e, h)) (λ e. rw e)
