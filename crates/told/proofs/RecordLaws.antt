-- What a caller gets of a listing of records.
use Rattle.std.specs.Prelude.{Result}
use Prim.Native.Nat.{ℕ, suc}
use mathlib.Core.Path.{◌≡◌, refl, ap, ◌∙◌}
use mathlib.Core.List.{List, [], ◌∷◌}
use lib.ListN.{set}
use lib.Seq.{sets}
use Rattle.laws.specs.Answers.{refused}
use Rattle.container.specs.Container as container
use Rattle.trace.specs.Formats.{container_of}
use Rattle.trace.specs.declared.Container.{Container}
use Rattle.trace.specs.Listing.{listing, starts_of, told_listed, Lists}
use Rattle.trace.specs.declared.Refusal.{Refusal}
use Rattle.trace.specs.declared.Walked.{Walked}
use Rattle.telling.specs.Telling.{stored, Told}
use Rattle.told.specs.RecordCalls.{RecordsCalls}

-- a refusal leaves the list as it was
pub refused_spares : (C : container.Container) (f d : List ℕ) (n : ℕ) (vs : List ℕ) → listing C f ≡ refused n vs → stored (starts_of C f) d ≡ d
unfolding starts_of stored
refused_spares C f d n vs e = rw e

sets_later : (l : List ℕ) (x : ℕ) (d : List ℕ) (i : ℕ) → sets (x ∷ d) (suc i) l ≡ x ∷ sets d i l
sets_later [] x d i = refl
sets_later (y ∷ l) x d i = sets_later l x (set d i y) (suc i)

sets_none : (l : List ℕ) (i : ℕ) → sets [] i l ≡ []
sets_none [] i = refl
sets_none (y ∷ l) i = sets_none l (suc i)

sets_stored : (l d : List ℕ) → sets d 0 l ≡ stored l d
unfolding stored
sets_stored [] d = refl
sets_stored (y ∷ l) [] = sets_none l 1
sets_stored (y ∷ l) (x ∷ d) = sets_later l y d 0 ∙ ap (λ (t : List ℕ). y ∷ t) (sets_stored l d)

pub records_calls :
    (b : Container) (f d : List ℕ) (l : Result Walked Refusal) (d' : List ℕ) → Lists b f d l d' → (v : List ℕ) (r : ℕ) (v' : List ℕ) → Told (told_listed l) v r v' → RecordsCalls b f d v r d' v'
records_calls b f d l d' m v r v' t = record { tells = rw m.answers at t; starts = m.writes ∙ sets_stored (starts_of (container_of b) f) d }
