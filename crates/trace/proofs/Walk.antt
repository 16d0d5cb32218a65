-- Walking the records: the records from a place on, for either container.
use Prim.Native.Nat.{ℕ, ◌+◌, ◌-◌, ◌<◌}
use mathlib.Core.Path.{◌≡◌}
use mathlib.Core.Bool.{cond}
use mathlib.Core.List.{List, [], ◌∷◌}
use native.Mathlib.Omega.{arith}
use lib.ListN.{length, take, drop, length-append, length-drop}
use lib.Seq.{length-take-le}
use Rattle.laws.specs.Lists.{flat}
use Rattle.container.specs.Container.{is_whole, records_in}
use Rattle.container.proofs.Records as container_records
use Rattle.trace.specs.Formats.{size_by, records_from}
use Rattle.trace.specs.Walk.{RecordAt}
use Rattle.trace.specs.declared.Format.{Format}
use Rattle.trace.proofs.Formats.{head_least, size_least}

size_some : (g : Format) (b : List ℕ) → 0 < size_by g b
size_some g b = omega (arith, head_least g, size_least g b)

-- the first record and those of what is left
pub records_eq : (g : Format) (b : List ℕ) → records_in (size_by g) b ≡ cond (is_whole (size_by g) b) (take (size_by g b) b ∷ records_in (size_by g) (drop (size_by g b) b)) []
records_eq g b = container_records.records_eq (size_by g) (size_some g) b

-- the bytes of the records still to come
pub flat_step : (g : Format) (f : List ℕ) (at e : ℕ) → RecordAt g f at e → at + length (flat (records_from g f at)) ≡ e + length (flat (records_from g f e))
flat_step g f at e r =
    let l : length (take (e - at) (drop at f)) ≡ e - at = length-take-le (e - at) (drop at f) (simp length-drop (omega (arith, r.most))) in
    rw r.list (omega (arith, length-append (take (e - at) (drop at f)) (flat (records_from g f e)), r.least))
