-- Import with a lent list of stretches, over the C interface.
use Rattle.std.specs.Prelude.{ℕ, ◌≡◌, true, false, List, length}
use Rattle.laws.specs.Answers.{answer}
use Rattle.trace.specs.Formats.{container_of}
use Rattle.trace.specs.declared.Container.{Container}
use Rattle.outcome.specs.Import.{Options, places_suffice, imported_in}
use Rattle.cut.specs.Claim.{CutClaim}
use Rattle.places.specs.Places.{suffices, file_stretches, places_after}
use Rattle.stretches.specs.declared.Stretch.{Stretch}
use Rattle.telling.specs.Telling.{Calls}

-- Answer and output by the definition; work is unchanged after 1 and 2; the first places hold the open stretches and those past them are as
-- they were, as all are after a refusal; and with enough places the claim of the cut.
pub record StretchCalls (b : Container) (f w : List ℕ) (s : List Stretch) (out : List ℕ) (o : Options) (v : List ℕ) (r : ℕ) (w' : List ℕ) (s' : List Stretch) (out' v' : List ℕ) : Type 0 where
  pub calls : Calls (imported_in (container_of b) f (length w) (length s) o) out out' v r v'
  pub spared : suffices f (length w) (length s) ≡ false → w' ≡ w
  pub places : s' ≡ places_after (answer (imported_in (container_of b) f (length w) (length s) o) (length out)) (file_stretches b f o) s
  pub cut : places_suffice f (length s) ≡ true → CutClaim (container_of b) f (length w) o out (answer (imported_in (container_of b) f (length w) (length s) o) (length out)) out'
