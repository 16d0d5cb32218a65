-- Import and its sizes over the C interface.
use Rattle.std.specs.Prelude.{ℕ, ◌≡◌, false, ◌&&◌, List, length}
use Rattle.laws.specs.Answers.{answer}
use Rattle.trace.specs.Formats.{container_of}
use Rattle.trace.specs.declared.Container.{Container}
use Rattle.outcome.specs.Import.{Options, fits, work_suffices, imported}
use Rattle.outcome.specs.Sizes.{sized, Foretells}
use Rattle.cut.specs.Claim.{CutClaim}
use Rattle.cut.specs.Sizes.{SizesClaim}
use Rattle.telling.specs.Telling.{Calls, Told}

-- Answer and output by the definition; work is unchanged after 1 and 2; and the claim of the cut.
pub record ImportCalls (b : Container) (f w out : List ℕ) (o : Options) (v : List ℕ) (r : ℕ) (w' out' v' : List ℕ) : Type 0 where
  pub calls : Calls (imported (container_of b) f (length w) o) out out' v r v'
  pub spared : (fits f && work_suffices f (length w)) ≡ false → w' ≡ w
  pub cut : CutClaim (container_of b) f (length w) o out (answer (imported (container_of b) f (length w) o) (length out)) out'

-- The answer by the definition; work is unchanged after 1 and 2; it tells which output is enough for import; and the claim of the cut for sizes.
pub record SizesCalls (b : Container) (f w : List ℕ) (o : Options) (v : List ℕ) (r : ℕ) (w' v' : List ℕ) : Type 0 where
  pub tells : Told (sized (container_of b) f (length w) o) v r v'
  pub spared : (fits f && work_suffices f (length w)) ≡ false → w' ≡ w
  pub foretells : Foretells (container_of b) f (length w) o (sized (container_of b) f (length w) o)
  pub cut : SizesClaim (container_of b) f (length w) o (sized (container_of b) f (length w) o)
