-- What import promises where a list of stretches is lent.
use Rattle.std.specs.Prelude.{Result, Ok, Err, ℕ, ◌≤◌, ◌≡◌, Bool, true, false, ◌&&◌, List, [], ◌++◌, length, drop}
use Rattle.std.proofs.Math.Option.{Option, none, some}
use Rattle.laws.specs.Answers.{Answer, accepted, refused, answer, Meets}
use Rattle.trace.specs.Formats.{container_of}
use Rattle.trace.specs.declared.Container.{Container}
use Rattle.rfcomm.specs.Pieces.{Piece}
use Rattle.spans.specs.Spans.{on_dlci}
use Rattle.outcome.specs.Import.{Options, file_pieces, chosen, fits, work_suffices, places_suffice, imported_in}
use Rattle.cut.specs.Claim.{CutClaim}
use Rattle.capture.specs.Calls.{told_imported, Imported}
use Rattle.capture.specs.declared.ImportError.{ImportError}
use Rattle.places.specs.declared.Placed.{Placed}
use Rattle.stretches.specs.Open.{open_stretches}
use Rattle.stretches.specs.Filled.{stretches_to}
use Rattle.stretches.specs.declared.Stretch.{Stretch}
use Rattle.telling.specs.Telling.{Calls}

-- ---- what the places hold

-- on the DLCI chosen, if one is
unfoldable pub open_on : List Piece → Option ℕ → List Stretch
open_on ps none = []
open_on ps (some d) = open_stretches d (on_dlci d ps)

-- the stretches that are open at the end of a file
unfoldable pub file_stretches : Container → List ℕ → Options → List Stretch
file_stretches b f o = open_on (file_pieces (container_of b) o.judging f) (chosen o.channel (file_pieces (container_of b) o.judging f))

-- the places after a call that answers so: the open stretches and then the places past them; all as they were after a refusal
unfoldable pub places_after : Answer → List Stretch → List Stretch → List Stretch
places_after (accepted vs) l s = l ++ drop (length l) s
places_after (refused n vs) l s = s

-- what is listed for them: nothing after a refusal
unfoldable pub listed_by : Answer → List Stretch → List Stretch
listed_by (accepted vs) l = l
listed_by (refused n vs) l = []

-- ---- the call

-- neither 1 nor 2
unfoldable pub suffices : List ℕ → ℕ → ℕ → Bool
suffices f work places = fits f && (work_suffices f work && places_suffice f places)

-- what import gave, and how many stretches are listed: none after a refusal
abbrev pub summed : Result Placed ImportError → Imported
summed (Ok p) = Ok p.summary
summed (Err e) = Err e

abbrev pub listed_of : Result Placed ImportError → ℕ
listed_of (Ok p) = p.listed
listed_of (Err e) = 0

-- Answer and output by the definition; work is unchanged after 1 and 2; the open stretches are listed at the start of work, none after a
-- refusal; and with enough places the claim of the cut.
pub record ImportsIn (b : Container) (f w : List ℕ) (places : ℕ) (o : Options) (out : List ℕ) (r : Imported) (listed : ℕ) (w' out' : List ℕ) : Type 0 where
  pub meets : Meets (imported_in (container_of b) f (length w) places o) out (told_imported r) out'
  pub spared : suffices f (length w) places ≡ false → w' ≡ w
  pub list : stretches_to w' listed ≡ listed_by (told_imported r) (file_stretches b f o)
  pub few : listed ≤ places
  pub cut : places_suffice f places ≡ true → CutClaim (container_of b) f (length w) o out (told_imported r) out'

-- The same with the answer told, as a number and values.
pub record ToldIn (b : Container) (f w : List ℕ) (places : ℕ) (out : List ℕ) (o : Options) (v : List ℕ) (r listed : ℕ) (w' out' v' : List ℕ) : Type 0 where
  pub calls : Calls (imported_in (container_of b) f (length w) places o) out out' v r v'
  pub spared : suffices f (length w) places ≡ false → w' ≡ w
  pub list : stretches_to w' listed ≡ listed_by (answer (imported_in (container_of b) f (length w) places o) (length out)) (file_stretches b f o)
  pub few : listed ≤ places
  pub cut : places_suffice f places ≡ true → CutClaim (container_of b) f (length w) o out (answer (imported_in (container_of b) f (length w) places o) (length out)) out'
