-- What the calls of import promise.
use Rattle.std.specs.Prelude.{Result, Ok, Err, ℕ, ◌≡◌, false, ◌&&◌, List, [], ◌∷◌, length}
use Rattle.laws.specs.Answers.{Answer, accepted, refused, answered, Outcome, gives, refuses, Meets}
use Rattle.items.specs.Items.{span_list}
use Rattle.spans.specs.Spans.{spans, on_dlci}
use Rattle.trace.specs.Formats.{container_of}
use Rattle.trace.specs.Headers.{told_refusal}
use Rattle.trace.specs.declared.Container.{Container}
use Rattle.outcome.specs.Import.{Options, file_pieces, read, given, fits, work_suffices, imported}
use Rattle.outcome.specs.Sizes.{counts, sized, Foretells}
use Rattle.streams.specs.Streams.{Leaves}
use Rattle.cut.specs.Claim.{CutClaim}
use Rattle.cut.specs.Sizes.{SizesClaim}
use Rattle.capture.specs.declared.Summary.{Summary}
use Rattle.capture.specs.declared.Sizes.{Sizes}
use Rattle.capture.specs.declared.FindError.{FindError}
use Rattle.capture.specs.declared.FindError.TheVariants.{Refused as Unread, NoStream as NoneFound}
use Rattle.capture.specs.declared.ImportError.{ImportError}
use Rattle.capture.specs.declared.ImportError.TheVariants.{Refused, NoStream, OutShort}

-- ---- what import finds, before it writes

-- each case's number and values in documents 01 and 02: DLCI, frames, unfinished, tail offset, bytes written, frames with a wrong FCS, bytes in spans,
-- dropped, cleared, left
abbrev pub told_summary : Summary → Answer
told_summary s = accepted (s.stream.dlci ∷ s.stream.spans ∷ s.stream.unfinished ∷ s.tail ∷ s.stream.bytes ∷ s.wrong ∷ s.stream.in_spans ∷ s.stream.dropped ∷ s.stream.cleared ∷ s.stream.left ∷ [])

abbrev pub told_find_error : FindError → Answer
told_find_error (Unread x) = told_refusal x
told_find_error NoneFound = refused 6 []

abbrev pub told_found : Result Summary FindError → Answer
told_found = answered told_summary told_find_error

-- the spans of a DLCI, listed
abbrev pub list_on : Container → List ℕ → Options → ℕ → List ℕ
list_on b f o d = span_list (spans (on_dlci d (file_pieces (container_of b) o.judging f)))

-- of the DLCI found; none after a refusal
abbrev pub list_found : Container → List ℕ → Options → Result Summary FindError → List ℕ
list_found b f o (Ok s) = list_on b f o s.stream.dlci
list_found b f o (Err e) = []

-- an answer with what is then written
abbrev pub with_list : Answer → List ℕ → Outcome
with_list (accepted vs) list = gives vs list
with_list (refused n vs) list = refuses n vs

-- what stands behind a summary: how long the list is; records, PDUs and pieces by their lists; and what work has of the DLCI
pub record Stands (b : Container) (f : List ℕ) (o : Options) (s : Summary) (w' : List ℕ) : Type 0 where
  pub needed : s.stream.bytes ≡ length (list_on b f o s.stream.dlci)
  pub counts : s.records ∷ s.pdus ∷ s.pieces ∷ [] ≡ counts (container_of b) o.judging f
  pub left : Leaves f (file_pieces (container_of b) o.judging f) o.channel s.pieces w' s.stream.dlci

-- what import gives is what is found, with its list; work is unchanged after 1 and 2
pub record Finds (b : Container) (f w : List ℕ) (o : Options) (r : Result Summary FindError) (w' : List ℕ) : Type 0 where
  pub gives : imported (container_of b) f (length w) o ≡ with_list (told_found r) (list_found b f o r)
  pub found : (s : Summary) → r ≡ Ok s → Stands b f o s w'
  pub spared : (fits f && work_suffices f (length w)) ≡ false → w' ≡ w

-- from the packets on
pub record PacketsFind (b : Container) (f : List ℕ) (o : Options) (r : Result Summary FindError) (w' : List ℕ) : Type 0 where
  pub gives : given (read (container_of b) f o) ≡ with_list (told_found r) (list_found b f o r)
  pub found : (s : Summary) → r ≡ Ok s → Stands b f o s w'

-- ---- import

-- what import gives, or why it gives nothing
abbrev pub Imported : Type 0
Imported = Result Summary ImportError

-- the same reason
abbrev pub unfound : FindError → ImportError
unfound (Unread x) = Refused x
unfound NoneFound = NoStream

abbrev pub told_import_error : ImportError → Answer
told_import_error (Refused x) = told_refusal x
told_import_error NoStream = refused 6 []
told_import_error (OutShort needed) = refused 7 (needed ∷ [])

abbrev pub told_imported : Imported → Answer
told_imported = answered told_summary told_import_error

-- where an import gives spans, work has what counting left of the DLCI chosen, with so many pieces in its table
pub record Left (b : Container) (f : List ℕ) (o : Options) (r : Imported) (w' : List ℕ) : Type 0 where
  pub at : (s : Summary) → r ≡ Ok s → Leaves f (file_pieces (container_of b) o.judging f) o.channel s.pieces w' s.stream.dlci

-- Answer and output by the definition; work is unchanged after 1 and 2; whoever stops an honest recording, at whichever byte after its header,
-- cannot make a tolerant import lose, alter, invent or reorder a frame; and work keeps what was counted.
pub record Imports (b : Container) (f w : List ℕ) (o : Options) (out : List ℕ) (r : Imported) (w' out' : List ℕ) : Type 0 where
  pub meets : Meets (imported (container_of b) f (length w) o) out (told_imported r) out'
  pub spared : (fits f && work_suffices f (length w)) ≡ false → w' ≡ w
  pub cut : CutClaim (container_of b) f (length w) o out (told_imported r) out'
  pub left : Left b f o r w'

-- ---- sizes

-- the output length needed, records, PDUs, pieces; or why there are none
abbrev pub told_sizes : Sizes → Answer
told_sizes s = accepted (s.needed ∷ s.records ∷ s.pdus ∷ s.pieces ∷ [])

abbrev pub told_sizing : Result Sizes FindError → Answer
told_sizing = answered told_sizes told_find_error

-- The answer by the definition; work is unchanged after 1 and 2; it tells which output is enough for import; and of a cut of an honest recording
-- the sizes of what is left.
pub record Sizing (b : Container) (f w : List ℕ) (o : Options) (r : Result Sizes FindError) (w' : List ℕ) : Type 0 where
  pub answers : told_sizing r ≡ sized (container_of b) f (length w) o
  pub spared : (fits f && work_suffices f (length w)) ≡ false → w' ≡ w
  pub foretells : Foretells (container_of b) f (length w) o (told_sizing r)
  pub cut : SizesClaim (container_of b) f (length w) o (told_sizing r)
