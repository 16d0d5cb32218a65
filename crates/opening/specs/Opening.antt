-- Whether a trace is read: refusals 1 to 5, which are the same for every call that reads one.
use Rattle.std.specs.Prelude.{ℕ, ⊤, Result, Ok, Err, ◌*◌, ◌<◌, ◌≤◌, ◌≡◌, ◌⊎◌, Bool, false, cond, not, ◌&&◌, List, [], ◌∷◌, length, eqb}
use Rattle.laws.specs.Answers.{Answer, accepted, refused, Outcome, refuses}
use Rattle.container.specs.Container as container
use Rattle.trace.specs.Formats.{container_of, format_of, tail_by}
use Rattle.trace.specs.Headers.{told_refusal, headed}
use Rattle.trace.specs.declared.Container.{Container}
use Rattle.trace.specs.declared.Format.{Format}
use Rattle.trace.specs.declared.Trace.{Trace}
use Rattle.packets.specs.Adding.{Which, ReadTo}
use Rattle.outcome.specs.Import.{fits, work_suffices, ends_well}
use Rattle.outcome.specs.Import as import
use Rattle.opening.specs.declared.Tail.{Tail}
use Rattle.opening.specs.declared.Tail.TheVariants.{Strict, Tolerant}
use Rattle.opening.specs.declared.Opened.{Opened}
use Rattle.trace.specs.declared.Refusal.{Refusal}
use Rattle.trace.specs.declared.Refusal.TheVariants.{FileLong, WorkShort}

-- 1, 2, 3 (pcap: 21), 4 (22), 5, in this order; else it is read
module _ (C : container.Container) where
  unfoldable pub ends : List ℕ → import.Tail → Answer
  ends f tail = cond (ends_well C tail f) (accepted []) (refused 5 (container.tail_offset C f ∷ []))

  unfoldable pub heads : List ℕ → import.Tail → Answer
  heads f tail = headed C f (ends f tail)

  unfoldable pub opened : List ℕ → ℕ → import.Tail → Answer
  opened f work tail = cond (fits f) (cond (work_suffices f work) (heads f tail) (refused 2 [])) (refused 1 [])

-- a refusal as an outcome; where there is none, what is given
unfoldable pub or_given : Answer → Outcome → Outcome
or_given (accepted vs) o = o
or_given (refused n vs) o = refuses n vs

-- ---- the code's tail rule and answer

abbrev pub tail_of : Tail → import.Tail
tail_of Strict = import.strict
tail_of Tolerant = import.tolerant

-- each case's number and values in documents 01 and 02
abbrev pub told_opened : Result Opened Refusal → Answer
told_opened (Ok t) = accepted []
told_opened (Err x) = told_refusal x

-- ---- the sizes

pub record Sized (f w : List ℕ) : Type 0 where
  pub small : length f ≤ 1048576
  pub room : 8 * length f ≤ length w

-- 1, else 2
abbrev pub Unsized : List ℕ → List ℕ → Refusal → Type 0
Unsized f w x = ((1048576 < length f) × (x ≡ FileLong)) ⊎ ((length f ≤ 1048576) × (length w < 8 * length f) × (x ≡ WorkShort))

abbrev pub SizesChecked : List ℕ → List ℕ → Result ⊤ Refusal → Type 0
SizesChecked f w (Ok u) = Sized f w
SizesChecked f w (Err x) = Unsized f w x

-- ---- the call

-- what a trace that is read is, and leaves in work, by what its header says: the packets asked for
pub record Reads (b : Container) (f : List ℕ) (only : Which) (w : List ℕ) (t : Opened) : Type 0 where
  pub file : t.trace.file.now ≡ f
  pub says : t.trace.format ≡ format_of b f
  pub reads : ReadTo t.trace.format f only w t.packets

-- The answer by the definition; where the trace is read, the packets asked for stand in work; work is unchanged after 1 and 2.
pub record Opens (b : Container) (f w : List ℕ) (tail : import.Tail) (only : Which) (r : Result Opened Refusal) (w' : List ℕ) : Type 0 where
  pub answers : told_opened r ≡ opened (container_of b) f (length w) tail
  pub read : (t : Opened) → r ≡ Ok t → Reads b f only w' t
  pub spared : (fits f && work_suffices f (length w)) ≡ false → w' ≡ w

-- ---- from the header on, from the records on

pub record HeaderOpens (b : Container) (f : List ℕ) (tail : import.Tail) (only : Which) (r : Result Opened Refusal) (w' : List ℕ) : Type 0 where
  pub answers : told_opened r ≡ heads (container_of b) f tail
  pub read : (t : Opened) → r ≡ Ok t → Reads b f only w' t

-- by the format alone: whose file it is is not known here
abbrev pub ends_by : Format → List ℕ → import.Tail → Answer
ends_by g f import.strict = cond (eqb (tail_by g f) (length f)) (accepted []) (refused 5 (tail_by g f ∷ []))
ends_by g f import.tolerant = accepted []

pub record RecordsOpen (t : Trace) (tail : import.Tail) (only : Which) (r : Result Opened Refusal) (w' : List ℕ) : Type 0 where
  pub answers : told_opened r ≡ ends_by t.format t.file.now tail
  pub read : (o : Opened) → r ≡ Ok o → (o.trace ≡ t) × ReadTo t.format t.file.now only w' o.packets

-- 5, strict only
unfoldable pub truncates : Tail → ℕ → ℕ → Bool
truncates Strict at end = not (eqb at end)
truncates Tolerant at end = false
