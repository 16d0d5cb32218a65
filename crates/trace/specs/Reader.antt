-- A reader of a capture: what it finds at an offset. Walking it to its end gives the records.
use Rattle.std.specs.Prelude.{ℕ, ◌+◌, ◌<◌, ◌≤◌, ◌≡◌, Bool, true, false, cond, List, [], ◌∷◌, length, drop, ltb}
use Rattle.container.specs.Container.{is_whole}
use Rattle.acl.specs.Reading.{between}
use Rattle.trace.specs.Formats.{file_head, size_by, records_by, tail_by}
use Rattle.trace.specs.declared.Format.{Format}
use Rattle.trace.specs.declared.Step.{Step}
use Rattle.trace.specs.declared.Step.TheVariants.{Record, Cut, End}
use Rattle.trace.specs.declared.Trace.{Trace}
use Rattle.trace.specs.declared.reader.Reader.{Reader}

-- what stands at an offset: a whole record and where it ends, a record that passes the end, or nothing
unfoldable pub step_of : Format → List ℕ → ℕ → Step
step_of g f at = cond (ltb at (length f)) (cond (is_whole (size_by g) (drop at f)) (Record (at + size_by g (drop at f))) (Cut at)) End

-- a step is over a whole record
abbrev pub is_record : Step → Bool
is_record (Record e) = true
is_record (Cut at) = false
is_record End = false

-- the reader of a trace stands after the header
pub record Starts (t : Trace) (r : Reader) : Type 0 where
  pub trace : r.trace ≡ t
  pub at : r.at ≡ file_head t.format

-- a reader of the same trace at another offset
pub record Moves (r : Reader) (e : ℕ) (q : Reader) : Type 0 where
  pub trace : q.trace ≡ r.trace
  pub at : q.at ≡ e

-- what a reader finds
abbrev pub found_by : Reader → Step
found_by r = step_of r.trace.format r.trace.file.now r.at

-- ---- walking to the end

-- A walk by next_step and moved: the records met from a reader on, the reader that meets none, and what that one finds.
pub data Walk : Reader → List (List ℕ) → Reader → Step → Type 0 where
  stops : {r : Reader} {s : Step} → s ≡ found_by r → is_record s ≡ false → Walk r [] r s
  goes : {r q z : Reader} {e : ℕ} {rs : List (List ℕ)} {s : Step} → Record e ≡ found_by r → Moves r e q → Walk q rs z s → Walk r (between r.trace.file.now r.at e ∷ rs) z s

-- what walking a file's reader from its start to the end gives
pub record WalksAll (g : Format) (f : List ℕ) (rs : List (List ℕ)) (z : Reader) (s : Step) : Type 0 where
  pub list : rs ≡ records_by g f
  pub tail : z.at ≡ tail_by g f
  pub cut : tail_by g f < length f → s ≡ Cut (tail_by g f)
  pub whole : length f ≤ tail_by g f → s ≡ End

-- and there is a walk from every reader
pub record Walked (r : Reader) : Type 0 where
  pub records : List (List ℕ)
  pub last : Reader
  pub says : Step
  pub walk : Walk r records last says
