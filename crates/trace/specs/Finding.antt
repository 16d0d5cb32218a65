-- Finding the whole records, one after another.
use Rattle.std.specs.Prelude.{ℕ, ◌≡◌, Option, Some, None, false, List}
use Rattle.acl.specs.Reading.{between}
use Rattle.trace.specs.Reader.{step_of, is_record}
use Rattle.trace.specs.declared.Step.TheVariants as step
use Rattle.trace.specs.declared.Trace.{Trace}
use Rattle.trace.specs.declared.record.Record.{Record}
use Rattle.trace.specs.declared.reader.Reader.{Reader}

-- the bytes of a record
abbrev pub bytes_of : Record → List ℕ
bytes_of r = between r.trace.file.now r.at r.end

-- the record that stands at an offset of a trace, or that no whole one does
pub record FoundHere (t : Trace) (at : ℕ) (r : Record) : Type 0 where
  pub same : r.trace ≡ t
  pub starts : r.at ≡ at
  pub ends : step.Record r.end ≡ step_of t.format t.file.now at

abbrev pub Found : Trace → ℕ → Option Record → Type 0
Found t at (Some r) = FoundHere t at r
Found t at None = is_record (step_of t.format t.file.now at) ≡ false

-- where a reader stands then: after the record, or where it stood
abbrev pub offset_after : ℕ → Option Record → ℕ
offset_after at (Some r) = r.end
offset_after at None = at

pub record Reads (q : Reader) (x : Option Record) (z : Reader) : Type 0 where
  pub found : Found q.trace q.at x
  pub trace : z.trace ≡ q.trace
  pub at : z.at ≡ offset_after q.at x
