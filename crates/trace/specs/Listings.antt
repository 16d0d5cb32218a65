-- The loop that lists the records.
use Rattle.std.specs.Prelude.{ℕ, ◌+◌, ◌*◌, ◌≤◌, ◌≡◌, List, length}
use Rattle.std.proofs.lemmas.List.Edits.{sets}
use Rattle.laws.specs.Lists.{flat}
use Rattle.trace.specs.Formats.{file_head, records_from, records_by, tail_by}
use Rattle.trace.specs.Listing.{starts_from}
use Rattle.trace.specs.declared.Format.{Format}
use Rattle.trace.specs.declared.Trace.{Trace}
use Rattle.trace.specs.declared.Walked.{Walked}
use Rattle.trace.specs.declared.reader.Reader.{Reader}

pub record WalkedTo (g : Format) (f d e : List ℕ) (r : Walked) : Type 0 where
  pub count : r.count ≡ length (records_by g f)
  pub tail : r.tail ≡ tail_by g f
  pub starts : e ≡ sets d 0 (starts_from (file_head g) (records_by g f))

-- ---- the loop

-- a reader of the trace, after count records
pub record Listing (t : Trace) (d₀ d : List ℕ) (q : Reader) (count : ℕ) : Type 0 where
  pub trace : q.trace ≡ t
  pub least : 16 * count ≤ q.at
  pub most : q.at ≤ 24 + length t.file.now
  pub long : length d ≡ length d₀
  pub number : count + length (records_from t.format t.file.now q.at) ≡ length (records_by t.format t.file.now)
  pub tail : q.at + length (flat (records_from t.format t.file.now q.at)) ≡ tail_by t.format t.file.now
  pub done : sets d count (starts_from q.at (records_from t.format t.file.now q.at)) ≡ sets d₀ 0 (starts_from (file_head t.format) (records_by t.format t.file.now))
