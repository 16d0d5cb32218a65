-- A whole record: how long it is, and what finding one tells of the records from there on.
use Rattle.std.specs.Prelude.{Option, Some, None}
use Prim.Native.Nat.{ℕ, ◌-◌, ◌<◌, ◌≤◌}
use mathlib.Core.Path.{◌≡◌, sym, ◌∙◌}
use mathlib.Core.List.{List, []}
use native.Mathlib.Omega.{arith}
use lib.ListN.{length, drop, length-drop}
use lib.Seq.{length-take-le}
use Rattle.btsnoop.specs.declared.Datalink.{Datalink}
use Rattle.pcap.specs.declared.Encoding.{Encoding}
use Rattle.trace.specs.Formats.{record_head, records_from}
use Rattle.trace.specs.Walk.{RecordAt, RecordPre}
use Rattle.trace.specs.Reader.{Moves, found_by}
use Rattle.trace.specs.Finding.{bytes_of, FoundHere, Found, Reads}
use Rattle.trace.proofs.Formats.{head_least}
use Rattle.trace.proofs.ReaderLaws.{record_told, none_told}
use Rattle.trace.specs.declared.Format.TheVariants.{Btsnoop as ByDatalink, Pcap as ByEncoding}
use Rattle.trace.specs.declared.Step.{Step}
use Rattle.trace.specs.declared.Step.TheVariants as whole
use Rattle.trace.specs.declared.Trace.{Trace}
use Rattle.trace.specs.declared.record.Record.{Record}
use Rattle.trace.specs.declared.reader.Reader.{Reader}

-- ---- how long it is

module _ (r : Record) where
  pub bytes_length : length (bytes_of r) ≡ r.end - r.at
  bytes_length = length-take-le (r.end - r.at) (drop r.at r.trace.file.now) (simp length-drop (omega (arith, r.whole.most)))

  pub bytes_least : record_head r.trace.format ≤ length (bytes_of r)
  bytes_least = omega (arith, bytes_length, r.whole.least)

  -- by the case that its format is
  module _ (b : List ℕ) (s : b ≡ bytes_of r) where
    pub bytes_btsnoop : (d : Datalink) → r.trace.format ≡ ByDatalink d → 24 ≤ length b
    unfolding record_head
    bytes_btsnoop d q = let h : 24 ≤ length (bytes_of r) = rw q at bytes_least in rw s h

    pub bytes_pcap : (e : Encoding) → r.trace.format ≡ ByEncoding e → 16 ≤ length b
    unfolding record_head
    bytes_pcap e q = let h : 16 ≤ length (bytes_of r) = rw q at bytes_least in rw s h

-- ---- what a reader finds

module _ (r : Reader) (s : Step) (h : s ≡ found_by r) (e : ℕ) (q : s ≡ whole.Record e) where
  told : RecordAt r.trace.format r.trace.file.now r.at e
  told = record_told r.trace.format r.trace.file.now r.at e (sym q ∙ h)

  pub next_whole : length r.trace.file.now ≤ 1048576 → RecordPre r.trace.format r.trace.file.now r.at e
  next_whole m = record { least = told.least; most = told.most; small = m }

  -- it has less to come then
  module _ (z : Reader) (m : Moves r e z) where
    pub next_less : length z.trace.file.now - z.at < length r.trace.file.now - r.at
    next_less = rw (m.trace, m.at) (omega (arith, head_least r.trace.format, told.least, told.most))

    pub next_can : length r.trace.file.now ≤ 1048576 → length z.trace.file.now ≤ 1048576
    next_can k = rw m.trace k

-- by a reader of a trace
module _ (t : Trace) (q : Reader) (s : q.trace ≡ t) (x : Option Record) (z : Reader) (h : Reads q x z) where
  pub reads_same : z.trace ≡ t
  reads_same = h.trace ∙ s

  module _ (r : Record) (e : x ≡ Some r) where
    pub found_here : FoundHere t q.at r
    found_here = let k : FoundHere q.trace q.at r = rw e at h.found in rw s at k

    pub found_told : RecordAt t.format t.file.now q.at r.end
    found_told = record_told t.format t.file.now q.at r.end found_here.ends

    pub found_end : z.at ≡ r.end
    found_end = h.at ∙ rw e

  module _ (e : x ≡ None) where
    pub found_none : records_from t.format t.file.now q.at ≡ []
    found_none = let k : Found q.trace q.at None = rw e at h.found in none_told t.format t.file.now q.at (rw s at k)

    pub none_end : z.at ≡ q.at
    none_end = h.at ∙ rw e
