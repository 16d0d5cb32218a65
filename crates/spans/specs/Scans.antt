-- What the scan of a part behind what is held promises. What is held is any quiet list of so many bytes.
use Rattle.std.specs.Prelude.{ℕ, ◌+◌, ◌-◌, ◌*◌, ◌<◌, ◌≤◌, ◌≡◌, Bool, true, false, List, ◌++◌, length, get_or, drop}
use Rattle.spans.specs.Scan.{spans_of, rest_of}
use Rattle.search.specs.Seek.{seek}
use Rattle.spans.specs.Bytewise.{Quiet}
use Rattle.spans.specs.Parts.{tally_one, tally_all, Room}
use Rattle.spans.specs.declared.Tally.{Tally}
use Rattle.spans.specs.declared.First.{First}
use Rattle.spans.specs.declared.Scanned.{Scanned}

-- behind h bytes held, which closed are counted by their length
pub record ScanPre (x : List ℕ) (h : ℕ) (t : Tally) : Type 0 where
  pub room : Room t (h + length x)
  pub known : 0 < h → 0 < t.frames

-- something is held, or the part begins with 3E
pub record Begins (x : List ℕ) (h : ℕ) (r : Bool) : Type 0 where
  pub yes : r ≡ true → h ≡ 0 → get_or x 0 0 ≡ 0x3E
  pub no : r ≡ false → h ≡ 0

pub record AddedIs (x : List ℕ) (h : ℕ) (t r : Tally) : Type 0 where
  pub is : (b : List ℕ) → length b ≡ h → r ≡ tally_one t (b ++ x)

-- the first 3C stands at e
pub record FirstPre (x : List ℕ) (h : ℕ) (t : Tally) (e : ℕ) : Type 0 where
  pub pre : ScanPre x h t
  pub at : e ≡ seek 0x3C x
  pub high : e < length x

-- what is counted, and what is still to come
pub record FirstIs (x : List ℕ) (h : ℕ) (t : Tally) (r : First) : Type 0 where
  pub within : r.skip ≤ length x
  pub all : (b : List ℕ) → Quiet b → length b ≡ h → tally_all t (spans_of (b ++ x)) ≡ tally_all r.tally (spans_of (drop r.skip x))
  pub left : (b : List ℕ) → Quiet b → length b ≡ h → rest_of (b ++ x) ≡ rest_of (drop r.skip x)
  pub fewer : r.tally.count ≤ r.tally.bytes
  pub bytes : r.tally.bytes + 15 * (length x - r.skip) ≤ t.bytes + 15 * (h + length x)

pub record FromPre (x : List ℕ) (skip : ℕ) (t : Tally) : Type 0 where
  pub within : skip ≤ length x
  pub room : Room t (length x - skip)

pub record OpenPre (x : List ℕ) (h : ℕ) : Type 0 where
  pub none : seek 0x3C x ≡ length x
  pub small : h + length x < 4611686018427387904

pub record OpenIs (x : List ℕ) (h r : ℕ) : Type 0 where
  pub is : (b : List ℕ) → Quiet b → length b ≡ h → r ≡ length (rest_of (b ++ x))

pub record ScannedIs (x : List ℕ) (h : ℕ) (t : Tally) (r : Scanned) : Type 0 where
  pub end : r.end ≡ seek 0x3C x
  pub all : (b : List ℕ) → Quiet b → length b ≡ h → r.tally ≡ tally_all t (spans_of (b ++ x))
  pub left : (b : List ℕ) → Quiet b → length b ≡ h → r.rest ≡ length (rest_of (b ++ x))
  pub fewer : r.tally.count ≤ r.tally.bytes
  pub bytes : r.tally.bytes ≤ t.bytes + 15 * (h + length x)
