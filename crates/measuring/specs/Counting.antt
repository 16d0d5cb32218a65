-- What the functions that count ask for and promise.
use Rattle.std.specs.Prelude.{ℕ, zero, suc, ◌+◌, ◌-◌, ◌*◌, ◌<◌, ◌≤◌, ◌≡◌, Bool, true, false, cond, List, [], ◌∷◌, ◌++◌, length, eqb, ltb}
use Rattle.laws.specs.Keys.{Key}
use Rattle.laws.specs.Count.{nub}
use Rattle.laws.specs.Totals.{total}
use Rattle.words.specs.Words.{word}
use Rattle.words.specs.Front.{Front}
use Rattle.items.specs.Items.{span_list}
use Rattle.mdr.specs.Frame.{unpacks_of}
use Rattle.channels.specs.Channels.{any}
use Rattle.spans.specs.Scan.{spans_of, rest_of}
use Rattle.search.specs.Seek.{seek}
use Rattle.spans.specs.Spans.{spans, unfinished}
use Rattle.spans.specs.Account.{cleared_of, cleared, left, taken_in}
use Rattle.spans.specs.Parts.{bit, tally_all, Room}
use Rattle.spans.specs.Bytewise.{Quiet, AllQuiet}
use Rattle.spans.specs.declared.Tally.{Tally}
use Rattle.spans.specs.declared.Scanned.{Scanned}
use Rattle.split.specs.Last.{lastn}
use Rattle.split.specs.Rows.{dlci_at, tail_at, len_at, bytes_at, held_in, held_of, stream_to, opened, Fits, joined, all, Laid}
use Rattle.split.specs.Walks.{Kept, AllTold, Moved}
use Rattle.split.specs.declared.Plan.{Plan}
use Rattle.measuring.specs.declared.Sums.{Sums}

-- ---- the keys of the DLCI's pieces before the i-th, and what these hold

unfoldable pub keys_to : List ℕ → Plan → ℕ → List Key
keys_to w p zero = []
keys_to w p (suc i) = cond (eqb (dlci_at w p i) p.dlci) (keys_to w p i ++ (tail_at w p i ∷ [])) (keys_to w p i)

-- a number of the bytes that each of these holds, added up
unfoldable pub held_to : (ℕ → ℕ) → List ℕ → Plan → ℕ → ℕ
held_to g w p i = total (λ k. g (held_in w p i (p.dlci ∷ k))) (nub (keys_to w p i))

-- 1 if something is held
unfoldable pub sign : ℕ → ℕ
sign n = cond (ltb 0 n) 1 0

-- how many hold something, and how many bytes they hold
abbrev pub live_to : List ℕ → Plan → ℕ → ℕ
live_to w p i = held_to sign w p i

abbrev pub left_to : List ℕ → Plan → ℕ → ℕ
left_to w p i = held_to (λ n. n) w p i

-- ---- what is stored of a piece

pub record Noted (w : List ℕ) (p : Plan) (i r e : ℕ) (u : List ℕ) : Type 0 where
  pub kept : Kept w p i u
  pub holds : word u (p.held + i) ≡ r
  pub end : word u (p.ends + i) ≡ e

-- ---- counting

-- of so many buffers that are not empty one held h bytes, if any, and now holds r
pub record OpenPre (many r h : ℕ) : Type 0 where
  pub few : many ≤ 1048576
  pub less : sign h ≤ many + sign r

-- a piece of m bytes more, of whose rest of n bytes r are held where h were: no sum is too large, and no difference passes 0
pub record AddPre (s : Sums) (m h n r : ℕ) : Type 0 where
  pub live : OpenPre s.unfinished r h
  pub part : r ≤ n
  pub held : h ≤ s.left + r
  pub taken : s.taken + m < 4611686018427387904
  pub cleared : s.cleared + n < 4611686018427387904
  pub left : s.left + r < 4611686018427387904

unfoldable pub added : Sums → Tally → ℕ → ℕ → ℕ → ℕ → Sums
added s t m h n r = record { tally = t; unfinished = s.unfinished + sign r - sign h; taken = s.taken + m; cleared = s.cleared + (n - r); left = s.left + r - h }

-- sums of the pieces before the i-th
pub record SumsTo (w : List ℕ) (p : Plan) (i : ℕ) (s : Sums) : Type 0 where
  pub fewer : s.tally.count ≤ s.tally.bytes
  pub bytes : s.tally.bytes ≤ 15728640 * i
  pub few : s.unfinished ≤ i
  pub live : s.unfinished ≡ live_to w p i
  pub taken : s.taken ≤ 1048576 * i
  pub cleared : s.cleared ≤ 1048576 * i
  pub most : s.left ≤ 1048576 * i
  pub left : s.left ≡ left_to w p i

pub record CountPre (f w : List ℕ) (p : Plan) (i : ℕ) (s : Sums) : Type 0 where
  pub laid : Laid f w p
  pub row : i < p.n
  pub own : dlci_at w p i ≡ p.dlci
  pub fits : Fits f w p i
  pub quiet : AllQuiet (opened f w p i)
  pub sums : SumsTo w p i s

-- h bytes are held of its key
pub record CountHeld (f w : List ℕ) (p : Plan) (i h : ℕ) (t : Tally) : Type 0 where
  pub laid : Laid f w p
  pub row : i < p.n
  pub holds : h ≡ held_of w p i
  pub come : h ≤ length (stream_to f w p i)
  pub quiet : Quiet (lastn h (stream_to f w p i))
  pub room : Room t (h + len_at w p i)

-- a span of what is held can be counted by its length
pub record Known (h : ℕ) (t : Tally) (r : Bool) : Type 0 where
  pub yes : r ≡ true → 0 < h → 0 < t.frames
  pub no : r ≡ false → 0 < h

pub record JoinHeld (f w : List ℕ) (p : Plan) (i h : ℕ) (t : Tally) : Type 0 where
  pub pre : CountHeld f w p i h t
  pub some : 0 < h

-- the spans that the piece brings are counted, and nothing below the area is changed
pub record Behind (f w : List ℕ) (p : Plan) (i h : ℕ) (t : Tally) (u : List ℕ) (r : Scanned) : Type 0 where
  pub front : Front p.area u w
  pub end : r.end ≡ seek 0x3C (bytes_at f w p i)
  pub low : r.end ≤ len_at w p i
  pub all : r.tally ≡ tally_all t (spans_of (joined f w p i))
  pub left : r.rest ≡ length (rest_of (joined f w p i))
  pub fewer : r.tally.count ≤ r.tally.bytes
  pub bytes : r.tally.bytes ≤ t.bytes + 15 * (h + len_at w p i)

pub record Stepped (f w : List ℕ) (p : Plan) (i : ℕ) (s : Sums) (u : List ℕ) (r : Sums) : Type 0 where
  pub moves : Moved f w p i u
  pub sums : SumsTo u p (i + 1) r
  pub all : r.tally ≡ tally_all s.tally (spans_of (joined f w p i))
  pub takes : r.taken ≡ s.taken + len_at w p i
  pub clears : r.cleared ≡ s.cleared + cleared_of (rest_of (joined f w p i))

-- how many spans the DLCI's pieces have, the bytes of their list, whether one unpacks, the buffers that are not empty, and the bytes taken in,
-- cleared, and left in buffers
pub record CountIs (f w : List ℕ) (p : Plan) (u : List ℕ) (r : Sums) : Type 0 where
  pub count : r.tally.count ≡ length (spans (all f w p))
  pub bytes : r.tally.bytes ≡ length (span_list (spans (all f w p)))
  pub frame : r.tally.frames ≡ bit (any (λ s. unpacks_of s.wire) (spans (all f w p)))
  pub live : r.unfinished ≡ unfinished (all f w p)
  pub takes : r.taken ≡ taken_in (all f w p)
  pub clears : r.cleared ≡ cleared (all f w p)
  pub holds : r.left ≡ left (all f w p)
  pub front : Front (4 * p.held) u w
  pub told : AllTold f u p p.n
