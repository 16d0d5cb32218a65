-- How a sample is laid out: what is read at a place. What lies past the end of the file reads as 0, and a part that passes it as empty.
use Rattle.std.specs.Prelude.{ℕ, ◌+◌, ◌-◌, ◌*◌, ◌^◌, ◌≡◌, ◌<◌, ◌≤◌, MatchOption, min, cond, Option, None, Some, List, [], length, get_or, take, drop, leb, eqb}
use Rattle.laws.specs.Numbers.{le32, le64}
use Rattle.samples.specs.declared.Op.{Op}
use Rattle.samples.specs.declared.Op.TheVariants.{Unpack, Pack, FixtureName, IsCommandName, Plan, CaptureOrder, ImportStrict, Import}
use Rattle.samples.specs.declared.Call.{Call}
use Rattle.samples.specs.declared.Answer.{Answer}
use Rattle.samples.specs.declared.Case.{Case}
use Rattle.samples.specs.declared.Cases.{Cases}

-- the sum, or the largest number of 64 bits if it is larger
abbrev pub capped : ℕ → ℕ → ℕ
capped a b = min (a + b) (2 ^ 64 - 1)

unfoldable pub word_at : List ℕ → ℕ → ℕ
word_at s at = cond (leb (at + 4) (length s)) (le32 s at) 0

unfoldable pub long_at : List ℕ → ℕ → ℕ
long_at s at = cond (leb (at + 8) (length s)) (le64 s at) 0

unfoldable pub part_at : List ℕ → ℕ → ℕ → List ℕ
part_at s at size = cond (leb (at + size) (length s)) (take size (drop at s)) []

-- bytes with their length before them: where they stand, how many there are, and the place after them
pub record Counted : Type 0 where
  pub start : ℕ
  pub size : ℕ
  pub end : ℕ

abbrev pub bytes_of : List ℕ → Counted → List ℕ
bytes_of s c = part_at s c.start c.size

unfoldable pub counted_at : List ℕ → ℕ → Counted
counted_at s at = record { start = capped at 4; size = word_at s at; end = capped (capped at 4) (word_at s at) }

-- the call that a byte names, if it names one
unfoldable pub op_of : ℕ → Option Op
op_of b =
    cond (eqb b 1) (Some Unpack)
    (cond (eqb b 2) (Some Pack)
    (cond (eqb b 3) (Some FixtureName)
    (cond (eqb b 4) (Some IsCommandName)
    (cond (eqb b 5) (Some Plan)
    (cond (eqb b 6) (Some CaptureOrder)
    (cond (eqb b 7) (Some ImportStrict)
    (cond (eqb b 8) (Some Import) None)))))))

-- how many bytes the numbers of an op take
unfoldable pub numbers_size : Option Op → ℕ
numbers_size (Some FixtureName) = 13
numbers_size (Some ImportStrict) = 4
numbers_size (Some Import) = 4
numbers_size (Some Unpack) = 2
numbers_size (Some Pack) = 2
numbers_size (Some IsCommandName) = 0
numbers_size (Some Plan) = 0
numbers_size (Some CaptureOrder) = 0
numbers_size None = 0

-- no bytes, at a place
abbrev pub no_bytes : ℕ → Counted
no_bytes at = record { start = at; size = 0; end = at }

-- the second input, which the plan alone has
unfoldable pub second_at : List ℕ → Option Op → ℕ → Counted
second_at s (Some Plan) at = counted_at s at
second_at s (Some Unpack) at = no_bytes at
second_at s (Some Pack) at = no_bytes at
second_at s (Some FixtureName) at = no_bytes at
second_at s (Some IsCommandName) at = no_bytes at
second_at s (Some CaptureOrder) at = no_bytes at
second_at s (Some ImportStrict) at = no_bytes at
second_at s (Some Import) at = no_bytes at
second_at s None at = no_bytes at

-- the op, and the first and second input, of the call at a place
abbrev pub op_at : List ℕ → ℕ → Option Op
op_at s at = op_of (get_or s at 0)

unfoldable pub first_of : List ℕ → ℕ → Counted
first_of s at = counted_at s (capped (capped at 1) (numbers_size (op_at s at)))

unfoldable pub second_of : List ℕ → ℕ → Counted
second_of s at = second_at s (op_at s at) (first_of s at).end

pub record IsCall (s : List ℕ) (at : ℕ) (c : Call) : Type 0 where
  pub op : c.op ≡ op_at s at
  pub numbers : c.numbers.now ≡ take (numbers_size (op_at s at)) (drop (capped at 1) s)
  pub first : c.first.now ≡ bytes_of s (first_of s at)
  pub second : c.second.now ≡ bytes_of s (second_of s at)

abbrev pub call_end : List ℕ → ℕ → ℕ
call_end s at = (second_of s at).end

-- how many bytes the values of an answer take, and the output written
unfoldable pub values_size : List ℕ → ℕ → ℕ
values_size s at = 8 * get_or s (capped at 8) 0

unfoldable pub output_at : List ℕ → ℕ → Counted
output_at s at = counted_at s (capped (capped at 9) (values_size s at))

-- output lent, number, values, and the output written
pub record IsAnswer (s : List ℕ) (at : ℕ) (a : Answer) : Type 0 where
  pub lent : a.lent ≡ word_at s at
  pub number : a.number ≡ word_at s (capped at 4)
  pub values : a.values.now ≡ take (values_size s at) (drop (capped at 9) s)
  pub output : a.output.now ≡ bytes_of s (output_at s at)

abbrev pub answer_end : List ℕ → ℕ → ℕ
answer_end s at = (output_at s at).end

-- a call and its answer; the case is whole if its end lies in the file
pub record IsCase (s : List ℕ) (at : ℕ) (c : Case) : Type 0 where
  pub call : IsCall s at c.call
  pub answer : IsAnswer s (call_end s at) c.answer
  pub end : c.end ≡ answer_end s (call_end s at)
  pub whole : c.whole ≡ leb c.end (length s)

-- the case at c's place was given, and what is left begins after it
pub record GaveCase (c : Cases) (k : Case) (d : Cases) : Type 0 where
  pub is : IsCase c.sample.now c.at k
  pub sample : d.sample ≡ c.sample
  pub next : d.at ≡ k.end
  pub within : c.at < length c.sample.now
  pub ahead : c.at < d.at

-- none is left where the sample ends
abbrev pub GivesCase : Cases → Option Case → Cases → Type 0
GivesCase c r d = MatchOption r ((length c.sample.now ≤ c.at) × (d ≡ c)) (λ k. GaveCase c k d)
