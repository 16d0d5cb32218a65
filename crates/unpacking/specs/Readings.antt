-- What the parts of unpacking promise each other.
use Rattle.std.specs.Prelude.{ℕ, ◌≡◌, List, [], ◌∷◌, length, get_or, take, drop, Result, Ok, Err}
use Rattle.laws.specs.Answers.{Answer, refused, Outcome, gives, refuses}
use Rattle.mdr.specs.Frame.{declared_of, last_of, computed_of}
use Rattle.mdr.specs.Told.{told_error}
use Rattle.unescaping.specs.Places.{ahead}
use Rattle.unpacking.specs.declared.Header.{Header}
use Rattle.unpacking.specs.declared.head.Head.{Head}
use Rattle.mdr.specs.declared.UnpackError.{UnpackError}

-- what the first six bytes say, and what is left after them
pub record HeaderIs (s : List ℕ) (h : Header) : Type 0 where
  pub kind : h.kind ≡ get_or (ahead s) 0 0
  pub seq : h.seq ≡ get_or (ahead s) 1 0
  pub declared : h.declared ≡ declared_of (ahead s)
  pub rest : ahead h.rest.bytes.now ≡ drop 6 (ahead s)

-- how many bytes there are, the last, and the sum of those before it
pub record Summed (body : List ℕ) (n sum last : ℕ) : Type 0 where
  pub long : n ≡ length body
  pub summed : sum ≡ computed_of body
  pub ends : last ≡ last_of body

-- an outcome is that refusal
pub record RefusedBy (o : Outcome) (a : Answer) : Type 0 where
  pub number : ℕ
  pub values : List ℕ
  pub is : o ≡ refuses number values
  pub tells : a ≡ refused number values

-- a frame's payload
abbrev pub payload : Head → List ℕ
payload h = take h.len (ahead h.part.bytes.now)

-- an outcome is that frame
pub record Holds (o : Outcome) (h : Head) : Type 0 where
  pub given : o ≡ gives (h.kind ∷ h.seq ∷ h.len ∷ []) (payload h)

abbrev pub reads_as : Outcome → Result Head UnpackError → Type 0
reads_as o (Ok h) = Holds o h
reads_as o (Err e) = RefusedBy o (told_error e)

pub record Reads (o : Outcome) (r : Result Head UnpackError) : Type 0 where
  pub is : reads_as o r
