-- How a call answers over the C interface: a number as the result, and values in a lent list.
use Rattle.std.specs.Prelude.{ℕ, ◌≡◌, List, [], ◌∷◌, length}
use Rattle.laws.specs.Answers.{Answer, accepted, refused, Outcome, answer, output}

-- 0, or document 01's number of the refusal
abbrev pub number_of : Answer → ℕ
number_of (accepted vs) = 0
number_of (refused n vs) = n

-- what is answered, or what the refusal carries
abbrev pub values_of : Answer → List ℕ
values_of (accepted vs) = vs
values_of (refused n vs) = vs

-- values over the front of a list, as many as it has room for; the rest stays
unfoldable pub stored : List ℕ → List ℕ → List ℕ
stored [] d = d
stored (v ∷ vs) [] = []
stored (v ∷ vs) (x ∷ d) = v ∷ stored vs d

-- an answer, told to a caller that lent the list d: the result is r, and the list becomes e
pub record Told (a : Answer) (d : List ℕ) (r : ℕ) (e : List ℕ) : Type 0 where
  pub number : r ≡ number_of a
  pub values : e ≡ stored (values_of a) d

-- a call with the outcome o that was lent the output d and the list v: it returns r, and leaves e and w
pub record Calls (o : Outcome) (d e v : List ℕ) (r : ℕ) (w : List ℕ) : Type 0 where
  pub writes : e ≡ output o d
  pub tells : Told (answer o (length d)) v r w

-- a number and values, told to a caller that lent the list d
pub record TellsAs (n : ℕ) (vs d : List ℕ) (r : ℕ) (e : List ℕ) : Type 0 where
  pub number : r ≡ n
  pub values : e ≡ stored vs d
