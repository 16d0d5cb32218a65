-- Listing the records of a file: where each starts, how many there are, and the tail offset; or a refusal.
use Rattle.std.specs.Prelude.{ℕ, ◌+◌, ◌≡◌, Result, cond, List, [], ◌∷◌, length, leb}
use Rattle.std.proofs.lemmas.List.Edits.{sets}
use Rattle.laws.specs.Answers.{Answer, accepted, refused, answered}
use Rattle.container.specs.Container as container
use Rattle.trace.specs.Formats.{container_of}
use Rattle.trace.specs.Headers.{told_refusal, headed}
use Rattle.trace.specs.declared.Container.{Container}
use Rattle.trace.specs.declared.Refusal.{Refusal}
use Rattle.trace.specs.declared.Walked.{Walked}

-- where parts start that follow one another from an offset on
unfoldable pub starts_from : ℕ → List (List ℕ) → List ℕ
starts_from at [] = []
starts_from at (r ∷ rs) = at ∷ starts_from (at + length r) rs

-- nothing after a refusal
abbrev pub if_accepted : Answer → List ℕ → List ℕ
if_accepted (accepted vs) l = l
if_accepted (refused n vs) l = []

module _ (C : container.Container) where
  -- 1, 3 (pcap: 21), 4 (22); else how many records there are, and the tail offset
  unfoldable pub listing : List ℕ → Answer
  listing f = cond (leb (length f) 1048576) (headed C f (accepted (length (container.records C f) ∷ container.tail_offset C f ∷ []))) (refused 1 [])

  -- where each record starts
  unfoldable pub starts_of : List ℕ → List ℕ
  starts_of f = if_accepted (listing f) (starts_from C.head (container.records C f))

-- ---- as the code holds it

-- how many records there are, and the tail offset
abbrev pub told_walked : Walked → Answer
told_walked w = accepted (w.count ∷ w.tail ∷ [])

abbrev pub told_listed : Result Walked Refusal → Answer
told_listed = answered told_walked told_refusal

-- the answer by the definition, and the starts over the front of the list lent, as many as it has room for
pub record Lists (b : Container) (f d : List ℕ) (r : Result Walked Refusal) (e : List ℕ) : Type 0 where
  pub answers : told_listed r ≡ listing (container_of b) f
  pub writes : e ≡ sets d 0 (starts_of (container_of b) f)
