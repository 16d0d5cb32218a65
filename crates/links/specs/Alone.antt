-- The claim of independence (document 02, job 7): 'two files that strict reading doesn't refuse by 1 to 5 and that hold the same ones, with the same times,
-- directions and order, give the same answer, however the other handles' records differ. Enough output is lent in both.'
use Rattle.std.specs.Prelude.{ℕ, ◌≤◌, ◌≡◌, List, [], ◌++◌, length, drop}
use Rattle.laws.specs.Answers.{Answer, accepted, Outcome, gives, refuses, Meets}
use Rattle.container.specs.Container.{Container}
use Rattle.outcome.specs.Import.{strict}
use Rattle.opening.specs.Opening.{opened}
use Rattle.links.specs.OneLink.{own}

-- strict reading does not refuse the file by 1 to 5 (pcap: 21 and 22 for 3 and 4)
abbrev pub ReadsWhole : Container → List ℕ → ℕ → Type 0
ReadsWhole C f work = opened C f work strict ≡ accepted []

-- the bytes that a call is to write
unfoldable pub wanted : Outcome → List ℕ
wanted (gives vs w) = w
wanted (refuses n vs) = []

-- two calls answer the same, and write these bytes to the front of what each was lent; the rest is as it was
pub record SameGiven (bytes : List ℕ) (out : List ℕ) (a : Answer) (out' : List ℕ) (out₂ : List ℕ) (a₂ : Answer) (out₂' : List ℕ) : Type 0 where
  pub answers : a ≡ a₂
  pub writes : out' ≡ bytes ++ drop (length bytes) out
  pub writes₂ : out₂' ≡ bytes ++ drop (length bytes) out₂

-- A kind of call has an outcome for each container, file and work. One such call answers a and leaves out'; any other, on another file of the same container
-- or another, answers a₂ and leaves out₂'. If strict reading refuses neither file, both hold the same packets of the link, and enough output is lent in
-- both, they answer and write the same.
abbrev pub AloneClaim : (Container → List ℕ → ℕ → Outcome) → ℕ → Container → List ℕ → ℕ → List ℕ → Answer → List ℕ → Type 0
AloneClaim call link C f work out a out' =
    (C₂ : Container) (f₂ : List ℕ) (work₂ : ℕ) (out₂ : List ℕ) (a₂ : Answer) (out₂' : List ℕ) → Meets (call C₂ f₂ work₂) out₂ a₂ out₂' →
    ReadsWhole C f work → ReadsWhole C₂ f₂ work₂ → own C link f ≡ own C₂ link f₂ →
    length (wanted (call C f work)) ≤ length out → length (wanted (call C₂ f₂ work₂)) ≤ length out₂ →
    SameGiven (wanted (call C f work)) out a out' out₂ a₂ out₂'
