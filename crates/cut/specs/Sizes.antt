-- The claim of the cut for sizes: told of a cut of an honest recording, they are those of what is left of it.
use Rattle.std.specs.Prelude.{ℕ, ◌*◌, ◌/◌, ◌≤◌, ◌≡◌, List, [], ◌∷◌, length}
use Rattle.std.proofs.Math.Option.{some}
use Rattle.laws.specs.Answers.{Answer, accepted, refused}
use Rattle.container.specs.Container.{Container}
use Rattle.items.specs.Items.{Span}
use Rattle.rfcomm.specs.Pieces.{Judging, judged_by, pieces}
use Rattle.outcome.specs.Import.{tolerant, Options}
use Rattle.cut.specs.Recording.{Framing, packed_frames, RecordingOf, file, cut}
use Rattle.cut.specs.Left.{records_left, frames_left}
use Rattle.cut.specs.Honest.{pdus_in, Honest}
use Rattle.cut.specs.Claim.{list_left}

-- With no frame left they are refused with 6. With a frame left they tell the length of the list left, the number of records left, and how many PDUs
-- and pieces these records bring.
unfoldable pub sizes_left : {C : Container} {S : Framing} → Judging → RecordingOf C S → ℕ → List Span → Answer
sizes_left by R n [] = refused 6 []
sizes_left by R n (s ∷ ss) = accepted (length (list_left R n) ∷ length (records_left R n) ∷ length (pdus_in R (records_left R n)) ∷ length (pieces (judged_by by (pdus_in R (records_left R n)))) ∷ [])

-- for the same recordings, cuts and options as the claim for import, and with work that suffices
abbrev pub SizesClaimOf : Container → Framing → List ℕ → ℕ → Options → Answer → Type 0
SizesClaimOf C S lent work o answer =
    (R : RecordingOf C S) → Honest o.judging R → (n : ℕ) → C.head ≤ n → n ≤ length (file R) →
    lent ≡ cut R n → o.channel ≡ some (R.d / 2) → o.tail ≡ tolerant → 8 * n ≤ work →
    answer ≡ sizes_left o.judging R n (frames_left R n)

-- document 01's recordings, of packed frames
abbrev pub SizesClaim : Container → List ℕ → ℕ → Options → Answer → Type 0
SizesClaim C = SizesClaimOf C packed_frames
