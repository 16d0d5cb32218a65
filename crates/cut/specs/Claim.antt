-- The claim: tolerant import of a cut of an honest recording answers and writes what is left of it.
use Rattle.std.specs.Prelude.{ℕ, ◌*◌, ◌/◌, ◌≤◌, ◌≡◌, List, [], ◌∷◌, ◌++◌, map, length, drop}
use Rattle.std.proofs.Math.Option.{some}
use Rattle.laws.specs.Answers.{Answer, accepted, refused}
use Rattle.laws.specs.Totals.{total}
use Rattle.container.specs.Container.{Container}
use Rattle.items.specs.Items.{Span, span_list}
use Rattle.rfcomm.specs.Pieces.{Judging, wrong_on}
use Rattle.spans.specs.Account.{Account, account_values}
use Rattle.outcome.specs.Import.{tolerant, Options}
use Rattle.cut.specs.Recording.{Framing, packed_frames, RecordingOf, file, cut}
use Rattle.cut.specs.Left.{records_left, tail_left, frames_left, mid_left, past_left}
use Rattle.cut.specs.Honest.{judged_in, Honest}

-- UIH frames on d with a wrong FCS, where it is checked: the PDUs of the records left that are tried by these records
unfoldable pub wrong_left : {C : Container} {S : Framing} → Judging → RecordingOf C S → ℕ → ℕ
wrong_left by R n = wrong_on R.d (map (λ q. q.kind) (judged_in by R (records_left R n)))

-- In spans are the wires of the frames left; nothing is dropped, nothing cleared; left is what came after the last closing 3C.
abbrev pub account_left : {C : Container} {S : Framing} → RecordingOf C S → ℕ → List Span → Account
account_left R n ss = record { in_spans = total (λ s. length s.wire) ss; dropped = 0; cleared = 0; left = past_left R n }

-- With none left it refuses with 6. With a frame left it answers d, the number of frames left, the number of link directions that end mid-frame,
-- the end of the last record left as tail offset, the length of its list as bytes written, the frames with a wrong FCS, and where the bytes left went.
unfoldable pub answer_left : {C : Container} {S : Framing} → Judging → RecordingOf C S → ℕ → List Span → Answer
answer_left by R n [] = refused 6 []
answer_left by R n (s ∷ ss) = accepted (R.d ∷ length (s ∷ ss) ∷ mid_left R n ∷ tail_left R n ∷ length (span_list (s ∷ ss)) ∷ wrong_left by R n ∷ account_values (account_left R n (s ∷ ss)))

-- one span item for each frame left, in order of completion, with the frame's direction, time and whole wire
unfoldable pub list_left : {C : Container} {S : Framing} → RecordingOf C S → ℕ → List ℕ
list_left R n = span_list (frames_left R n)

-- the answer, and the output: it begins with the list, and the rest is as it was
pub record AsLeft {C : Container} {S : Framing} (by : Judging) (R : RecordingOf C S) (n : ℕ) (out : List ℕ) (answer : Answer) (out' : List ℕ) : Type 0 where
  pub answers : answer ≡ answer_left by R n (frames_left R n)
  pub writes : out' ≡ list_left R n ++ drop (length (list_left R n)) out

-- For every recording in the container that is honest by the channel rule chosen, and with FCS checked or not as chosen, and every cut of it after the header: if the file lent is the cut, the channel d divided by 2,
-- the tail rule tolerant, and the work and output lent suffice, a call that answers and leaves this output does as is left.
abbrev pub CutClaimOf : Container → Framing → List ℕ → ℕ → Options → List ℕ → Answer → List ℕ → Type 0
CutClaimOf C S lent work o out answer out' =
    (R : RecordingOf C S) → Honest o.judging R → (n : ℕ) → C.head ≤ n → n ≤ length (file R) →
    lent ≡ cut R n → o.channel ≡ some (R.d / 2) → o.tail ≡ tolerant → 8 * n ≤ work → length (list_left R n) ≤ length out →
    AsLeft o.judging R n out answer out'

-- document 01's, of packed frames
abbrev pub CutClaim : Container → List ℕ → ℕ → Options → List ℕ → Answer → List ℕ → Type 0
CutClaim C = CutClaimOf C packed_frames
