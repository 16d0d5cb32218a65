-- Sizes before import (document 02, job 6): the output length that import would need, and how many records, completed PDUs and pieces the file holds.
use Rattle.std.specs.Prelude.{ℕ, ◌<◌, ◌≤◌, ◌≡◌, ◌≢◌, List, [], ◌∷◌, length}
use Rattle.laws.specs.Answers.{Answer, accepted, refused, Outcome, gives, refuses, answer}
use Rattle.container.specs.Container.{Container, records, packets_in}
use Rattle.l2cap.specs.Pdus.{pdus}
use Rattle.rfcomm.specs.Pieces.{Judging}
use Rattle.outcome.specs.Import.{Options, file_pieces, imported}

-- the output length that import needs, which is what it writes, and then these numbers; refused as import is, with the same values
unfoldable pub sizes : Outcome → List ℕ → Answer
sizes (gives vs list) numbers = accepted (length list ∷ numbers)
sizes (refuses n vs) numbers = refused n vs

module _ (C : Container) where
  -- the whole records, skipped ones too; the completed PDUs, tried or not; the pieces, of every DLCI
  unfoldable pub counts : Judging → List ℕ → List ℕ
  counts by f = length (records C f) ∷ length (pdus (packets_in C f)) ∷ length (file_pieces C by f) ∷ []

  -- 1 to 6; there is no output that could be too short
  unfoldable pub sized : List ℕ → ℕ → Options → Answer
  sized f work o = sizes (imported C f work o) (counts o.judging f)

-- What an answer, of sizes, tells of import by the same file, work and options, whatever output is lent.
pub record Foretells (C : Container) (f : List ℕ) (work : ℕ) (o : Options) (a : Answer) : Type 0 where
  -- with the length needed, or more, it is not refused;
  pub enough : (n : ℕ) (numbers : List ℕ) → a ≡ accepted (n ∷ numbers) → (room : ℕ) → n ≤ room → (k : ℕ) (vs : List ℕ) → answer (imported C f work o) room ≢ refused k vs
  -- with less it is refused by 7, with the length needed,
  pub short : (n : ℕ) (numbers : List ℕ) → a ≡ accepted (n ∷ numbers) → (room : ℕ) → room < n → answer (imported C f work o) room ≡ refused 7 (n ∷ [])
  -- and there always is less, since some span unpacks;
  pub least : (n : ℕ) (numbers : List ℕ) → a ≡ accepted (n ∷ numbers) → 23 ≤ n
  -- and where sizes are refused, so is import.
  pub alike : (k : ℕ) (vs : List ℕ) → a ≡ refused k vs → (room : ℕ) → answer (imported C f work o) room ≡ refused k vs
