-- Laws of specs/Answers.
use mathlib.Core.Path.{◌≡◌}
use mathlib.Core.List.{List, [], ◌∷◌}
use Prim.Native.Nat.{ℕ, ◌<◌, ◌≤◌}
use lib.ListN.{length}
use borrow.Author.Tests.{le-leb, lt-leb}
use Rattle.laws.specs.Stores.{Writes}
use Rattle.laws.proofs.Stores.{filled_fits, filled_short}
use Rattle.laws.specs.Answers.{Answer, accepted, refused, Outcome, gives, refuses, answer, output, Meets}

pub meets_refused : (o : Outcome) (d : List ℕ) (n : ℕ) (vs : List ℕ) → o ≡ refuses n vs → Meets o d (refused n vs) d
unfolding answer output
meets_refused o d n vs q = record { answers = rw q; writes = rw q }

pub meets_short : (o : Outcome) (d vs w : List ℕ) (n : ℕ) → o ≡ gives vs w → n ≡ length w → length d < n → Meets o d (refused 7 (n ∷ [])) d
unfolding answer output
meets_short o d vs w n q e h =
    let g : length d < length w = rw e at h in
    record { answers = rw (q, lt-leb (length w) (length d) g, e); writes = rw q (filled_short w d g) }

pub meets_wrote : (o : Outcome) (d vs w : List ℕ) (r : ℕ) (e : List ℕ) → o ≡ gives vs w → length w ≤ length d → Writes d 0 w r e → Meets o d (accepted vs) e
unfolding answer output
meets_wrote o d vs w r e q h p = record { answers = rw (q, le-leb (length w) (length d) h); writes = rw q (filled_fits w d r e h p) }

pub meets_as : (o o' : Outcome) (d : List ℕ) {a : Answer} {e : List ℕ} → o ≡ o' → Meets o' d a e → Meets o d a e
meets_as o o' d q m = record { answers = rw q m.answers; writes = rw q m.writes }
