-- The signs in a file that something is not in it: how many of each there are, and where the first is, by what its header says.
use Rattle.std.specs.Prelude.{ℕ, List, [], ◌∷◌, ◌++◌, length}
use Rattle.trace.specs.declared.Format.{Format}
use Rattle.signs.specs.Places.{where_is, records_at, packets_at}
use Rattle.signs.specs.Recorded.{is_short, is_zeros, is_skipped, dropped, dropped_at}
use Rattle.signs.specs.Partial.{strays, given_up, left_open}

-- the first of some places; 0 if there is none, as no record starts there
unfoldable pub first_of : List ℕ → ℕ
first_of [] = 0
first_of (at ∷ ats) = at

abbrev pub tallied : List ℕ → List ℕ
tallied ats = length ats ∷ first_of ats ∷ []

-- records stored short, the recorder's drops, ACL packets skipped because data is not there, records of zeros
unfoldable pub record_gaps : Format → List ℕ → List ℕ
record_gaps g f =
    tallied (where_is (is_short g) (records_at g f))
    ++ ((dropped g 0 (records_at g f) ∷ first_of (dropped_at g 0 (records_at g f)) ∷ [])
    ++ (tallied (where_is (is_skipped g) (records_at g f))
    ++ tallied (where_is is_zeros (records_at g f))))

-- continuations with nothing open, partial PDUs discarded by a start, PDUs open at the end
unfoldable pub packet_gaps : Format → List ℕ → List ℕ
packet_gaps g f = tallied (strays (packets_at g f)) ++ (tallied (given_up (packets_at g f)) ++ tallied (left_open (packets_at g f)))

unfoldable pub gaps : Format → List ℕ → List ℕ
gaps g f = record_gaps g f ++ packet_gaps g f
