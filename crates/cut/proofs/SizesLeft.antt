-- The sizes of a cut of an honest recording are those of what is left of it.
use Prim.Native.Nat.{ℕ, ◌≤◌}
use mathlib.Core.Path.{◌≡◌, refl}
use mathlib.Core.List.{List, [], ◌∷◌}
use lib.ListN.{length, length-map}
use Rattle.items.specs.Items.{Span}
use Rattle.container.specs.Container.{Container, packets_in, Lawful}
use Rattle.rfcomm.specs.Pieces.{Judging, judged_by, pieces}
use Rattle.outcome.specs.Import.{Options, file_pieces, ends_well, imported}
use Rattle.outcome.specs.Sizes.{sizes, counts, sized}
use Rattle.cut.specs.Recording.{RecordingOf, cut, Framing}
use Rattle.cut.specs.Left.{records_left, frames_left}
use Rattle.cut.specs.Honest.{pdus_in, Honest}
use Rattle.cut.specs.Claim.{list_left}
use Rattle.cut.specs.Sizes.{sizes_left, SizesClaimOf, SizesClaim}
use Rattle.cut.proofs.CutWires.{Spanning}
use Rattle.cut.proofs.LinkWires.{packed_spans}
use Rattle.cut.proofs.Theorem.{outcome_left, cut_packet, cut_rows, cut_imported}

-- the records, PDUs and pieces of the records left
unfoldable counts_left : {C : Container} {S : Framing} → Judging → RecordingOf C S → ℕ → List ℕ
counts_left by R n = length (records_left R n) ∷ length (pdus_in R (records_left R n)) ∷ length (pieces (judged_by by (pdus_in R (records_left R n)))) ∷ []

sizes_of : {C : Container} {S : Framing} (by : Judging) (R : RecordingOf C S) (n : ℕ) (ss : List Span) → frames_left R n ≡ ss → sizes (outcome_left by R n ss) (counts_left by R n) ≡ sizes_left by R n ss
unfolding sizes outcome_left sizes_left counts_left list_left
sizes_of by R n [] e = refl
sizes_of by R n (s ∷ ss) e = rw e

module _ {by : Judging} {C : Container} {S : Framing} (R : RecordingOf C S) (G : Spanning S) (H : Honest by R) (n : ℕ) (L : Lawful C) (lo : C.head ≤ n) where
  cut_counts : counts C by (cut R n) ≡ counts_left by R n
  unfolding counts counts_left file_pieces packets_in pdus_in
  cut_counts = rw (cut_packet R G H n L lo, cut_rows R G H n L lo, length-map)

-- for every container that keeps the laws, every framing of such wires, both channel rules, FCS checked or not
pub sizes_claim_of : {C : Container} {S : Framing} → Lawful C → Spanning S → (lent : List ℕ) (work : ℕ) (o : Options) → SizesClaimOf C S lent work o (sized C lent work o)
unfolding sized ends_well
sizes_claim_of {C} L G lent work o R H n lo hi el ec et w =
    let i : imported C lent work o ≡ outcome_left o.judging R n (frames_left R n) = rw el (cut_imported R G H n L lo o refl ec (rw et) work w) in
    let k : counts C o.judging lent ≡ counts_left o.judging R n = rw el (cut_counts R G H n L lo) in
    rw (i, k) (sizes_of o.judging R n (frames_left R n) refl)

-- of packed frames
pub sizes_claim : {C : Container} → Lawful C → (lent : List ℕ) (work : ℕ) (o : Options) → SizesClaim C lent work o (sized C lent work o)
sizes_claim L = sizes_claim_of L packed_spans
