-- The whole recording, not cut: import by either tail rule gives its frames, and with no partial frame none is unfinished.
use Prim.Native.Nat.{ℕ, ◌+◌, ◌*◌, ◌/◌, ◌≤◌}
use mathlib.Core.Path.{◌≡◌, refl, sym, ap, ◌∙◌}
use mathlib.Core.Bool.{true, false}
use mathlib.Core.List.{List, [], ◌∷◌, ◌++◌, append-nil}
use mathlib.Core.Option.{some}
use native.Mathlib.Omega.{arith}
use lib.ListN.{length, length-append}
use lib.Seq.{take-length}
use lib.Dec.{ltb}
use borrow.Author.Tests.{eq-eqb, le-ltb}
use Rattle.laws.proofs.Choice.{split_b}
use Rattle.laws.specs.Lists.{flat, All, all_nil, all_cons}
use Rattle.items.specs.declared.Direction.{Direction}
use Rattle.items.specs.declared.Direction.TheVariants.{Rx, Tx}
use Rattle.container.specs.Container.{Container, tail_offset, Lawful}
use Rattle.rfcomm.specs.Pieces.{Judging}
use Rattle.outcome.specs.Import.{Tail, strict, tolerant, Options, ends_well, imported}
use Rattle.cut.specs.Recording.{Framing, LinkOf, RecordingOf, rows, file, cut}
use Rattle.cut.specs.Left.{tail_left, sent_in, link_key, information_of, data_of, data_left, wires, frames_left, mid_frame, ends_mid, mid_in, mid_left}
use Rattle.cut.specs.Honest.{Honest}
use Rattle.cut.proofs.CutRecords.{records_all}
use Rattle.cut.proofs.CutWires.{Spanning}
use Rattle.cut.proofs.Theorem.{outcome_left, cut_tail, cut_imported}

module _ {C : Container} {S : Framing} (R : RecordingOf C S) (G : Spanning S) {by : Judging} (H : Honest by R) (L : Lawful C) where
  whole_cut : cut R (length (file R)) ≡ file R
  unfolding cut
  whole_cut = take-length (file R)

  whole_head : C.head ≤ length (file R)
  unfolding file
  whole_head = simp length-append (omega (arith, H.header.0))

  whole_tail : tail_offset C (file R) ≡ length (file R)
  unfolding tail_left file
  whole_tail =
      let t : tail_offset C (cut R (length (file R))) ≡ tail_left R (length (file R)) = cut_tail R G H (length (file R)) L whole_head in
      let u : tail_left R (length (file R)) ≡ C.head + length (flat (rows R.records)) = rw (records_all R H.header.0) in
      ap (tail_offset C) (sym whole_cut) ∙ t ∙ u ∙ rw (← H.header.0) (sym (length-append R.header (flat (rows R.records))))

  whole_ends : (tail : Tail) → ends_well C tail (file R) ≡ true
  unfolding ends_well
  whole_ends strict = eq-eqb (tail_offset C (file R)) (length (file R)) whole_tail
  whole_ends tolerant = refl

  pub whole_imported : (o : Options) → o.judging ≡ by → o.channel ≡ some (R.d / 2) → (work : ℕ) → 8 * length (file R) ≤ work → imported C (file R) work o ≡ outcome_left by R (length (file R)) (frames_left R (length (file R)))
  whole_imported o er ec work w =
      ap (λ (f : List ℕ). imported C f work o) (sym whole_cut)
      ∙ cut_imported R G H (length (file R)) L whole_head o er ec (ap (ends_well C o.tail) whole_cut ∙ whole_ends o.tail) work w

-- ---- unfinished

mid_end : (at came : ℕ) (ws : List (List ℕ)) → came ≡ at + length (flat ws) → mid_frame at came ws ≡ false
unfolding mid_frame
mid_end at came [] e = le-ltb at came (omega arith)
mid_end at came (w ∷ ws) e =
    let g : came ≡ at + length w + length (flat ws) = omega (arith, length-append w (flat ws)) in
    rw (le-ltb came (at + length w) (omega arith), mid_end (at + length w) came ws g) (split_b (ltb at came) (λ q. rw q) (λ q. rw q))

module _ {C : Container} {S : Framing} (R : RecordingOf C S) {by : Judging} (H : Honest by R) (none-partial : All (λ (l : LinkOf S). (t : Direction) → l.partial t ≡ []) R.links) where
  none_mid : (l : LinkOf S) (t : Direction) → l.partial t ≡ [] → information_of (link_key l t) (data_of (sent_in R R.records)) ≡ flat (wires l t) ++ l.partial t → ends_mid R (length (file R)) l t ≡ false
  unfolding ends_mid data_left
  none_mid l t e i =
      let j : information_of (link_key l t) (data_of (sent_in R R.records)) ≡ flat (wires l t) = i ∙ rw (e, append-nil (flat (wires l t))) in
      rw (records_all R H.header.0, j) (mid_end 0 (length (flat (wires l t))) (wires l t) (omega arith))

  all_none : {ls : List (LinkOf S)} → All (λ (l : LinkOf S). (t : Direction) → l.partial t ≡ []) ls → All (λ (l : LinkOf S). (t : Direction) → information_of (link_key l t) (data_of (sent_in R R.records)) ≡ flat (wires l t) ++ l.partial t) ls → mid_in R (length (file R)) ls ≡ 0
  unfolding mid_in
  all_none all_nil all_nil = refl
  all_none (all_cons {x = l} p ps) (all_cons i is) = rw (none_mid l Rx (p Rx) (i Rx), none_mid l Tx (p Tx) (i Tx), all_none ps is)

  -- without a partial frame nothing is unfinished
  pub whole_finished : mid_left R (length (file R)) ≡ 0
  unfolding mid_left
  whole_finished = all_none none-partial H.information
