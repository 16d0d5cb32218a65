-- What the words of the pieces say of the buffers at the end.
use Prim.Native.Nat.{ℕ, zero, suc, ◌+◌, ◌-◌, ◌*◌, ◌<◌, ◌≤◌}
use mathlib.Core.Path.{◌≡◌, sym, ap, ◌∙◌, fun_ext}
use mathlib.Core.List.{List, ◌∷◌, ◌++◌, append-nil, append_assoc, map}
use native.Mathlib.Omega.{arith}
use native.Mathlib.Numerals.{add-one}
use lib.ListN.{length}
use borrow.Author.Tests.{eq-eqb}
use Rattle.laws.proofs.Choice.{split≡}
use Rattle.laws.specs.Keys.{Key}
use Rattle.laws.specs.Keyed.{step, after}
use Rattle.words.proofs.Front.{front_refl}
use Rattle.spans.specs.Spans.{scanner, emptied}
use Rattle.split.specs.Rows.{piece, dlci_at, held_in, held_of, stream_of, stream_to, opened, Fits, ahead, all}
use Rattle.measuring.specs.Counting.{keys_to}
use Rattle.split.specs.Walks.{Lying, AllTold, Moved}
use Rattle.split.proofs.Lasts.{length_lastn}
use Rattle.split.proofs.Steps.{own_fits, kept_own, moved_opens, moved_fits}
use Rattle.split.proofs.Aheads.{opened_none, ahead_none, next_after, next_keys, ahead_skip, opened_skip, fits_skip}
use Rattle.measuring.proofs.Steps.{keys_skip}
use Rattle.split.specs.declared.Plan.{Plan}
use Rattle.stretches.specs.Open.{firsts, open_of, held_after, open_stretches}

record Ending (f w : List ℕ) (p : Plan) (i : ℕ) : Type 0 where
  pub fits : Fits f w p i
  pub ends : after scanner (opened f w p i) (ahead f w p i) ≡ after scanner emptied (all f w p)
  pub keys : keys_to w p i ++ map (λ x. x.key) (ahead f w p i) ≡ map (λ x. x.key) (all f w p)

module _ (f w : List ℕ) (p : Plan) (l : Lying f w p) (t : AllTold f w p p.n) where
  ending_own : (i : ℕ) → i < p.n → dlci_at w p i ≡ p.dlci → Ending f w p i → Ending f w p (i + 1)
  unfolding keys_to
  ending_own i h d v =
      let m : Moved f w p i w = record { kept = kept_own w p i; told = t.at i h d } in
      let x : held_of w p i ≤ length (stream_to f w p i) = own_fits f w p i d v.fits in
      let k : opened f w p (i + 1) ≡ step scanner (opened f w p i) (piece f w p i) = moved_opens f w p i l h x w m d in
      let s = front_refl (4 * p.held) w in
      record {
        fits = moved_fits f w p i l h x w m d v.fits;
        ends = sym (next_after f w p i h d w l s k) ∙ v.ends;
        keys = rw (add-one i, eq-eqb (dlci_at w p i) p.dlci d, append_assoc, ← add-one i, ← next_keys f w p i h d w l s k) v.keys;
      }

  ending_skip : (i : ℕ) → i < p.n → (dlci_at w p i ≡ p.dlci → ⊥) → Ending f w p i → Ending f w p (i + 1)
  ending_skip i h d v = record {
    fits = fits_skip f w p i h d v.fits;
    ends = rw (ahead_skip f w p i h d, ← opened_skip f w p i h d) at v.ends;
    keys = rw (ahead_skip f w p i h d, ← keys_skip f w p i h d) at v.keys;
  }

  ending : (i : ℕ) → i ≤ p.n → Ending f w p i
  unfolding keys_to held_in
  ending zero h =
      let z : p.n - 0 ≡ p.n = omega arith in
      record { fits = record { at = λ k. omega arith }; ends = rw (z, opened_none f w p); keys = rw z }
  ending (suc i) h =
      let v : Ending f w p i = ending i (omega arith) in
      rw (← add-one i) (split≡ (dlci_at w p i) p.dlci (λ d. ending_own i (omega arith) d v) (λ d. ending_skip i (omega arith) d v))

  held_end : (k : Key) → held_after (all f w p) k ≡ held_in w p p.n (p.dlci ∷ k)
  unfolding after opened
  held_end k =
      let v : Ending f w p p.n = ending p.n (omega arith) in
      let e : opened f w p p.n ≡ after scanner emptied (all f w p) = rw (ahead_none f w p p.n (omega arith)) at v.ends in
      ap (λ (m : Key → List ℕ). length (m k)) (sym e) ∙ length_lastn (held_in w p p.n (p.dlci ∷ k)) (stream_of f w p p.n (p.dlci ∷ k)) (v.fits.at k)

  keys_end : map (λ x. x.key) (all f w p) ≡ keys_to w p p.n
  keys_end = sym (rw (ahead_none f w p p.n (omega arith), append-nil) at (ending p.n (omega arith)).keys)

  -- the open stretches, by the words
  pub open_by_words : open_stretches p.dlci (all f w p) ≡ open_of p.dlci (λ k. held_in w p p.n (p.dlci ∷ k)) (firsts (keys_to w p p.n))
  unfolding open_stretches
  open_by_words =
      ap (λ (h : Key → ℕ). open_of p.dlci h (firsts (map (λ x. x.key) (all f w p)))) (fun_ext held_end)
      ∙ ap (λ (ks : List Key). open_of p.dlci (λ k. held_in w p p.n (p.dlci ∷ k)) (firsts ks)) keys_end
