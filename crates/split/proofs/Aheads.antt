-- The pieces still to come: what the machine does with the next one, and a piece of another DLCI.
use Prim.Native.Nat.{ℕ, suc, ◌+◌, ◌-◌, ◌*◌, ◌<◌, ◌≤◌}
use mathlib.Core.Path.{◌≡◌, refl, fun_ext}
use mathlib.Core.List.{List, [], ◌∷◌, ◌++◌, append-nil, map}
use native.Mathlib.Omega.{arith}
use native.Mathlib.Numerals.{add-one}
use borrow.Author.Tests.{eq-eqb, ne_eqb}
use Rattle.laws.specs.Keys.{Key, eq_k}
use Rattle.laws.specs.Keyed.{step, run, after}
use Rattle.words.specs.Front.{Front}
use Rattle.rfcomm.specs.PieceTable.{piece_at, pieces_from}
use Rattle.spans.specs.Scan.{spans_of}
use Rattle.spans.specs.Spans.{scanner, emptied, on_dlci}
use Rattle.spans.specs.Parts.{tagged}
use Rattle.split.specs.Rows.{piece, dlci_at, tail_at, key_at, held_in, stream_of, opened, Fits, joined, ahead}
use Rattle.split.proofs.Fronts.{table_front}
use Rattle.split.specs.Walks.{Lying}
use Rattle.split.specs.declared.Plan.{Plan}
use Rattle.split.proofs.Lasts.{lastn_zero}
use Rattle.split.proofs.Tables.{piece_key, piece_bytes}
use Rattle.split.proofs.Steps.{own_key}

pub opened_none : (f w : List ℕ) (p : Plan) → opened f w p 0 ≡ emptied
unfolding opened held_in
opened_none f w p = fun_ext (λ k. lastn_zero 0 (stream_of f w p 0 (p.dlci ∷ k)) refl)

pub ahead_none : (f w : List ℕ) (p : Plan) (i : ℕ) → p.n ≤ i → ahead f w p i ≡ []
unfolding pieces_from on_dlci
ahead_none f w p i h = let z : p.n - i ≡ 0 = omega arith in rw z

-- ---- the next piece

module _ (f w : List ℕ) (p : Plan) (i : ℕ) (h : i < p.n) (d : dlci_at w p i ≡ p.dlci) where
  pub ahead_own : ahead f w p i ≡ piece f w p i ∷ ahead f w p (i + 1)
  unfolding pieces_from on_dlci piece_at
  ahead_own = let z : p.n - i ≡ suc (p.n - (i + 1)) = omega arith in rw (z, eq-eqb (dlci_at w p i) p.dlci d, add-one i)

  pub own_joined : opened f w p i (piece f w p i).key ++ (piece f w p i).bytes ≡ joined f w p i
  unfolding opened joined
  own_joined = rw (piece_key f w p i, piece_bytes f w p i, own_key w p i d)

  pub first_run : run scanner (opened f w p i) (ahead f w p i) ≡ tagged (piece f w p i).rx (piece f w p i).time (spans_of (joined f w p i)) ++ run scanner (step scanner (opened f w p i) (piece f w p i)) (ahead f w p (i + 1))
  unfolding run
  first_run = rw (ahead_own, own_joined)

  module _ (u : List ℕ) (l : Lying f w p) (s : Front (4 * p.held) u w) (m : opened f u p (i + 1) ≡ step scanner (opened f w p i) (piece f w p i)) where
    pub next_ahead : ahead f u p (i + 1) ≡ ahead f w p (i + 1)
    next_ahead = rw (table_front f u w p l s (i + 1) (p.n - (i + 1)) (omega arith))

    pub next_run : run scanner (opened f w p i) (ahead f w p i) ≡ tagged (piece f w p i).rx (piece f w p i).time (spans_of (joined f w p i)) ++ run scanner (opened f u p (i + 1)) (ahead f u p (i + 1))
    next_run = rw (next_ahead, m) first_run

    pub next_after : after scanner (opened f w p i) (ahead f w p i) ≡ after scanner (opened f u p (i + 1)) (ahead f u p (i + 1))
    unfolding after
    next_after = rw (ahead_own, next_ahead, m)

    pub next_keys : map (λ x. x.key) (ahead f w p i) ≡ tail_at w p i ∷ map (λ x. x.key) (ahead f u p (i + 1))
    next_keys = rw (ahead_own, next_ahead, piece_key f w p i)

-- ---- a piece of another DLCI

module _ (f w : List ℕ) (p : Plan) (i : ℕ) (h : i < p.n) (d : dlci_at w p i ≡ p.dlci → ⊥) where
  pub ahead_skip : ahead f w p i ≡ ahead f w p (i + 1)
  unfolding pieces_from on_dlci piece_at
  ahead_skip = let z : p.n - i ≡ suc (p.n - (i + 1)) = omega arith in rw (z, ne_eqb (dlci_at w p i) p.dlci d, add-one i)

  pub held_skip : (k : Key) → held_in w p (i + 1) (p.dlci ∷ k) ≡ held_in w p i (p.dlci ∷ k)
  unfolding held_in eq_k key_at
  held_skip k = rw (add-one i, ne_eqb (dlci_at w p i) p.dlci d)

  stream_skip : (k : Key) → stream_of f w p (i + 1) (p.dlci ∷ k) ≡ stream_of f w p i (p.dlci ∷ k)
  unfolding stream_of eq_k key_at
  stream_skip k = rw (add-one i, ne_eqb (dlci_at w p i) p.dlci d, append-nil)

  pub opened_skip : opened f w p (i + 1) ≡ opened f w p i
  unfolding opened
  opened_skip = fun_ext (λ k. rw (held_skip k, stream_skip k))

  pub fits_skip : Fits f w p i → Fits f w p (i + 1)
  fits_skip x = record { at = λ k. rw (held_skip k, stream_skip k) (x.at k) }
