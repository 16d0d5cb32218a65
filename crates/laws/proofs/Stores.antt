-- Laws of specs/Stores.
use mathlib.Core.Path.{◌≡◌, refl, sym, ap, ◌∙◌}
use mathlib.Core.List.{List, [], ◌∷◌, ◌++◌}
use Prim.Native.Nat.{ℕ, suc, ◌+◌, ◌-◌, ◌<◌, ◌≤◌}
use native.Mathlib.Nat.{add-zero, zero-add}
use native.Mathlib.Omega.{arith}
use borrow.Author.Tests.{le-leb, lt-leb}
use lib.ListN.{length, set, take, drop, length-append}
use lib.Seq.{sets, sets-eq, set_comm, length-sets, drop-drop}
use Rattle.std.proofs.Common.{append_assoc}
use borrow.Rule.Slice.PartMut.{put_mid}
use Rattle.laws.specs.Stores.{Writes, Emitting, filled}

pub sets_append : (l : List ℕ) (i : ℕ) (a b : List ℕ) → sets l i (a ++ b) ≡ sets (sets l i a) (i + length a) b
sets_append l i [] b = rw add-zero
sets_append l i (x ∷ a) b = sets_append (set l i x) (suc i) a b ∙ ap (λ (n : ℕ). sets (sets (set l i x) (suc i) a) n b) (omega arith)

-- ---- of two parts, the back part may be stored first

-- one store below a run of stores
set_sets : (vs l : List ℕ) (i j x : ℕ) → i < j → set (sets l j vs) i x ≡ sets (set l i x) j vs
set_sets [] l i j x h = refl
set_sets (v ∷ vs) l i j x h = set_sets vs (set l j v) i (suc j) x (omega arith) ∙ ap (λ (m : List ℕ). sets m (suc j) vs) (set_comm l j i v x (λ e. omega arith))

pub sets_swap : (a b l : List ℕ) (i j : ℕ) → i + length a ≤ j → sets (sets l j b) i a ≡ sets (sets l i a) j b
sets_swap [] b l i j h = refl
sets_swap (x ∷ a) b l i j h = ap (λ (m : List ℕ). sets m (suc i) a) (set_sets b l i j x (omega arith)) ∙ sets_swap a b (set l i x) (suc i) j (omega arith)

pub sets_back : (l : List ℕ) (i : ℕ) (a b : List ℕ) → sets l i (a ++ b) ≡ sets (sets l (i + length a) b) i a
sets_back l i a b = sets_append l i a b ∙ sym (sets_swap a b l i (i + length a) (omega arith))

-- ---- what is written

pub writes_then : (d : List ℕ) (at : ℕ) (a : List ℕ) (r : ℕ) (e : List ℕ) (b : List ℕ) (s : ℕ) (g : List ℕ) → Writes d at a r e → Writes e r b s g → Writes d at (a ++ b) s g
writes_then d at a r e b s g p q = record {
  next = omega (arith, p.next, q.next, length-append a b);
  writes = q.writes ∙ rw (p.writes, p.next) (sym (sets_append d at a b));
}

-- a part, and then what stands before it
pub writes_before : (d : List ℕ) (at k : ℕ) (b : List ℕ) (r : ℕ) (e a : List ℕ) (s : ℕ) (g : List ℕ) → k ≡ length a → Writes d (at + k) b r e → Writes e at a s g → Writes d at (a ++ b) r g
writes_before d at k b r e a s g n p q = record {
  next = omega (arith, n, p.next, length-append a b);
  writes = q.writes ∙ rw (p.writes, n) (sym (sets_back d at a b));
}

pub writes_long : (d : List ℕ) (at : ℕ) (w : List ℕ) (r : ℕ) (e : List ℕ) → Writes d at w r e → length e ≡ length d
writes_long d at w r e p = ap length p.writes ∙ length-sets d at w

-- a part stored as it stands
pub copied : (out part : List ℕ) (at : ℕ) → at + length part ≤ length out → Writes out at part (at + length part) (put_mid at (at + length part - at) out part)
copied out part at h =
    let k : at + length part - at ≡ length part = omega arith in
    record { next = refl; writes = rw (k, drop-drop (length part) at out) (sym (sets-eq part out at h ∙ append_assoc (take at out) part (drop (at + length part) out))) }

pub emit_start : (out : List ℕ) (at : ℕ) (all : List ℕ) → Emitting out at all out at all
emit_start out at all = record { next = refl; long = refl; done = refl }

module _ (out₀ : List ℕ) (at₀ : ℕ) (all out : List ℕ) (at : ℕ) (rest : List ℕ) (s : Emitting out₀ at₀ all out at rest) where
  pub emit_turn : (w rest' : List ℕ) (r : ℕ) (out' : List ℕ) → rest ≡ w ++ rest' → Writes out at w r out' → Emitting out₀ at₀ all out' r rest'
  emit_turn w rest' r out' e v = record {
    next = omega (arith, s.next, ap length e, length-append w rest', v.next);
    long = ap length v.writes ∙ length-sets out at w ∙ s.long;
    done = rw (v.writes, v.next) (sym (sets_append out at w rest') ∙ rw e at s.done);
  }

  pub emit_room : (w rest' : List ℕ) → rest ≡ w ++ rest' → at₀ + length all ≤ length out₀ → at + length w ≤ length out
  emit_room w rest' e h = omega (arith, s.next, s.long, ap length e, length-append w rest')

  pub emit_end : rest ≡ [] → Writes out₀ at₀ all at out
  emit_end e = record {
    next = (let q : at + length rest ≡ at₀ + length all = s.next in let z : length rest ≡ 0 = ap length e in omega arith);
    writes = rw e at s.done;
  }

pub filled_fits : (w d : List ℕ) (r : ℕ) (e : List ℕ) → length w ≤ length d → Writes d 0 w r e → e ≡ filled w d
unfolding filled
filled_fits w d r e h p = rw le-leb (p.writes ∙ sets-eq w d 0 (omega arith) ∙ rw zero-add)

pub filled_short : (w d : List ℕ) → length d < length w → d ≡ filled w d
unfolding filled
filled_short w d h = rw lt-leb
