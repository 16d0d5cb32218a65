-- A list copied by parts, which may overlap.
use mathlib.Core.Path.{◌≡◌, refl, sym, ap, ◌∙◌}
use mathlib.Core.List.{List, [], ◌∷◌}
use mathlib.Core.Logic.{inl, inr, ⊎_elim}
use Prim.Native.Nat.{ℕ, zero, suc, ◌+◌, ◌-◌, ◌*◌, ◌<◌, ◌≤◌}
use native.Mathlib.Omega.{arith}
use native.Mathlib.Nat.{add-zero}
use lib.ListN.{length, get_or, set, take, drop, length-set}
use lib.Seq.{sets, length-sets, get_or-set_same, get_or-set_other, ext_get_or, get_or-take}
use Rattle.std.proofs.lemmas.List.{get_or-drop, length-drop, length-take-le}
use borrow.Rule.Slice.PartMut.{put_mid}
use Rattle.laws.proofs.Stores.{copied, writes_long}
use Rattle.laws.proofs.Choice.{split≤}
use Rattle.laws.specs.Stores.{Writes}
use Rattle.words.specs.Copies.{PartPre, Part}

-- ---- what is stored, byte by byte

pub sets_below : (vs d : List ℕ) (at k : ℕ) → k < at → get_or (sets d at vs) k 0 ≡ get_or d k 0
sets_below [] d at k h = refl
sets_below (v ∷ vs) d at k h = sets_below vs (set d at v) (suc at) k (omega arith) ∙ get_or-set_other d at k v 0 (λ e. omega arith)

pub sets_behind : (vs d : List ℕ) (at k : ℕ) → at + length vs ≤ k → get_or (sets d at vs) k 0 ≡ get_or d k 0
sets_behind [] d at k h = refl
sets_behind (v ∷ vs) d at k h = sets_behind vs (set d at v) (suc at) k (omega arith) ∙ get_or-set_other d at k v 0 (λ e. omega arith)

pub sets_in : (vs d : List ℕ) (at k : ℕ) → at + length vs ≤ length d → k < length vs → get_or (sets d at vs) (at + k) 0 ≡ get_or vs k 0
sets_in [] d at k r h = absurd (omega arith)
sets_in (v ∷ vs) d at zero r h = rw add-zero (sets_below vs (set d at v) (suc at) at (omega arith) ∙ get_or-set_same d at v 0 (omega arith))
sets_in (v ∷ vs) d at (suc k) r h =
    let e : at + suc k ≡ suc at + k = omega arith in
    let l : length (set d at v) ≡ length d = length-set d at v in
    rw e (sets_in vs (set d at v) (suc at) k (omega arith) (omega arith))

-- ---- one part

part_none : (s : List ℕ) (start : ℕ) (d : List ℕ) (to : ℕ) → Part s start 0 d to d
part_none s start d to = record { long = refl; here = λ k h. absurd (omega arith); apart = λ k h. refl }

pub part_copied : (s : List ℕ) (start n : ℕ) (d : List ℕ) (to : ℕ) → PartPre s start n d to → (p : List ℕ) → p ≡ take (start + n - start) (drop start s) → Part s start n d to (put_mid to (to + n - to) d p)
part_copied s start n d to q p e =
    let k : start + n - start ≡ n = omega arith in
    let f : p ≡ take n (drop start s) = rw k at e in
    let l : length p ≡ n = rw f (length-take-le n (drop start s) (omega (arith, q.source, length-drop start s))) in
    let w : Writes d to p (to + n) (put_mid to (to + n - to) d p) = rw l at (copied d p to (omega (arith, q.room))) in
    record {
      long = writes_long d to p (to + n) (put_mid to (to + n - to) d p) w;
      here = λ k h. rw w.writes (sets_in p d to k (omega (arith, q.room)) (omega arith) ∙ ap (λ (x : List ℕ). get_or x k 0) f ∙ get_or-take n (drop start s) k 0 h ∙ get_or-drop start s k 0);
      apart = λ k h. rw w.writes (⊎_elim (λ a. sets_below p d to k a) (λ a. sets_behind p d to k (omega arith)) h);
    }

-- ---- part after part

module _ (s d : List ℕ) (at : ℕ) where
  -- what stands already may be stored once more
  pub part_then : (i : ℕ) (e : List ℕ) → Part s 0 i d at e → (j m : ℕ) (f : List ℕ) → Part s j m e (at + j) f → j ≤ i → i ≤ j + m → Part s 0 (j + m) d at f
  part_then i e a j m f b lo hi = record {
    long = b.long ∙ a.long;
    here = here;
    apart = λ k h. b.apart k (⊎_elim (λ x. inl (omega arith)) (λ x. inr (omega arith)) h) ∙ a.apart k (⊎_elim (λ x. inl x) (λ x. inr (omega arith)) h);
  } where
    here : (k : ℕ) → k < j + m → get_or f (at + k) 0 ≡ get_or s (0 + k) 0
    here k h = split≤ j k
        (λ x. let p : at + j + (k - j) ≡ at + k = omega arith in
        let q : j + (k - j) ≡ 0 + k = omega arith in
        rw (p, q) at (b.here (k - j) (omega arith)))
        (λ x. b.apart (at + k) (inl (omega arith)) ∙ a.here k (omega arith))

  pub two_parts : (m : ℕ) (e : List ℕ) → Part s 0 m d at e → (f : List ℕ) → Part s (length s - m) m e (at + (length s - m)) f → m ≤ length s → length s < 2 * m → Part s 0 (length s) d at f
  two_parts m e a f b lo hi =
      let z : length s - m + m ≡ length s = omega arith in
      rw z at (part_then m e a (length s - m) m f b (omega arith) (omega arith))

  pub all_parts : (e : List ℕ) → Part s 0 (length s) d at e → at + length s ≤ length d → Writes d at s (at + length s) e
  all_parts e c r = record {
    next = refl;
    writes = ext_get_or 0 e (sets d at s) (c.long ∙ sym (length-sets d at s)) (λ k h. byte k);
  } where
    byte : (k : ℕ) → get_or e k 0 ≡ get_or (sets d at s) k 0
    byte k = split≤ at k
        (λ x. split≤ (at + length s) k
        (λ y. c.apart k (inr y) ∙ sym (sets_behind s d at k y))
        (λ y. let p : at + (k - at) ≡ k = omega arith in
        let q : 0 + (k - at) ≡ k - at = omega arith in
        rw (p, q) at (c.here (k - at) (omega arith)) ∙ sym (rw p at (sets_in s d at (k - at) r (omega arith)))))
        (λ x. c.apart k (inl x) ∙ sym (sets_below s d at k x))

-- parts of 16, of which i bytes are done
pub record Parts (s d : List ℕ) (at : ℕ) (e : List ℕ) (i : ℕ) : Type 0 where
  pub within : i < length s
  pub done : Part s 0 i d at e

module _ (s d : List ℕ) (at : ℕ) where
  pub parts_start : 16 ≤ length s → Parts s d at d 0
  parts_start h = record { within = omega arith; done = part_none s 0 d at }

  module _ (e : List ℕ) (i : ℕ) (c : Parts s d at e i) where
    pub parts_turn : i < length s - 16 → (f : List ℕ) → Part s i 16 e (at + i) f → Parts s d at f (i + 16)
    parts_turn h f p = record { within = omega arith; done = part_then s d at i e c.done i 16 f p (omega arith) (omega arith) }

    pub parts_end : 16 ≤ length s → length s - 16 ≤ i → (f : List ℕ) → Part s (length s - 16) 16 e (at + (length s - 16)) f → Part s 0 (length s) d at f
    parts_end g h f p =
        let z : length s - 16 + 16 ≡ length s = omega arith in
        rw z at (part_then s d at i e c.done (length s - 16) 16 f p h (omega (arith, c.within)))
