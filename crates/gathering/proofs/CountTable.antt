-- Laws of specs/CountTable.
use Rattle.std.specs.Prelude.{Option, Some, None}
use Prim.Native.Nat.{ℕ, suc, ◌+◌, ◌*◌, ◌<◌, ◌≤◌}
use mathlib.Core.Path.{◌≡◌, refl, sym, ap, ◌∙◌}
use mathlib.Core.Bool.{cond}
use mathlib.Core.List.{List, [], ◌∷◌}
use native.Mathlib.Omega.{arith}
use lib.ListN.{length}
use lib.Dec.{eqb}
use borrow.Author.Tests.{eq-eqb, ne_eqb}
use Rattle.laws.proofs.Choice.{split≡}
use Rattle.laws.specs.Keys.{Key}
use Rattle.laws.proofs.Keys.{eq_eq_k, ne_eq_k}
use Rattle.laws.specs.Keyed.{put}
use Rattle.words.specs.Words.{word, put_word}
use Rattle.table.specs.Table.{Slot, none, some, lookup, upd, Stored, Agree, find_in}
use Rattle.table.proofs.Table.{find_below, lookup_found, lookup_nothing, lookup_agree}
use Rattle.tree.specs.Tree.{SeekPre}
use Rattle.tree.specs.Seats.{seat_of, Seated}
use Rattle.tree.specs.declared.Table.{Table}
use Rattle.tree.specs.declared.Seating.{Seating}
use Rattle.tree.proofs.Seats.{seated_value, seat_first}
use Rattle.rfcomm.specs.Pieces.{Counts, Kind, counted, no_counts}
use Rattle.gathering.specs.CountTable.{value_of, UpPre, CountedUp, Counted}

pub count_found : (w : List ℕ) (b k n i : ℕ) (f : Option ℕ) (v : ℕ) → f ≡ find_in w b k n → f ≡ Some i → v ≡ word w (b + 4 * i + 2) → v ≡ value_of (lookup w b n k)
unfolding value_of
count_found w b k n i f v p q e = e ∙ sym (ap value_of (lookup_found w b k n i (sym p ∙ q)))

pub count_none : (w : List ℕ) (b k n : ℕ) (f : Option ℕ) → f ≡ find_in w b k n → f ≡ None → 0 ≡ value_of (lookup w b n k)
unfolding value_of
count_none w b k n f p q = sym (ap value_of (lookup_nothing w b k n (sym p ∙ q)))

module _ (w : List ℕ) (t : Table) (k : ℕ) where
  module _ (p : UpPre w t k) (u : List ℕ) (r : Seating) (s : Seated w t (record { key = k; a = 0; b = 0 }) u r) where
    seat_value : (q : Slot) (y z : ℕ) → some y z ≡ seat_of 0 0 q → y ≡ value_of q
    unfolding seat_of value_of
    seat_value none y z e = cc
    seat_value (some v a) y z e = cc

    -- the count before
    up_value : (v : ℕ) → v ≡ word u (t.at.rows + 4 * r.at + 2) → v ≡ value_of (lookup w t.at.rows t.count k)
    up_value v e = e ∙ seat_value (lookup w t.at.rows t.count k) _ _ (seated_value w t (record { key = k; a = 0; b = 0 }) u r s)

    pub up_fits : (v : ℕ) → v ≡ word u (t.at.rows + 4 * r.at + 2) → v < 65536
    up_fits v e = rw (up_value v e) p.small

    pub counted_up : (v : ℕ) → v ≡ word u (t.at.rows + 4 * r.at + 2) → (m : List ℕ) → m ≡ put_word u (t.at.rows + 4 * r.at + 2) (v + 1) → CountedUp w t k m r
    counted_up v e m em = record {
      other = word u (t.at.rows + 4 * r.at + 3);
      entered = rw (up_value v e) at (seat_first w t (record { key = k; a = 0; b = 0 }) u r s p.enter (v + 1) m em);
    }

  pub count_row : SeekPre w t → (f : Option ℕ) → f ≡ find_in w t.at.rows k t.count → (i : ℕ) → f ≡ Some i → 4 * (t.at.rows + 4 * i) + 16 ≤ length w
  count_row p f e i d = omega (arith, find_below w t.at.rows k t.count i (sym e ∙ d), p.stands.rows, p.stands.room)

pub counted_start : (w : List ℕ) (b : ℕ) → Counted no_counts w b 0 0
unfolding lookup value_of
counted_start w b = record { sessions = λ l. refl; links = λ l e h g. refl; few = λ k. omega arith }

pub counted_agree : (m : Key → Counts) (u w : List ℕ) (b n most : ℕ) → Agree b (b + 4 * n) u w → Counted m w b n most → Counted m u b n most
counted_agree m u w b n most a c = record {
  sessions = λ l. rw (lookup_agree u w b n (64 * l) a) (c.sessions l);
  links = λ l e h g. rw (lookup_agree u w b n (64 * l + e) a) (c.links l e h g);
  few = λ k. rw (lookup_agree u w b n k a) (c.few k);
}

-- ---- one more step

put_at_law : (m : Key → Counts) (k j : Key) (v : Counts) → j ≡ k → put m k v j ≡ v
put_at_law m k j v e = rw (eq_eq_k j k e)

put_off : (m : Key → Counts) (k j : Key) (v : Counts) → (j ≡ k → ⊥) → put m k v j ≡ m j
put_off m k j v e = rw (ne_eq_k j k e)

one_key : (l j : ℕ) → (l ≡ j → ⊥) → l ∷ [] ≡ j ∷ [] → ⊥
one_key l j n e = n (cc)

module _ (m : Key → Counts) (w : List ℕ) (b n most : ℕ) (c : Counted m w b n most) (link : ℕ) where
  -- a step that counts nothing
  pub counted_none : (k : Kind) → counted (m (link ∷ [])) k ≡ m (link ∷ []) → Counted (put m (link ∷ []) (counted (m (link ∷ [])) k)) w b n (most + 1)
  counted_none k e = record {
    sessions = λ l. split≡ l link
        (λ q. ap (λ (x : Counts). x.sessions) (put_at_law m (link ∷ []) (l ∷ []) (counted (m (link ∷ [])) k) (rw q) ∙ e) ∙ rw (← q) (c.sessions l))
        (λ q. ap (λ (x : Counts). x.sessions) (put_off m (link ∷ []) (l ∷ []) (counted (m (link ∷ [])) k) (one_key l link q)) ∙ c.sessions l);
    links = λ l i h g. split≡ l link
        (λ q. ap (λ (x : Counts). x.links i) (put_at_law m (link ∷ []) (l ∷ []) (counted (m (link ∷ [])) k) (rw q) ∙ e) ∙ rw (← q) (c.links l i h g))
        (λ q. ap (λ (x : Counts). x.links i) (put_off m (link ∷ []) (l ∷ []) (counted (m (link ∷ [])) k) (one_key l link q)) ∙ c.links l i h g);
    few = λ k. omega (arith, c.few k);
  }

  module _ (u : List ℕ) (r key y : ℕ) (s : Stored w b n key (value_of (lookup w b n key) + 1) y u r) where
    value_same : value_of (lookup u b r key) ≡ value_of (lookup w b n key) + 1
    unfolding value_of upd
    value_same = ap value_of (s.says key) ∙ rw (eq-eqb key key refl)

    value_other : (k : ℕ) → (key ≡ k → ⊥) → value_of (lookup u b r k) ≡ value_of (lookup w b n k)
    unfolding upd
    value_other k q = ap value_of (s.says k) ∙ rw (ne_eqb key k q)

    value_few : (k : ℕ) → value_of (lookup u b r k) ≤ most + 1
    value_few k = split≡ key k
        (λ q. rw (← q, value_same) (omega (arith, c.few key)))
        (λ q. rw (value_other k q) (omega (arith, c.few k)))

    -- one more session
    pub counted_session : (x : Counts) → x.sessions ≡ suc (m (link ∷ [])).sessions → x.links ≡ (m (link ∷ [])).links → key ≡ 64 * link → Counted (put m (link ∷ []) x) u b r (most + 1)
    counted_session x es el ek = record {
      sessions = λ l. split≡ l link
          (λ q. ap (λ (y : Counts). y.sessions) (put_at_law m (link ∷ []) (l ∷ []) x (rw q)) ∙ es ∙ ap suc (c.sessions link) ∙ rw (q, ← ek, value_same) (omega arith))
          (λ q. ap (λ (y : Counts). y.sessions) (put_off m (link ∷ []) (l ∷ []) x (one_key l link q)) ∙ c.sessions l ∙ sym (value_other (64 * l) (λ z. q (omega arith))));
      links = λ l i h g. split≡ l link
          (λ q. ap (λ (y : Counts). y.links i) (put_at_law m (link ∷ []) (l ∷ []) x (rw q)) ∙ ap (λ (y : ℕ → ℕ). y i) el ∙ rw (← q) (c.links l i h g) ∙ sym (value_other (64 * l + i) (λ z. omega arith)))
          (λ q. ap (λ (y : Counts). y.links i) (put_off m (link ∷ []) (l ∷ []) x (one_key l link q)) ∙ c.links l i h g ∙ sym (value_other (64 * l + i) (λ z. q (omega arith))));
      few = value_few;
    }

    -- one more link on a DLCI
    pub counted_link : (e : ℕ) → 0 < e → e < 64 → (x : Counts) → x.sessions ≡ (m (link ∷ [])).sessions → ((j : ℕ) → x.links j ≡ cond (eqb j e) (suc ((m (link ∷ [])).links j)) ((m (link ∷ [])).links j)) → key ≡ 64 * link + e → Counted (put m (link ∷ []) x) u b r (most + 1)
    counted_link e lo hi x es el ek = record {
      sessions = λ l. split≡ l link
          (λ q. ap (λ (y : Counts). y.sessions) (put_at_law m (link ∷ []) (l ∷ []) x (rw q)) ∙ es ∙ rw (← q) (c.sessions l) ∙ sym (value_other (64 * l) (λ z. omega arith)))
          (λ q. ap (λ (y : Counts). y.sessions) (put_off m (link ∷ []) (l ∷ []) x (one_key l link q)) ∙ c.sessions l ∙ sym (value_other (64 * l) (λ z. q (omega arith))));
      links = λ l i h g. split≡ l link
          (λ q. ap (λ (y : Counts). y.links i) (put_at_law m (link ∷ []) (l ∷ []) x (rw q)) ∙ el i ∙ split≡ i e
          (λ p.
          let a : cond (eqb i e) (suc ((m (link ∷ [])).links i)) ((m (link ∷ [])).links i) ≡ suc ((m (link ∷ [])).links i) = rw (eq-eqb i e p) in
          let v : suc (value_of (lookup w b n (64 * link + i))) ≡ value_of (lookup u b r (64 * l + i)) = rw (q, p, ← ek, value_same) (omega arith) in
          a ∙ ap suc (c.links link i h g) ∙ v)
          (λ p.
          let a : cond (eqb i e) (suc ((m (link ∷ [])).links i)) ((m (link ∷ [])).links i) ≡ (m (link ∷ [])).links i = rw (ne_eqb i e p) in
          let v : value_of (lookup w b n (64 * link + i)) ≡ value_of (lookup u b r (64 * l + i)) = rw q (sym (value_other (64 * link + i) (λ z. p (omega arith)))) in
          a ∙ c.links link i h g ∙ v))
          (λ q. ap (λ (y : Counts). y.links i) (put_off m (link ∷ []) (l ∷ []) x (one_key l link q)) ∙ c.links l i h g ∙ sym (value_other (64 * l + i) (λ z. q (omega arith))));
      few = value_few;
    }
