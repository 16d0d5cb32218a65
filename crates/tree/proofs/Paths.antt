-- Laws of specs/Paths.
use mathlib.Core.Path.{◌≡◌, refl, sym, ap, ◌∙◌}
use mathlib.Core.List.{List}
use mathlib.Core.Logic.{◌⊎◌, ⊎_elim}
use Prim.Native.Nat.{ℕ, zero, suc, ◌+◌, ◌-◌, ◌*◌, ◌%◌, ◌<◌, ◌≤◌}
use native.Mathlib.Omega.{arith}
use Rattle.laws.proofs.Choice.{split≡, split≤}
use Rattle.words.specs.Words.{word}
use Rattle.tree.specs.Paths.{next_of, node_at, Slots, Apart, Keeps}

module _ (w : List ℕ) (l s : ℕ) (r : ℕ → ℕ) where
  pub node_step : (d j : ℕ) → node_at w l s r d ≡ suc j → node_at w l s r (suc d) ≡ word w (l + 2 * j + r d % 2)
  unfolding node_at next_of
  node_step d j e = rw e

  -- from none to none
  pub node_past : (d e : ℕ) → d ≤ e → node_at w l s r d ≡ 0 → node_at w l s r e ≡ 0
  unfolding node_at next_of
  node_past d zero h z = let k : d ≡ 0 = omega arith in rw k at z
  node_past d (suc e) h z =
      split≤ d e
      (λ g. rw (node_past d e g z))
      (λ g. let k : d ≡ suc e = omega arith in rw k at z)

  module _ (a i : ℕ) (h : Slots w a l i) (low : a ≤ s) (high : s < l) (first : a ≤ l) where
    pub node_below : (d : ℕ) → node_at w l s r d ≤ i
    unfolding node_at next_of
    node_below zero = h.below s low (omega arith)
    node_below (suc d) = go (node_at w l s r d) (node_below d) where
      go : (j : ℕ) → j ≤ i → next_of w l j (r d % 2) ≤ i
      go zero g = omega arith
      go (suc j) g = h.below (l + 2 * j + r d % 2) (omega arith) (omega arith)

    -- a path that leads to a row stays
    pub node_kept : (u : List ℕ) → Keeps w a l i u → (d j : ℕ) → node_at w l s r d ≡ suc j → node_at u l s r d ≡ suc j
    unfolding node_at next_of
    node_kept u k zero j e = k.same s low (omega arith) (omega (arith, e)) ∙ e
    node_kept u k (suc d) j e = go (node_at w l s r d) refl (node_below d) e (node_kept u k d) where
      go : (t : ℕ) → node_at w l s r d ≡ t → t ≤ i → next_of w l t (r d % 2) ≡ suc j →
          ((p : ℕ) → node_at w l s r d ≡ suc p → node_at u l s r d ≡ suc p) → next_of u l (node_at u l s r d) (r d % 2) ≡ suc j
      go zero q g z ih = absurd (omega (arith, z))
      go (suc p) q g z ih = rw (ih p q) (k.same (l + 2 * p + r d % 2) (omega arith) (omega arith) (omega (arith, z)) ∙ z)

-- ---- two ways to one row are the same: as long, from one root, by the same bits

module _ (w : List ℕ) (a l i : ℕ) (h : Slots w a l i) (o : Apart w a l i) (first : a ≤ l) where
  -- a way of no turns and one with a last turn do not meet
  ends_apart : (s p b j : ℕ) → a ≤ s → s < l → p < i → b < 2 → word w s ≡ suc j → word w (l + 2 * p + b) ≡ suc j → ⊥
  ends_apart s p b j low high m c x y =
      omega (arith, o.one s (l + 2 * p + b) low (omega arith) (omega arith) (omega arith) (omega (arith, x)) (x ∙ sym y))

  module _ (s t : ℕ) (r q : ℕ → ℕ) (sl : a ≤ s) (sh : s < l) (tl : a ≤ t) (th : t < l) where
    pub one_way : (d e j : ℕ) → node_at w l s r d ≡ suc j → node_at w l t q e ≡ suc j → (d ≡ e) × ((s ≡ t) × ((c : ℕ) → c < d → r c % 2 ≡ q c % 2))
    unfolding node_at next_of
    one_way zero zero j x y = (refl, (o.one s t sl (omega arith) tl (omega arith) (omega (arith, x)) (x ∙ sym y), λ c m. absurd (omega arith)))
    one_way zero (suc e) j x y = go (node_at w l t q e) (node_below w l t q a i h tl th first e) y where
      go : {A : Type 0} (b : ℕ) → b ≤ i → next_of w l b (q e % 2) ≡ suc j → A
      go zero m z = absurd (omega (arith, z))
      go (suc p) m z = absurd (ends_apart s p (q e % 2) j sl sh (omega arith) (omega arith) x z)
    one_way (suc d) zero j x y = go (node_at w l s r d) (node_below w l s r a i h sl sh first d) x where
      go : {A : Type 0} (b : ℕ) → b ≤ i → next_of w l b (r d % 2) ≡ suc j → A
      go zero m z = absurd (omega (arith, z))
      go (suc p) m z = absurd (ends_apart t p (r d % 2) j tl th (omega arith) (omega arith) y z)
    one_way (suc d) (suc e) j x y =
        go (node_at w l s r d) (node_at w l t q e) refl refl (node_below w l s r a i h sl sh first d) (node_below w l t q a i h tl th first e) x y (one_way d e) where
          go : (b c : ℕ) → node_at w l s r d ≡ b → node_at w l t q e ≡ c → b ≤ i → c ≤ i → next_of w l b (r d % 2) ≡ suc j → next_of w l c (q e % 2) ≡ suc j →
              ((p : ℕ) → node_at w l s r d ≡ suc p → node_at w l t q e ≡ suc p → (d ≡ e) × ((s ≡ t) × ((k : ℕ) → k < d → r k % 2 ≡ q k % 2))) →
              (suc d ≡ suc e) × ((s ≡ t) × ((k : ℕ) → k < suc d → r k % 2 ≡ q k % 2))
          go zero c eb ec m n z v ih = absurd (omega (arith, z))
          go (suc p) zero eb ec m n z v ih = absurd (omega (arith, v))
          go (suc p) (suc f) eb ec m n z v ih = (ap suc before.0, (before.1.0, bits)) where
            same : l + 2 * p + r d % 2 ≡ l + 2 * f + q e % 2
            same = o.one (l + 2 * p + r d % 2) (l + 2 * f + q e % 2) (omega arith) (omega arith) (omega arith) (omega arith) (omega (arith, z)) (z ∙ sym v)

            before : (d ≡ e) × ((s ≡ t) × ((k : ℕ) → k < d → r k % 2 ≡ q k % 2))
            before = ih p eb (ec ∙ (omega (arith, same)))

            bits : (k : ℕ) → k < suc d → r k % 2 ≡ q k % 2
            bits k g = split≤ d k
                (λ c. let y : k ≡ d = omega arith in rw y (omega (arith, same, ap (λ (c : ℕ). q c % 2) before.0)))
                (λ c. before.1.1 k c)

-- ---- one row more: it has no links, and one word that led nowhere may lead to it

pub record Grew (w : List ℕ) (a l i : ℕ) (u : List ℕ) : Type 0 where
  pub ends : (at : ℕ) → l + 2 * i ≤ at → at < l + 2 * (i + 1) → word u at ≡ 0
  pub slots : (at : ℕ) → a ≤ at → at < l + 2 * i → (word u at ≡ word w at) ⊎ ((word w at ≡ 0) × (word u at ≡ suc i))

module _ (w : List ℕ) (a l i : ℕ) (h : Slots w a l i) (u : List ℕ) (g : Grew w a l i u) where
  pub grew_keeps : Keeps w a l i u
  grew_keeps = record { same = λ at p q o. ⊎_elim (λ z. z) (λ z. absurd (omega (arith, z.0))) (g.slots at p q) }

  below : (at : ℕ) → a ≤ at → at < l + 2 * (i + 1) → word u at ≤ i + 1
  below at p q =
      split≤ (l + 2 * i) at
      (λ t. omega (arith, g.ends at t q))
      (λ t. ⊎_elim (λ z. omega (arith, z, h.below at p t)) (λ z. omega (arith, z.1)) (g.slots at p t))

  later : (at : ℕ) → a ≤ at → at < l + 2 * (i + 1) → 0 < word u at → at < l + 2 * (word u at - 1)
  later at p q o =
      split≤ (l + 2 * i) at
      (λ t. absurd (omega (arith, g.ends at t q)))
      (λ t. ⊎_elim (λ z. rw z (h.later at p t (rw z at o))) (λ z. omega (arith, z.1)) (g.slots at p t))

  pub grew_slots : Slots u a l (i + 1)
  grew_slots = record { below = below; later = later }

  -- if it is one word only
  pub grew_apart : (at : ℕ) → ((p : ℕ) → a ≤ p → p < l + 2 * i → (at ≡ p → ⊥) → word u p ≡ word w p) →
      word u at ≡ suc i → Apart w a l i → Apart u a l (i + 1)
  grew_apart at off here o = record { one = one } where
    -- a word that leads to a row is the new one, or as it was
    old : (p : ℕ) → a ≤ p → p < l + 2 * (i + 1) → 0 < word u p → (at ≡ p → ⊥) → (p < l + 2 * i) × (word u p ≡ word w p)
    old p b c s n = split≤ (l + 2 * i) p (λ t. absurd (omega (arith, g.ends p t c))) (λ t. (t, off p b t n))

    few : (p : ℕ) → a ≤ p → p < l + 2 * (i + 1) → 0 < word u p → (at ≡ p → ⊥) → word u p ≤ i
    few p b c s n = let t = old p b c s n in omega (arith, t.1, h.below p b t.0)

    one : (p q : ℕ) → a ≤ p → p < l + 2 * (i + 1) → a ≤ q → q < l + 2 * (i + 1) → 0 < word u p → word u p ≡ word u q → p ≡ q
    one p q b c d e s v =
        split≡ at p
        (λ x. split≡ at q (λ y. sym x ∙ y) (λ y. absurd (omega (arith, v, rw x at here, few q d e (rw v at s) y))))
        (λ x. split≡ at q
        (λ y. absurd (omega (arith, v, rw y at here, few p b c s x)))
        (λ y. let k = old p b c s x in
        let m = old q d e (rw v at s) y in
        o.one p q b k.0 d m.0 (rw k.1 at s) (sym k.1 ∙ v ∙ m.1)))

-- words elsewhere do not matter
module _ (u w : List ℕ) (a l i : ℕ) (e : (at : ℕ) → a ≤ at → at < l + 2 * i → word u at ≡ word w at) where
  pub slots_agree : Slots w a l i → Slots u a l i
  slots_agree h = record { below = λ at p q. rw (e at p q) (h.below at p q); later = λ at p q. rw (e at p q) (h.later at p q) }

  pub apart_agree : Apart w a l i → Apart u a l i
  apart_agree o = record { one = λ p q b c d f s v. o.one p q b c d f (rw (e p b c) at s) (sym (e p b c) ∙ v ∙ e q d f) }
