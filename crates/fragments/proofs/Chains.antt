-- Laws on the packets of one key: the next one, and what a write elsewhere leaves.
use mathlib.Core.Path.{◌≡◌, refl, sym, ap, ◌∙◌}
use mathlib.Core.List.{List}
use mathlib.Core.Bool.{Bool, true, false, cond}
use Prim.Native.Nat.{ℕ, zero, suc, ◌+◌, ◌-◌, ◌*◌, ◌<◌, ◌≤◌}
use native.Mathlib.Omega.{arith}
use lib.Dec.{eqb}
use borrow.Author.Tests.{eq-eqb, ne_eqb, eqb-true}
use Rattle.laws.proofs.Choice.{split≡}
use Rattle.words.specs.Words.{word}
use Rattle.fragments.specs.Links.{soonest, tag_at, Linked}

pub soonest_from : (b : ℕ → ℕ) (h i m : ℕ) → i ≤ soonest b h i m
unfolding soonest
soonest_from b h i zero = omega arith
soonest_from b h i (suc m) = go (eqb (b i) h) (soonest_from b h (suc i) m) where
  go : (t : Bool) → suc i ≤ soonest b h (suc i) m → i ≤ cond t i (soonest b h (suc i) m)
  go true p = omega arith
  go false p = omega arith

pub soonest_tag : (b : ℕ → ℕ) (h i m : ℕ) → soonest b h i m < i + m → b (soonest b h i m) ≡ h
unfolding soonest
soonest_tag b h i zero l = absurd (omega arith)
soonest_tag b h i (suc m) l = go (eqb (b i) h) refl l (soonest_tag b h (suc i) m) where
  go :
      (t : Bool) → eqb (b i) h ≡ t → cond t i (soonest b h (suc i) m) < i + suc m →
      (soonest b h (suc i) m < suc i + m → b (soonest b h (suc i) m) ≡ h) → b (cond t i (soonest b h (suc i) m)) ≡ h
  go true e k ih = eqb-true (b i) h e
  go false e k ih = ih (omega arith)

pub soonest_agree : (b c : ℕ → ℕ) (h i m : ℕ) → ((j : ℕ) → i ≤ j → j < i + m → b j ≡ c j) → soonest b h i m ≡ soonest c h i m
unfolding soonest
soonest_agree b c h i zero e = refl
soonest_agree b c h i (suc m) e = rw (e i (omega arith) (omega arith), soonest_agree b c h (suc i) m (λ j lo hi. e j (omega arith) (omega arith)))

-- what no row of another tag changes is the same at the first row of the tag
pub soonest_skip : {A : Type 0} (g : ℕ → A) (b : ℕ → ℕ) (h i m : ℕ) → ((j : ℕ) → (b j ≡ h → ⊥) → g j ≡ g (suc j)) → g i ≡ g (soonest b h i m)
unfolding soonest
soonest_skip g b h i zero e = refl
soonest_skip g b h i (suc m) e =
    split≡ (b i) h
    (λ q. rw (eq-eqb (b i) h q))
    (λ q. rw (ne_eqb (b i) h q) (e i q ∙ soonest_skip g b h (suc i) m e))

-- ---- the words in work

pub tag_empty : (w : List ℕ) (h j : ℕ) → word w (6 * j + 3) ≡ 0 → tag_at w h j ≡ suc h
unfolding tag_at
tag_empty w h j e = rw (eq-eqb (word w (6 * j + 3)) 0 e)

pub tag_full : (w : List ℕ) (h j : ℕ) → (word w (6 * j + 3) ≡ 0 → ⊥) → tag_at w h j ≡ word w (6 * j)
unfolding tag_at
tag_full w h j e = rw (ne_eqb (word w (6 * j + 3)) 0 e)

pub tag_key : (w : List ℕ) (h j : ℕ) → tag_at w h j ≡ h → word w (6 * j) ≡ h
tag_key w h j e = split≡ (word w (6 * j + 3)) 0 (λ z. absurd (omega (arith, sym (tag_empty w h j z) ∙ e))) (λ z. sym (tag_full w h j z) ∙ e)

pub linked_less : (w : List ℕ) (q m n : ℕ) → m ≤ n → Linked w q n → Linked w q m
linked_less w q m n h l = record { count = l.count; most = omega (arith, l.most); low = l.low; next = l.next }

-- links do not see what is written between the packets and them
pub linked_agree :
    (u w : List ℕ) (q n : ℕ) → ((j : ℕ) → j < q → word u j ≡ word w j) → ((j : ℕ) → 7 * q ≤ j → word u j ≡ word w j) →
    Linked w q n → Linked u q n
unfolding tag_at
linked_agree u w q n a b l = record {
  count = l.count;
  most = l.most;
  low = l.low;
  next = λ i h.
      b (7 * q + 2 * i) (omega arith) ∙ l.next i h
      ∙ ap suc (rw (a (6 * i) (omega (arith, l.low))) (same (word w (6 * i)) i h));
} where
  tag_agree : (h j : ℕ) → 6 * j + 6 ≤ q → tag_at w h j ≡ tag_at u h j
  tag_agree h j l = rw (a (6 * j) (omega arith), a (6 * j + 3) (omega arith))

  same : (k i : ℕ) → i < l.count → soonest (tag_at w k) k (suc i) (l.count - suc i) ≡ soonest (tag_at u k) k (suc i) (l.count - suc i)
  same k i h = soonest_agree (tag_at w k) (tag_at u k) k (suc i) (l.count - suc i) (λ j lo hi. tag_agree k j (omega (arith, l.low)))
