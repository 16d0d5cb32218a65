-- Laws of specs/Chain.
use mathlib.Core.Path.{◌≡◌, refl, sym, ◌∙◌}
use mathlib.Core.List.{List}
use mathlib.Core.Bool.{Bool, true, false, cond}
use Prim.Native.Nat.{ℕ, zero, suc, ◌+◌, ◌-◌, ◌*◌, ◌<◌, ◌≤◌}
use native.Mathlib.Omega.{arith}
use native.Mathlib.Numerals.{add-one}
use lib.ListN.{length}
use lib.Dec.{eqb}
use borrow.Author.Tests.{eq-eqb, ne_eqb, eqb-true}
use Rattle.laws.proofs.Choice.{split≡}
use Rattle.words.specs.Words.{word, put_word}
use Rattle.words.proofs.Words.{length_put, word_put_same, word_put_other}
use Rattle.words.specs.Front.{Front}
use Rattle.words.proofs.Front.{front_refl, front_put, front_then}
use Rattle.table.specs.Chain.{newest, Chained, Headed, Filled, Filling, put_link}

pub newest_below : (b : ℕ → ℕ) (h n : ℕ) → newest b h n ≤ n
unfolding newest
newest_below b h zero = omega arith
newest_below b h (suc n) = go (eqb (b n) h) (newest_below b h n) where
  go : (t : Bool) → newest b h n ≤ n → cond t (suc n) (newest b h n) ≤ suc n
  go true p = omega arith
  go false p = omega arith

pub newest_bucket : (b : ℕ → ℕ) (h n : ℕ) → 0 < newest b h n → b (newest b h n - 1) ≡ h
unfolding newest
newest_bucket b h zero l = absurd (omega arith)
newest_bucket b h (suc n) l = go (eqb (b n) h) refl l (newest_bucket b h n) where
  go : (t : Bool) → eqb (b n) h ≡ t → 0 < cond t (suc n) (newest b h n) → (0 < newest b h n → b (newest b h n - 1) ≡ h) → b (cond t (suc n) (newest b h n) - 1) ≡ h
  go true e l ih = let z : suc n - 1 ≡ n = omega arith in rw z (eqb-true (b n) h e)
  go false e l ih = ih l

pub newest_agree : (b c : ℕ → ℕ) (h n : ℕ) → ((j : ℕ) → j < n → b j ≡ c j) → newest b h n ≡ newest c h n
unfolding newest
newest_agree b c h zero e = refl
newest_agree b c h (suc n) e = rw (e n (omega arith), newest_agree b c h n (λ j l. e j (omega arith)))

-- what no row of another bucket changes is the same from the newest row on
pub newest_skip : {A : Type 0} (f : ℕ → A) (b : ℕ → ℕ) (h n : ℕ) → ((j : ℕ) → j < n → (b j ≡ h → ⊥) → f (suc j) ≡ f j) → f n ≡ f (newest b h n)
unfolding newest
newest_skip f b h zero e = refl
newest_skip f b h (suc n) e =
    split≡ (b n) h
    (λ q. rw (eq-eqb (b n) h q))
    (λ q. rw (ne_eqb (b n) h q) (e n (omega arith) q ∙ newest_skip f b h n (λ j l. e j (omega arith))))

pub chained_none : (b : ℕ → ℕ) (w : List ℕ) (at : ℕ) → Chained b w at 0
chained_none b w at = record { before = λ i l. absurd (omega arith) }

pub chained_agree : (b c : ℕ → ℕ) (u w : List ℕ) (at n : ℕ) → ((j : ℕ) → j < n → c j ≡ b j) → ((j : ℕ) → j < n → word u (at + j) ≡ word w (at + j)) → Chained b w at n → Chained c u at n
chained_agree b c u w at n e g s = record { before = λ i l. g i l ∙ s.before i l ∙ rw (← e i l) (sym (newest_agree c b (c i) i (λ j k. e j (omega arith)))) }

pub headed_agree : (b c : ℕ → ℕ) (u w : List ℕ) (at m n : ℕ) → ((j : ℕ) → j < n → c j ≡ b j) → ((h : ℕ) → h < m → word u (at + h) ≡ word w (at + h)) → Headed b w at m n → Headed c u at m n
headed_agree b c u w at m n e g s = record { last = λ h l. g h l ∙ s.last h l ∙ sym (newest_agree c b h n e) }

less : (k i : ℕ) → k < i + 1 → (k ≡ i → ⊥) → k < i
less k i l q = split≡ k i (λ e. absurd (q e)) (λ e. omega arith)

pub fill_start : (w : List ℕ) (at m x : ℕ) → Filling w at m x w 0
fill_start w at m x = record {
  within = omega arith;
  filled = record { is = λ h l. absurd (omega arith); front = front_refl (4 * at) w; beyond = λ j l. refl; size = refl };
}

module _ (w : List ℕ) (at m x : ℕ) (u : List ℕ) (i : ℕ) (v : Filling w at m x u i) where
  c : Filled w at i x u
  c = v.filled

  pub fill_put : 4 * (at + m) ≤ length w → i < m → 4 * (at + i) + 4 ≤ length u
  fill_put room l = omega (arith, c.size)

  pub fill_turn : 4 * (at + m) ≤ length w → i < m → (y : List ℕ) → y ≡ put_word u (at + i) x → Filling w at m x y (i + 1)
  fill_turn room l y e = rw e (record {
    within = omega arith;
    filled = record {
      is = λ h k. split≡ h i
          (λ q. rw q (word_put_same u (at + i) x (omega (arith, c.size))))
          (λ q. word_put_other u (at + i) x (at + h) (λ z. q (omega arith)) ∙ c.is h (less h i k q));
      front = front_then (4 * at) _ u w (front_put (4 * at) u (at + i) x (omega arith)) c.front;
      beyond = λ j h. word_put_other u (at + i) x j (λ z. omega arith) ∙ c.beyond j (omega arith);
      size = length_put u (at + i) x ∙ c.size;
    };
  })

  pub fill_end : m ≤ i → Filled w at m x u
  fill_end h = let z : i ≡ m = omega (arith, v.within) in rw z at c

pub headed_none : (b : ℕ → ℕ) (w : List ℕ) (at m : ℕ) → ((h : ℕ) → h < m → word w (at + h) ≡ 0) → Headed b w at m 0
unfolding newest
headed_none b w at m z = record { last = z }

pub link_put : (w : List ℕ) (chain heads i h v : ℕ) → v ≡ word w (heads + h) → (u : List ℕ) → u ≡ put_word w (chain + i) v → (x : List ℕ) → x ≡ put_word u (heads + h) (i + 1) → x ≡ put_link w chain heads i h
unfolding put_link
link_put w chain heads i h v e u p x q = q ∙ rw (p, e)

module _ (w : List ℕ) (chain heads i h : ℕ) where
  pub length_link : length (put_link w chain heads i h) ≡ length w
  unfolding put_link
  length_link = simp length_put

  pub front_link : chain + i < heads → Front (4 * (chain + i)) (put_link w chain heads i h) w
  unfolding put_link
  front_link l =
      front_then (4 * (chain + i)) _ _ w (front_put (4 * (chain + i)) _ (heads + h) (i + 1) (omega arith))
      (front_put (4 * (chain + i)) w (chain + i) (word w (heads + h)) (omega arith))

  pub link_other : (j : ℕ) → (chain + i ≡ j → ⊥) → (heads + h ≡ j → ⊥) → word (put_link w chain heads i h) j ≡ word w j
  unfolding put_link
  link_other j p q = word_put_other (put_word w (chain + i) (word w (heads + h))) (heads + h) (i + 1) j q ∙ word_put_other w (chain + i) (word w (heads + h)) j p

  module _ (b : ℕ → ℕ) (m : ℕ) (room : 4 * (heads + m) ≤ length w) (apart : chain + i < heads) (few : h < m) (eb : b i ≡ h) where
    pub headed_link : Headed b w heads m i → Headed b (put_link w chain heads i h) heads m (i + 1)
    unfolding newest put_link
    headed_link s = record {
      last = λ k l. split≡ k h
          (λ q. rw (q, add-one i, eq-eqb (b i) h eb) (word_put_same (put_word w (chain + i) (word w (heads + h))) (heads + h) (suc i) (simp length_put (omega arith))))
          (λ q. link_other (heads + k) (λ z. omega arith) (λ z. q (omega arith)) ∙ s.last k l ∙ rw (add-one i, ne_eqb (b i) k (λ z. q (sym z ∙ eb))));
    }

    pub chained_link : Headed b w heads m i → Chained b w chain i → Chained b (put_link w chain heads i h) chain (i + 1)
    unfolding put_link
    chained_link s c = record {
      before = λ k l. split≡ k i
          (λ q. rw q (here s))
          (λ q. link_other (chain + k) (λ z. q (omega arith)) (λ z. omega arith) ∙ c.before k (less k i l q));
    } where
      here : Headed b w heads m i → word (put_link w chain heads i h) (chain + i) ≡ newest b (b i) i
      here s =
          let n : heads + h ≡ chain + i → ⊥ = λ z. omega arith in
          word_put_other (put_word w (chain + i) (word w (heads + h))) (heads + h) (i + 1) (chain + i) n ∙ word_put_same w (chain + i) (word w (heads + h)) (omega arith) ∙ s.last h few ∙ rw eb
