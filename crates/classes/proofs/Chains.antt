-- The rows linked, class by class.
use mathlib.Core.Path.{◌≡◌, refl, sym, ap, ◌∙◌}
use mathlib.Core.List.{List}
use Prim.Native.Nat.{ℕ, zero, suc, ◌+◌, ◌-◌, ◌*◌, ◌<◌, ◌≤◌}
use native.Mathlib.Omega.{arith}
use native.Mathlib.Numerals.{add-one}
use lib.ListN.{length}
use borrow.Author.Tests.{eq-eqb, ne_eqb, lt-ltb, le-ltb}
use Rattle.laws.proofs.Choice.{split≡, split≤}
use Rattle.words.specs.Words.{word, put_word}
use Rattle.words.proofs.Words.{length_put, word_put_same, word_put_other}
use Rattle.words.specs.Front.{Front}
use Rattle.words.proofs.Front.{front_refl, front_then, front_less, front_put, front_word}
use Rattle.table.specs.Chain.{newest, Filled, put_link, LinkPre}
use Rattle.table.proofs.Chain.{newest_below, chained_agree, length_link, link_other}
use Rattle.classes.specs.First.{class_of}
use Rattle.classes.proofs.First.{class_same, class_most, class_key}
use Rattle.classes.specs.Bits.{roots_of}
use Rattle.classes.specs.Classes.{key_at, links_in, NotePre, Known, Noted, Classes}
use Rattle.classes.specs.Linking.{LinkRoom, LinkedTo, Unlinked, class_in, Links, Woven, earlier_of, Ended}
use Rattle.classes.specs.declared.Rows.{Rows}
use Rattle.classes.proofs.Bits.{roots_few}
use Rattle.classes.proofs.Walking.{classes_agree}

key_same : (u w : List ℕ) (x : Rows) (m i : ℕ) → x.at + 8 * i + 4 ≤ m → Front (4 * m) u w → key_at u x i ≡ key_at w x i
unfolding key_at
key_same u w x m i h s =
    rw (
      front_word (4 * m) u w (x.at + 8 * i) (omega arith) s,
      front_word (4 * m) u w (x.at + 8 * i + 1) (omega arith) s,
      front_word (4 * m) u w (x.at + 8 * i + 2) (omega arith) s,
      front_word (4 * m) u w (x.at + 8 * i + 3) (omega arith) s,
    )

-- ---- the newest row of a class

module _ (b : ℕ → ℕ) where
  newest_here : (h i : ℕ) → b i ≡ h → newest b h (i + 1) ≡ suc i
  unfolding newest
  newest_here h i e = rw (add-one i, eq-eqb (b i) h e)

  newest_other : (h i : ℕ) → (b i ≡ h → ⊥) → newest b h (i + 1) ≡ newest b h i
  unfolding newest
  newest_other h i e = rw (add-one i, ne_eqb (b i) h e)

  -- it is not before a row of the class, and before the first there is none
  newest_least : (h j n : ℕ) → j < n → b j ≡ h → j < newest b h n
  unfolding newest
  newest_least h j zero l e = absurd (omega arith)
  newest_least h j (suc n) l e =
      split≡ (b n) h
      (λ q. rw (eq-eqb (b n) h q) l)
      (λ q. rw (ne_eqb (b n) h q) (newest_least h j n (less q) e)) where
        less : (b n ≡ h → ⊥) → j < n
        less q = split≡ j n (λ z. absurd (q (rw z at e))) (λ z. omega arith)

  newest_none : (h n : ℕ) → ((j : ℕ) → j < n → b j ≡ h → ⊥) → newest b h n ≡ 0
  unfolding newest
  newest_none h zero f = refl
  newest_none h (suc n) f = rw (ne_eqb (b n) h (f n (omega arith))) (newest_none h n (λ j l. f j (omega arith)))

-- ---- one row more

module _ (b : ℕ → ℕ) (w : List ℕ) (chain i h : ℕ) (s : Links b w chain i) (room : 4 * (chain + i) + 4 ≤ length w) (eh : b i ≡ h) (less : h ≤ i) (own : b h ≡ h) where
  u : List ℕ
  u = put_link w chain chain i h

  at_first : word (put_link w chain chain i h) (chain + h) ≡ suc i
  unfolding put_link
  at_first = word_put_same (put_word w (chain + i) (word w (chain + h))) (chain + h) (i + 1) (rw (length_put w (chain + i) (word w (chain + h))) (omega arith)) ∙ (omega arith)

  at_new : (h ≡ i → ⊥) → word (put_link w chain chain i h) (chain + i) ≡ word w (chain + h)
  unfolding put_link
  at_new n = word_put_other (put_word w (chain + i) (word w (chain + h))) (chain + h) (i + 1) (chain + i) (λ z. n (omega arith)) ∙ word_put_same w (chain + i) (word w (chain + h)) room

  at_old : (j : ℕ) → (j ≡ i → ⊥) → (j ≡ h → ⊥) → word (put_link w chain chain i h) (chain + j) ≡ word w (chain + j)
  at_old j p q = link_other w chain chain i h (chain + j) (λ z. p (omega arith)) (λ z. q (omega arith))

  before : (j : ℕ) → j < i + 1 → (j ≡ i → ⊥) → j < i
  before j l q = split≤ i j (λ z. absurd (q (omega arith))) (λ z. z)

  links_turn : Links b (put_link w chain chain i h) chain (i + 1)
  links_turn = record {
    first = λ j l e. split≡ j h
        (λ q. rw (q, newest_here b h i eh) at_first)
        (λ q. let n : j ≡ i → ⊥ = (λ z. q (sym e ∙ ap b z ∙ eh)) in
        at_old j n q ∙ s.first j (before j l n) e ∙ sym (newest_other b j i (λ z. q (sym z ∙ eh))));
    other = λ j l e. split≡ j i
        (λ q. let n : h ≡ i → ⊥ = (λ z. e (ap b q ∙ eh ∙ z ∙ sym q)) in
        rw (q, eh) (at_new n ∙ s.first h (before h (omega arith) n) own))
        (λ q. at_old j q (λ z. e (ap b z ∙ own ∙ sym z)) ∙ s.other j (before j l q) e);
  }

front_linked : (w : List ℕ) (chain i h : ℕ) → Front (4 * chain) (put_link w chain chain i h) w
unfolding put_link
front_linked w chain i h =
    front_then (4 * chain) _ _ w (front_put (4 * chain) _ (chain + h) (i + 1) (omega arith)) (front_put (4 * chain) w (chain + i) (word w (chain + h)) (omega arith))

-- ---- all rows

pub record Linking (w₀ : List ℕ) (x : Rows) (chain : ℕ) (w : List ℕ) (last i : ℕ) : Type 0 where
  pub within : i ≤ x.n
  pub before : last ≤ i - 1
  pub first : 0 < i → class_in w₀ x last ≡ last
  pub long : length w ≡ length w₀
  pub front : Front (4 * chain) w w₀
  pub clear : (j : ℕ) → links_in x + 2 * i ≤ j → j < x.links + 3 * x.n → word w j ≡ 0
  pub trees : 0 < x.n → Classes (key_at w₀ x) w x i
  pub links : Links (class_in w₀ x) w chain i

module _ (w₀ : List ℕ) (x : Rows) (chain : ℕ) (g : Unlinked w₀ x chain) where
  pub linking_start : Linking w₀ x chain w₀ 0 0
  linking_start = record {
    within = omega arith;
    before = omega arith;
    first = λ l. absurd (omega arith);
    long = refl;
    front = front_refl (4 * chain) w₀;
    clear = λ j a b. g.clear j (omega arith) b;
    trees = λ n. record {
      slots = record { below = λ at a b. omega (arith, root n at a b); later = λ at a b o. absurd (omega (arith, root n at a b)) };
      firsts = λ at j a b e. absurd (omega (arith, root n at a b, e));
      depth = λ j. 0;
      path = λ j h. absurd (omega arith);
    };
    links = record { first = λ j l. absurd (omega arith); other = λ j l. absurd (omega arith) };
  } where
    root : 0 < x.n → (at : ℕ) → x.links ≤ at → at < links_in x + 2 * 0 → word w₀ at ≡ 0
    root n at a b = g.clear at a (omega (arith, roots_few x.n n))

  module _ (w : List ℕ) (last i : ℕ) (v : Linking w₀ x chain w last i) where
    pub linking_row : i < x.n → NotePre w x i last
    linking_row l =
        let f : roots_of x.n ≤ x.n = roots_few x.n (omega arith) in
        record {
          pre = record { rows = omega (arith, g.rows, g.low); room = omega (arith, f, g.room, v.long); row = l; many = g.many; slots = (v.trees (omega arith)).slots };
          ends = λ at a b. v.clear at a (omega (arith, f));
          before = v.before;
        }

    module _ (l : i < x.n) (t : List ℕ) (h : ℕ) (o : Noted w x i last t h) where
      known : Known (key_at w₀ x) w x i last
      known = record {
        keys = λ j k. sym (key_same w w₀ x chain j (omega (arith, g.rows)) v.front);
        trees = v.trees (omega arith);
        first = v.first;
      }

      is_class : class_in w₀ x i ≡ h
      is_class = sym (o.class (key_at w₀ x) known)

      own : class_in w₀ x h ≡ h
      own = ap (class_of (key_at w₀ x) x.n) (ap (key_at w₀ x) (sym is_class) ∙ class_key (key_at w₀ x) x.n i l) ∙ is_class

      pub linking_pre : LinkPre t chain chain i h
      linking_pre = record { low = omega (arith, g.low, g.room, v.long, o.size); high = omega (arith, o.less, g.low, g.room, v.long, o.size); few = omega (arith, g.many) }

      pub linking_turn : (u : List ℕ) → u ≡ put_link t chain chain i h → Linking w₀ x chain u h (i + 1)
      linking_turn u e = rw e (record {
        within = omega arith;
        before = omega (arith, o.less);
        first = λ k. own;
        long = length_link t chain chain i h ∙ o.size ∙ v.long;
        front = front_then (4 * chain) _ t w₀ (front_linked t chain i h) (front_then (4 * chain) t w w₀ (front_less (4 * chain) (4 * x.links) t w (omega (arith, g.low)) o.front) v.front);
        clear = λ j a b. behind j (omega arith) ∙ o.beyond j a ∙ v.clear j (omega arith) b;
        trees = λ n. classes_agree (key_at w₀ x) (put_link t chain chain i h) t x (i + 1) (λ j a b. behind j a) (o.grows (key_at w₀ x) known);
        links = links_turn (class_in w₀ x) t chain i h old linking_pre.low is_class o.less own;
      }) where
        behind : (j : ℕ) → x.links ≤ j → word (put_link t chain chain i h) j ≡ word t j
        behind j a = link_other t chain chain i h j (λ z. omega (arith, g.low)) (λ z. omega (arith, g.low, o.less))

        same : (j : ℕ) → j < i → word t (chain + j) ≡ word w (chain + j)
        same j k = front_word (4 * x.links) t w (chain + j) (omega (arith, g.low)) o.front

        old : Links (class_in w₀ x) t chain i
        old = record {
          first = λ j k z. same j k ∙ v.links.first j k z;
          other = λ j k z. same j k ∙ v.links.other j k z;
        }

    pub linking_end : x.n ≤ i → Woven w₀ x chain w
    linking_end h = let z : i ≡ x.n = omega (arith, v.within) in record { links = rw z at v.links; front = v.front; size = v.long }

-- ---- the first of each class is linked to none

pub record Ending (w : List ℕ) (chain n : ℕ) (u : List ℕ) (i : ℕ) : Type 0 where
  pub within : i ≤ n
  pub ended : Ended w chain i u
  pub rest : (j : ℕ) → i ≤ j → word u (chain + j) ≡ word w (chain + j)

pub ending_start : (w : List ℕ) (chain n : ℕ) → Ending w chain n w 0
ending_start w chain n = record {
  within = omega arith;
  ended = record { is = λ j l. absurd (omega arith); front = front_refl (4 * chain) w; size = refl };
  rest = λ j l. refl;
}

module _ (w : List ℕ) (chain n : ℕ) (u : List ℕ) (i : ℕ) (v : Ending w chain n u i) where
  c : Ended w chain i u
  c = v.ended

  pub ending_put : 4 * (chain + n) ≤ length w → i < n → 4 * (chain + i) + 4 ≤ length u
  ending_put room l = omega (arith, c.size)

  pub ending_turn : 4 * (chain + n) ≤ length w → i < n → (t : List ℕ) → t ≡ put_word u (chain + i) (earlier_of i (word u (chain + i))) → Ending w chain n t (i + 1)
  ending_turn room l t et = rw et (record {
    within = omega arith;
    ended = record {
      is = λ j k. split≡ j i
          (λ q. rw q (word_put_same u (chain + i) (earlier_of i (word u (chain + i))) (ending_put room l) ∙ ap (earlier_of i) (v.rest i (omega arith))))
          (λ q. word_put_other u (chain + i) (earlier_of i (word u (chain + i))) (chain + j) (λ z. q (omega arith)) ∙ c.is j (before j k q));
      front = front_then (4 * chain) _ u w (front_put (4 * chain) u (chain + i) (earlier_of i (word u (chain + i))) (omega arith)) c.front;
      size = length_put u (chain + i) (earlier_of i (word u (chain + i))) ∙ c.size;
    };
    rest = λ j k. word_put_other u (chain + i) (earlier_of i (word u (chain + i))) (chain + j) (λ z. omega arith) ∙ v.rest j (omega arith);
  }) where
    before : (j : ℕ) → j < i + 1 → (j ≡ i → ⊥) → j < i
    before j k q = split≤ i j (λ z. absurd (q (omega arith))) (λ z. z)

  pub ending_end : n ≤ i → Ended w chain n u
  ending_end h = let z : i ≡ n = omega (arith, v.within) in rw z at c

pub earlier_none : (i v y : ℕ) → y ≡ v → i < y → 0 ≡ earlier_of i v
unfolding earlier_of
earlier_none i v y e h = rw (lt-ltb i v (omega (arith, e)))

pub earlier_kept : (i v y : ℕ) → y ≡ v → y ≤ i → v ≡ earlier_of i v
unfolding earlier_of
earlier_kept i v y e h = rw (le-ltb i v (omega (arith, e)))

-- ---- and so all are linked

module _ (w₀ : List ℕ) (x : Rows) (chain : ℕ) (g : LinkRoom w₀ x chain) (w : List ℕ) (f : Filled w₀ x.links (3 * x.n) 0 w) where
  pub all_unlinked : Unlinked w x chain
  all_unlinked = record {
    rows = g.rows;
    low = g.low;
    room = omega (arith, g.room, f.size);
    many = g.many;
    clear = λ j a b. (let e : x.links + (j - x.links) ≡ j = omega arith in rw e at (f.is (j - x.links) (omega arith)));
  }

  pub all_linked : (v : List ℕ) → Woven w x chain v → (u : List ℕ) → Ended v chain x.n u → LinkedTo w₀ x chain u
  all_linked v o u e = record {
    bucket = class_of (key_at w x) x.n;
    chained = chained_agree (class_in w x) (λ j. class_of (key_at w x) x.n (key_at u x j)) u u chain x.n (λ j l. ap (class_of (key_at w x) x.n) (own j l)) (λ j l. refl) (record { before = chain_of });
    exact = λ a b l k z. own a l ∙ class_same (key_at w x) x.n a b l k (ap (class_of (key_at w x) x.n) (sym (own a l)) ∙ z ∙ ap (class_of (key_at w x) x.n) (own b k)) ∙ sym (own b k);
    front = front_then (4 * chain) u v w₀ e.front (front_then (4 * chain) v w w₀ o.front (front_less (4 * chain) (4 * x.links) w w₀ (omega (arith, g.low)) f.front));
    size = e.size ∙ o.size ∙ f.size;
  } where
    own : (j : ℕ) → j < x.n → key_at u x j ≡ key_at w x j
    own j l = key_same u w x chain j (omega (arith, g.rows)) (front_then (4 * chain) u v w e.front o.front)

    chain_of : (j : ℕ) → j < x.n → word u (chain + j) ≡ newest (class_in w x) (class_in w x j) j
    chain_of j l = split≡ (class_in w x j) j
        (λ q. let a : j < word v (chain + j) = rw (← o.links.first j l q) at (newest_least (class_in w x) j j x.n l q) in
        e.is j l ∙ sym (earlier_none j (word v (chain + j)) (word v (chain + j)) refl a) ∙ rw q (sym (newest_none (class_in w x) j j (λ k m z. (let y : class_in w x k ≤ k = class_most (key_at w x) x.n k (omega arith) in omega (arith, y, z))))))
        (λ q. let a : word v (chain + j) ≤ j = rw (o.links.other j l q) (newest_below (class_in w x) (class_in w x j) j) in
        e.is j l ∙ sym (earlier_kept j (word v (chain + j)) (word v (chain + j)) refl a) ∙ o.links.other j l q)
