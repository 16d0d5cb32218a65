-- The packets are linked, from the last to the first: a word for each key's row says which of those behind comes next.
use Rattle.std.specs.Prelude.{Some, None}
use mathlib.Core.Path.{◌≡◌, refl, sym, ap, ◌∙◌}
use mathlib.Core.List.{List}
use mathlib.Core.Bool.{Bool, true, false, cond}
use Prim.Native.Nat.{ℕ, suc, ◌+◌, ◌-◌, ◌*◌, ◌<◌, ◌≤◌}
use native.Mathlib.Omega.{arith}
use lib.ListN.{length}
use lib.Dec.{eqb}
use borrow.Author.Tests.{eq-eqb, ne_eqb}
use Rattle.laws.proofs.Choice.{split≡}
use Rattle.words.specs.Words.{word, long, put_word}
use Rattle.words.proofs.Words.{length_put, word_put_same, word_put_other}
use Rattle.words.specs.Front.{Front}
use Rattle.words.proofs.Front.{front_refl, front_put, front_then, front_word}
use Rattle.table.specs.Table.{find_in, lookup, upd, sum_of, some}
use Rattle.table.proofs.Table.{find_below, lookup_agree, long_agree, sum_agree}
use Rattle.tree.specs.Tree.{Indexed}
use Rattle.tree.proofs.Index.{indexed_agree, find_agree, found_key}
use Rattle.tree.specs.Seats.{Seated}
use Rattle.tree.proofs.Seats.{split_row}
use Rattle.tree.specs.declared.Seating.{Seating}
use Rattle.fragments.specs.Links.{soonest, tag_at, Blank, first_of, index_of, open_in, blank_row, head_in, head_at, head_of, head_with, noted, Note, LinkStep, LinkedStep, LinkRoom, LinkBegun, LinkedTo}
use Rattle.fragments.proofs.Chains.{soonest_agree, tag_empty, tag_full}

-- ---- what is noted of a packet

module _ (w : List ℕ) (q i y a h : ℕ) (p : Note w q i a) (u : List ℕ) (e : u ≡ noted w q i y a h) where
  pub noted_size : length u ≡ length w
  unfolding noted
  noted_size = rw e (simp length_put)

  pub noted_other : (j : ℕ) → (7 * q + 2 * i ≡ j → ⊥) → (7 * q + 2 * i + 1 ≡ j → ⊥) → (6 * q + a ≡ j → ⊥) → word u j ≡ word w j
  unfolding noted
  noted_other j n0 n1 n2 = rw e (simp word_put_other)

  pub noted_head : word u (6 * q + a) ≡ h
  unfolding noted
  noted_head = rw e (word_put_same _ (6 * q + a) h (simp length_put (omega (arith, p.room, p.low))))

  pub noted_row : word u (7 * q + 2 * i + 1) ≡ a
  unfolding noted
  noted_row =
      let n2 : 6 * q + a ≡ 7 * q + 2 * i + 1 → ⊥ = λ t. omega (arith, p.low) in
      rw e (word_put_other _ (6 * q + a) h (7 * q + 2 * i + 1) n2 ∙ word_put_same _ (7 * q + 2 * i + 1) a (simp length_put (omega (arith, p.room))))

  pub noted_link : word u (7 * q + 2 * i) ≡ y
  unfolding noted
  noted_link =
      let n1 : 7 * q + 2 * i + 1 ≡ 7 * q + 2 * i → ⊥ = λ t. omega arith in
      let n2 : 6 * q + a ≡ 7 * q + 2 * i → ⊥ = λ t. omega (arith, p.low) in
      rw e
      (word_put_other _ (6 * q + a) h (7 * q + 2 * i) n2
      ∙ word_put_other _ (7 * q + 2 * i + 1) a (7 * q + 2 * i) n1
      ∙ word_put_same w (7 * q + 2 * i) y (omega (arith, p.room)))

  pub noted_front : (m : ℕ) → m ≤ 4 * (6 * q) → Front m u w
  unfolding noted
  noted_front m l =
      rw e
      (front_then m _ _ w (front_put m _ (6 * q + a) h (omega arith))
      (front_then m _ _ w (front_put m _ (7 * q + 2 * i + 1) a (omega arith)) (front_put m w (7 * q + 2 * i) y (omega arith))))

pub note_is :
    (w : List ℕ) (q i y a h c : ℕ) → c ≡ a → (u v t : List ℕ) →
    v ≡ put_word w (7 * q + 2 * i) y → t ≡ put_word v (7 * q + 2 * i + 1) c → u ≡ put_word t (6 * q + a) h → u ≡ noted w q i y a h
unfolding noted
note_is w q i y a h c ec u v t ev et eu = rw (eu, et, ev, ec)

module _ (w : List ℕ) (q n a x : ℕ) where
  pub head_new : a ≡ n → x ≡ head_of w q n a x
  unfolding head_of
  head_new e = rw (eq-eqb a n e)

  pub head_old : (a ≡ n → ⊥) → (r : ℕ) → r ≡ word w (6 * q + a) → r ≡ head_of w q n a x
  unfolding head_of
  head_old e r d = d ∙ rw (ne_eqb a n e)

module _ (z i y : ℕ) where
  pub with_none : z ≡ 0 → y ≡ head_with z i y
  unfolding head_with
  with_none e = rw (eq-eqb z 0 e)

  pub with_some : (z ≡ 0 → ⊥) → (r : ℕ) → r ≡ i + 1 → r ≡ head_with z i y
  unfolding head_with
  with_some e r d = d ∙ rw (ne_eqb z 0 e)

-- ---- one packet

-- what stands in the new row is what stood in it
blank_seated : (w : List ℕ) (q n k : ℕ) (u : List ℕ) (r : Seating) → Seated w (open_in q n) (blank_row k) u r → Blank w (3 * q) n → Blank u (3 * q) r.rows
unfolding first_of upd
blank_seated w q n k u r s b = split_row (find_in w (3 * q) k n) old new where
  old : (i : ℕ) → find_in w (3 * q) k n ≡ Some i → Blank u (3 * q) r.rows
  old i e = let h = s.known i e in rw (h.0, h.1.0) b

  first : (j : ℕ) (t : Bool) → first_of (cond t (some 0 0) (lookup w (3 * q) n j)) ≡ 0
  first j true = refl
  first j false = b.says j

  new : find_in w (3 * q) k n ≡ None → Blank u (3 * q) r.rows
  new e =
      let h = s.fresh e in
      rw h.1.0 (record {
        says = λ j. ap first_of (h.0.stored.says j) ∙ first j (eqb k j);
        sum = omega (arith, h.0.stored.sum, b.sum);
      })

blank_agree : (u w : List ℕ) (b n : ℕ) → ((j : ℕ) → b ≤ j → j < b + 4 * n → word u j ≡ word w j) → Blank w b n → Blank u b n
blank_agree u w b n a s = record { says = λ k. ap first_of (lookup_agree u w b n k a) ∙ s.says k; sum = sum_agree u w b n a ∙ s.sum }

module _
    (w : List ℕ) (q n i x : ℕ) (p : LinkStep w q n i) (key : ℕ) (ek : key ≡ word w (6 * i))
    (v : List ℕ) (t : Seating) (s : Seated w (open_in q n) (blank_row key) v t) where
  pub link_note : Note v q i t.at
  link_note = record { room = omega (arith, p.low, p.room, s.size); low = omega (arith, p.few, s.few, s.most); small = p.seat.small }

  -- the words behind the index are as they were
  high : (j : ℕ) → 6 * q ≤ j → word v j ≡ word w j
  high j h = s.beyond j (omega (arith, p.few))

  module _ (y : ℕ) (ey : y ≡ head_of v q n t.at x) where
    next_is_law : y ≡ head_at w q x n key
    unfolding head_in head_of
    next_is_law = ey ∙ split_row (find_in w (3 * q) key n)
        (λ a e. let h = s.known a e in
        let l : a < n = find_below w (3 * q) key n a e in
        rw (e, h.1.1, ne_eqb a n (λ d. omega arith)) (high (6 * q + a) (omega arith)))
        (λ e. let h = s.fresh e in rw (e, h.1.1, eq-eqb n n refl))

    module _ (z : ℕ) (ez : z ≡ word w (6 * i + 3)) (h : ℕ) (eh : h ≡ head_with z i y) (u : List ℕ) (eu : u ≡ noted v q i y t.at h) where
      -- below the packets' words, and but for the row's head
      keeps : (j : ℕ) → j < 7 * q → (6 * q + t.at ≡ j → ⊥) → word u j ≡ word v j
      keeps j l d = noted_other v q i y t.at h link_note u eu j (λ e. omega arith) (λ e. omega arith) d

      off : (j : ℕ) → j < 6 * q → word u j ≡ word v j
      off j l = keeps j (omega arith) (λ e. omega arith)

      rows : (j : ℕ) → 3 * q ≤ j → j < 3 * q + 4 * t.rows → word u j ≡ word v j
      rows j a b = off j (omega (arith, p.few, s.most))

      keys : (j : ℕ) → j < t.rows → long u (3 * q + 4 * j) ≡ long v (3 * q + 4 * j)
      keys j l = long_agree u v (3 * q + 4 * j) (rows (3 * q + 4 * j) (omega arith) (omega arith)) (rows (3 * q + 4 * j + 1) (omega arith) (omega arith))

      finds : (k : ℕ) → find_in u (3 * q) k t.rows ≡ find_in v (3 * q) k t.rows
      finds k = find_agree u v (3 * q) k t.rows keys

      -- the key's own row
      own_head : head_at u q x t.rows key ≡ head_with z i (head_at w q x n key)
      unfolding head_in
      own_head = ap (head_in u q x) (finds key ∙ s.own) ∙ noted_head v q i y t.at h link_note u eu ∙ eh ∙ ap (head_with z i) next_is_law

      -- another row
      other_head : (k : ℕ) → (key ≡ k → ⊥) → head_at u q x t.rows k ≡ head_at w q x n k
      unfolding head_in
      other_head k d = ap (head_in u q x) (finds k ∙ s.others k d) ∙ split_row (find_in w (3 * q) k n)
          (λ a e. rw e (keeps (6 * q + a) (omega (arith, below a e)) (λ r. d (same a e (omega arith))) ∙ high (6 * q + a) (omega arith)))
          (λ e. rw e) where
            below : (a : ℕ) → find_in w (3 * q) k n ≡ Some a → a < q
            below a e = omega (arith, find_below w (3 * q) k n a e, p.few)

            same : (a : ℕ) → find_in w (3 * q) k n ≡ Some a → t.at ≡ a → key ≡ k
            same a e r = sym (found_key v (3 * q) key t.rows t.at s.own) ∙ rw r (found_key v (3 * q) k t.rows a (s.others k d ∙ e))

      empty : (k : ℕ) → z ≡ 0 → tag_at w k i ≡ k → ⊥
      empty k o r = omega (arith, sym (tag_empty w k i (sym ez ∙ o)) ∙ r)

      full : (k : ℕ) → (z ≡ 0 → ⊥) → tag_at w k i ≡ key
      full k o = tag_full w k i (λ r. o (ez ∙ r)) ∙ sym ek

      own_is : head_at u q x t.rows key ≡ cond (eqb (tag_at w key i) key) (i + 1) (head_at w q x n key)
      unfolding head_with
      own_is = own_head ∙ split≡ z 0
          (λ o. rw (eq-eqb z 0 o, ne_eqb (tag_at w key i) key (empty key o)))
          (λ o. rw (ne_eqb z 0 o, eq-eqb (tag_at w key i) key (full key o)))

      heads_are : (k : ℕ) → head_at u q x t.rows k ≡ cond (eqb (tag_at w k i) k) (i + 1) (head_at w q x n k)
      heads_are k =
          split≡ key k
          (λ e. rw (← e) own_is)
          (λ e. other_head k e ∙ rw (ne_eqb (tag_at w k i) k (λ r. split≡ z 0 (λ o. empty k o r) (λ o. e (sym (full k o) ∙ r)))))

      pub link_stepped : LinkedStep w q n i x u t
      link_stepped = record {
        link = noted_link v q i y t.at h link_note u eu ∙ next_is_law ∙ rw ek;
        row = rw (← ek, noted_row v q i y t.at h link_note u eu) (finds key ∙ s.own);
        kept = λ k a e. finds k ∙ split≡ key k
            (λ g. let f : find_in w (3 * q) key n ≡ Some a = rw (← g) at e in rw (← g) s.own ∙ ap Some (s.known a f).1.1)
            (λ g. s.others k g ∙ e);
        heads = heads_are;
        blank = λ b. blank_agree u v (3 * q) t.rows rows (blank_seated w q n key v t s b);
        indexed = indexed_agree v (index_of q) t.rows s.indexed u keys (λ j a b. off j (omega (arith, p.few, s.most)));
        most = s.most;
        front = front_then (4 * (3 * q)) u v w (noted_front v q i y t.at h link_note u eu (4 * (3 * q)) (omega arith)) s.front;
        beyond = λ j l. (beside (7 * q + 2 * j) l (omega arith), beside (7 * q + 2 * j + 1) l (omega arith));
        size = noted_size v q i y t.at h link_note u eu ∙ s.size;
      } where
        beside : (j : ℕ) {m : ℕ} → i < m → 7 * q + 2 * m ≤ j → word u j ≡ word w j
        beside j l g =
            noted_other v q i y t.at h link_note u eu j (λ e. omega arith) (λ e. omega arith) (λ e. omega (arith, link_note.low))
            ∙ high j (omega arith)

-- ---- all packets

abbrev key_in : List ℕ → ℕ → ℕ
key_in w j = word w (6 * j)

pub record Linking (w₀ : List ℕ) (q count : ℕ) (w : List ℕ) (s : Seating) (i : ℕ) : Type 0 where
  pub within : i ≤ count
  pub few : s.rows + i ≤ count
  pub size : length w ≡ length w₀
  pub front : Front (4 * (3 * q)) w w₀
  pub indexed : Indexed w (index_of q) s.rows
  pub blank : Blank w (3 * q) s.rows
  pub heads : (k : ℕ) → head_at w q (suc count) s.rows k ≡ suc (soonest (tag_at w₀ k) k i (count - i))
  pub links : (j : ℕ) → i ≤ j → j < count → word w (7 * q + 2 * j) ≡ suc (soonest (tag_at w₀ (key_in w₀ j)) (key_in w₀ j) (suc j) (count - suc j))
  pub seats : (j : ℕ) → i ≤ j → j < count → find_in w (3 * q) (key_in w₀ j) s.rows ≡ Some (word w (7 * q + 2 * j + 1))

cond_suc : (t : Bool) (a b : ℕ) → cond t (suc a) (suc b) ≡ suc (cond t a b)
cond_suc true a b = refl
cond_suc false a b = refl

module _ (w₀ : List ℕ) (q count : ℕ) (b : LinkBegun w₀ q count) where
  g : LinkRoom w₀ q count
  g = b.room

  pub linking_start : (a : ℕ) → Linking w₀ q count w₀ (record { rows = 0; at = a }) count
  unfolding soonest find_in head_in lookup first_of sum_of
  linking_start a = record {
    within = omega arith;
    few = omega arith;
    size = refl;
    front = front_refl (4 * (3 * q)) w₀;
    indexed = b.indexed;
    blank = record { says = λ k. refl; sum = refl };
    heads = λ k. let z : count - count ≡ 0 = omega arith in rw z;
    links = λ j lo hi. absurd (omega arith);
    seats = λ j lo hi. absurd (omega arith);
  }

  module _ (w : List ℕ) (s : Seating) (i : ℕ) (v : Linking w₀ q count w s i) (p : 0 < i) where
    module _ (x : ℕ) (ex : x ≡ count + 1) (u : List ℕ) (r : Seating) (d : LinkedStep w q s.rows (i - 1) x u r) where
      more : (j : ℕ) → i - 1 ≤ j → (j ≡ i - 1 → ⊥) → i - 1 < j
      more j l n = split≡ j (i - 1) (λ e. absurd (n e)) (λ e. omega arith)

      xe : x ≡ suc count
      xe = omega (arith, ex)

      own : word w (6 * (i - 1)) ≡ word w₀ (6 * (i - 1))
      own = front_word (4 * (3 * q)) w w₀ (6 * (i - 1)) (omega (arith, v.within, g.low)) v.front

      tag : (k : ℕ) → tag_at w k (i - 1) ≡ tag_at w₀ k (i - 1)
      unfolding tag_at
      tag k = rw (own, front_word (4 * (3 * q)) w w₀ (6 * (i - 1) + 3) (omega (arith, v.within, g.low)) v.front)

      soonest_is : (k : ℕ) → cond (eqb (tag_at w₀ k (i - 1)) k) (i - 1) (soonest (tag_at w₀ k) k i (count - i)) ≡ soonest (tag_at w₀ k) k (i - 1) (count - (i - 1))
      unfolding soonest
      soonest_is k =
          let a : count - (i - 1) ≡ suc (count - i) = omega (arith, v.within) in
          let b : suc (i - 1) ≡ i = omega arith in
          rw (a, b)

      head_is : (k : ℕ) → head_at u q (suc count) r.rows k ≡ suc (soonest (tag_at w₀ k) k (i - 1) (count - (i - 1)))
      head_is k =
          let c : i - 1 + 1 ≡ suc (i - 1) = omega arith in
          let h : head_at u q (suc count) r.rows k ≡ cond (eqb (tag_at w₀ k (i - 1)) k) (suc (i - 1)) (suc (soonest (tag_at w₀ k) k i (count - i))) =
          (rw (xe, tag k, v.heads k, c) at (d.heads k)) in
          h ∙ cond_suc (eqb (tag_at w₀ k (i - 1)) k) (i - 1) (soonest (tag_at w₀ k) k i (count - i)) ∙ ap suc (soonest_is k)

      link_is : word u (7 * q + 2 * (i - 1)) ≡ suc (soonest (tag_at w₀ (key_in w₀ (i - 1))) (key_in w₀ (i - 1)) (suc (i - 1)) (count - suc (i - 1)))
      link_is =
          let b : suc (i - 1) ≡ i = omega arith in
          d.link ∙ rw (own, xe, b) (v.heads (word w₀ (6 * (i - 1))))

      pub linking_turn : Linking w₀ q count u r (i - 1)
      linking_turn = record {
        within = omega (arith, v.within);
        few = omega (arith, v.few, d.most);
        size = d.size ∙ v.size;
        front = front_then (4 * (3 * q)) u w w₀ d.front v.front;
        indexed = d.indexed;
        blank = d.blank v.blank;
        heads = head_is;
        links = λ j lo hi. split≡ j (i - 1)
            (λ e. rw e link_is)
            (λ e. (d.beyond j (more j lo e)).0 ∙ v.links j (omega (arith, more j lo e)) hi);
        seats = λ j lo hi. split≡ j (i - 1)
            (λ e. rw (e, ← own) d.row)
            (λ e. d.kept (key_in w₀ j) (word w (7 * q + 2 * j + 1)) (v.seats j (omega (arith, more j lo e)) hi) ∙ ap Some (sym (d.beyond j (more j lo e)).1));
      }

  pub linking_end : (w : List ℕ) (s : Seating) (i : ℕ) → Linking w₀ q count w s i → i ≤ 0 → LinkedTo w₀ q count w s.rows
  unfolding tag_at
  linking_end w s i v h = record {
    linked = record {
      count = count;
      most = omega arith;
      low = g.low;
      next = λ j l. v.links j (omega arith) l ∙ ap suc (same j l);
    };
    seats = record { row = λ j l. rw (← key j l) (v.seats j (omega arith) l) };
    few = omega (arith, v.few);
    blank = v.blank;
    front = v.front;
    size = v.size;
  } where
    key : (j : ℕ) → j < count → key_in w₀ j ≡ key_in w j
    key j l = sym (front_word (4 * (3 * q)) w w₀ (6 * j) (omega (arith, g.low)) v.front)

    tag : (k j : ℕ) → j < count → tag_at w₀ k j ≡ tag_at w k j
    tag k j l = rw (key j l, sym (front_word (4 * (3 * q)) w w₀ (6 * j + 3) (omega (arith, g.low)) v.front))

    tags : (k j : ℕ) → soonest (tag_at w₀ k) k (suc j) (count - suc j) ≡ soonest (tag_at w k) k (suc j) (count - suc j)
    tags k j = soonest_agree (tag_at w₀ k) (tag_at w k) k (suc j) (count - suc j) (λ i lo hi. tag k i (omega arith))

    same :
        (j : ℕ) → j < count →
        soonest (tag_at w₀ (key_in w₀ j)) (key_in w₀ j) (suc j) (count - suc j) ≡ soonest (tag_at w (key_in w j)) (key_in w j) (suc j) (count - suc j)
    same j l = rw (← key j l) (tags (key_in w₀ j) j)
