-- The step of the machine by one piece, as counting makes it: the words of a piece, and what the keys hold.
use Prim.Native.Nat.{ℕ, zero, suc, ◌+◌, ◌*◌, ◌<◌, ◌≤◌}
use mathlib.Core.Path.{◌≡◌, refl, sym, ap, ◌∙◌, fun_ext}
use mathlib.Core.Bool.{true, false}
use mathlib.Core.List.{List, [], ◌∷◌, ◌++◌}
use native.Mathlib.Omega.{arith}
use native.Mathlib.Numerals.{add-one}
use lib.ListN.{length}
use lib.Dec.{eqb}
use borrow.Author.Tests.{eq-eqb, ne_eqb}
use Rattle.laws.proofs.Choice.{split_b, split≡, no_way}
use Rattle.laws.specs.Keys.{Key, eq_k}
use Rattle.laws.proofs.Keys.{eq_eq_k, ne_eq_k}
use Rattle.laws.specs.Count.{mem}
use Rattle.words.specs.Words.{word, put_word}
use Rattle.words.proofs.Words.{length_put, word_put_same, word_put_other}
use Rattle.words.specs.Front.{Front}
use Rattle.words.proofs.Front.{front_then, front_less, front_put, front_word}
use Rattle.split.specs.Rows.{dlci_at, tail_at, key_at, held_in, held_of, stream_to, Laid}
use Rattle.split.specs.Walks.{Row, Lying, Kept, Told, AllTold, Moved}
use Rattle.split.specs.declared.Plan.{Plan}
use Rattle.split.proofs.Fronts.{dlci_front, tail_front, bytes_front}
use Rattle.split.proofs.Steps.{own_key, joined_kept, held_mine, held_other, other_key}
use Rattle.split.proofs.Aheads.{held_skip}
use Rattle.measuring.specs.Counting.{keys_to, held_to, Noted}
use Rattle.measuring.proofs.Counts.{again}

-- ---- the words of a piece

-- stored in v, which is w below the area
pub kept_over : (f w : List ℕ) (p : Plan) (i : ℕ) → Laid f w p → i < p.n → (v u : List ℕ) → length v ≡ length w → Front p.area v w → Kept v p i u → Kept w p i u
kept_over f w p i l o v u lv s k = record {
  front = front_then (4 * p.held) u v w k.front (front_less (4 * p.held) p.area v w (omega (arith, l.ends, l.area)) s);
  long = k.long ∙ lv;
  held = λ j h. k.held j h ∙ front_word p.area v w (p.held + j) (omega (arith, l.ends, l.area)) s;
  ends = λ j h. k.ends j h ∙ front_word p.area v w (p.ends + j) (omega (arith, l.area)) s;
}

pub noted_is : (w : List ℕ) (p : Plan) (i : ℕ) → Row w p i → (r e : ℕ) (v u : List ℕ) → v ≡ put_word w (p.held + i) r → u ≡ put_word v (p.ends + i) e → Noted w p i r e u
noted_is w p i g r e v u ev eu = record {
  kept = record {
    front = front_then (4 * p.held) u v w (rw eu (front_put (4 * p.held) v (p.ends + i) e (omega (arith, g.ends)))) (rw ev (front_put (4 * p.held) w (p.held + i) r (omega arith)));
    long = ap length eu ∙ length_put v (p.ends + i) e ∙ lv;
    held = λ j h. other (p.held + j) (λ z. omega (arith, g.ends, g.row)) ∙ rw ev (word_put_other w (p.held + i) r (p.held + j) (λ z. omega arith));
    ends = λ j h. other (p.ends + j) (λ z. omega arith) ∙ rw ev (word_put_other w (p.held + i) r (p.ends + j) (λ z. omega (arith, g.ends, g.row)));
  };
  holds = other (p.held + i) (λ z. omega (arith, g.ends, g.row)) ∙ rw ev (word_put_same w (p.held + i) r (omega (arith, g.ends, g.words, g.row)));
  end = rw eu (word_put_same v (p.ends + i) e (omega (arith, g.words, g.row, lv)));
} where
  lv : length v ≡ length w
  lv = ap length ev ∙ length_put w (p.held + i) r

  other : (j : ℕ) → (p.ends + i ≡ j → ⊥) → word u j ≡ word v j
  other j n = rw eu (word_put_other v (p.ends + i) e j n)

-- what the words of the pieces before say stays true
module _ (f u w : List ℕ) (p : Plan) (l : Lying f w p) (i : ℕ) (o : i < p.n) (k : Kept w p i u) where
  told_kept : (j : ℕ) → j < i → Told f w p j → Told f u p j
  told_kept j h t = record {
    holds = k.held j h ∙ t.holds ∙ rw (joined_kept f u w p l i o k j (omega arith));
    end = k.ends j h ∙ t.end ∙ rw (bytes_front f u w p l k.front j (omega arith));
  }

  pub all_told : AllTold f w p i → Told f u p i → AllTold f u p (i + 1)
  all_told a t = record {
    at = λ j h e. split≡ j i (λ z. rw z t) (λ z. told_kept j (omega arith) (a.at j (omega arith) (sym (dlci_front f u w p l k.front j (omega arith)) ∙ e)));
  }

-- ---- the keys of the DLCI's pieces

module _ (f u w : List ℕ) (p : Plan) (l : Lying f w p) (s : Front (4 * p.held) u w) where
  pub keys_front : (i : ℕ) → i ≤ p.n → keys_to u p i ≡ keys_to w p i
  unfolding keys_to
  keys_front zero h = refl
  keys_front (suc i) h = rw (dlci_front f u w p l s i (omega arith), tail_front f u w p l s i (omega arith), keys_front i (omega arith))

module _ (f w : List ℕ) (p : Plan) (i : ℕ) (h : i < p.n) (d : dlci_at w p i ≡ p.dlci → ⊥) where
  pub keys_skip : keys_to w p (i + 1) ≡ keys_to w p i
  unfolding keys_to
  keys_skip = rw (add-one i, ne_eqb (dlci_at w p i) p.dlci d)

  pub sums_skip : (g : ℕ → ℕ) → held_to g w p (i + 1) ≡ held_to g w p i
  unfolding held_to
  sums_skip g = rw (keys_skip, fun_ext (λ k. ap g (held_skip f w p i h d k)))

-- a key of the DLCI that no piece had holds nothing
pub unseen : (w : List ℕ) (p : Plan) (i : ℕ) (k : Key) → mem k (keys_to w p i) ≡ false → held_in w p i (p.dlci ∷ k) ≡ 0
unfolding keys_to held_in eq_k key_at mem
unseen w p zero k e = refl
unseen w p (suc i) k e =
    split_b (eqb (dlci_at w p i) p.dlci)
    (λ d. let g : mem k (keys_to w p i ++ (tail_at w p i ∷ [])) ≡ false = rw d at e in
    let n : tail_at w p i ≡ k → ⊥ = λ q. no_way (mem_last (keys_to w p i) (tail_at w p i) k (sym q)) g in
    rw (d, ne_eq_k (tail_at w p i) k n) (unseen w p i k (mem_front (keys_to w p i) (tail_at w p i) k g)))
    (λ d. rw d (unseen w p i k (rw d at e))) where
      mem_last : (xs : List Key) (x k : Key) → k ≡ x → mem k (xs ++ (x ∷ [])) ≡ true
      mem_last [] x k q = rw (eq_eq_k k x q)
      mem_last (y ∷ xs) x k q = rw (mem_last xs x k q) (split_b (eq_k k y) (λ e. rw e) (λ e. rw e))

      mem_front : (xs : List Key) (x k : Key) → mem k (xs ++ (x ∷ [])) ≡ false → mem k xs ≡ false
      mem_front [] x k q = refl
      mem_front (y ∷ xs) x k q =
          split_b (eq_k k y)
          (λ e. no_way {b = true} refl (rw e at q))
          (λ e. rw e (mem_front xs x k (rw e at q)))

-- what the keys hold, added up
module _ (f w : List ℕ) (p : Plan) (i : ℕ) (l : Lying f w p) (o : i < p.n) (x : held_of w p i ≤ length (stream_to f w p i)) (u : List ℕ) (m : Moved f w p i u) (d : dlci_at w p i ≡ p.dlci) where
  pub moved_sums : (g : ℕ → ℕ) → g 0 ≡ 0 → held_to g u p (i + 1) + g (held_of w p i) ≡ held_to g w p i + g (word u (p.held + i))
  unfolding held_to keys_to
  moved_sums g z =
      rw (
        add-one i,
        dlci_front f u w p l m.kept.front i o,
        tail_front f u w p l m.kept.front i o,
        eq-eqb (dlci_at w p i) p.dlci d,
        keys_front f u w p l m.kept.front i (omega arith),
        ← held_mine f w p i l o x u m,
        own_key w p i d,
      )
      (again (λ k. g (held_in w p i (p.dlci ∷ k))) (λ k. g (held_in u p (suc i) (p.dlci ∷ k))) (tail_at w p i) (λ j n. rw (held_other f w p i l o x u m (p.dlci ∷ j) (other_key f w p i l o x u m d j n))) (keys_to w p i) (λ e. rw (unseen w p i (tail_at w p i) e) z))
