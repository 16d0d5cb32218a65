-- Laws of the functions that read a name's counter.
use Rattle.std.specs.Prelude.{Option, Some, None}
use Rattle.std.specs.Option.{MatchOption}
use mathlib.Core.Path.{◌≡◌, refl, sym, ◌∙◌}
use mathlib.Core.Logic.{◌≢◌}
use mathlib.Core.Bool.{true, false}
use mathlib.Core.List.{List, [], ◌∷◌}
use Prim.Native.Nat.{ℕ, suc, ◌+◌, ◌-◌, ◌*◌, ◌<◌, ◌≤◌}
use native.Mathlib.Omega.{arith}
use lib.Dec.{eqb}
use denote.Bor.{Bor}
use lib.Pointwise.{pointwise}
use lib.ListN.{length, get_or, take, drop}
use borrow.Author.Tests.{eq-eqb, ne_eqb, le-leb, lt-leb}
use Rattle.laws.proofs.Choice.{split_b, split≡, split≤}
use Rattle.laws.specs.Keys.{eq_k}
use Rattle.laws.proofs.Lists.{drop_step, drop_end}
use Rattle.search.specs.Seek.{seek}
use Rattle.search.specs.Steps.{Sought}
use Rattle.counter.specs.Counter.{mark, after_hyphen, to_hyphen, is_digit, digits, number, signed, within, counter, rank}

-- ---- after a hyphen

hyphen_found : (l : List ℕ) → seek 45 l < length l → drop (suc (seek 45 l)) l ≡ after_hyphen l
unfolding seek after_hyphen
hyphen_found [] h = absurd (omega arith)
hyphen_found (x ∷ l) h =
    split≡ x 45
    (λ e. rw (eq-eqb x 45 e))
    (λ n. rw (ne_eqb x 45 n) (hyphen_found l (omega (arith, rw (ne_eqb x 45 n) at h))))

hyphen_none : (l : List ℕ) → length l ≤ seek 45 l → after_hyphen l ≡ []
unfolding seek after_hyphen
hyphen_none [] h = refl
hyphen_none (x ∷ l) h =
    split≡ x 45
    (λ e. absurd (omega (arith, rw (eq-eqb x 45 e) at h)))
    (λ n. rw (ne_eqb x 45 n) (hyphen_none l (omega (arith, rw (ne_eqb x 45 n) at h))))

module _ (s : List ℕ) (at : ℕ) (q : Sought s 45 at) where
  pub after_found : at < length s → drop (at + 1) s ≡ after_hyphen s
  after_found h = let e : at + 1 ≡ suc (seek 45 s) = omega (arith, q.at) in rw e (hyphen_found s (omega (arith, q.at)))

  pub after_none : length s ≤ at → drop at s ≡ after_hyphen s
  after_none h = drop_end s at h ∙ sym (hyphen_none s (omega (arith, q.at)))

-- ---- digits up to a hyphen

-- a number of which v is read and l is left
abbrev pub rest : ℕ → List ℕ → Option ℕ
rest v l = within (digits v (to_hyphen l))

over : (v : ℕ) (l : List ℕ) → 4294967295 < v → within (digits v l) ≡ None
unfolding within digits
over v [] h = rw (lt-leb v 4294967295 h)
over v (x ∷ l) h = split_b (is_digit x) (λ e. rw e (over (10 * v + (x - 48)) l (omega arith))) (λ e. rw e)

pub record Reading (s : List ℕ) (v i : ℕ) : Type 0 where
  pub small : v ≤ 4294967295
  pub same : rest v (drop i s) ≡ rest 0 s

step : (v x : ℕ) (l : List ℕ) → 48 ≤ x → x ≤ 57 → rest v (x ∷ l) ≡ rest (10 * v + (x - 48)) l
unfolding to_hyphen digits is_digit
step v x l p q = rw (ne_eqb x 45 (λ e. omega arith)) (rw (le-leb 48 x p, le-leb x 57 q))

stop : (v x : ℕ) (l : List ℕ) → x ≢ 45 → is_digit x ≡ false → rest v (x ∷ l) ≡ None
unfolding to_hyphen digits within
stop v x l n e = rw (ne_eqb x 45 n) (rw e)

whole : (v : ℕ) → v ≤ 4294967295 → within (digits v []) ≡ Some v
unfolding digits within
whole v h = rw (le-leb v 4294967295 h)

module _ (s : List ℕ) (v i : ℕ) (c : Reading s v i) where
  module _ (h : i < length s) where
    pub read_digit : 48 ≤ get_or s i 0 → get_or s i 0 ≤ 57 → 10 * v + (get_or s i 0 - 48) ≤ 4294967295 → Reading s (10 * v + (get_or s i 0 - 48)) (i + 1)
    read_digit p q m = record { small = m; same = sym (step v (get_or s i 0) (drop (i + 1) s) p q) ∙ (rw (drop_step s i h) at c.same) }

    pub read_over : 48 ≤ get_or s i 0 → get_or s i 0 ≤ 57 → 4294967295 < 10 * v + (get_or s i 0 - 48) → None ≡ rest 0 s
    read_over p q m = sym (step v (get_or s i 0) (drop (i + 1) s) p q ∙ over (10 * v + (get_or s i 0 - 48)) (to_hyphen (drop (i + 1) s)) m) ∙ (rw (drop_step s i h) at c.same)

    pub read_hyphen : get_or s i 0 ≡ 45 → Some v ≡ rest 0 s
    unfolding to_hyphen
    read_hyphen p = sym (whole v c.small) ∙ (rw (drop_step s i h, eq-eqb (get_or s i 0) 45 p) at c.same)

    pub read_other : get_or s i 0 ≢ 45 → (48 ≤ get_or s i 0 → get_or s i 0 ≤ 57 → ⊥) → None ≡ rest 0 s
    unfolding is_digit
    read_other n p =
        sym (stop v (get_or s i 0) (drop (i + 1) s) n
        (split≤ 48 (get_or s i 0)
        (λ q. rw (le-leb 48 (get_or s i 0) q, lt-leb (get_or s i 0) 57 (split≤ (get_or s i 0) 57 (λ r. absurd (p q r)) (λ r. r))))
        (λ q. rw (lt-leb 48 (get_or s i 0) q))))
        ∙ (rw (drop_step s i h) at c.same)

  pub read_end : length s ≤ i → Some v ≡ rest 0 s
  unfolding to_hyphen
  read_end h = sym (whole v c.small) ∙ (rw (drop_end s i h) at c.same)

-- ---- at least one digit, and a sign

pub number_none : (s : List ℕ) → length s ≡ 0 → None ≡ within (number (to_hyphen s))
unfolding to_hyphen number within
number_none [] h = refl
number_none (x ∷ s) h = absurd (omega arith)

pub number_empty : (s : List ℕ) → get_or s 0 0 ≡ 45 → None ≡ within (number (to_hyphen s))
unfolding to_hyphen number within
number_empty [] e = refl
number_empty (x ∷ s) e = rw (eq-eqb x 45 e)

pub number_some : (s : List ℕ) → 0 < length s → get_or s 0 0 ≢ 45 → rest 0 s ≡ within (number (to_hyphen s))
unfolding to_hyphen number
number_some [] h n = absurd (omega arith)
number_some (x ∷ s) h n = rw (ne_eqb x 45 n)

pub signed_none : (s : List ℕ) → length s ≡ 0 → None ≡ within (signed (to_hyphen s))
unfolding to_hyphen signed within
signed_none [] h = refl
signed_none (x ∷ s) h = absurd (omega arith)

pub signed_plus : (s : List ℕ) → get_or s 0 0 ≡ 43 → within (number (to_hyphen (drop 1 s))) ≡ within (signed (to_hyphen s))
unfolding to_hyphen signed number
signed_plus [] p = refl
signed_plus (x ∷ s) p = rw (ne_eqb x 45 (λ q. omega arith), eq-eqb x 43 p)

pub signed_bare : (s : List ℕ) → get_or s 0 0 ≢ 43 → within (number (to_hyphen s)) ≡ within (signed (to_hyphen s))
unfolding to_hyphen signed number
signed_bare [] n = refl
signed_bare (x ∷ s) n = split≡ x 45 (λ p. rw (eq-eqb x 45 p)) (λ p. rw (ne_eqb x 45 p, ne_eqb x 43 n))

-- ---- the mark

-- as the code has it
same_bytes : (a b : List ℕ) → pointwise eqb a b ≡ eq_k a b
unfolding eq_k
same_bytes [] [] = refl
same_bytes [] (y ∷ b) = refl
same_bytes (x ∷ a) [] = refl
same_bytes (x ∷ a) (y ∷ b) = split_b (eqb x y) (λ e. rw e (same_bytes a b)) (λ e. rw e)

-- what is left of a name after the mark
module _ (s : List ℕ) (r : Option (Bor (List ℕ)))
    (m : MatchOption r (pointwise eqb (take (length mark) s) mark ≡ false) (λ x. (pointwise eqb (take (length mark) s) mark ≡ true) × (x.now ≡ drop (length mark) s) × (length x.now + length mark ≡ length s))) where
  pub unmarked : r ≡ None → None ≡ counter s
  unfolding counter mark
  unmarked e = let k = (rw e at m) in rw (sym (same_bytes (take 11 s) mark) ∙ k)

  pub marked : (x : Bor (List ℕ)) → r ≡ Some x → within (signed (to_hyphen (after_hyphen x.now))) ≡ counter s
  unfolding counter mark
  marked x e = let k = (rw e at m) in rw (k.1, sym (same_bytes (take 11 s) mark) ∙ k.0)

-- a name that does not begin as the mark does
pub counter_empty : (s : List ℕ) → length s < 1 → None ≡ counter s
unfolding counter mark eq_k
counter_empty [] h = refl
counter_empty (x ∷ s) h = absurd (omega arith)

pub counter_other : (s : List ℕ) → get_or s 0 0 ≢ 109 → None ≡ counter s
unfolding counter mark eq_k
counter_other [] n = refl
counter_other (x ∷ s) n = rw (ne_eqb x 109 n)

within_most : (c : Option ℕ) → rank (within c) ≤ 4294967296
unfolding within rank
within_most None = omega arith
within_most (Some v) =
    split≤ v 4294967295
    (λ h. rw (le-leb v 4294967295 h) (omega arith))
    (λ h. rw (lt-leb v 4294967295 h) (omega arith))

pub rank_most : (s : List ℕ) → rank (counter s) ≤ 4294967296
unfolding counter rank
rank_most s =
    split_b (eq_k (take 11 s) mark)
    (λ e. rw e (within_most (signed (to_hyphen (after_hyphen (drop 11 s))))))
    (λ e. rw e (omega arith))
