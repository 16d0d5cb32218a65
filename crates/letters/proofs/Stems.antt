-- Looking for a name stem by stem.
use Rattle.std.specs.Prelude.{Some, None}
use denote.Bor.{Bor}
use mathlib.Core.Path.{◌≡◌, refl, sym, ap, ◌∙◌}
use mathlib.Core.Bool.{Bool, true, false, cond, ◌||◌}
use mathlib.Core.List.{List, [], ◌∷◌, ◌++◌}
use Prim.Native.Nat.{ℕ, zero, suc, ◌+◌, ◌*◌, ◌/◌, ◌%◌, ◌<◌, ◌≤◌}
use native.Mathlib.Omega.{arith}
use native.Mathlib.Numerals.{add-one}
use lib.Dec.{eqb}
use lib.ListN.{length, get_or, take, drop, get_or-append, drop_of_length-le}
use lib.Seq.{drop-cons, get_or-take, length-take-le, drop-append_seam}
use borrow.Author.Tests.{eq-eqb, eqb-true}
use Rattle.laws.proofs.Choice.{split_b, split≡, no_way}
use Rattle.laws.proofs.Keys.{eq_k_true, eq_eq_k, ne_eq_k}
use Rattle.laws.specs.Keys.{eq_k}
use Rattle.commands.specs.Commands.{Entry, t1, t2, has_name, is_command_name}
use Rattle.commands.specs.Numbers.{names_of, commands, name_at}
use Rattle.letters.specs.Run.{endings, stems, parts, part_at, is_among, begins, first_of, ending_in, all_pairs}
use Rattle.letters.specs.Search.{RestIs, EndingIs, is_in, is_pair, named_from}
use Rattle.letters.proofs.Computed.{distinct, parts_distinct, commands_below, endings_count}
use Rattle.letters.proofs.Joining.{pairs_count, name_joins, Below, below_at, begins_joins, joined_begins}
use Rattle.commands.proofs.Searching.{commands_count, command_at}

-- ---- whether one of some names is this one

among_append : (es : List Entry) (ls : List (List ℕ)) (n : List ℕ) → is_among n (names_of es ++ ls) ≡ cond (has_name es n) true (is_among n ls)
unfolding has_name
among_append [] ls n = refl
among_append (e ∷ es) ls n = split_b (eq_k e.name n) (λ q. rw q) (λ q. rw q (among_append es ls n))

among_names : (es : List Entry) (n : List ℕ) → is_among n (names_of es) ≡ has_name es n
unfolding has_name
among_names [] n = refl
among_names (e ∷ es) n = rw (among_names es n)

among_commands : (n : List ℕ) → is_among n commands ≡ is_command_name n
unfolding commands is_command_name
among_commands n = among_append t1 (names_of t2) n ∙ rw (among_names t2 n)

module _ (n : List ℕ) where
  among_at : (ls : List (List ℕ)) (i : ℕ) → i < length ls → get_or ls i [] ≡ n → is_among n ls ≡ true
  among_at [] i h e = absurd (omega arith)
  among_at (l ∷ ls) zero h e = rw (eq_eq_k l n e)
  among_at (l ∷ ls) (suc i) h e = split_b (eq_k l n) (λ q. rw q) (λ q. rw q (among_at ls i (omega arith) e))

  among_none : (ls : List (List ℕ)) → ((i : ℕ) → i < length ls → get_or ls i [] ≡ n → ⊥) → is_among n ls ≡ false
  among_none [] f = refl
  among_none (l ∷ ls) f = rw (ne_eq_k l n (f 0 (omega arith)), among_none ls (λ i h. f (suc i) (omega arith)))

  command_yes : (i : ℕ) → i < 229 → name_at i ≡ n → is_command_name n ≡ true
  command_yes i h e = sym (among_commands n) ∙ among_at commands i (omega (arith, commands_count)) (sym (command_at i h) ∙ e)

  command_no : ((i : ℕ) → i < 229 → name_at i ≡ n → ⊥) → is_command_name n ≡ false
  command_no f =
      sym (among_commands n)
      ∙ among_none commands (λ i h e. let g : i < 229 = omega (arith, commands_count) in f i g (command_at i g ∙ e))

-- ---- the ending that some letters are

distinct_front : (a b : List (List ℕ)) → distinct (a ++ b) ≡ true → distinct a ≡ true
distinct_front [] b d = refl
distinct_front (l ∷ a) b d =
    split_b (is_among l (a ++ b))
    (λ q. no_way d (rw q))
    (λ q. rw (apart a q) (distinct_front a b (rw q at d)))
  where
    apart : (c : List (List ℕ)) → is_among l (c ++ b) ≡ false → is_among l c ≡ false
    apart [] e = refl
    apart (k ∷ c) e = split_b (eq_k k l) (λ q. no_way refl (rw q at e)) (λ q. rw q (apart c (rw q at e)))

endings_distinct : distinct endings ≡ true
unfolding parts
endings_distinct = distinct_front endings stems parts_distinct

-- in a list without equal members each is found at its own place
first_at : (ls : List (List ℕ)) (k : ℕ) → distinct ls ≡ true → k < length ls → first_of (λ (e : List ℕ). eq_k e (get_or ls k [])) ls ≡ k
first_at [] k d h = absurd (omega arith)
first_at (l ∷ ls) zero d h = rw (eq_eq_k l l refl)
first_at (l ∷ ls) (suc k) d h =
    split_b (is_among l ls)
    (λ q. no_way d (rw q))
    (λ q.
    rw (
      ne_eq_k l (get_or ls k []) (λ e. no_way (among_at l ls k (omega arith) (sym e)) q),
      first_at ls k (rw q at d) (omega arith),
    ))

first_is : (l : List ℕ) (ls : List (List ℕ)) → first_of (λ (e : List ℕ). eq_k e l) ls < length ls → get_or ls (first_of (λ (e : List ℕ). eq_k e l) ls) [] ≡ l
first_is l [] h = absurd (omega arith)
first_is l (k ∷ ls) h =
    split_b (eq_k k l)
    (λ q. rw q (eq_k_true k l q))
    (λ q. rw q (first_is l ls (let g : suc (first_of (λ (e : List ℕ). eq_k e l) ls) < suc (length ls) = rw q at h in omega arith)))

pub part_ending : (p : ℕ) → p < 36 → part_at p ≡ get_or endings p []
unfolding part_at parts
part_ending p h = get_or-append endings stems [] p (omega (arith, endings_count))

-- the code's loop: what is still to come finds it
pub record Ending (l : List ℕ) (p : ℕ) : Type 0 where
  pub within : p ≤ 36
  pub same : p + first_of (λ (e : List ℕ). eq_k e l) (drop p endings) ≡ ending_in l

pub ending_start : (l : List ℕ) → Ending l 0
unfolding ending_in
ending_start l = record { within = omega arith; same = omega arith }

module _ (l : List ℕ) (p : ℕ) (s : Ending l p) (t : Bool) (e : t ≡ eq_k (part_at p) l) (h : p < 36) where
  here : drop p endings ≡ part_at p ∷ drop (p + 1) endings
  here = rw (add-one p, drop-cons endings p [] (omega (arith, endings_count)), part_ending p h)

  pub ending_found : t ≡ true → EndingIs l (Some p)
  ending_found q = record { is = let z : p + 0 ≡ ending_in l = rw (here, ← e, q) at s.same in (omega arith, h) }

  pub ending_turn : t ≡ false → Ending l (p + 1)
  ending_turn q = record {
    within = omega arith;
    same = let z : p + suc (first_of (λ (k : List ℕ). eq_k k l) (drop (p + 1) endings)) ≡ ending_in l = rw (here, ← e, q) at s.same in omega arith;
  }

pub ending_none : (l : List ℕ) (p : ℕ) → Ending l p → 36 ≤ p → EndingIs l None
ending_none l p s h = record {
  is =
      let z : p + 0 ≡ ending_in l = rw (drop_of_length-le endings (let g : length endings ≤ p = omega (arith, endings_count) in g)) at s.same in
      omega (arith, s.within);
}

-- ---- two parts among the pairs of the commands

in_some : {G : Type 0} (x : ℕ) (l : List ℕ) → is_in x l ≡ true → ((i : ℕ) → i < length l → get_or l i 0 ≡ x → G) → G
unfolding is_in
in_some x [] h f = no_way h refl
in_some x (y ∷ l) h f =
    split_b (eqb y x)
    (λ p. f 0 (omega arith) (eqb-true y x p))
    (λ p. in_some x l (rw p at h) (λ i g. f (suc i) (omega arith)))

in_at : (x : ℕ) (l : List ℕ) (i : ℕ) → i < length l → get_or l i 0 ≡ x → is_in x l ≡ true
unfolding is_in
in_at x [] i h e = absurd (omega arith)
in_at x (y ∷ l) zero h e = rw (eq-eqb y x e)
in_at x (y ∷ l) (suc i) h e = split_b (eqb y x) (λ p. rw p) (λ p. rw p (in_at x l i (omega arith) e))

commands_long : length (take 229 all_pairs) ≡ 229
commands_long = length-take-le 229 all_pairs (omega (arith, pairs_count))

-- the code's loop: found, or still to come
pub record Pairing (w : ℕ) (found : Bool) (i : ℕ) : Type 0 where
  pub within : i ≤ 229
  pub same : cond found true (is_in w (drop i (take 229 all_pairs))) ≡ is_pair w

pub pairing_start : (w : ℕ) → Pairing w false 0
unfolding is_pair
pairing_start w = record { within = omega arith; same = refl }

pub pairs_there : (ps : List ℕ) → ps ≡ all_pairs → 229 ≡ length (take 229 ps)
pairs_there ps t = rw t (sym commands_long)

module _ (w : ℕ) (found : Bool) (i : ℕ) (p : Pairing w found i) (ps ws : List ℕ) (t : ps ≡ all_pairs) (v : ws ≡ take 229 ps) where
  same_pairs : ws ≡ take 229 all_pairs
  same_pairs = rw t at v

  pub pairing_turn : i < length ws → Pairing w (found || eqb (get_or ws i 0) w) (i + 1)
  unfolding is_in
  pairing_turn h =
      let g : i < length (take 229 all_pairs) = rw same_pairs at h in
      let here : drop i (take 229 all_pairs) ≡ get_or ws i 0 ∷ drop (i + 1) (take 229 all_pairs) = rw (same_pairs, add-one i, drop-cons (take 229 all_pairs) i 0 g) in
      record {
        within = omega (arith, commands_long);
        same = met found (eqb (get_or ws i 0) w) (is_in w (drop (i + 1) (take 229 all_pairs))) ∙ rw here at p.same;
      }
    where
      met : (f b r : Bool) → cond (f || b) true r ≡ cond f true (cond b true r)
      met true b r = refl
      met false b r = refl

  pub pairing_end : length ws ≤ i → found ≡ is_pair w
  unfolding is_in
  pairing_end h =
      sym (last found)
      ∙ rw (drop_of_length-le (take 229 all_pairs) (let g : length (take 229 all_pairs) ≤ i = rw same_pairs at h in g)) at p.same
    where
      last : (f : Bool) → cond f true false ≡ f
      last true = refl
      last false = refl

-- ---- a stem at a time

command_pair : (i : ℕ) → i < 229 → Below 59 (get_or all_pairs i 0)
command_pair i h =
    rw (get_or-take 229 all_pairs i 0 h) at (below_at 59 (take 229 all_pairs) i commands_below (omega (arith, commands_long)))

first_most : (test : List ℕ → Bool) (ls : List (List ℕ)) → first_of test ls ≤ length ls
first_most test [] = omega arith
first_most test (l ∷ ls) = split_b (test l) (λ q. rw q (omega arith)) (λ q. rw q (omega (arith, first_most test ls)))

ending_most : (l : List ℕ) → ending_in l ≤ 36
unfolding ending_in
ending_most l = omega (arith, first_most (λ (e : List ℕ). eq_k e l) endings, endings_count)

-- the ending that is left, where a command has it
ending_is : (l : List ℕ) → ending_in l < 36 → part_at (ending_in l) ≡ l
unfolding ending_in
ending_is l h = part_ending (ending_in l) h ∙ first_is l endings (omega (arith, endings_count))

ending_of_law : (e : ℕ) → e < 36 → ending_in (part_at e) ≡ e
unfolding ending_in
ending_of_law e h = rw (part_ending e h) (first_at endings e endings_distinct (omega (arith, endings_count)))

module _ (s : ℕ) (n : List ℕ) where
  left : List ℕ
  left = drop (length (part_at s)) n

  joins_here : (i e : ℕ) → i < 229 → e < 256 → get_or all_pairs i 0 ≡ 256 * s + e → part_at s ++ part_at e ≡ name_at i
  joins_here i e h g p =
      let q : get_or all_pairs i 0 / 256 ≡ s = omega arith in
      let r : get_or all_pairs i 0 % 256 ≡ e = omega arith in
      rw (q, r) at (name_joins i (omega arith))

  named_yes : named_from s n ≡ true → is_command_name n ≡ true
  unfolding named_from is_pair left
  named_yes e =
      split_b (begins (part_at s) n)
      (λ b. in_some (256 * s + ending_in left) (take 229 all_pairs) (rw b at e) (λ i h p. found b i (omega (arith, commands_long)) p))
      (λ b. no_way e (rw b))
    where
      found : begins (part_at s) n ≡ true → (i : ℕ) → i < 229 → get_or (take 229 all_pairs) i 0 ≡ 256 * s + ending_in left → is_command_name n ≡ true
      found b i h p =
          let q : get_or all_pairs i 0 ≡ 256 * s + ending_in left = sym (get_or-take 229 all_pairs i 0 h) ∙ p in
          let k : ending_in left < 36 = omega (arith, ending_most left, (command_pair i h).ending) in
          command_yes n i h
          (sym (joins_here i (ending_in left) h (omega arith) q)
          ∙ ap (λ (l : List ℕ). part_at s ++ l) (ending_is left k)
          ∙ begins_joins (part_at s) n b)

  named_no : (i : ℕ) → named_from s n ≡ false → i < 229 → get_or all_pairs i 0 / 256 ≡ s → name_at i ≡ n → ⊥
  unfolding named_from is_pair left
  named_no i f h p q =
      let k : get_or all_pairs i 0 % 256 < 36 = (command_pair i h).ending in
      let w : get_or all_pairs i 0 ≡ 256 * s + get_or all_pairs i 0 % 256 = omega arith in
      let j : part_at s ++ part_at (get_or all_pairs i 0 % 256) ≡ n = joins_here i (get_or all_pairs i 0 % 256) h (omega arith) w ∙ q in
      let b : begins (part_at s) n ≡ true = rw j at (joined_begins (part_at s) (part_at (get_or all_pairs i 0 % 256))) in
      let r : left ≡ part_at (get_or all_pairs i 0 % 256) = rw j at (drop-append_seam (part_at s) (part_at (get_or all_pairs i 0 % 256))) in
      let x : ending_in left ≡ get_or all_pairs i 0 % 256 = rw r (ending_of_law (get_or all_pairs i 0 % 256) k) in
      let z : is_in (256 * s + ending_in left) (take 229 all_pairs) ≡ false = rw b at f in
      no_way
      (in_at (256 * s + ending_in left) (take 229 all_pairs) i (omega (arith, commands_long)) (get_or-take 229 all_pairs i 0 h ∙ w ∙ ap (λ (m : ℕ). 256 * s + m) (sym x)))
      z

-- no command has no ending
no_ending : (s : ℕ) → is_pair (256 * s + 36) ≡ false
unfolding is_pair
no_ending s =
    split_b (is_in (256 * s + 36) (take 229 all_pairs))
    (λ e. in_some (256 * s + 36) (take 229 all_pairs) e
    (λ i h p.
    let g : i < 229 = omega (arith, commands_long) in
    absurd (omega (arith, get_or-take 229 all_pairs i 0 g, (command_pair i g).ending))))
    (λ e. e)

-- as the code finds it
module _ (s : ℕ) (n : List ℕ) where
  pub named_some : (m : Bor (List ℕ)) → RestIs s n (Some m) → (e : ℕ) → EndingIs m.now (Some e) → (b : Bool) → b ≡ is_pair (256 * s + e) → b ≡ named_from s n
  unfolding named_from
  named_some m h e k b z =
      let f : e ≡ ending_in (drop (length (part_at s)) n) = k.is.0 ∙ ap ending_in h.is.1 in
      rw (h.is.0, ← f) z

  pub named_endless : (m : Bor (List ℕ)) → RestIs s n (Some m) → EndingIs m.now None → false ≡ named_from s n
  unfolding named_from
  named_endless m h k =
      let f : ending_in (drop (length (part_at s)) n) ≡ 36 = ap ending_in (sym h.is.1) ∙ k.is in
      rw (h.is.0, f) (sym (no_ending s))

  pub named_none : RestIs s n None → false ≡ named_from s n
  unfolding named_from
  named_none h = rw h.is

-- the code's loop: no command with a stem before this one has the name
pub record Trying (n : List ℕ) (s : ℕ) : Type 0 where
  pub after : 36 ≤ s
  pub within : s ≤ 59
  pub none : (i : ℕ) → i < 229 → get_or all_pairs i 0 / 256 < s → name_at i ≡ n → ⊥

pub trying_start : (n : List ℕ) → Trying n 36
trying_start n = record { after = omega arith; within = omega arith; none = λ i h g e. omega (arith, (command_pair i h).least) }

module _ (n : List ℕ) (s : ℕ) (t : Trying n s) (b : Bool) (e : b ≡ named_from s n) (h : s < 59) where
  pub trying_yes : b ≡ true → true ≡ is_command_name n
  trying_yes q = sym (named_yes s n (sym e ∙ q))

  pub trying_turn : b ≡ false → Trying n (s + 1)
  trying_turn q = record {
    after = omega (arith, t.after);
    within = omega arith;
    none = λ i g l f. split≡ (get_or all_pairs i 0 / 256) s (λ p. named_no s n i (sym e ∙ q) g p f) (λ p. t.none i g (omega arith) f);
  }

pub trying_end : (n : List ℕ) (s : ℕ) → Trying n s → 59 ≤ s → false ≡ is_command_name n
trying_end n s t h = sym (command_no n (λ i g f. t.none i g (omega (arith, (command_pair i g).stem)) f))
