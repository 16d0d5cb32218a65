-- A name as its two parts, joined.
use Rattle.std.specs.Prelude.{Some, None}
use Rattle.std.specs.Bool.{then_some}
use denote.Bor.{Bor}
use Rattle.letters.specs.Search.{RestIs}
use mathlib.Core.Path.{◌≡◌, refl, sym, ap, ◌∙◌}
use mathlib.Core.Bool.{Bool, true, false}
use mathlib.Core.List.{List, [], ◌∷◌, ◌++◌, map, append-nil}
use Prim.Native.Nat.{ℕ, zero, suc, ◌+◌, ◌/◌, ◌%◌, ◌<◌, ◌≤◌}
use native.Mathlib.Omega.{arith}
use lib.Dec.{leb, ltb}
use lib.ListN.{length, get_or, take, drop, length-append, length-map, take-append-drop}
use lib.Seq.{take_all, take-append_seam}
use borrow.Author.Tests.{eq-eqb, leb-true, ltb-true}
use Rattle.laws.proofs.Choice.{split_b, split≤, no_way}
use Rattle.laws.proofs.Keys.{eq_k_true, eq_eq_k, ne_eq_k}
use Rattle.laws.proofs.Stores.{writes_then, writes_long}
use Rattle.laws.specs.Keys.{eq_k}
use Rattle.laws.specs.Stores.{Writes}
use Rattle.commands.specs.Numbers.{all_names, name_at}
use Rattle.letters.specs.Run.{NameLong, endings, parts, part_at, begins, joined, all_pairs, PartIs, HalvesAre}
use Rattle.letters.specs.declared.Halves.{Halves}
use Rattle.letters.proofs.Computed.{names_joined, passes, is_below, all_below, names_count}

-- ---- the parts of a name by number

no_letters : get_or parts 4 [] ≡ []
unfolding parts endings
no_letters = refl

pub pairs_count : length all_pairs ≡ 246
unfolding all_pairs
pairs_count = length-map all_names _ ∙ names_count

map_at : {A : Type 0} (f : ℕ → A) (d : A) (l : List ℕ) (i : ℕ) → i < length l → get_or (map f l) i d ≡ f (get_or l i 0)
map_at f d [] i h = absurd (omega arith)
map_at f d (x ∷ l) zero h = refl
map_at f d (x ∷ l) (suc i) h = map_at f d l i (omega arith)

pub name_joins : (i : ℕ) → i < 246 → joined (get_or all_pairs i 0) ≡ name_at i
unfolding name_at
name_joins i h = sym (map_at joined [] all_pairs i (omega (arith, pairs_count))) ∙ rw names_joined

-- what the test over a whole table says of each entry
pub record Below (hi w : ℕ) : Type 0 where
  pub least : 36 ≤ w / 256
  pub stem : w / 256 < hi
  pub ending : w % 256 < 36

passes_at : (test : ℕ → Bool) (l : List ℕ) (i : ℕ) → passes test l ≡ true → i < length l → test (get_or l i 0) ≡ true
passes_at test [] i e h = absurd (omega arith)
passes_at test (x ∷ l) zero e h = split_b (test x) (λ q. q) (λ q. no_way e (rw q))
passes_at test (x ∷ l) (suc i) e h = split_b (test x) (λ q. passes_at test l i (rw q at e) (omega arith)) (λ q. no_way e (rw q))

below_is : (hi w : ℕ) → is_below hi w ≡ true → Below hi w
below_is hi w e =
    split_b (leb 36 (w / 256))
    (λ p.
    split_b (ltb (w / 256) hi)
    (λ q. record { least = leb-true 36 (w / 256) p; stem = ltb-true (w / 256) hi q; ending = ltb-true (w % 256) 36 (rw (p, q) at e) })
    (λ q. no_way e (rw (p, q))))
    (λ p. no_way e (rw p))

pub below_at : (hi : ℕ) (l : List ℕ) (i : ℕ) → passes (is_below hi) l ≡ true → i < length l → Below hi (get_or l i 0)
below_at hi l i e h = below_is hi (get_or l i 0) (passes_at (is_below hi) l i e h)

pub pair_below : (i : ℕ) → i < 246 → Below 63 (get_or all_pairs i 0)
pair_below i h = below_at 63 all_pairs i all_below (omega (arith, pairs_count))

module _ (i : ℕ) (ws : List ℕ) (h : i < 246) (t : ws ≡ all_pairs) where
  pub pair_place : i < length ws
  pair_place = rw t (omega (arith, pairs_count))

  pub halves_are : HalvesAre i (record { stem = get_or ws i 0 / 256; ending = get_or ws i 0 % 256 })
  halves_are =
      let f : get_or ws i 0 ≡ get_or all_pairs i 0 = rw t in
      record {
        stem = omega (arith, (pair_below i h).stem);
        ending = omega (arith, (pair_below i h).ending);
        joins = rw f (name_joins i h);
      }

module _ (i : ℕ) (r : Halves) (is : HalvesAre i r) where
  long : length (name_at i) ≡ length (part_at r.stem) + length (part_at r.ending)
  long = rw (← is.joins) (length-append (part_at r.stem) (part_at r.ending))

  pub name_long : (a b : List ℕ) → PartIs r.stem a → PartIs r.ending b → NameLong i (length a + length b)
  name_long a b p q = record { is = omega (arith, long, ap length p.is, ap length q.is); small = omega (arith, p.small, q.small) }

  -- room for both, one after the other
  pub stem_room : (at n : ℕ) → at + length (name_at i) ≤ n → at + length (part_at r.stem) ≤ n
  stem_room at n h = omega (arith, long)

  pub ending_room : (d : List ℕ) (at then : ℕ) (e : List ℕ) → at + length (name_at i) ≤ length d → Writes d at (part_at r.stem) then e → then + length (part_at r.ending) ≤ length e
  ending_room d at then e h w = omega (arith, long, w.next, writes_long d at (part_at r.stem) then e w)

  -- where the ending has no letters
  pub stem_written : (d : List ℕ) (at n : ℕ) (e : List ℕ) → r.ending ≡ 4 → Writes d at (part_at r.stem) n e → Writes d at (name_at i) n e
  unfolding part_at
  stem_written d at n e h v = rw (← is.joins, h, no_letters, append-nil) v

  pub name_written : (d : List ℕ) (at then : ℕ) (e : List ℕ) (n : ℕ) (g : List ℕ) → Writes d at (part_at r.stem) then e → Writes e then (part_at r.ending) n g → Writes d at (name_at i) n g
  name_written d at then e n g v w = rw (← is.joins) (writes_then d at (part_at r.stem) then e (part_at r.ending) n g v w)

-- ---- a name that begins with a part

begins_is : (p n : List ℕ) → begins p n ≡ eq_k p (take (length p) n)
unfolding begins eq_k
begins_is [] n = refl
begins_is (x ∷ p) [] = refl
begins_is (x ∷ p) (y ∷ n) = rw (begins_is p n)

module _ (p n : List ℕ) where
  front : begins p n ≡ true → p ≡ take (length p) n
  front e = eq_k_true p (take (length p) n) (sym (begins_is p n) ∙ e)

  begins_fits : begins p n ≡ true → length p ≤ length n
  begins_fits e =
      split≤ (length p) (length n)
      (λ h. h)
      (λ h. let g : p ≡ n = front e ∙ take_all (length p) n (omega arith) in absurd (omega (arith, ap length g)))

  -- such a name is the part and what is left of it
  pub begins_joins : begins p n ≡ true → p ++ drop (length p) n ≡ n
  begins_joins e = ap (λ (l : List ℕ). l ++ drop (length p) n) (front e) ∙ take-append-drop (length p) n

  -- a shorter one does not begin with it
  pub begins_short : length n < length p → begins p n ≡ false
  begins_short h = split_b (begins p n) (λ e. absurd (omega (arith, begins_fits e))) (λ e. e)

-- as the code has it
module _ (p : ℕ) (l : List ℕ) (q : PartIs p l) (n : List ℕ) where
  pub rest_short : length n < length l → RestIs p n None
  rest_short h = record { is = rw (← q.is) (begins_short l n h) }

  pub rest_by : (b : Bool) (f r : Bor (List ℕ)) → b ≡ eq_k l f.now → f.now ≡ take (length l) n → r.now ≡ drop (length l) n → RestIs p n (then_some b r)
  rest_by true f r e t d =
      let g : true ≡ eq_k l (take (length l) n) = rw t at e in record { is = (rw (← q.is) (begins_is l n ∙ sym g), rw (← q.is) d) }
  rest_by false f r e t d = let g : false ≡ eq_k l (take (length l) n) = rw t at e in record { is = rw (← q.is) (begins_is l n ∙ sym g) }

pub joined_begins : (p q : List ℕ) → begins p (p ++ q) ≡ true
joined_begins p q = begins_is p (p ++ q) ∙ eq_eq_k p (take (length p) (p ++ q)) (sym (take-append_seam p q))

eq_k_append : (p a b : List ℕ) → eq_k (p ++ a) (p ++ b) ≡ eq_k a b
unfolding eq_k
eq_k_append [] a b = refl
eq_k_append (x ∷ p) a b = rw (eq-eqb x x refl) (eq_k_append p a b)

-- a name of another length is another
pub name_unlike : (i k : ℕ) (n : List ℕ) → NameLong i k → (length n ≡ k → ⊥) → false ≡ eq_k (name_at i) n
name_unlike i k n l d = sym (ne_eq_k (name_at i) n (λ e. d (rw l.is (ap length (sym e)))))

module _ (i : ℕ) (r : Halves) (is : HalvesAre i r) (n : List ℕ) where
  pub name_same : (m : Bor (List ℕ)) → RestIs r.stem n (Some m) → (l : List ℕ) → PartIs r.ending l → (b : Bool) → b ≡ eq_k l m.now → b ≡ eq_k (name_at i) n
  name_same m h l q b e =
      rw (q.is, h.is.1) at e
      ∙ sym (eq_k_append (part_at r.stem) (part_at r.ending) (drop (length (part_at r.stem)) n))
      ∙ ap (λ (k : List ℕ). eq_k (part_at r.stem ++ part_at r.ending) k) (begins_joins (part_at r.stem) n h.is.0)
      ∙ ap (λ (k : List ℕ). eq_k k n) is.joins

  pub name_other : RestIs r.stem n None → false ≡ eq_k (name_at i) n
  name_other h =
      sym (ne_eq_k (name_at i) n (λ e. no_way (rw (is.joins ∙ e) at (joined_begins (part_at r.stem) (part_at r.ending))) h.is))
