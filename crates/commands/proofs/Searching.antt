-- Searching a table's codes, and the number of the name that is found.
use Rattle.std.specs.Prelude.{Option, Some, None, Result, Ok, Err}
use Rattle.std.specs.Ordering.{nat_cmp}
use Rattle.std.specs.List.Sorted.{IsBinarySearchResult}
use Rattle.std.proofs.lemmas.List.Sorted.{searched}
use mathlib.Core.Path.{◌≡◌, refl, sym, ◌∙◌}
use mathlib.Core.Bool.{Bool, true, false, cond}
use mathlib.Core.List.{List, [], ◌∷◌, ◌++◌, map}
use Prim.Native.Nat.{ℕ, zero, suc, ◌+◌, ◌-◌, ◌<◌, ◌≤◌}
use native.Mathlib.Omega.{arith}
use lib.Dec.{ltb, eqb, lit<, lit≤}
use lib.ListN.{length, get_or, take, drop, get_or-append, length-drop}
use lib.Seq.{get_or-append-add, length-take-le}
use borrow.Author.Tests.{ltb-true, eq-eqb, ne_eqb, lt-ltb, le-ltb}
use Rattle.laws.proofs.Choice.{split_b, split≡, split≤, no_way}
use Rattle.mdr.specs.declared.DataType.TheVariants.{Unknown}
use Rattle.mdr.specs.Types.{kinds}
use Rattle.commands.specs.Text.{ascii}
use Rattle.commands.specs.Commands.{Entry, t1, t2, name_in}
use Rattle.commands.specs.Labels.{type_name, table_of, command_name}
use Rattle.commands.specs.Numbers.{codes_of, names_of, all_codes, commands, others, all_names, name_at, Spot, rising, index_in, spot_in, SpotIn, entries_of}
use Rattle.mdr.specs.declared.Frame.{Frame}
use Rattle.commands.specs.declared.Table.{Table}

-- ---- a list that passes the test rises everywhere

rising_rest : (x : ℕ) (l : List ℕ) → rising (x ∷ l) ≡ true → rising l ≡ true
rising_rest x [] e = refl
rising_rest x (y ∷ l) e = split_b (ltb x y) (λ q. rw q at e) (λ q. no_way e (rw q))

rising_next : (x y : ℕ) (l : List ℕ) → rising (x ∷ y ∷ l) ≡ true → x < y
rising_next x y l e = split_b (ltb x y) (λ q. ltb-true x y q) (λ q. no_way e (rw q))

rising_from : (x : ℕ) (l : List ℕ) (j : ℕ) → rising (x ∷ l) ≡ true → j < length l → x < get_or l j 0
rising_from x [] j e h = absurd (omega arith)
rising_from x (y ∷ l) zero e h = rising_next x y l e
rising_from x (y ∷ l) (suc j) e h = omega (arith, rising_next x y l e, rising_from y l j (rising_rest x (y ∷ l) e) (omega arith))

rises : (l : List ℕ) (i j : ℕ) → rising l ≡ true → i < j → j < length l → get_or l i 0 < get_or l j 0
rises [] i j e h g = absurd (omega arith)
rises (x ∷ l) i zero e h g = absurd (omega arith)
rises (x ∷ l) zero (suc j) e h g = rising_from x l j e (omega arith)
rises (x ∷ l) (suc i) (suc j) e h g = rises l i j (rising_rest x l e) (omega arith) (omega arith)

-- ---- the first place of a number

index_found : (b : ℕ) (l : List ℕ) (i : ℕ) → i < length l → ((k : ℕ) → k < i → get_or l k 0 ≡ b → ⊥) → get_or l i 0 ≡ b → index_in b l ≡ i
unfolding index_in
index_found b [] i h f e = absurd (omega arith)
index_found b (x ∷ l) zero h f e = rw (eq-eqb x b e)
index_found b (x ∷ l) (suc i) h f e =
    rw (ne_eqb x b (f 0 (omega arith)), index_found b l i (omega arith) (λ k g. f (suc k) (omega arith)) e)

index_none : (b : ℕ) (l : List ℕ) → ((k : ℕ) → k < length l → get_or l k 0 ≡ b → ⊥) → index_in b l ≡ length l
unfolding index_in
index_none b [] f = refl
index_none b (x ∷ l) f = rw (ne_eqb x b (f 0 (omega arith)), index_none b l (λ k g. f (suc k) (omega arith)))

-- ---- the name that a code has

name_found : (es : List Entry) (b : ℕ) → index_in b (codes_of es) < length es → name_in es b ≡ get_or (names_of es) (index_in b (codes_of es)) []
unfolding name_in index_in
name_found [] b h = absurd (omega arith)
name_found (e ∷ es) b h =
    split_b (eqb e.code b)
    (λ q. rw q)
    (λ q. rw q (name_found es b (let g : suc (index_in b (codes_of es)) < suc (length es) = rw q at h in omega arith)))

name_none : (es : List Entry) (b : ℕ) → length es ≤ index_in b (codes_of es) → name_in es b ≡ ascii "UNKNOWN"
unfolding name_in index_in
name_none [] b h = refl
name_none (e ∷ es) b h =
    split_b (eqb e.code b)
    (λ q. let g : suc (length es) ≤ 0 = rw q at h in absurd (omega arith))
    (λ q. rw q (name_none es b (let g : suc (length es) ≤ suc (index_in b (codes_of es)) = rw q at h in omega arith)))

-- ---- names that stand in the run by themselves

pub unknown_spot : Spot 244 (ascii "UNKNOWN")
unfolding name_at all_names commands others type_name t1 t2
unknown_spot = record { within = lit< tt; is = refl }

pub empty_spot : Spot 245 (ascii "NO_COMMAND")
unfolding name_at all_names commands others type_name t1 t2
empty_spot = record { within = lit< tt; is = refl }

pub codes_count : length all_codes ≡ 229
unfolding all_codes t1 t2
codes_count = refl

pub commands_count : length commands ≡ 229
unfolding commands t1 t2
commands_count = refl

map_at : {A : Type 0} (f : A → List ℕ) (l : List A) (d : A) (k : ℕ) → k < length l → get_or (map f l) k [] ≡ f (get_or l k d)
map_at f [] d k h = absurd (omega arith)
map_at f (x ∷ l) d zero h = refl
map_at f (x ∷ l) d (suc k) h = map_at f l d k (omega arith)

-- the names of the types, in their order
pub type_spot : (k : ℕ) → k < 15 → Spot (229 + k) (type_name (get_or kinds k (Unknown 0)))
unfolding name_at all_names others
type_spot k h = record {
  within = omega arith;
  is =
      rw (← commands_count)
      (get_or-append-add commands (map type_name kinds ++ (ascii "UNKNOWN" ∷ ascii "NO_COMMAND" ∷ [])) k []
      ∙ get_or-append (map type_name kinds) (ascii "UNKNOWN" ∷ ascii "NO_COMMAND" ∷ []) [] k h
      ∙ map_at type_name kinds (Unknown 0) k h);
}

-- ---- a table that stands in the run from a place on

module _ (es : List Entry) (first : ℕ) (cs : take (length es) (drop first all_codes) ≡ codes_of es) (ns : (i : ℕ) → i < length es → name_at (first + i) ≡ get_or (names_of es) i []) (fits : first + length es ≤ 229) where
  spot_in_law : (b : ℕ) → Spot (spot_in first (length es) b) (name_in es b)
  unfolding spot_in
  spot_in_law b =
      split≤ (length es) (index_in b (codes_of es))
      (λ h. rw (cs, le-ltb (index_in b (codes_of es)) (length es) h, name_none es b h) unknown_spot)
      (λ h. rw (cs, lt-ltb (index_in b (codes_of es)) (length es) h) (record { within = omega arith; is = ns (index_in b (codes_of es)) h ∙ sym (name_found es b h) }))

names1_count : length (names_of t1) ≡ 152
unfolding t1
names1_count = refl

pub command_at : (i : ℕ) → i < 229 → name_at i ≡ get_or commands i []
unfolding name_at all_names
command_at i h = get_or-append commands others [] i (omega (arith, commands_count))

names1 : (i : ℕ) → i < 152 → name_at (0 + i) ≡ get_or (names_of t1) i []
unfolding commands
names1 i h = let e : 0 + i ≡ i = omega arith in rw e (command_at i (omega arith) ∙ get_or-append (names_of t1) (names_of t2) [] i (omega (arith, names1_count)))

names2 : (i : ℕ) → i < 77 → name_at (152 + i) ≡ get_or (names_of t2) i []
unfolding commands
names2 i h = command_at (152 + i) (omega arith) ∙ rw (← names1_count) (get_or-append-add (names_of t1) (names_of t2) i [])

codes1 : take 152 (drop 0 all_codes) ≡ codes_of t1
unfolding all_codes t1 t2
codes1 = refl

codes2 : take 77 (drop 152 all_codes) ≡ codes_of t2
unfolding all_codes t1 t2
codes2 = refl

module _ (b r : ℕ) where
  pub spot1 : r ≡ spot_in 0 152 b → Spot r (name_in t1 b)
  unfolding t1
  spot1 e = rw e (spot_in_law t1 0 codes1 names1 (lit≤ tt) b)

  pub spot2 : r ≡ spot_in 152 77 b → Spot r (name_in t2 b)
  unfolding t2
  spot2 e = rw e (spot_in_law t2 152 codes2 names2 (lit≤ tt) b)

pub rising1 : rising (take 152 (drop 0 all_codes)) ≡ true
unfolding all_codes t1 t2
rising1 = refl

pub rising2 : rising (take 77 (drop 152 all_codes)) ≡ true
unfolding all_codes t1 t2
rising2 = refl

-- ---- the part of the codes that the code looks at

module _ (all : List ℕ) (first count : ℕ) (q : all ≡ all_codes) where
  part : take (first + count - first) (drop first all) ≡ take count (drop first all_codes)
  part = let e : first + count - first ≡ count = omega arith in rw (e, q)

  pub part_rises : rising (take count (drop first all_codes)) ≡ true → rising (take (first + count - first) (drop first all)) ≡ true
  part_rises r = rw part r

  pub spot_found : (b i : ℕ) → i ≡ index_in b (take (first + count - first) (drop first all)) → i < count → first + i ≡ spot_in first count b
  unfolding spot_in
  spot_found b i e h = let f : i ≡ index_in b (take count (drop first all_codes)) = rw part at e in rw (← f, lt-ltb i count h)

  pub spot_none : (b i : ℕ) → i ≡ index_in b (take (first + count - first) (drop first all)) → count ≤ i → 244 ≡ spot_in first count b
  unfolding spot_in
  spot_none b i e h = let f : i ≡ index_in b (take count (drop first all_codes)) = rw part at e in rw (← f, le-ltb i count h)

up : (l : List ℕ) (i j : ℕ) → rising l ≡ true → i ≤ j → j < length l → get_or l i 0 ≤ get_or l j 0
up l i j r h g = split≡ i j (λ e. rw e (omega arith)) (λ n. omega (arith, rises l i j r (omega arith) g))

-- what a binary search of that part says
module _ (all : List ℕ) (first count : ℕ) (q : all ≡ all_codes) (room : first + count ≤ 229) (r : rising (take count (drop first all_codes)) ≡ true) where
  pub part_fits : first + count ≤ length all
  part_fits = rw q (omega (arith, codes_count))

  codes : List ℕ
  codes = take (first + count - first) (drop first all)

  codes_rise : rising codes ≡ true
  unfolding codes
  codes_rise = part_rises all first count q r

  codes_long : length codes ≡ count
  unfolding codes
  codes_long = length-take-le (first + count - first) (drop first all) (omega (arith, length-drop first all, part_fits)) ∙ omega arith

  module _ (b : ℕ) (o : Result ℕ ℕ) (s : IsBinarySearchResult (λ y. nat_cmp y b) (take (first + count - first) (drop first all)) o) where
    pub spot_some : (i : ℕ) → o ≡ Ok i → SpotIn first count b (Some (first + i))
    unfolding codes
    spot_some i e =
        let t = rw e at (searched codes b o s (λ i j. up codes i j codes_rise)) in
        let f : i ≡ index_in b codes = sym (index_found b codes i t.0 (λ k g z. omega (arith, rises codes k i codes_rise g t.0, t.1)) t.1) in
        record { is = spot_found all first count q b i f (omega (arith, t.0, codes_long)) }

    pub spot_else : (i : ℕ) → o ≡ Err i → SpotIn first count b None
    unfolding codes
    spot_else i e =
        let t = rw e at (searched codes b o s (λ i j. up codes i j codes_rise)) in
        let f : length codes ≡ index_in b codes = sym (index_none b codes (λ k g z. split≤ i k (λ h. omega (arith, t.2 k h g)) (λ h. omega (arith, t.1 k h)))) in
        record { is = spot_none all first count q b (length codes) f (omega (arith, codes_long)) }

-- ---- the name of a command

module _ (f : Frame) where
  pub command_none : f.size ≡ 0 → Spot 245 (command_name f)
  unfolding command_name
  command_none h = rw (eq-eqb f.size 0 h) empty_spot

  pub command_some : (t : Option Table) (r : ℕ) → (f.size ≡ 0 → ⊥) → entries_of t ≡ table_of f.kind → Spot r (name_in (entries_of t) f.first) → Spot r (command_name f)
  unfolding command_name
  command_some t r h e s = rw (ne_eqb f.size 0 h) (rw e at s)
