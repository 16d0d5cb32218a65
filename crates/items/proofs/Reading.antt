-- Laws of specs/Reading.
use Prim.Native.Nat.{ℕ, zero, suc, ◌+◌, ◌-◌, ◌*◌, ◌/◌, ◌%◌, ◌<◌, ◌≤◌}
use mathlib.Core.Path.{◌≡◌, refl, ◌∙◌}
use mathlib.Core.Bool.{true, false, ◌||◌}
use mathlib.Core.List.{List, [], ◌∷◌, ◌++◌, map}
use native.Mathlib.Nat.{add-zero}
use native.Mathlib.Omega.{arith}
use lib.Dec.{eqb, lit<}
use lib.ListN.{length, drop, length-append, length-drop, drop_of_length-le}
use lib.Seq.{drop-drop, get_or-drop, drop-nil, drop_at, take_at}
use borrow.Author.Tests.{le-leb, lt-leb, eq-eqb}
use Rattle.laws.proofs.Choice.{split≤}
use Rattle.laws.specs.Lists.{All, all_nil, all_cons}
use Rattle.laws.specs.Numbers.{le, le16, le32, le64}
use Rattle.items.specs.Items.{item, Span, span_item, span_list, name_item, name_list, Item, item_at, end_at, Test, is_item, well_formed, ill_formed, more, passing, read_items, span_test, span_of, spans_in, name_test, names_in}
use Rattle.items.specs.Reading.{read_from, Fits, item_list, Spanned}

-- ---- the item at a place is that at the front of the list from there on

pub le16_drop : (l : List ℕ) (n i : ℕ) → le16 (drop n l) i ≡ le16 l (n + i)
unfolding le16
le16_drop l n i = let e : n + (i + 1) ≡ n + i + 1 = omega arith in rw (get_or-drop n l i 0, get_or-drop n l (i + 1) 0, e)

pub le32_drop : (l : List ℕ) (n i : ℕ) → le32 (drop n l) i ≡ le32 l (n + i)
unfolding le32
le32_drop l n i =
    let e : n + (i + 1) ≡ n + i + 1 = omega arith in
    let f : n + (i + 2) ≡ n + i + 2 = omega arith in
    let g : n + (i + 3) ≡ n + i + 3 = omega arith in
    rw (get_or-drop n l i 0, get_or-drop n l (i + 1) 0, get_or-drop n l (i + 2) 0, get_or-drop n l (i + 3) 0, e, f, g)

module _ (l : List ℕ) (at : ℕ) where
  size_drop : le32 (drop at l) 0 ≡ le32 l at
  size_drop = le32_drop l at 0 ∙ rw add-zero

  item_drop : item_at (drop at l) 0 ≡ item_at l at
  unfolding item_at
  item_drop = rw (le16_drop l at 4, size_drop, drop-drop 6 at l)

  end_drop : at + end_at (drop at l) 0 ≡ end_at l at
  unfolding end_at
  end_drop = rw size_drop (omega arith)

  end_past : at + 6 ≤ end_at l at
  unfolding end_at
  end_past = omega arith

  test_drop : (ok : Test) → is_item ok (drop at l) 0 ≡ is_item ok l at
  unfolding is_item
  test_drop ok =
      let e = end_drop in
      let p = end_past in
      let n = length-drop at l in
      split≤ (end_at l at) (length l)
      (λ h. rw (item_drop, le-leb (end_at (drop at l) 0) (length (drop at l)) (omega arith), le-leb (end_at l at) (length l) h))
      (λ h. rw (lt-leb (end_at (drop at l) 0) (length (drop at l)) (omega arith), lt-leb (end_at l at) (length l) h))

skipped : (ok : Test) (skip offset : ℕ) (l : List ℕ) → passing ok skip offset l ≡ passing ok 0 (offset + skip) (drop skip l)
unfolding passing
skipped ok skip offset [] = rw drop-nil
skipped ok zero offset (b ∷ bs) = rw add-zero
skipped ok (suc skip) offset (b ∷ bs) =
    let e : suc offset + skip ≡ offset + suc skip = omega arith in
    skipped ok skip (suc offset) bs ∙ rw e

front_good : (ok : Test) (offset : ℕ) (l : List ℕ) → 0 < length l → is_item ok l 0 ≡ true → passing ok 0 offset l ≡ more (item_at l 0) (passing ok 0 (offset + end_at l 0) (drop (end_at l 0) l))
unfolding passing end_at
front_good ok offset [] h e = absurd (omega arith)
front_good ok offset (b ∷ bs) h e =
    let n : 0 + 6 + le32 (b ∷ bs) 0 ≡ suc (le32 (b ∷ bs) 0 + 5) = omega arith in
    let m : offset + suc (le32 (b ∷ bs) 0 + 5) ≡ suc offset + (le32 (b ∷ bs) 0 + 5) = omega arith in
    rw (e, n, m, skipped ok (le32 (b ∷ bs) 0 + 5) (suc offset) bs)

front_bad : (ok : Test) (offset : ℕ) (l : List ℕ) → 0 < length l → is_item ok l 0 ≡ false → passing ok 0 offset l ≡ ill_formed offset
unfolding passing
front_bad ok offset [] h e = absurd (omega arith)
front_bad ok offset (b ∷ bs) h e = rw e

module _ (ok : Test) (l : List ℕ) (at : ℕ) where
  pub read_good : at < length l → is_item ok l at ≡ true → read_from ok l at ≡ more (item_at l at) (read_from ok l (end_at l at))
  unfolding read_from
  read_good h e =
      front_good ok at (drop at l) (omega (arith, length-drop at l)) (test_drop l at ok ∙ e)
      ∙ rw (item_drop l at, drop-drop (end_at (drop at l) 0) at l, end_drop l at)

  pub read_bad : at < length l → is_item ok l at ≡ false → read_from ok l at ≡ ill_formed at
  unfolding read_from
  read_bad h e = front_bad ok at (drop at l) (omega (arith, length-drop at l)) (test_drop l at ok ∙ e)

  pub read_end : length l ≤ at → read_from ok l at ≡ well_formed []
  unfolding read_from passing
  read_end h = rw (drop_of_length-le l h)

-- ---- back what was written

four_bytes : (n : ℕ) → n < 4294967296 → n % 256 + 256 * (n / 256 % 256) + 65536 * (n / 256 / 256 % 256) + 16777216 * (n / 256 / 256 / 256 % 256) ≡ n
four_bytes n h = omega arith

two_bytes : (n : ℕ) → n < 65536 → n % 256 + 256 * (n / 256 % 256) ≡ n
two_bytes n h = omega arith

module _ (kind : ℕ) (body rest : List ℕ) where
  item_long : length (item kind body ++ rest) ≡ 6 + length body + length rest
  unfolding item
  item_long = omega (arith, length-append body rest)

  module _ (small : length body < 4294967296) where
    item_size : le32 (item kind body ++ rest) 0 ≡ length body
    unfolding item le32
    item_size = four_bytes (length body) small

    item_end : end_at (item kind body ++ rest) 0 ≡ suc (suc (suc (suc (suc (suc (length body))))))
    unfolding end_at
    item_end = rw item_size (omega arith)

    item_rest : drop (end_at (item kind body ++ rest) 0) (item kind body ++ rest) ≡ rest
    unfolding item
    item_rest = rw item_end (drop_at body rest (length body) refl)

    item_back : kind < 65536 → item_at (item kind body ++ rest) 0 ≡ record { kind = kind; body = body }
    unfolding item_at item le16
    item_back h = rw (item_size, two_bytes kind h, take_at body rest (length body) refl)

    item_good : (ok : Test) → kind < 65536 → ok kind body ≡ true → is_item ok (item kind body ++ rest) 0 ≡ true
    unfolding is_item
    item_good ok h e =
        rw (le-leb (end_at (item kind body ++ rest) 0) (length (item kind body ++ rest)) (omega (arith, item_end, item_long)), item_back h) e

passing_back : (ok : Test) (xs : List Item) (offset : ℕ) → All (Fits ok) xs → length (item_list xs) < 4294967296 → passing ok 0 offset (item_list xs) ≡ well_formed xs
unfolding passing
passing_back ok [] offset a h = refl
passing_back ok (x ∷ xs) offset (all_cons f a) h =
    let n = item_long x.kind x.body (item_list xs) in
    let small : length x.body < 4294967296 = omega arith in
    let less : length (item_list xs) < 4294967296 = omega arith in
    front_good ok offset (item_list (x ∷ xs)) (omega arith) (item_good x.kind x.body (item_list xs) small ok f.kind f.passes)
    ∙ rw (item_rest x.kind x.body (item_list xs) small, item_back x.kind x.body (item_list xs) small f.kind, passing_back ok xs (offset + end_at (item_list (x ∷ xs)) 0) a less)

-- reading a list of items gives them back
pub items_back : (ok : Test) (xs : List Item) → All (Fits ok) xs → length (item_list xs) ≤ 16777216 → read_items ok (item_list xs) ≡ well_formed xs
unfolding read_items
items_back ok xs a h = rw (le-leb (length (item_list xs)) 16777216 h) (passing_back ok xs 0 a (omega arith))

as_item : Span → Item
as_item s = record { kind = 2 - s.rx; body = le 8 s.time ++ s.wire }

eight_bytes : (s : Span) → s.time < 18446744073709551616 → le64 (le 8 s.time ++ s.wire) 0 ≡ s.time
unfolding le64 le32
eight_bytes s h =
    let u : ℕ = s.time / 256 / 256 / 256 / 256 in
    let b : s.time / 256 / 256 / 256 / 256 < 4294967296 = omega arith in
    omega (arith, four_bytes (s.time / 256 / 256 / 256 / 256) b)

span_back : (s : Span) → Spanned s → span_of (as_item s) ≡ s
unfolding span_of as_item
span_back s f = let e : 2 - (2 - s.rx) ≡ s.rx = omega (arith, f.rx) in rw (eight_bytes s f.time, e)

one_or_two : (k : ℕ) → 1 ≤ k → k ≤ 2 → (eqb k 1 || eqb k 2) ≡ true
one_or_two k a b = split≤ k 1 (λ h. let e : k ≡ 1 = omega arith in rw (eq-eqb k 1 e)) (λ h. let e : k ≡ 2 = omega arith in rw e)

span_fits : (s : Span) → Spanned s → Fits span_test (as_item s)
unfolding span_test as_item
span_fits s f =
    let n : 8 ≤ length (as_item s).body = omega arith in
    record {
      kind = omega arith;
      passes = rw (le-leb 8 (length (as_item s).body) n) (one_or_two (2 - s.rx) (omega (arith, f.rx)) (omega arith));
    }

spans_as : (ss : List Span) → span_list ss ≡ item_list (map as_item ss)
unfolding span_list span_item as_item
spans_as [] = refl
spans_as (s ∷ ss) = rw (spans_as ss)

all_fit : (ss : List Span) → All Spanned ss → All (Fits span_test) (map as_item ss)
all_fit [] a = all_nil
all_fit (s ∷ ss) (all_cons f a) = all_cons (span_fits s f) (all_fit ss a)

all_back : (ss : List Span) → All Spanned ss → map span_of (map as_item ss) ≡ ss
all_back [] a = refl
all_back (s ∷ ss) (all_cons f a) = rw (span_back s f, all_back ss a)

-- reading a list of spans gives them back
pub spans_back : (ss : List Span) → All Spanned ss → length (span_list ss) ≤ 16777216 → spans_in (span_list ss) ≡ well_formed ss
unfolding spans_in
spans_back ss a h =
    let e = spans_as ss in
    rw (e, items_back span_test (map as_item ss) (all_fit ss a) (rw e at h), all_back ss a)

-- and a list of names
as_name : List ℕ → Item
as_name n = record { kind = 3; body = n }

names_as : (ns : List (List ℕ)) → name_list ns ≡ item_list (map as_name ns)
unfolding name_list name_item as_name
names_as [] = refl
names_as (n ∷ ns) = rw (names_as ns)

names_fit : (ns : List (List ℕ)) → All (Fits name_test) (map as_name ns)
unfolding name_test as_name
names_fit [] = all_nil
names_fit (n ∷ ns) = all_cons (record { kind = lit< tt; passes = refl }) (names_fit ns)

names_same : (ns : List (List ℕ)) → map (λ (x : Item). x.body) (map as_name ns) ≡ ns
unfolding as_name
names_same [] = refl
names_same (n ∷ ns) = rw (names_same ns)

pub names_back : (ns : List (List ℕ)) → length (name_list ns) ≤ 16777216 → names_in (name_list ns) ≡ well_formed ns
unfolding names_in
names_back ns h =
    let e = names_as ns in
    rw (e, items_back name_test (map as_name ns) (names_fit ns) (rw e at h), names_same ns)
