-- Laws of specs/Entries: the item that is read at a place, and a turn of a walk.
use Rattle.std.specs.Prelude.{Option, Some, Result, Ok, Err}
use Rattle.std.specs.Bool.{then_some}
use Rattle.std.specs.List.{IsSplitAt}
use Prim.Native.Nat.{ℕ, ◌+◌, ◌-◌, ◌<◌, ◌≤◌}
use mathlib.Core.Path.{◌≡◌, refl, sym, ap, ◌∙◌, subst}
use mathlib.Core.Bool.{Bool, true, false, ◌||◌}
use mathlib.Core.List.{List, ◌∷◌, map}
use native.Mathlib.Omega.{arith}
use lib.Dec.{leb, eqb}
use lib.ListN.{length, take, drop, length-drop}
use lib.Seq.{drop-drop, get_or-take, length-take-le, take_all}
use borrow.Author.Tests.{leb-true, le-leb, lt-leb, eqb-true}
use Rattle.laws.proofs.Choice.{split_b, no_way}
use Rattle.laws.specs.Numbers.{le16, le32, le64}
use Rattle.items.specs.Items.{Span, span, rx_of, Item, item_at, end_at, Test, is_item, ill_formed, span_test, span_of}
use Rattle.items.specs.Reading.{read_from}
use Rattle.items.proofs.Reading.{read_bad, le16_drop, le32_drop}
use Rattle.items.specs.Walks.{direction_of, test_of, items_from, spans_from, Walks}
use Rattle.items.proofs.Walks.{end_past, end_is, good_fits, good_passes, walks_turn, walks_back, ill_back}
use Rattle.items.specs.Entries.{item_of, span_of_part, ReadAt, Stands, EntryIs, GaveEntry, GaveIll, GivesEntry, Over}
use Rattle.items.specs.declared.Listing.{Listing}
use Rattle.items.specs.declared.Direction.{Direction}
use Rattle.items.specs.declared.SpanPart.{SpanPart}
use Rattle.items.specs.declared.walking.Entry.{Entry}
use Rattle.items.specs.declared.walking.Walk.{Walk}

-- ---- an item that is a span

pub test_long : (body : List ℕ) (kind : ℕ) → span_test kind body ≡ true → 8 ≤ length body
unfolding span_test
test_long body kind e = split_b (leb 8 (length body)) (λ h. leb-true 8 (length body) h) (λ h. no_way e (rw h))

test_rx : (body : List ℕ) (kind : ℕ) → span_test kind body ≡ true → rx_of (direction_of kind) ≡ 2 - kind
unfolding span_test direction_of rx_of
test_rx body kind e =
    let f : (eqb kind 1 || eqb kind 2) ≡ true = rw (le-leb 8 (length body) (test_long body kind e)) at e in
    split_b (eqb kind 1)
    (λ g. rw (g, eqb-true kind 1 g))
    (λ g. let k : kind ≡ 2 = eqb-true kind 2 (rw g at f) in rw k)

pub span_read : (e : Entry) (d : Direction) (ms : ℕ) (wire : List ℕ) → span_test e.kind e.body.now ≡ true → d ≡ direction_of e.kind → ms ≡ le64 e.body.now 0 → wire ≡ drop 8 e.body.now
    → span (rx_of d) ms wire ≡ span_of (item_of e)
unfolding span_of
span_read e d ms wire t p m w = rw (p, m, w, test_rx e.body.now e.kind t)

-- ---- the item at a place

pub read_at : (l : List ℕ) (at : ℕ) (e : Entry) → e.at ≡ at → e.kind ≡ le16 l (at + 4) → e.body.now ≡ take (le32 l at) (drop (at + 6) l) → end_at l at ≤ length l → ReadAt l at e
unfolding item_at end_at
read_at l at e p k b h = record {
  place = p;
  item = rw (k, b);
  end = rw b (omega (arith, length-take-le (le32 l at) (drop (at + 6) l) (omega (arith, length-drop (at + 6) l))));
}

-- a body whose length was read, as a part of the list
pub part_size : (l : List ℕ) (at size : ℕ) → size ≡ le32 l at → take (at + 6 + size - (at + 6)) (drop (at + 6) l) ≡ take (le32 l at) (drop (at + 6) l)
part_size l at size e = let z : at + 6 + size - (at + 6) ≡ size = omega arith in rw (z, e)

le16_take : (l : List ℕ) (n i : ℕ) → i + 2 ≤ n → le16 (take n l) i ≡ le16 l i
unfolding le16
le16_take l n i h = rw (get_or-take n l i 0 (omega arith), get_or-take n l (i + 1) 0 (omega arith))

le32_take : (l : List ℕ) (n i : ℕ) → i + 4 ≤ n → le32 (take n l) i ≡ le32 l i
unfolding le32
le32_take l n i h = rw (get_or-take n l i 0 (omega arith), get_or-take n l (i + 1) 0 (omega arith), get_or-take n l (i + 2) 0 (omega arith), get_or-take n l (i + 3) 0 (omega arith))

not_item : (ok : Test) (l : List ℕ) (at : ℕ) → length l < end_at l at → is_item ok l at ≡ false
unfolding is_item
not_item ok l at h = rw (lt-leb (end_at l at) (length l) h)

pub part_from : (l : List ℕ) (n : ℕ) → take (length l - n) (drop n l) ≡ drop n l
part_from l n = take_all (length l - n) (drop n l) (omega (arith, length-drop n l))

module _ (ok : Test) (l : List ℕ) (at : ℕ) (h : at ≤ length l) where
  pub entry_short : length (take (length l - at) (drop at l)) < 6 → is_item ok l at ≡ false
  entry_short g = not_item ok l at (omega (arith, end_past l at, ap length (part_from l at), length-drop at l))

  module _ (head rest : List ℕ) (s : IsSplitAt (take (length l - at) (drop at l)) 6 head rest) where
    e : head ≡ take 6 (drop at l)
    e = rw (part_from l at) at s.1

    f : rest ≡ drop 6 (drop at l)
    f = rw (part_from l at) at s.2

    six : 6 ≤ length (drop at l)
    six = rw (part_from l at) at s.0

    head_size : le32 head 0 ≡ le32 l at
    head_size = let z : at + 0 ≡ at = omega arith in rw e (le32_take (drop at l) 6 0 (omega arith) ∙ le32_drop l at 0 ∙ rw z)

    head_kind : le16 head 4 ≡ le16 l (at + 4)
    head_kind = rw e (le16_take (drop at l) 6 4 (omega arith) ∙ le16_drop l at 4)

    rest_is : rest ≡ drop (at + 6) l
    rest_is = f ∙ drop-drop 6 at l

    pub entry_passes : (size : ℕ) → size ≡ le32 head 0 → length rest < size → is_item ok l at ≡ false
    entry_passes size s g = not_item ok l at (omega (arith, head_size, end_is l at, ap length rest_is, length-drop (at + 6) l))

    module _ (entry : Entry) (behind : List ℕ) (size : ℕ) (z : size ≡ le32 head 0) (b : IsSplitAt rest size entry.body.now behind) (p : entry.at ≡ at) (k : entry.kind ≡ le16 head 4) where
      fits : end_at l at ≤ length l
      fits = omega (arith, six, b.0, head_size, end_is l at, ap length rest_is, length-drop at l, length-drop (at + 6) l)

      pub entry_whole : (t : Bool) (r : Option Entry) → t ≡ ok entry.kind entry.body.now → r ≡ then_some t entry → EntryIs ok l at r
      unfolding is_item
      entry_whole t r q v =
          let a : ReadAt l at entry = read_at l at entry p (k ∙ head_kind) (b.1 ∙ rw (z, head_size, rest_is)) fits in
          let c : is_item ok l at ≡ t = rw (le-leb (end_at l at) (length l) fits, ← a.item) (sym q) in
          rw v (split_b t
          (λ y. rw y (record { read = a; is = c ∙ y }))
          (λ y. rw y (c ∙ y)))

-- of a list that is well-formed from there on
module _ (ok : Test) (l : List ℕ) (at : ℕ) (w : Walks ok l at) (h : at < length l) where
  pub read_fits : end_at l at ≤ length l
  read_fits = (walks_turn ok l at w h).next.within

  module _ (e : Entry) (r : ReadAt l at e) where
    pub read_next : Walks ok l (at + 6 + length e.body.now)
    read_next = rw r.end (walks_turn ok l at w h).next

    pub read_test : ok e.kind e.body.now ≡ true
    read_test = let i = r.item in rw (ap (λ (x : Item). x.kind) i, ap (λ (x : Item). x.body) i) (walks_turn ok l at w h).passes

    pub read_more : items_from ok l at ≡ item_of e ∷ items_from ok l (at + 6 + length e.body.now)
    read_more = rw (r.end, r.item) (walks_turn ok l at w h).head

-- what is known of it, and of what is behind it
module _ (ok : Test) (l : List ℕ) (at : ℕ) (e : Entry) (s : Stands ok l at e) where
  pub stands_fits : end_at l at ≤ length l
  stands_fits = good_fits ok l at s.is

  pub stands_low : at < length l
  stands_low = omega (arith, stands_fits, end_past l at)

  pub stands_test : ok e.kind e.body.now ≡ true
  stands_test = let i = s.read.item in rw (ap (λ (x : Item). x.kind) i, ap (λ (x : Item). x.body) i) (good_passes ok l at s.is)

  pub stands_ill : (n : ℕ) → read_from ok l (end_at l at) ≡ ill_formed n → read_from ok l at ≡ ill_formed n
  stands_ill = ill_back ok l at stands_low s.is

  module _ (w : Walks ok l (end_at l at)) where
    pub stands_well : Walks ok l at
    stands_well = walks_back ok l at stands_low s.is w

    pub stands_more : items_from ok l at ≡ item_of e ∷ items_from ok l (end_at l at)
    stands_more = (walks_turn ok l at stands_well stands_low).head ∙ rw s.read.item

-- of a span
module _ (l : List ℕ) (at : ℕ) (e : Entry) (s : Stands span_test l at e) (p : SpanPart) (q : span_of_part p ≡ span_of (item_of e)) where
  pub span_ends : end_at l at ≡ at + 14 + length p.wire.now
  unfolding span_of
  span_ends =
      let z : length p.wire.now ≡ length (drop 8 e.body.now) = ap (λ (x : Span). length x.wire) q in
      omega (arith, s.read.end, z, length-drop 8 e.body.now, test_long e.body.now e.kind (stands_test span_test l at e s))

  pub span_more : Walks span_test l (end_at l at) → spans_from l at ≡ span_of_part p ∷ spans_from l (end_at l at)
  unfolding spans_from
  span_more w = rw q (ap (map span_of) (stands_more span_test l at e s w))

-- ---- a turn of a walk

module _ (w : Walk) (e : Entry) (s : Stands (test_of w.which) w.list.now w.at e) where
  pub walk_fits : w.at + 6 + length e.body.now ≤ length w.list.now
  walk_fits = rw s.read.end (stands_fits (test_of w.which) w.list.now w.at e s)

  pub walk_gave : (m : Walk) → m ≡ record { list = w.list; which = w.which; at = w.at + 6 + length e.body.now } → GaveEntry w e m
  walk_gave m g = record { stands = s; goes = g ∙ rw s.read.end }

pub walk_ill : (w m : Walk) → w.at < length w.list.now → is_item (test_of w.which) w.list.now w.at ≡ false
    → m ≡ record { list = w.list; which = w.which; at = length w.list.now } → GaveIll w w.at m
walk_ill w m h e g = record { place = refl; ill = read_bad (test_of w.which) w.list.now w.at h e; rests = g }

-- a walk over a list of one kind

module _ (l : List ℕ) (k : Listing) (w m : Walk) (o : Over l k w) where
  module _ (e : Entry) (g : GaveEntry w e m) where
    pub over_stands : Stands (test_of k) l w.at e
    over_stands = rw (o.kind, o.list) at g.stands

    pub over_at : m.at ≡ end_at l w.at
    over_at = rw o.list at (ap (λ (x : Walk). x.at) g.goes)

    pub over_on : Over l k m
    over_on = record { list = ap (λ (x : Walk). x.list.now) g.goes ∙ o.list; kind = ap (λ (x : Walk). x.which) g.goes ∙ o.kind }

  pub over_stops : (n : ℕ) → GaveIll w n m → read_from (test_of k) l w.at ≡ ill_formed w.at
  over_stops n g = rw (o.kind, o.list) at g.ill

pub over_end : (l : List ℕ) (k : Listing) (w : Walk) → Over l k w → length w.list.now ≤ w.at → length l ≤ w.at
over_end l k w o h = rw o.list at h

-- what an item of the walk is, when it was looked at
module _ (w m : Walk) (x : Result Entry ℕ) (g : GivesEntry w (Some x) m) where
  pub gave_entry : (e : Entry) → x ≡ Ok e → GaveEntry w e m
  gave_entry e q = subst (λ (y : Result Entry ℕ). GivesEntry w (Some y) m) q g

  pub gave_ill : (n : ℕ) → x ≡ Err n → GaveIll w n m
  gave_ill n q = subst (λ (y : Result Entry ℕ). GivesEntry w (Some y) m) q g
