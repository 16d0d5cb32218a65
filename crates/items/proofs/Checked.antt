-- Laws of specs/Checked: what a turn of a checked list gives, and that it ends.
use Rattle.std.specs.Prelude.{Some, Result, Ok, Err}
use Rattle.std.specs.Borrow.{Bor}
use Rattle.std.specs.Iterator.{MakesProgress, item_count}
use Prim.Native.Nat.{ℕ, ◌+◌, ◌<◌, ◌≤◌}
use mathlib.Core.Path.{◌≡◌, ap}
use mathlib.Core.List.{List, [], map}
use native.Mathlib.Omega.{arith}
use lib.ListN.{length, drop, length-drop}
use Rattle.items.specs.Items.{Span, Item, ill_formed, span_test, span_of, name_test, read_items, names_in}
use Rattle.items.specs.Walks.{spans_from, names_from, Walks, Good, check_of}
use Rattle.items.proofs.Walks.{spans_end, names_end, checked_good, checked_ill, names_in_law, names_ill}
use Rattle.items.specs.Entries.{item_of, span_of_part, ReadAt}
use Rattle.items.proofs.Entries.{read_more, read_test, test_long}
use Rattle.items.specs.declared.SpanPart.{SpanPart}
use Rattle.items.specs.declared.walking.Entry.{Entry}
use Rattle.items.specs.declared.lists.Spans.{Spans}
use Rattle.items.specs.declared.lists.Names.{Names}
use Rattle.items.specs.Checked.{spans_left, GaveSpan, names_left, GaveName, CheckedWell}

-- ---- spans

pub spans_none : (l : Spans) → length l.list.now ≤ l.at → spans_left l ≡ []
spans_none l h = spans_end l.list.now l.at l.walks h

pub span_gave : (l : Spans) (e : Entry) (s : SpanPart) (m : Spans) → l.at < length l.list.now → ReadAt l.list.now l.at e → span_of_part s ≡ span_of (item_of e)
    → m.list ≡ l.list → m.at ≡ l.at + 6 + length e.body.now → GaveSpan l s m
unfolding spans_from span_of
span_gave l e s m h r p q n = record {
  head = rw (q, n, p) (ap (map span_of) (read_more span_test l.list.now l.at l.walks h e r));
  list = q;
  next =
      let z : length s.wire.now ≡ length (drop 8 e.body.now) = ap (λ (x : Span). length x.wire) p in
      omega (arith, n, z, length-drop 8 e.body.now, test_long e.body.now e.kind (read_test span_test l.list.now l.at l.walks h e r));
}

pub span_goes : (l : Spans) (s : SpanPart) (m : Spans) → GaveSpan l s m → MakesProgress (λ _. Unit {0}) (item_count spans_left) l (Some s) m
span_goes l s m g = record { on = λ _. (tt, tt, omega (arith, ap length g.head)); keeps = tt; rests = λ _. tt }

-- ---- names

pub names_none : (l : Names) → length l.list.now ≤ l.at → names_left l ≡ []
names_none l h = names_end l.list.now l.at l.walks h

pub name_gave : (l : Names) (e : Entry) (m : Names) → l.at < length l.list.now → ReadAt l.list.now l.at e → m.list ≡ l.list → m.at ≡ l.at + 6 + length e.body.now → GaveName l e.body m
unfolding names_from
name_gave l e m h r q n = record {
  head = rw (q, n) (ap (map (λ (x : Item). x.body)) (read_more name_test l.list.now l.at l.walks h e r));
  list = q;
  next = n;
}

pub name_goes : (l : Names) (n : Bor (List ℕ)) (m : Names) → GaveName l n m → MakesProgress (λ _. Unit {0}) (item_count names_left) l (Some n) m
name_goes l n m g = record { on = λ _. (tt, tt, omega (arith, ap length g.head)); keeps = tt; rests = λ _. tt }

-- ---- what a check says

module _ (l : Bor (List ℕ)) (r : Result ℕ ℕ) (n : ℕ) (c : r ≡ check_of (read_items name_test l.now)) where
  pub names_refused : r ≡ Err n → names_in l.now ≡ ill_formed n
  names_refused e = names_ill l.now n (checked_ill name_test l.now r n c e)

  module _ (e : r ≡ Ok n) where
    good : Good name_test l.now n
    good = checked_good name_test l.now r n c e

    pub names_walk : Walks name_test l.now 0
    names_walk = good.walks

    pub names_well : (ns : Names) → ns.list ≡ l → ns.at ≡ 0 → CheckedWell l ns
    names_well ns p q = record { list = p; start = q; small = good.small; reads = rw (p, q) (names_in_law l.now n good) }
