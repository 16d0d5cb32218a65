-- The items of a list as they are read: where each stands, and what a walk over a list that is not checked gives.
use Rattle.std.specs.Prelude.{Option, Some, None, Result, Ok, Err, ℕ, ◌+◌, ◌<◌, ◌≤◌, ◌≡◌, true, false, List, length}
use Rattle.items.specs.Items.{Span, span, rx_of, Item, item_at, end_at, Test, is_item, ill_formed}
use Rattle.items.specs.Reading.{read_from}
use Rattle.items.specs.Walks.{test_of}
use Rattle.items.specs.declared.Listing.{Listing}
use Rattle.items.specs.declared.SpanPart.{SpanPart}
use Rattle.items.specs.declared.walking.Entry.{Entry}
use Rattle.items.specs.declared.walking.Walk.{Walk}

-- an item and a span as they are read
abbrev pub item_of : Entry → Item
item_of e = record { kind = e.kind; body = e.body.now }

abbrev pub span_of_part : SpanPart → Span
span_of_part s = span (rx_of s.direction) s.ms s.wire.now

-- the item that stands at a place
pub record ReadAt (l : List ℕ) (at : ℕ) (e : Entry) : Type 0 where
  pub place : e.at ≡ at
  pub item : item_of e ≡ item_at l at
  pub end : at + 6 + length e.body.now ≡ end_at l at

-- the item at a place and the place after it, or the list's end
abbrev pub NextIn : List ℕ → ℕ → Option (Entry × ℕ) → Type 0
NextIn l at (Some (e, to)) = (at < length l) × ReadAt l at e × (to ≡ at + 6 + length e.body.now)
NextIn l at None = length l ≤ at

-- it may stand there in the list
pub record Stands (ok : Test) (l : List ℕ) (at : ℕ) (e : Entry) : Type 0 where
  pub read : ReadAt l at e
  pub is : is_item ok l at ≡ true

abbrev pub EntryIs : Test → List ℕ → ℕ → Option Entry → Type 0
EntryIs ok l at (Some e) = Stands ok l at e
EntryIs ok l at None = is_item ok l at ≡ false

-- ---- the walk

-- the item at its place was given, and it goes on after it
pub record GaveEntry (w : Walk) (e : Entry) (m : Walk) : Type 0 where
  pub stands : Stands (test_of w.which) w.list.now w.at e
  pub goes : m ≡ record { list = w.list; which = w.which; at = end_at w.list.now w.at }

-- the list is ill-formed at its place, and nothing more is given
pub record GaveIll (w : Walk) (n : ℕ) (m : Walk) : Type 0 where
  pub place : n ≡ w.at
  pub ill : read_from (test_of w.which) w.list.now w.at ≡ ill_formed w.at
  pub rests : m ≡ record { list = w.list; which = w.which; at = length w.list.now }

abbrev pub GivesEntry : Walk → Option (Result Entry ℕ) → Walk → Type 0
GivesEntry w (Some (Ok e)) m = GaveEntry w e m
GivesEntry w (Some (Err n)) m = GaveIll w n m
GivesEntry w None m = (length w.list.now ≤ w.at) × (m ≡ w)

-- a walk over a list of one kind
pub record Over (l : List ℕ) (which : Listing) (w : Walk) : Type 0 where
  pub list : w.list.now ≡ l
  pub kind : w.which ≡ which
