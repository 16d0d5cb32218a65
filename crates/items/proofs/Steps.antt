-- The walk of the check, and what is written.
use Rattle.std.specs.Prelude.{Some, Result, Ok, Err}
use Prim.Native.Nat.{ℕ, suc, ◌+◌, ◌-◌, ◌<◌, ◌≤◌}
use mathlib.Core.Path.{◌≡◌, refl, sym, ◌∙◌}
use mathlib.Core.List.{List, ◌++◌}
use native.Mathlib.Nat.{zero-add}
use native.Mathlib.Omega.{arith}
use lib.ListN.{length}
use borrow.Author.Tests.{le-leb, lt-leb}
use Rattle.laws.specs.Numbers.{le}
use Rattle.laws.specs.Stores.{Writes}
use Rattle.laws.proofs.Stores.{writes_then}
use Rattle.items.specs.Items.{item, item_head, span, span_item, Item, item_at, end_at, Test, Listed, well_formed, ill_formed, more, read_items}
use Rattle.items.specs.Reading.{read_from}
use Rattle.items.proofs.Reading.{read_good, read_end}
use Rattle.items.specs.Walks.{test_of, check_of}
use Rattle.items.proofs.Walks.{end_past}
use Rattle.items.specs.Entries.{Stands, GivesEntry, Over}
use Rattle.items.proofs.Entries.{stands_low, stands_fits, over_stands, over_at, over_on, over_stops, gave_entry, gave_ill}
use Rattle.items.specs.declared.Listing.{Listing}
use Rattle.items.specs.declared.walking.Entry.{Entry}
use Rattle.items.specs.declared.walking.Walk.{Walk}

-- ---- the walk: n items are passed, and what is still to come makes up the answer

unfoldable pub counted : ℕ → Listed Item → Result ℕ ℕ
counted n (well_formed xs) = Ok (n + length xs)
counted n (ill_formed m) = Err m

pub record Checking (ok : Test) (l : List ℕ) (at n : ℕ) : Type 0 where
  pub few : n ≤ at
  pub within : at ≤ length l
  pub same : counted n (read_from ok l at) ≡ check_of (read_from ok l 0)

counted_none : (r : Listed Item) → counted 0 r ≡ check_of r
unfolding counted check_of
counted_none (well_formed xs) = rw zero-add
counted_none (ill_formed n) = refl

counted_more : (x : Item) (r : Listed Item) (n : ℕ) → counted n (more x r) ≡ counted (n + 1) r
unfolding counted
counted_more x (well_formed xs) n = let e : n + suc (length xs) ≡ n + 1 + length xs = omega arith in rw e
counted_more x (ill_formed m) n = refl

pub checking_start : (ok : Test) (l : List ℕ) → Checking ok l 0 0
checking_start ok l = record { few = omega arith; within = omega arith; same = counted_none (read_from ok l 0) }

module _ (l : List ℕ) (k : Listing) (w m : Walk) (n : ℕ) (o : Over l k w) (c : Checking (test_of k) l w.at n) (x : Result Entry ℕ) (g : GivesEntry w (Some x) m) where
  pub checking_ill : (a : ℕ) → x ≡ Err a → Err a ≡ check_of (read_from (test_of k) l 0)
  unfolding counted
  checking_ill a q = let i = gave_ill w m x g a q in rw i.place (rw (over_stops l k w m o a i) at c.same)

  module _ (e : Entry) (q : x ≡ Ok e) where
    s : Stands (test_of k) l w.at e
    s = over_stands l k w m o e (gave_entry w m x g e q)

    pub checking_less : n < length l
    checking_less = omega (arith, c.few, stands_low (test_of k) l w.at e s)

    pub checking_on : Over l k m
    checking_on = over_on l k w m o e (gave_entry w m x g e q)

    pub checking_turn : Checking (test_of k) l m.at (n + 1)
    checking_turn = rw (over_at l k w m o e (gave_entry w m x g e q)) (record {
      few = omega (arith, end_past l w.at, c.few);
      within = stands_fits (test_of k) l w.at e s;
      same = sym (counted_more (item_at l w.at) (read_from (test_of k) l (end_at l w.at)) n) ∙ (rw (read_good (test_of k) l w.at (stands_low (test_of k) l w.at e s) s.is) at c.same);
    })

pub over : (ok : Test) (l : List ℕ) → 16777216 < length l → Err 0 ≡ check_of (read_items ok l)
unfolding read_items check_of
over ok l h = rw (lt-leb (length l) 16777216 h)

pub under : (ok : Test) (l : List ℕ) (r : Result ℕ ℕ) → length l ≤ 16777216 → r ≡ check_of (read_from ok l 0) → r ≡ check_of (read_items ok l)
unfolding read_items read_from
under ok l r h e = rw (le-leb (length l) 16777216 h) e

pub checking_end : (ok : Test) (l : List ℕ) (at n : ℕ) → Checking ok l at n → length l ≤ at → Ok n ≡ check_of (read_from ok l 0)
unfolding counted
checking_end ok l at n c h = let e : n + 0 ≡ n = omega arith in rw (read_end ok l at h, e) at c.same

-- ---- writing

module _ (d : List ℕ) (at kind size r : ℕ) (e : List ℕ) (h : Writes d at (item_head kind size) r e) where
  pub item_written : (body : List ℕ) (s : ℕ) (g : List ℕ) → size ≡ length body → Writes e r body s g → Writes d at (item kind body) s g
  unfolding item_head item
  item_written body s g q w = rw q at (writes_then d at (le 4 size ++ le 2 kind) r e body s g h w)

  pub span_written : (rx ms : ℕ) (wire : List ℕ) (s t : ℕ) (f g : List ℕ) → kind ≡ 2 - rx → size ≡ 8 + length wire → Writes e r (le 8 ms) s f → Writes f s wire t g → Writes d at (span_item (span rx ms wire)) t g
  unfolding span_item
  span_written rx ms wire s t f g q n v w =
      let z : size ≡ length (le 8 ms ++ wire) = omega arith in
      rw q at (item_written (le 8 ms ++ wire) t g z (writes_then e r (le 8 ms) s f wire t g v w))
