-- Laws of lists that run one way: how they are found, and what is written of them.
use Rattle.std.specs.Prelude.{Some, Result, Ok}
use Rattle.std.specs.Borrow.{Bor}
use mathlib.Core.Path.{◌≡◌, refl, sym, ap, ◌∙◌}
use mathlib.Core.Bool.{Bool, true, false, not, beq}
use mathlib.Core.List.{List, [], ◌∷◌, map}
use Prim.Native.Nat.{ℕ, ◌<◌, ◌≤◌}
use native.Mathlib.Omega.{arith}
use lib.ListN.{length}
use borrow.Author.Tests.{le-leb}
use Rattle.laws.proofs.Choice.{no_way}
use Rattle.items.specs.Items.{Item, item_at, end_at, Test, name_test, read_items}
use Rattle.items.specs.Reading.{read_from}
use Rattle.items.proofs.Reading.{read_end}
use Rattle.items.specs.Walks.{items_from, names_from, Walks, Good}
use Rattle.items.specs.Entries.{Stands, GaveEntry, GivesEntry, Over}
use Rattle.items.proofs.Entries.{stands_low, stands_fits, stands_well, stands_more, over_stands, over_at, over_on, over_end, gave_entry}
use Rattle.items.specs.declared.Listing.TheVariants as listing
use Rattle.items.specs.declared.walking.Entry.{Entry}
use Rattle.items.specs.declared.walking.Walk.{Walk}
use Rattle.sorting.specs.Names.{le_name}
use Rattle.sorting.specs.Chains.{chain_nil, chain_one, chain_more}
use Rattle.sorting.specs.Steps.{name_at, HeadOf, first_of, le_at}
use Rattle.order.specs.Steps.{RunPre, RunFrom, RunsOn, Runs}
use Rattle.sorting.specs.declared.Head.{Head}
use Rattle.sorting.proofs.Comparing.{head_self, first_is}

-- ---- the name at a place

names_more : (l : List ℕ) (at : ℕ) (e : Entry) → Stands name_test l at e → Walks name_test l (end_at l at) → names_from l at ≡ name_at l at ∷ names_from l (end_at l at)
unfolding names_from name_at item_at
names_more l at e s w =
    let q : items_from name_test l at ≡ item_at l at ∷ items_from name_test l (end_at l at) = rw s.read.item at (stands_more name_test l at e s w) in
    ap (map (λ (x : Item). x.body)) q

walks_none : (ok : Test) (l : List ℕ) (at : ℕ) → length l ≡ at → Walks ok l at
unfolding items_from
walks_none ok l at h = record { within = omega arith; well = rw (read_end ok l at (omega arith)) }

names_none : (l : List ℕ) (at : ℕ) → length l ≡ at → names_from l at ≡ []
unfolding names_from items_from
names_none l at h = rw (read_end name_test l at (omega arith))

-- ---- tests

pub same_bools : (x y : Bool) → not (beq x y) ≡ false → x ≡ y
same_bools true true e = refl
same_bools true false e = no_way refl e
same_bools false true e = no_way refl e
same_bools false false e = refl

-- ---- the walk: what is still to come, if it runs on, makes a run of the whole

pub record Running (l : List ℕ) (start at : ℕ) (first a : Head) (up : Bool) : Type 0 where
  pub within : at ≤ length l
  pub small : length l ≤ 16777216
  pub head : HeadOf l a.place a
  pub rest : RunFrom l at a up → RunFrom l start first up

pub running_start : (w : Walk) (first : Head) (up : Bool) → RunPre w first → Running w.list.now w.at w.at first first up
running_start w first up p = record { within = p.within; small = p.small; head = p.head; rest = λ r. r }

pub runs_not : (l : List ℕ) (start : ℕ) (a : Head) (up : Bool) → RunsOn l start a up false
runs_not l start a up = record { told = λ e. no_way e refl }

module _ (l : List ℕ) (start : ℕ) (w : Walk) (first a : Head) (up : Bool) (o : Over l listing.Names w) (v : Running l start w.at first a up) where
  pub running_end : length w.list.now ≤ w.at → RunsOn l start first up true
  running_end h =
      let e : length l ≡ w.at = omega (arith, v.within, over_end l listing.Names w o h) in
      record { told = λ t. v.rest (record { walks = walks_none name_test l w.at e; chain = rw (names_none l w.at e) chain_one }) }

  module _ (m : Walk) (x : Result Entry ℕ) (g : GivesEntry w (Some x) m) (e : Entry) (n : x ≡ Ok e) where
    s : Stands name_test l w.at e
    s = over_stands l listing.Names w m o e (gave_entry w m x g e n)

    next : m.at ≡ end_at l w.at
    next = over_at l listing.Names w m o e (gave_entry w m x g e n)

    pub running_on : Over l listing.Names m
    running_on = over_on l listing.Names w m o e (gave_entry w m x g e n)

    pub running_place : e.at < length l
    running_place = rw s.read.place (stands_low name_test l w.at e s)

    pub running_turn : (b : Head) (t : Bool) → HeadOf l e.at b → t ≡ first_of l a b → t ≡ up → Running l start m.at first b up
    unfolding le_at
    running_turn b t hb f g =
        let q : b.place ≡ w.at = hb.place ∙ s.read.place in
        let z : le_name (name_at l a.place) (name_at l w.at) ≡ up = rw s.read.place at (sym (first_is l a.place e.at a b v.head hb) ∙ sym f ∙ g) in
        rw next (record {
          within = stands_fits name_test l w.at e s;
          small = v.small;
          head = head_self l e.at b hb;
          rest = λ r. v.rest (record {
            walks = stands_well name_test l w.at e s r.walks;
            chain = rw (names_more l w.at e s r.walks) (chain_more z (rw q at r.chain));
          });
        })

-- ---- the whole list

pub whole_not : (l : List ℕ) (up : Bool) → Runs l up false
whole_not l up = record { told = λ e. no_way e refl }

good_whole : (l : List ℕ) → length l ≤ 16777216 → Walks name_test l 0 → Good name_test l (length (items_from name_test l 0))
unfolding read_items read_from
good_whole l h w = record { reads = rw (le-leb (length l) 16777216 h) w.well; walks = w; count = refl; small = h }

pub whole_none : (l : List ℕ) (up : Bool) → length l ≤ 16777216 → length l ≡ 0 → Runs l up true
whole_none l up h e =
    record { told = λ t. record { good = good_whole l h (walks_none name_test l 0 e); chain = rw (names_none l 0 e) chain_nil } }

module _ (b : Bor (List ℕ)) (m : Walk) (e : Entry) (g : GaveEntry (record { list = b; which = listing.Names; at = 0 }) e m) (h : length b.now ≤ 16777216) (a : Head) (f : HeadOf b.now e.at a) where
  p : HeadOf b.now 0 a
  p = rw g.stands.read.place at f

  pub whole_pre : RunPre m a
  whole_pre = rw g.goes (record {
    over = record { list = refl; kind = refl };
    within = stands_fits name_test b.now 0 e g.stands;
    small = h;
    head = head_self b.now 0 a p;
  })

  pub whole_runs : (up r : Bool) → RunsOn m.list.now m.at a up r → Runs b.now up r
  whole_runs up r v = record {
    told = λ t.
        let s = (rw g.goes at v).told t in
        let q : a.place ≡ 0 = p.place in
        record {
          good = good_whole b.now h (stands_well name_test b.now 0 e g.stands s.walks);
          chain = rw (names_more b.now 0 e g.stands s.walks) (rw q at s.chain);
        };
  }
