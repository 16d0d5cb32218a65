-- Laws of the call: how the names of a list stand, and what is answered.
use Rattle.std.specs.Prelude.{Result, Ok, Err}
use Rattle.std.specs.Borrow.{Bor}
use mathlib.Core.Path.{◌≡◌, sym, ap, ◌∙◌, subst}
use mathlib.Core.Bool.{Bool, true, false}
use mathlib.Core.List.{List, [], ◌∷◌, ◌++◌, append-nil}
use Prim.Native.Nat.{ℕ, ◌+◌, ◌<◌, ◌≤◌}
use native.Mathlib.Nat.{zero-add}
use native.Mathlib.Omega.{arith}
use lib.ListN.{length, get_or, drop}
use lib.Seq.{sets-eq, drop-length}
use Rattle.laws.specs.Stores.{Writes}
use Rattle.laws.specs.Answers.{accepted, gives, Meets}
use Rattle.laws.proofs.Answers.{meets_refused, meets_short, meets_wrote}
use Rattle.items.specs.Items.{name_list, name_test, ill_formed, names_in}
use Rattle.items.specs.Walks.{names_from, Walks}
use Rattle.items.proofs.Walks.{names_in_law}
use Rattle.items.specs.Checked.{names_left, CheckedWell, CheckedNames}
use Rattle.items.specs.declared.lists.Names.{Names}
use Rattle.order.specs.declared.OrderError.{OrderError}
use Rattle.order.specs.declared.OrderError.TheVariants.{IllFormed, OutShort}
use Rattle.order.specs.declared.Way.{Way}
use Rattle.order.specs.declared.Way.TheVariants.{Up, Down, Mixed}
use Rattle.sorting.specs.Names.{le_name}
use Rattle.order.specs.Order.{in_order, capture_order, told_ordered}
use Rattle.sorting.specs.Chains.{Chain, back}
use Rattle.sorting.specs.Sort.{isort}
use Rattle.order.specs.Steps.{Lent, Run, Runs, names_of, Stands, ReadWell, ReadIs, WayPre}
use Rattle.sorting.proofs.Names.{name_trans, name_total}
use Rattle.sorting.proofs.Sorting.{isort_up, isort_down}
use Rattle.order.proofs.Standing.{names_whole}
use Rattle.order.proofs.Arranging.{listed, listed_long}

-- ---- how the names stand

module _ (l : Bor (List ℕ)) (r : Bool) (up : Bool) (s : Runs l.now up r) (e : r ≡ true) where
  run : Run l.now up
  run = s.told e

  pub run_walks : Walks name_test l.now 0
  run_walks = run.good.walks

  pub run_small : length l.now ≤ 16777216
  run_small = run.good.small

  module _ (ns : Names) (p : ns.list ≡ l) (q : ns.at ≡ 0) where
    whole : CheckedWell l ns
    whole = record { list = p; start = q; small = run.good.small; reads = rw (p, q) (names_in_law l.now _ run.good) }

    pub read_up : up ≡ true → ((k : ℕ) → get_or l.now k 0 < 256) → ReadIs l (Ok (Up ns))
    read_up z bytes =
        let c : Chain le_name true (names_from l.now 0) = rw z at run.chain in
        record { whole = whole; stands = rw (p, q) (ap name_list (isort_up le_name (names_from l.now 0) c) ∙ names_whole l.now bytes run.good.walks) }

    pub read_down : up ≡ false → ReadIs l (Ok (Down ns))
    read_down z =
        let c : Chain le_name false (names_from l.now 0) = rw z at run.chain in
        record { whole = whole; stands = rw (p, q) (isort_down le_name name_trans name_total (names_from l.now 0) c) }

module _ (l : Bor (List ℕ)) (r : Result Names ℕ) (d : CheckedNames l r) where
  pub read_mixed : (ns : Names) → r ≡ Ok ns → ReadIs l (Ok (Mixed ns))
  read_mixed ns e = let g : CheckedWell l ns = subst (λ (x : Result Names ℕ). CheckedNames l x) e d in record { whole = g; stands = tt }

  pub read_ill : (n : ℕ) → r ≡ Err n → ReadIs l (Err (IllFormed n))
  read_ill n e = subst (λ (x : Result Names ℕ). CheckedNames l x) e d

-- ---- what is written

module _ (way : Way) (w : List ℕ) (p : WayPre way w) (ns : Names) where
  pub way_lent : names_of way ≡ ns → Lent ns w
  way_lent e = subst (λ (x : Names). Lent x w) e p.lent

  module _ (e : way ≡ Up ns) where
    lent : Lent ns w
    lent = way_lent (ap names_of e)

    pub way_room : 0 + length ns.list.now ≤ length w
    way_room = omega (arith, lent.long)

    pub laid_up : (r : ℕ) (u : List ℕ) → Writes w 0 ns.list.now r u → u ≡ listed (names_of way)
    laid_up r u v =
        let c : listed ns ≡ ns.list.now = subst (λ (x : Way). Stands x) e p.stands in
        let n : drop (length ns.list.now) w ≡ [] = rw (← lent.long) (drop-length w) in
        let s : u ≡ ns.list.now = v.writes ∙ sets-eq ns.list.now w 0 (omega (arith, lent.long)) ∙ rw (zero-add (length ns.list.now), n) (append-nil ns.list.now) in
        s ∙ sym c ∙ ap (λ (x : Way). listed (names_of x)) (sym e)

  pub laid_down : way ≡ Down ns → (u : List ℕ) → u ≡ name_list (back (names_left ns)) → u ≡ listed (names_of way)
  laid_down e u q =
      let c : isort le_name (names_left ns) ≡ back (names_left ns) = subst (λ (x : Way). Stands x) e p.stands in
      q ∙ ap name_list (sym c) ∙ ap (λ (x : Way). listed (names_of x)) (sym e)

-- ---- what is answered

module _ (l : Bor (List ℕ)) (d : List ℕ) (r : Result Way OrderError) (s : ReadIs l r) where
  pub order_ill : (e : OrderError) → r ≡ Err e → Meets (capture_order l.now) d (told_ordered (Err e)) d
  unfolding capture_order in_order
  order_ill (IllFormed n) q =
      let i : names_in l.now ≡ ill_formed n = subst (λ (x : Result Way OrderError). ReadIs l x) q s in
      meets_refused (capture_order l.now) d 20 (n ∷ []) (rw i)
  order_ill (OutShort n) q = absurd (subst (λ (x : Result Way OrderError). ReadIs l x) q s)

  module _ (way : Way) (q : r ≡ Ok way) where
    well : ReadWell l way
    well = subst (λ (x : Result Way OrderError). ReadIs l x) q s

    gives_listed : capture_order l.now ≡ gives (length (listed (names_of way)) ∷ []) (listed (names_of way))
    unfolding capture_order in_order
    gives_listed = rw (well.whole.reads)

    listed_as : length (listed (names_of way)) ≡ length l.now
    listed_as = listed_long (names_of way) well.whole.start ∙ ap (λ (b : Bor (List ℕ)). length b.now) well.whole.list

    pub way_pre : (w : List ℕ) → length w ≡ length l.now → WayPre way w
    way_pre w h = record {
      lent = record { start = well.whole.start; small = rw well.whole.list well.whole.small; long = h ∙ ap (λ (b : Bor (List ℕ)). length b.now) (sym well.whole.list) };
      stands = well.stands;
    }

    pub order_short : length d < length l.now → Meets (capture_order l.now) d (told_ordered (Err (OutShort (length l.now)))) d
    order_short h = meets_short (capture_order l.now) d (length (listed (names_of way)) ∷ []) (listed (names_of way)) (length l.now) gives_listed (sym listed_as) h

    pub order_wrote : (o : List ℕ) → length l.now ≤ length d → o ≡ listed (names_of way) → Meets (capture_order l.now) d (accepted (length l.now ∷ [])) (o ++ drop (length l.now) d)
    order_wrote o h f =
        let k = listed_as in
        let fits : 0 + length (listed (names_of way)) ≤ length d = omega arith in
        rw (← k)
        (meets_wrote (capture_order l.now) d (length (listed (names_of way)) ∷ []) (listed (names_of way)) (length (listed (names_of way))) (o ++ drop (length (listed (names_of way))) d) gives_listed (omega arith)
        (record { next = omega arith; writes = rw (f, sets-eq (listed (names_of way)) d 0 fits, zero-add (length (listed (names_of way)))) }))
