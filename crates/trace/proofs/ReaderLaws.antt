-- A reader of a capture: what it finds at an offset. Walking it to its end gives the records.
use Prim.Native.Nat.{ℕ, zero, suc, ◌+◌, ◌-◌, ◌<◌, ◌≤◌}
use mathlib.Core.Path.{◌≡◌, refl, sym, ap, ◌∙◌}
use mathlib.Core.Bool.{true, false, cond}
use mathlib.Core.List.{List, [], ◌∷◌}
use native.Mathlib.Omega.{arith}
use lib.ListN.{length, take, drop, length-drop, drop_of_length-le}
use lib.Seq.{drop-drop}
use lib.Dec.{ltb, eqb}
use borrow.Author.Tests.{le-leb, lt-leb, leb-true, le-ltb, lt-ltb, eqb-true}
use Rattle.laws.proofs.Choice.{split_b, split≤, no_way}
use Rattle.laws.specs.Lists.{flat}
use Rattle.container.specs.Container.{is_whole, records_in}
use Rattle.acl.specs.Reading.{between}
use Rattle.trace.specs.Formats.{file_head, record_head, size_by, records_from, tail_by}
use Rattle.trace.specs.Walk.{RecordAt, is_empty}
use Rattle.trace.proofs.Formats.{head_least, size_least}
use Rattle.trace.proofs.Walk.{records_eq, flat_step}
use Rattle.trace.specs.declared.Format.{Format}
use Rattle.trace.specs.declared.Step.{Step}
use Rattle.trace.specs.declared.Step.TheVariants.{Record, Cut, End}
use Rattle.trace.specs.declared.Trace.{Trace}
use Rattle.trace.specs.declared.reader.Reader.{Reader}
use Rattle.trace.specs.Reader.{Starts, Walk, Walked, WalksAll, found_by, goes, is_record, step_of, stops}

abbrev end_of : Step → ℕ
end_of (Record e) = e
end_of (Cut at) = at
end_of End = 0

none_left : (g : Format) → records_in (size_by g) [] ≡ []
unfolding is_whole
none_left g = records_eq g [] ∙ rw (lt-leb (size_by g []) 0 (omega (arith, head_least g, size_least g [])))

-- ---- one step

module _ (g : Format) (f : List ℕ) (at : ℕ) where
  pub step_end : length f ≤ at → End ≡ step_of g f at
  unfolding step_of
  step_end h = rw (le-ltb at (length f) h)

  -- too little for the shortest head
  pub step_short : at < length f → length f - at < 16 → Cut at ≡ step_of g f at
  unfolding step_of is_whole
  step_short h s = rw (lt-ltb at (length f) h, lt-leb (size_by g (drop at f)) (length (drop at f)) (simp length-drop (omega (arith, head_least g, size_least g (drop at f)))))

  module _ (size : ℕ) (e : size ≡ size_by g (drop at f)) (h : at < length f) where
    pub step_cut : length f - at < size → Cut at ≡ step_of g f at
    unfolding step_of is_whole
    step_cut s = rw (lt-ltb at (length f) h, ← e, lt-leb size (length (drop at f)) (simp length-drop s))

    pub step_whole : size ≤ length f - at → Record (at + size) ≡ step_of g f at
    unfolding step_of is_whole
    step_whole s = rw (lt-ltb at (length f) h, ← e, le-leb size (length (drop at f)) (simp length-drop s))

  pub whole_fits : is_whole (size_by g) (drop at f) ≡ true → size_by g (drop at f) ≤ length (drop at f)
  unfolding is_whole
  whole_fits q = leb-true (size_by g (drop at f)) (length (drop at f)) q

  pub whole_list : is_whole (size_by g) (drop at f) ≡ true → records_from g f at ≡ take (size_by g (drop at f)) (drop at f) ∷ records_in (size_by g) (drop (size_by g (drop at f)) (drop at f))
  whole_list q = records_eq g (drop at f) ∙ rw q

  -- ---- what a step tells of the records from there on

  pub record_told : (e : ℕ) → Record e ≡ step_of g f at → RecordAt g f at e
  unfolding step_of
  record_told e q = split≤ (length f) at
      (λ h. let z : Record e ≡ End = q ∙ sym (step_end h) in no_way refl (ap is_record z))
      (λ h. split_b (is_whole (size_by g) (drop at f))
      (λ w.
      let z : Record e ≡ Record (at + size_by g (drop at f)) = q ∙ rw (lt-ltb at (length f) h, w) in
      let s : e ≡ at + size_by g (drop at f) = ap end_of z in
      let m : size_by g (drop at f) ≡ e - at = omega arith in
      record {
        least = omega (arith, size_least g (drop at f));
        most = (let g : size_by g (drop at f) ≤ length f - at = rw (← length-drop at f) (whole_fits w) in omega arith);
        list = whole_list w ∙ rw (drop-drop (size_by g (drop at f)) at f, ← s, m);
      })
      (λ w. let z : Record e ≡ Cut at = q ∙ rw (lt-ltb at (length f) h, w) in no_way refl (ap is_record z)))

  pub none_told : is_record (step_of g f at) ≡ false → records_from g f at ≡ []
  unfolding step_of
  none_told q = split≤ (length f) at
      (λ h. rw (drop_of_length-le f h) (none_left g))
      (λ h. split_b (is_whole (size_by g) (drop at f))
      (λ w. let z : is_record (step_of g f at) ≡ true = rw (lt-ltb at (length f) h, w) in no_way z q)
      (λ w. records_eq g (drop at f) ∙ rw w))

  pub last_told : is_record (step_of g f at) ≡ false → step_of g f at ≡ cond (ltb at (length f)) (Cut at) End
  unfolding step_of
  last_told q = split_b (ltb at (length f))
      (λ h. split_b (is_whole (size_by g) (drop at f))
      (λ w. let z : is_record (step_of g f at) ≡ true = rw (h, w) in no_way z q)
      (λ w. rw (h, w)))
      (λ h. rw h)

  -- a record without bytes ends with its head
  pub empty_told : is_empty g (drop at f) ≡ true → RecordAt g f at (at + record_head g)
  unfolding is_empty
  empty_told q = split_b (eqb (size_by g (drop at f)) (record_head g))
      (λ e.
      let s : size_by g (drop at f) ≡ record_head g = eqb-true (size_by g (drop at f)) (record_head g) e in
      let w : is_whole (size_by g) (drop at f) ≡ true = rw e at q in
      let l : size_by g (drop at f) ≤ length f - at = rw (← length-drop at f) (whole_fits w) in
      let m : at + record_head g - at ≡ record_head g = omega arith in
      record {
        least = omega arith;
        most = omega (arith, head_least g);
        list = whole_list w ∙ rw (s, drop-drop (record_head g) at f, m);
      })
      (λ e. no_way (rw e at q) refl)

-- what a walk from a reader gives
record WalkIs (r : Reader) (rs : List (List ℕ)) (z : Reader) (s : Step) : Type 0 where
  pub list : rs ≡ records_from r.trace.format r.trace.file.now r.at
  pub tail : z.at ≡ r.at + length (flat (records_from r.trace.format r.trace.file.now r.at))
  pub says : s ≡ cond (ltb z.at (length r.trace.file.now)) (Cut z.at) End

walk_is : {r z : Reader} {rs : List (List ℕ)} {s : Step} → Walk r rs z s → WalkIs r rs z s
walk_is (stops {r} {s} e n) =
    let m : is_record (found_by r) ≡ false = rw e at n in
    let l : records_from r.trace.format r.trace.file.now r.at ≡ [] = none_told r.trace.format r.trace.file.now r.at m in
    record {
      list = sym l;
      tail = rw l (omega arith);
      says = e ∙ last_told r.trace.format r.trace.file.now r.at m;
    }
walk_is (goes {r} {q} {z} {e} {rs} {s} h m w) =
    let a : RecordAt r.trace.format r.trace.file.now r.at e = record_told r.trace.format r.trace.file.now r.at e h in
    let b : WalkIs (record { trace = r.trace; at = e }) rs z s = rw (m.trace, m.at) at (walk_is w) in
    record {
      list = rw b.list (sym a.list);
      tail = b.tail ∙ sym (flat_step r.trace.format r.trace.file.now r.at e a);
      says = b.says;
    }

-- every walk gives the file's records and ends at the tail offset
pub walks_all : (t : Trace) (r z : Reader) (rs : List (List ℕ)) (s : Step) → Starts t r → Walk r rs z s → WalksAll t.format t.file.now rs z s
walks_all t r z rs s b w =
    let a : WalkIs (record { trace = t; at = file_head t.format }) rs z s = rw (b.trace, b.at) at (walk_is w) in
    record {
      list = a.list;
      tail = a.tail;
      cut = λ h. a.says ∙ rw (a.tail, lt-ltb (tail_by t.format t.file.now) (length t.file.now) h);
      whole = λ h. a.says ∙ rw (a.tail, le-ltb (tail_by t.format t.file.now) (length t.file.now) h);
    }

walk_by : (r : Reader) (s : Step) → s ≡ found_by r → ((e : ℕ) → Record e ≡ found_by r → Walked (record { trace = r.trace; at = e })) → Walked r
walk_by r (Record e) q next =
    let w : Walked (record { trace = r.trace; at = e }) = next e q in
    record { records = between r.trace.file.now r.at e ∷ w.records; last = w.last; says = w.says; walk = goes q (record { trace = refl; at = refl }) w.walk }
walk_by r (Cut at) q next = record { records = []; last = r; says = Cut at; walk = stops q refl }
walk_by r End q next = record { records = []; last = r; says = End; walk = stops q refl }

walks_in : (n : ℕ) (r : Reader) → length r.trace.file.now ≤ r.at + n → Walked r
walks_in zero r h = walk_by r (found_by r) refl
    (λ e q. let a : RecordAt r.trace.format r.trace.file.now r.at e = record_told r.trace.format r.trace.file.now r.at e q in absurd (omega (arith, head_least r.trace.format, a.least, a.most)))
walks_in (suc n) r h = walk_by r (found_by r) refl
    (λ e q.
    let a : RecordAt r.trace.format r.trace.file.now r.at e = record_told r.trace.format r.trace.file.now r.at e q in
    walks_in n (record { trace = r.trace; at = e }) (omega (arith, head_least r.trace.format, a.least)))

pub walks_on : (r : Reader) → Walked r
walks_on r = walks_in (length r.trace.file.now) r (omega arith)
