-- What the answers of import and of the plan say in lines.
use Rattle.std.proofs.Common.{ℕ, ◌≤◌, ◌≡◌, refl, sym, ap, ◌∙◌, subst, List, [], ◌∷◌, ◌++◌, append_assoc, length, take, codes, decimal, arith}
use Rattle.std.proofs.Math.Option.{none}
use Rattle.std.specs.Prelude.{Result, OnOk, Ok, Err}
use Rattle.std.specs.declared.option.Option.{Option}
use Rattle.std.specs.Io.KnownBytes.{Appends}
use Rattle.std.proofs.KnownBytes.{Appends-trans}
use Rattle.laws.specs.Lists.{All, all_nil, all_cons}
use Rattle.laws.specs.Answers.{Answer, accepted, Outcome, gives, answer, Meets}
use Rattle.items.specs.Items.{Item, item, name_item, wire_item, Listed, well_formed, ill_formed, Span, read_items, passing, spans_in, names_in}
use Rattle.items.specs.Reading.{Fits, item_list}
use Rattle.items.specs.Walks.{any_item, Walks, Good, items_from, check_of, held}
use Rattle.items.proofs.Reading.{items_back}
use Rattle.items.proofs.Walks.{checked_good}
use Rattle.trace.specs.Formats.{container_of}
use Rattle.trace.specs.declared.Container.TheVariants.{Btsnoop}
use Rattle.trace.specs.declared.Refusal.{Refusal}
use Rattle.trace.specs.declared.Refusal.TheVariants.{FileLong, WorkShort, NotBtsnoop, Datalink, NotPcap, LinkType, Truncated}
use Rattle.trace.specs.Headers.{told_refusal}
use Rattle.outcome.specs.Import.{strict, by_source, imported}
use Rattle.fixtures.specs.Plan.{Fixture, fixture_items, fixture_list, planned, plans, plan_of}
use Rattle.fixtures.specs.Plan as plan
use Rattle.fixtures.specs.Told.{told_planned, told_plan_error}
use Rattle.fixtures.specs.declared.Planned.{Planned}
use Rattle.fixtures.specs.declared.PlanError.{PlanError}
use Rattle.fixtures.specs.declared.PlanError.TheVariants.{SpansIll, NamesIll, OutShort as Short}
use Rattle.capture.specs.Calls.{told_imported}
use Rattle.capture.specs.declared.Summary.{Summary}
use Rattle.std.specs.Prelude.{Ok, Err}
use Rattle.capture.specs.declared.ImportError.{ImportError}
use Rattle.capture.specs.declared.ImportError.TheVariants.{Refused, NoStream, OutShort}
use Rattle.traceprint.specs.declared.Refused.{Refused as Line}
use Rattle.traceprint.specs.Refusals.{values_of as values_in, told, refused_text}
use Rattle.traceprint.specs.Lines.{spaced, lines_or, refusal_of, counts_line, name_lines, fixture_lines, fixtures_in, spans_lines, import_text, trace_lines}
use Rattle.traceprint.proofs.Within.{accepts, not_given, plans_last, values_of, imported_written}

-- what was printed is the text, and what was printed before it stands in front
pub says : {T E : Type 0} (r : Result T E) (a b : Option (List ℕ)) (s t : List ℕ) → OnOk r (Appends a b s) → s ≡ t → OnOk r (Appends a b t)
says r a b s t p e = rw (← e) p

pub after : {T E : Type 0} (r : Result T E) (a b c : Option (List ℕ)) (s t : List ℕ) → Appends a b s → OnOk r (Appends b c t) → OnOk r (Appends a c (s ++ t))
after (Ok x) a b c s t p q = Appends-trans a b c s t p q
after (Err x) a b c s t p q = q

-- ---- a list of fixtures, read as a list of items

as_items : List Fixture → List Item
as_items [] = []
as_items (f ∷ fs) = record { kind = 3; body = f.name } ∷ record { kind = 4; body = f.wire } ∷ as_items fs

items_listed : (fs : List Fixture) → item_list (as_items fs) ≡ fixture_list fs
unfolding as_items fixture_list fixture_items name_item wire_item
items_listed [] = refl
items_listed (f ∷ fs) = ap (λ r. item 3 f.name ++ (item 4 f.wire ++ r)) (items_listed fs) ∙ sym (append_assoc (item 3 f.name) (item 4 f.wire) (fixture_list fs))

all_fit : (fs : List Fixture) → All (Fits any_item) (as_items fs)
unfolding as_items
all_fit [] = all_nil
all_fit (f ∷ fs) = all_cons (record { kind = omega arith; passes = refl }) (all_cons (record { kind = omega arith; passes = refl }) (all_fit fs))

names_listed : (fs : List Fixture) → name_lines (as_items fs) ≡ fixture_lines fs
unfolding as_items
names_listed [] = refl
names_listed (f ∷ fs) = ap (λ r. f.name ++ (codes "\n" ++ r)) (names_listed fs)

module _ (fs : List Fixture) (h : length (fixture_list fs) ≤ 16777216) where
  items_read : read_items any_item (fixture_list fs) ≡ well_formed (as_items fs)
  items_read = let e = items_listed fs in let k : length (item_list (as_items fs)) ≤ 16777216 = rw e h in rw e at (items_back any_item (as_items fs) (all_fit fs) k)

  good_list : Good any_item (fixture_list fs) (length (as_items fs))
  unfolding check_of
  good_list = let e = items_read in checked_good any_item (fixture_list fs) (Ok (length (as_items fs))) (length (as_items fs)) (rw e refl) refl

  pub fixtures_walk : Walks any_item (fixture_list fs) 0
  fixtures_walk = good_list.walks

  pub fixtures_named : name_lines (items_from any_item (fixture_list fs) 0) ≡ fixture_lines fs
  fixtures_named =
      let q : well_formed (items_from any_item (fixture_list fs) 0) ≡ well_formed (as_items fs) = sym good_list.reads ∙ items_read in
      let p : items_from any_item (fixture_list fs) 0 ≡ as_items fs = cc in
      rw p (names_listed fs)

-- ---- the plan

none_excluded : names_in [] ≡ well_formed []
unfolding names_in read_items passing
none_excluded = refl

plans_list : (ss : Listed Span) (ns : Listed (List ℕ)) (vs w : List ℕ) → plans ss ns ≡ gives vs w → ns ≡ well_formed [] → w ≡ fixture_list (planned [] 1 (held ss))
unfolding plan.given
plans_list (ill_formed m) ns vs w e q = not_given e
plans_list (well_formed ss) (ill_formed m) vs w e q = not_given e
plans_list (well_formed ss) (well_formed ns) vs w e q = let z : ns ≡ [] = cc in cc

-- the plan written is the list of the fixtures
record Planned_as (l out : List ℕ) (k : ℕ) : Type 0 where
  size : k ≤ length out
  list : take k out ≡ fixture_list (fixtures_in l)

plan_wrote : (l out out' : List ℕ) (n k : ℕ) → Meets (plan_of l []) out (accepted (n ∷ k ∷ [])) out' → Planned_as l out' k
unfolding plan_of fixtures_in
plan_wrote l out out' n k m =
    let g = accepts (plan_of l []) out (n ∷ k ∷ []) out' m in
    let q = plans_last (spans_in l) (names_in []) n k g.bytes g.gift in
    let w = plans_list (spans_in l) (names_in []) (n ∷ k ∷ []) g.bytes g.gift none_excluded in
    record { size = omega (arith, g.room); list = rw q (g.front ∙ w) }

module _ (l out out' : List ℕ) (n k : ℕ) (m : Meets (plan_of l []) out (accepted (n ∷ k ∷ [])) out') (long : length out' ≤ 65536) where
  planned_size : length (fixture_list (fixtures_in l)) ≤ 16777216
  planned_size = let p = plan_wrote l out out' n k m in omega (arith, p.size, ap length p.list, lib.Seq.length-take-le k out' p.size)

  pub plan_walks : Walks any_item (take k out') 0
  plan_walks = let p = plan_wrote l out out' n k m in rw p.list (fixtures_walk (fixtures_in l) planned_size)

  pub plan_names : name_lines (items_from any_item (take k out') 0) ≡ fixture_lines (fixtures_in l)
  plan_names = let p = plan_wrote l out out' n k m in rw p.list (fixtures_named (fixtures_in l) planned_size)

-- what planning answers, in lines
pub plan_lines : (head l out out' : List ℕ) (r : Result Planned PlanError) → Meets (plan_of l []) out (told_planned r) out' → length out ≡ 65536 → lines_or (head ++ fixture_lines (fixtures_in l)) (told_planned r) ≡ spans_lines head l
unfolding spans_lines
plan_lines head l out out' r m e = let a : told_planned r ≡ answer (plan_of l []) 65536 = rw e at m.answers in rw (← a)

told_unplanned : (text : List ℕ) (x : PlanError) → refusal_of (told_plan_error x) ≡ lines_or text (told_plan_error x)
told_unplanned text (SpansIll n) = refl
told_unplanned text (NamesIll n) = refl
told_unplanned text (Short n) = refl

pub plan_refused : (head l out out' : List ℕ) (x : PlanError) → Meets (plan_of l []) out (told_planned (Err x)) out' → length out ≡ 65536 → refusal_of (told_plan_error x) ≡ spans_lines head l
plan_refused head l out out' x m e = told_unplanned (head ++ fixture_lines (fixtures_in l)) x ∙ plan_lines head l out out' (Err x) m e

-- the line of a refusal, with its end
pub line_of : (r : Line) (a : Answer) → told r ≡ a → refused_text r ++ codes "\n" ≡ refusal_of a
line_of r a e = rw (← e) (append_assoc (codes "refused ") (decimal r.0 ++ spaced (values_in r.1)) (codes "\n") ∙ ap (λ x. codes "refused " ++ x) (append_assoc (decimal r.0) (spaced (values_in r.1)) (codes "\n")))

pub wrote_lines : (head l out out' : List ℕ) (n k : ℕ) → Meets (plan_of l []) out (accepted (n ∷ k ∷ [])) out' → length out ≡ 65536 → length out' ≤ 65536
    → head ++ name_lines (items_from any_item (take k out') 0) ≡ spans_lines head l
wrote_lines head l out out' n k m e h = ap (λ x. head ++ x) (plan_names l out out' n k m h) ∙ plan_lines head l out out' (Ok (record { fixtures = n; bytes = k })) m e

-- ---- import

told_refused : (text : List ℕ) (x : Refusal) → refusal_of (told_refusal x) ≡ lines_or text (told_refusal x)
told_refused text FileLong = refl
told_refused text WorkShort = refl
told_refused text NotBtsnoop = refl
told_refused text (Datalink n) = refl
told_refused text NotPcap = refl
told_refused text (LinkType n) = refl
told_refused text (Truncated n) = refl

told_unlisted : (text : List ℕ) (e : ImportError) → refusal_of (told_imported (Err e)) ≡ lines_or text (told_imported (Err e))
told_unlisted text (Refused x) = told_refused text x
told_unlisted text NoStream = refl
told_unlisted text (OutShort n) = refl

abbrev ours : List ℕ → Outcome
ours f = imported (container_of Btsnoop) f 65536 (by_source none strict)

module _ (f out : List ℕ) (long : length out ≡ 65536) where
  pub trace_refused : (a : ImportError) (out' : List ℕ) → Meets (ours f) out (told_imported (Err a)) out' → refusal_of (told_imported (Err a)) ≡ trace_lines f
  unfolding trace_lines
  trace_refused a out' m =
      let e : told_imported (Err a) ≡ answer (ours f) 65536 = rw long at m.answers in
      told_unlisted (import_text (ours f)) a ∙ ap (lines_or (import_text (ours f))) e

  pub trace_listed : (s : Summary) (out' : List ℕ) → Meets (ours f) out (told_imported (Ok s)) out' → spans_lines (counts_line s.stream.dlci s.stream.spans s.stream.unfinished) (take s.stream.bytes out') ≡ trace_lines f
  unfolding trace_lines
  trace_listed s out' m =
      let e : told_imported (Ok s) ≡ answer (ours f) 65536 = rw long at m.answers in
      let g = accepts (ours f) out (values_of s) out' m in
      let q = imported_written (container_of Btsnoop) f 65536 (by_source none strict) s g.bytes g.gift in
      let w : take s.stream.bytes out' ≡ g.bytes = subst (λ (k : ℕ). take k out' ≡ g.bytes) (sym q) g.front in
      let t : import_text (ours f) ≡ spans_lines (counts_line s.stream.dlci s.stream.spans s.stream.unfinished) g.bytes = ap import_text g.gift in
      rw w (sym t ∙ ap (lines_or (import_text (ours f))) e)
