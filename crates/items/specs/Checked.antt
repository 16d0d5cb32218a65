-- What the checked lists give: spans and names, one after another.
use Rattle.std.specs.Prelude.{Option, Result, Ok, Err, ℕ, ◌+◌, ◌≡◌, ◌≤◌, MatchOption, List, [], ◌∷◌, length}
use Rattle.std.specs.Borrow.{Bor}
use Rattle.items.specs.Items.{Span, well_formed, ill_formed, names_in}
use Rattle.items.specs.Walks.{spans_from, names_from}
use Rattle.items.specs.Entries.{span_of_part}
use Rattle.items.specs.declared.SpanPart.{SpanPart}
use Rattle.items.specs.declared.lists.Spans.{Spans}
use Rattle.items.specs.declared.lists.Names.{Names}

-- ---- spans

-- the spans that are left
abbrev pub spans_left : Spans → List Span
spans_left l = spans_from l.list.now l.at

-- the first span was given, and what is left begins after it
pub record GaveSpan (l : Spans) (s : SpanPart) (m : Spans) : Type 0 where
  pub head : spans_left l ≡ span_of_part s ∷ spans_left m
  pub list : m.list ≡ l.list
  pub next : m.at ≡ l.at + 14 + length s.wire.now

abbrev pub GivesSpan : Spans → Option SpanPart → Spans → Type 0
GivesSpan l r m = MatchOption r ((spans_left l ≡ []) × (spans_left m ≡ [])) (λ s. GaveSpan l s m)

-- ---- names

-- the names that are left
abbrev pub names_left : Names → List (List ℕ)
names_left l = names_from l.list.now l.at

-- the first name was given, and what is left begins after it
pub record GaveName (l : Names) (n : Bor (List ℕ)) (m : Names) : Type 0 where
  pub head : names_left l ≡ n.now ∷ names_left m
  pub list : m.list ≡ l.list
  pub next : m.at ≡ l.at + 6 + length n.now

abbrev pub GivesName : Names → Option (Bor (List ℕ)) → Names → Type 0
GivesName l r m = MatchOption r ((names_left l ≡ []) × (names_left m ≡ [])) (λ n. GaveName l n m)

-- what a check says: the names of the whole list, or where it is ill-formed
pub record CheckedWell (l : Bor (List ℕ)) (ns : Names) : Type 0 where
  pub list : ns.list ≡ l
  pub start : ns.at ≡ 0
  pub small : length l.now ≤ 16777216
  pub reads : names_in l.now ≡ well_formed (names_left ns)

abbrev pub CheckedNames : Bor (List ℕ) → Result Names ℕ → Type 0
CheckedNames l (Ok ns) = CheckedWell l ns
CheckedNames l (Err n) = names_in l.now ≡ ill_formed n
