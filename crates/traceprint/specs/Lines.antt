-- What the program prints.
use Rattle.std.specs.Prelude.{ℕ, cond, List, [], ◌∷◌, ◌++◌, eqb, codes, decimal}
use Rattle.std.proofs.Math.Option.{none}
use Rattle.laws.specs.Answers.{Answer, accepted, refused, Outcome, gives, refuses, answer}
use Rattle.items.specs.Items.{Item, spans_in}
use Rattle.items.specs.Walks.{held}
use Rattle.trace.specs.Formats.{container_of}
use Rattle.trace.specs.declared.Container.TheVariants.{Btsnoop}
use Rattle.outcome.specs.Import.{strict, by_source, imported}
use Rattle.fixtures.specs.Plan.{Fixture, planned, plan_of}

-- ---- lines

-- each value after a space
abbrev pub spaced : List ℕ → List ℕ
spaced [] = []
spaced (v ∷ vs) = codes " " ++ (decimal v ++ spaced vs)

-- a refusal's number and values
abbrev pub refusal_line : ℕ → List ℕ → List ℕ
refusal_line n vs = codes "refused " ++ (decimal n ++ (spaced vs ++ codes "\n"))

-- a text, or the line of a refusal in its place
abbrev pub lines_or : List ℕ → Answer → List ℕ
lines_or text (accepted vs) = text
lines_or text (refused n vs) = refusal_line n vs

abbrev pub refusal_of : Answer → List ℕ
refusal_of a = lines_or [] a

-- the DLCI, its frames, and unfinished
abbrev pub counts_line : ℕ → ℕ → ℕ → List ℕ
counts_line d f u = codes "dlci " ++ (decimal d ++ (codes " frames " ++ (decimal f ++ (codes " unfinished " ++ (decimal u ++ codes "\n")))))

-- ---- names

-- the names among the items, one to a line
abbrev pub name_lines : List Item → List ℕ
name_lines [] = []
name_lines (x ∷ xs) = cond (eqb x.kind 3) (x.body ++ (codes "\n" ++ name_lines xs)) (name_lines xs)

-- the names of fixtures, one to a line
abbrev pub fixture_lines : List Fixture → List ℕ
fixture_lines [] = []
fixture_lines (f ∷ fs) = f.name ++ (codes "\n" ++ fixture_lines fs)

-- the fixtures of a list of spans, nothing excluded
unfoldable pub fixtures_in : List ℕ → List Fixture
fixtures_in l = planned [] 1 (held (spans_in l))

-- a list of spans: a first line and the names of its fixtures, or why it has no plan of at most 65,536 bytes
unfoldable pub spans_lines : List ℕ → List ℕ → List ℕ
spans_lines head l = lines_or (head ++ fixture_lines (fixtures_in l)) (answer (plan_of l []) 65536)

-- ---- a trace

-- of what import gives
abbrev pub given_lines : List ℕ → List ℕ → List ℕ
given_lines (d ∷ (f ∷ (u ∷ vs))) w = spans_lines (counts_line d f u) w
given_lines (d ∷ (f ∷ [])) w = []
given_lines (d ∷ []) w = []
given_lines [] w = []

abbrev pub import_text : Outcome → List ℕ
import_text (gives vs w) = given_lines vs w
import_text (refuses n vs) = []

-- of a trace: import of a btsnoop file, strictly and on any channel, with 65,536 bytes lent for its work and for its list
unfoldable pub trace_lines : List ℕ → List ℕ
trace_lines f =
    lines_or (import_text (imported (container_of Btsnoop) f 65536 (by_source none strict)))
    (answer (imported (container_of Btsnoop) f 65536 (by_source none strict)) 65536)
