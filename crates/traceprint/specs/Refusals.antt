-- A refusal as the program holds it: its number, and the value that it carries.
use Rattle.std.specs.Prelude.{ℕ, List, [], ◌∷◌, ◌++◌, Option, None, Some, codes, decimal}
use Rattle.laws.specs.Answers.{Answer, refused}
use Rattle.traceprint.specs.Lines.{spaced}
use Rattle.traceprint.specs.declared.Refused.{Refused}

-- the value in a list
abbrev pub values_of : Option ℕ → List ℕ
values_of None = []
values_of (Some v) = v ∷ []

-- the answer that it is
abbrev pub told : Refused → Answer
told r = refused r.0 (values_of r.1)

-- its line, without the end
abbrev pub refused_text : Refused → List ℕ
refused_text r = codes "refused " ++ (decimal r.0 ++ spaced (values_of r.1))
