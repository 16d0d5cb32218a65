-- A sign counted, as the code holds it.
use Rattle.std.specs.Prelude.{ℕ, ◌+◌, ◌<◌, ◌≡◌, cond, List, [], ◌∷◌, length, eqb}
use Rattle.signs.specs.Gaps.{first_of}
use Rattle.signs.specs.declared.Gap.{Gap}

-- how many and where the first is, as two numbers
abbrev pub gap_of : Gap → List ℕ
gap_of g = g.many ∷ g.first ∷ []

-- it stands for the places where the sign shows
pub record Counted (ats : List ℕ) (g : Gap) : Type 0 where
  pub many : g.many ≡ length ats
  pub first : g.first ≡ first_of ats

-- so many more, at a place
unfoldable pub noted : Gap → ℕ → ℕ → Gap
noted g by at = record { many = g.many + by; first = cond (eqb g.many 0) at g.first }

pub record NotePre (g : Gap) (by : ℕ) : Type 0 where
  pub small : g.many + by < 18446744073709551616
