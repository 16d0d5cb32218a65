-- A sign counted stands for the places where it shows.
use Prim.Native.Nat.{ℕ, ◌+◌}
use mathlib.Core.Path.{◌≡◌, refl}
use mathlib.Core.List.{List, [], ◌∷◌, ◌++◌}
use native.Mathlib.Omega.{arith}
use lib.ListN.{length, length-append}
use borrow.Author.Tests.{eq-eqb, ne_eqb}
use Rattle.signs.specs.Gaps.{first_of, tallied}
use Rattle.signs.specs.Counting.{gap_of, Counted, noted}
use Rattle.signs.specs.declared.Gap.{Gap}

-- ---- what the code returns

pub note_first : (g : Gap) (by at : ℕ) → g.many ≡ 0 → record { many = by; first = at } ≡ noted g by at
unfolding noted
note_first g by at e = let z : 0 + by ≡ by = omega arith in rw (eq-eqb g.many 0 e, e, z)

pub note_more : (g : Gap) (by at : ℕ) → (g.many ≡ 0 → ⊥) → record { many = g.many + by; first = g.first } ≡ noted g by at
unfolding noted
note_more g by at e = rw (ne_eqb g.many 0 e)

-- ---- none, and one more

abbrev pub no_sign : Gap
no_sign = record { many = 0; first = 0 }

none_by : (many first : ℕ) → many ≡ 0 → first ≡ 0 → record { many = many; first = first } ≡ no_sign
none_by many first m f = rw (m, f)

-- a default is none
pub default_none : (g : Gap) → (g.many ≡ 0) × (g.first ≡ 0) → g ≡ no_sign
default_none g h = none_by g.many g.first h.0 h.1

pub counted_none : Counted [] no_sign
unfolding first_of
counted_none = record { many = refl; first = refl }

pub counted_one : (g : Gap) (ats : List ℕ) (at : ℕ) → Counted ats g → Counted (ats ++ (at ∷ [])) (noted g 1 at)
unfolding first_of noted
counted_one g [] at c = rw c.many (record { many = refl; first = refl })
counted_one g (x ∷ xs) at c =
    let n : length (x ∷ xs) ≡ 0 → ⊥ = λ e. omega arith in
    record { many = rw (c.many, length-append); first = rw (c.many, ne_eqb (length (x ∷ xs)) 0 n) c.first }

pub counted_gap : (g : Gap) (ats : List ℕ) → Counted ats g → gap_of g ≡ tallied ats
counted_gap g ats c = rw (c.many, c.first)
