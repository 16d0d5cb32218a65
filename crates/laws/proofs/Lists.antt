-- Laws of specs/Lists.
use Prim.Native.Nat.{ℕ, zero, suc, ◌+◌, ◌<◌, ◌≤◌}
use mathlib.Core.Path.{◌≡◌, refl}
use mathlib.Core.List.{List, [], ◌∷◌, ◌++◌, append_assoc}
use native.Mathlib.Numerals.{add-one}
use lib.ListN.{length, get_or, drop, replicate, drop_of_length-le}
use lib.Seq.{drop-cons}
use Rattle.laws.specs.Lists.{flat}

-- a list from i on: its element and the list from i + 1, or nothing
pub drop_step : (l : List ℕ) (i : ℕ) → i < length l → drop i l ≡ get_or l i 0 ∷ drop (i + 1) l
drop_step l i h = rw (add-one, drop-cons l i 0)

pub drop_end : (l : List ℕ) (i : ℕ) → length l ≤ i → drop i l ≡ []
drop_end l i h = drop_of_length-le l h

pub flat_append : (a b : List (List ℕ)) → flat (a ++ b) ≡ flat a ++ flat b
flat_append [] b = refl
flat_append (l ∷ a) b = rw (flat_append a b, append_assoc)

-- a list of zeros has 0 at every place
pub get_d_zeros : (n e : ℕ) → get_or (replicate {0} {A = ℕ} n 0) e 0 ≡ 0
get_d_zeros zero e = refl
get_d_zeros (suc n) zero = refl
get_d_zeros (suc n) (suc e) = get_d_zeros n e
