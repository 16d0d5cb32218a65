-- A keyed machine runs the same under another spelling of its keys, if the tests of both say the same of every two inputs.
use mathlib.Core.Path.{◌≡◌, refl}
use mathlib.Core.Bool.{Bool}
use mathlib.Core.List.{List, [], ◌∷◌}
use Rattle.laws.specs.Lists.{All, all_nil, all_cons}
use Rattle.laws.specs.Keys.{Key, eq_k}
use Rattle.laws.specs.Keyed.{Machine, step, run}
use Rattle.l2cap.specs.Rekeyed.{put_by, run_by}

pub run_by_law : {X Y : Type 0} (M : Machine X Y) (m : Key → M.S) (xs : List X) → run M m xs ≡ run_by M.next M.out eq_k M.key m xs
unfolding run run_by
run_by_law M m [] = refl
run_by_law M m (x ∷ xs) = rw (run_by_law M (step M m x) xs)

module _ {X Y S : Type 0} (next : S → X → S) (out : S → X → List Y) where
  -- P: what the inputs have to be for the tests to agree
  pub rekey :
      {K L : Type 0} (eqA : K → K → Bool) (eqB : L → L → Bool) (g : X → K) (h : X → L) (P : X → Type 0) →
      ((x y : X) → P x → P y → eqA (g x) (g y) ≡ eqB (h x) (h y)) →
      (m : K → S) (n : L → S) → ((x : X) → P x → m (g x) ≡ n (h x)) →
      (xs : List X) → All P xs → run_by next out eqA g m xs ≡ run_by next out eqB h n xs
  unfolding run_by
  rekey eqA eqB g h P same m n agree [] all_nil = refl
  rekey eqA eqB g h P same m n agree (x ∷ xs) (all_cons p ps) =
      rw (
        agree x p,
        rekey eqA eqB g h P same (put_by eqA m (g x) (next (n (h x)) x)) (put_by eqB n (h x) (next (n (h x)) x)) (λ y q. rw (same y x q p, agree y q)) xs ps,
      )
