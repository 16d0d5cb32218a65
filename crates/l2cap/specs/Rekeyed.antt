-- A keyed machine under any spelling of its keys that has a test.
use Rattle.std.specs.Prelude.{Bool, cond, List, [], ◌∷◌, ◌++◌}

-- the map m with v at the key k, for keys of any type with a test
abbrev pub put_by : {K S : Type 0} → (K → K → Bool) → (K → S) → K → S → K → S
put_by eq m k v j = cond (eq j k) v (m j)

module _ {X Y S : Type 0} (next : S → X → S) (out : S → X → List Y) where
  unfoldable pub run_by : {K : Type 0} → (K → K → Bool) → (X → K) → (K → S) → List X → List Y
  run_by eq key m [] = []
  run_by eq key m (x ∷ xs) = out (m (key x)) x ++ run_by eq key (put_by eq m (key x) (next (m (key x)) x)) xs
