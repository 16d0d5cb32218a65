-- Lists that run one way, and lists turned round.
use Rattle.std.specs.Prelude.{◌≡◌, Bool, List, [], ◌∷◌, ◌++◌}

-- the test of each element and the next gives t
pub data Chain {A : Type 0} (le : A → A → Bool) (t : Bool) : List A → Type 0 where
  chain_nil : Chain le t []
  chain_one : {x : A} → Chain le t (x ∷ [])
  chain_more : {x y : A} {l : List A} → le x y ≡ t → Chain le t (y ∷ l) → Chain le t (x ∷ y ∷ l)

-- the last first
unfoldable pub back : {A : Type 0} → List A → List A
back [] = []
back (x ∷ l) = back l ++ (x ∷ [])
