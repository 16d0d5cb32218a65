-- Insertion sort by a test, which keeps duplicates, and the merge of two lists.
use Rattle.std.specs.Prelude.{Bool, cond, List, [], ◌∷◌}

module _ {A : Type 0} (le : A → A → Bool) where
  unfoldable pub insert : A → List A → List A
  insert x [] = x ∷ []
  insert x (y ∷ l) = cond (le x y) (x ∷ y ∷ l) (y ∷ insert x l)

  unfoldable pub isort : List A → List A
  isort [] = []
  isort (x ∷ l) = insert x (isort l)

  unfoldable pub merge : List A → List A → List A
  merge [] b = b
  merge (x ∷ a) [] = x ∷ a
  merge (x ∷ a) (y ∷ b) = cond (le x y) (x ∷ merge a (y ∷ b)) (y ∷ merge (x ∷ a) b)
