-- Sums over a list; and how often a key stands in one.
use Rattle.std.specs.Prelude.{ℕ, ◌+◌, ◌≡◌, List, [], ◌∷◌}
use Rattle.laws.specs.Keys.{Key, eq_k}
use Rattle.laws.specs.Count.{count}

-- the sum of a number of each member
unfoldable pub total : {A : Type 0} → (A → ℕ) → List A → ℕ
total f [] = 0
total f (x ∷ xs) = f x + total f xs

-- how often a key stands in a list
abbrev pub hits : Key → List Key → ℕ
hits k ks = count (λ j. eq_k k j) ks

-- a member's key stands once in a list of keys
pub record Among {X : Type 0} (key : X → Key) (ks : List Key) (x : X) : Type 0 where
  pub once : hits (key x) ks ≡ 1
