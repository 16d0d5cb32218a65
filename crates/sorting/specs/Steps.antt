-- What the functions promise: places of names stand as words in lent memory while they are sorted.
use Rattle.std.specs.Prelude.{◌≡◌, Bool, cond, ◌⊎◌, List, [], ◌∷◌, ◌++◌, ℕ, zero, suc, ◌+◌, ◌*◌, ◌<◌, ◌≤◌, eqb, ltb, length, take, drop}
use Rattle.laws.specs.Numbers.{le32}
use Rattle.words.specs.Words.{word}
use Rattle.counter.specs.Counter.{counter, rank}
use Rattle.lexical.specs.Bytes.{le_bytes}
use Rattle.sorting.specs.Names.{le_name}
use Rattle.sorting.specs.Sort.{isort, merge}
use Rattle.sorting.specs.declared.Head.{Head}
use Rattle.sorting.specs.declared.halves.Halves.{Halves}

-- ---- names compared

-- the name at a place of a list, as much of it as is there
unfoldable pub name_at : List ℕ → ℕ → List ℕ
name_at l at = take (le32 l at) (drop (at + 6) l)

-- a is the name at the place p, with its counter's rank
pub record HeadOf (l : List ℕ) (p : ℕ) (a : Head) : Type 0 where
  pub place : a.place ≡ p
  pub rank : a.rank ≡ rank (counter (name_at l p))

-- the order of names by their ranks and bytes
unfoldable pub first_of : List ℕ → Head → Head → Bool
first_of l a b = cond (eqb a.rank b.rank) (le_bytes (name_at l a.place) (name_at l b.place)) (ltb a.rank b.rank)

-- ---- words sorted

-- the order of places by their names
unfoldable pub le_at : List ℕ → ℕ → ℕ → Bool
le_at l a b = le_name (name_at l a) (name_at l b)

-- n words from number i on
abbrev pub words : List ℕ → ℕ → ℕ → List ℕ
words w i zero = []
words w i (suc n) = word w i ∷ words w (suc i) n

-- the words below top are as they were, but for those from lo to hi
pub record Kept (lo hi top : ℕ) (w u : List ℕ) : Type 0 where
  pub same : (j : ℕ) → j < top → (j < lo) ⊎ (hi ≤ j) → word u j ≡ word w j

-- n words from lo on as they were, from to on
pub record Copies (lo n to : ℕ) (w u : List ℕ) : Type 0 where
  pub copied : words u to n ≡ words w lo n
  pub kept : (top : ℕ) → Kept to (to + n) top w u

-- the halves changed round
pub record Rotates (hs : Halves) (w u : List ℕ) : Type 0 where
  pub turned : words u hs.lo (hs.m + hs.h) ≡ words w (hs.lo + hs.h) hs.m ++ words w hs.lo hs.h
  pub kept : Kept hs.lo (hs.lo + hs.h + hs.m) hs.top w u

-- at least one word in each half, and room for the first from top on
pub record HalvesIn (hs : Halves) (w : List ℕ) : Type 0 where
  pub left : 0 < hs.h
  pub right : 0 < hs.m
  pub room : 4 * (hs.top + hs.h) ≤ length w

-- h words from top on and m words behind h from lo on, at least one each, and the first name of each
pub record MergePre (l : List ℕ) (hs : Halves) (w : List ℕ) (a b : Head) : Type 0 where
  pub halves : HalvesIn hs w
  pub left : HeadOf l (word w hs.top) a
  pub right : HeadOf l (word w (hs.lo + hs.h)) b

-- h words from top on and m words behind h from lo on, merged from lo on
pub record Merges (l : List ℕ) (hs : Halves) (w u : List ℕ) : Type 0 where
  pub merged : words u hs.lo (hs.h + hs.m) ≡ merge (le_at l) (words w hs.top hs.h) (words w (hs.lo + hs.h) hs.m)
  pub kept : Kept hs.lo (hs.lo + hs.h + hs.m) hs.top w u

-- halves that are sorted each are sorted together
pub record Joins (l : List ℕ) (hs : Halves) (w u : List ℕ) : Type 0 where
  pub joined : (p q : List ℕ) → words w hs.lo hs.h ≡ isort (le_at l) p → words w (hs.lo + hs.h) hs.m ≡ isort (le_at l) q → words u hs.lo (hs.h + hs.m) ≡ isort (le_at l) (p ++ q)
  pub kept : Kept hs.lo (hs.lo + hs.h + hs.m) hs.top w u

-- two words from lo on sorted
pub record Pairs (l : List ℕ) (lo : ℕ) (w u : List ℕ) : Type 0 where
  pub sorted : words u lo 2 ≡ isort (le_at l) (words w lo 2)
  pub kept : (top : ℕ) → Kept lo (lo + 2) top w u

-- n words from lo on sorted
pub record Sorts (l : List ℕ) (lo n top : ℕ) (w u : List ℕ) : Type 0 where
  pub sorted : words u lo n ≡ isort (le_at l) (words w lo n)
  pub kept : Kept lo (lo + n) top w u
