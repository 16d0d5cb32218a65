-- Laws of comparing names by their ranks and bytes.
use mathlib.Core.Path.{◌≡◌, refl, sym, ap, ◌∙◌}
use mathlib.Core.Logic.{◌≢◌}
use mathlib.Core.Bool.{Bool}
use mathlib.Core.List.{List}
use Prim.Native.Nat.{ℕ}
use lib.Dec.{ltb}
use borrow.Author.Tests.{eq-eqb, ne_eqb}
use Rattle.counter.specs.Counter.{counter, rank}
use Rattle.lexical.specs.Bytes.{le_bytes}
use Rattle.sorting.specs.Names.{le_name}
use Rattle.sorting.specs.Steps.{name_at, HeadOf, first_of, le_at}
use Rattle.sorting.specs.declared.Head.{Head}

module _ (l : List ℕ) (a b : Head) where
  pub first_ranks : a.rank ≢ b.rank → ltb a.rank b.rank ≡ first_of l a b
  unfolding first_of
  first_ranks n = rw (ne_eqb a.rank b.rank n)

  pub first_bytes : (x y : List ℕ) (r : Bool) → a.rank ≡ b.rank → x ≡ name_at l a.place → y ≡ name_at l b.place → r ≡ le_bytes x y → r ≡ first_of l a b
  unfolding first_of
  first_bytes x y r e f g h = rw (eq-eqb a.rank b.rank e, ← f, ← g) h

pub head_self : (l : List ℕ) (p : ℕ) (a : Head) → HeadOf l p a → HeadOf l a.place a
head_self l p a h = record { place = refl; rank = h.rank ∙ ap (λ (n : ℕ). rank (counter (name_at l n))) (sym h.place) }

pub first_is : (l : List ℕ) (x y : ℕ) (a b : Head) → HeadOf l x a → HeadOf l y b → first_of l a b ≡ le_at l x y
unfolding first_of le_at le_name
first_is l x y a b p q = rw (p.place, p.rank, q.place, q.rank)
