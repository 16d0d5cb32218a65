-- The names of a list in the order in which their frames crossed the link, what ordering answers, and what its answer tells.
use Rattle.std.specs.Prelude.{Result, List, [], ◌∷◌, ℕ, length}
use Rattle.laws.specs.Answers.{Answer, refused, answered, wrote, Outcome, gives, refuses}
use Rattle.items.specs.Items.{Listed, well_formed, ill_formed, names_in, name_list}
use Rattle.sorting.specs.Names.{le_name}
use Rattle.sorting.specs.Sort.{isort}
use Rattle.order.specs.declared.OrderError.{OrderError}
use Rattle.order.specs.declared.OrderError.TheVariants.{IllFormed, OutShort}

-- the list of the names in order, and its length; an ill-formed list is refused with 20 and the offset
unfoldable pub in_order : Listed (List ℕ) → Outcome
in_order (well_formed ns) = gives (length (name_list (isort le_name ns)) ∷ []) (name_list (isort le_name ns))
in_order (ill_formed n) = refuses 20 (n ∷ [])

unfoldable pub capture_order : List ℕ → Outcome
capture_order l = in_order (names_in l)

-- why no list is written
abbrev pub told_order_error : OrderError → Answer
told_order_error (IllFormed n) = refused 20 (n ∷ [])
told_order_error (OutShort n) = refused 7 (n ∷ [])

-- the length of the list
abbrev pub told_ordered : Result ℕ OrderError → Answer
told_ordered = answered wrote told_order_error
