use Rattle.items.specs.Entries.{Over}
use Rattle.items.specs.declared.Listing.TheVariants.{Names}
use Rattle.order.proofs.Running.{Running}
use Rattle.order.proofs.runs_on.Given as goal

abbrev pub invariant-loop-name : goal.invariant-loop-name
invariant-loop-name l =
    (goal.iterator-loop-name).can_next l.name-iterator ×
    (goal.iterator-loop-name).is_finite l.name-iterator ×
    Over l.names Names l.name-iterator ×
    Running l.names l.fn.rest.at (l.name-iterator).at l.initial.a l.a l.up
