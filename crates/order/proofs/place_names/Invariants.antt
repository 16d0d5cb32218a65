use Rattle.order.proofs.Arranging.{Placing}
use Rattle.order.proofs.place_names.Given as goal

abbrev pub invariant-loop-name : goal.invariant-loop-name
invariant-loop-name l =
    (goal.iterator-loop-name).can_next l.name-iterator ×
    (goal.iterator-loop-name).is_finite l.name-iterator ×
    Placing l.fn.names l.name-iterator l.n l.initial.out l.out l.at
