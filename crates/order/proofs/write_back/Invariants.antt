use Rattle.order.proofs.Turning.{Backing}
use Rattle.order.proofs.write_back.Given as goal

abbrev pub invariant-loop-name : goal.invariant-loop-name
invariant-loop-name l =
    (goal.iterator-loop-name).can_next l.name-iterator ×
    (goal.iterator-loop-name).is_finite l.name-iterator ×
    Backing l.fn.names l.name-iterator l.initial.out l.out l.to
