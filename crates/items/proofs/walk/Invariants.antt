use Rattle.items.specs.Walks.{test_of}
use Rattle.items.specs.Entries.{Over}
use Rattle.items.proofs.Steps.{Checking}
use Rattle.items.proofs.walk.Given as goal

abbrev pub invariant-loop-entry : goal.invariant-loop-entry
invariant-loop-entry l =
    (goal.iterator-loop-entry).can_next l.entry-iterator ×
    (goal.iterator-loop-entry).is_finite l.entry-iterator ×
    Over l.list l.fn.which l.entry-iterator ×
    Checking (test_of l.fn.which) l.list (l.entry-iterator).at l.n
