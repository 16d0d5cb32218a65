-- Of a well-formed list, the names so far are printed.
use Rattle.items.specs.Walks.{any_item, Walks}
use Rattle.items.specs.Entries.{Over}
use Rattle.items.specs.declared.Listing.TheVariants.{Any}
use Rattle.traceprint.proofs.Names.{Printing}
use Rattle.traceprint.proofs.print_names.Given as goal

abbrev pub invariant-loop-entry : goal.invariant-loop-entry
invariant-loop-entry g l =
    (goal.iterator-loop-entry g).can_next l.entry-iterator ×
    (goal.iterator-loop-entry g).is_finite l.entry-iterator ×
    Over l.list Any l.entry-iterator ×
    (Walks any_item l.list 0 → Printing l.list (l.entry-iterator).at (g.W.Write.contents l.initial.out) (g.W.Write.contents l.out))
