use Rattle.measuring.proofs.Counting.{counting_start, counting_turn, counting_skip, counting_end}
use Rattle.split.proofs.Fronts.{laid_lying}
use Rattle.measuring.proofs.count_spans.Goals as goal
use Rattle.measuring.proofs.count_spans.Goals.{then-dlci_of-p, else-dlci_of-p}

pub loop-i-init : goal.loop-i-init
loop-i-init c =
    let z = c.default-s.ensures in
    counting_start _ _ _ c.requires _ _ _ _ _ _ _ z.0.0 z.0.1.0 z.0.1.1 z.1.0 z.1.1.0 z.1.1.1.0 z.1.1.1.1

pub loop-i-preserved : goal.loop-i-preserved
loop-i-preserved c =
    elim c.if-dlci_of-p.branch [
      | then-dlci_of-p w ↦ rw (w.w-is, w.s-is) (counting_turn _ _ _ _ _ _ c.loop-i.invariant c.loop-i-test.true _ c.dlci_of.ensures w.if-dlci_of-p.true _ _ w.count_piece-s.ensures)
      | else-dlci_of-p w ↦ rw (w.w-is, w.s-is) (counting_skip _ _ _ _ _ _ c.loop-i.invariant c.loop-i-test.true _ c.dlci_of.ensures w.if-dlci_of-p.false)
    ]

pub invariant_of-table : goal.invariant_of-table
invariant_of-table c = record { chained = (laid_lying _ _ _ c.loop-i.invariant.laid).chained }

pub returns : goal.returns
returns c = counting_end _ _ _ _ _ _ c.loop-i.invariant c.loop-i-test.false
