use Rattle.writing.proofs.Writing.{writing_start, writing_pre, writing_turn, writing_skip, writing_end}
use Rattle.writing.proofs.write_spans.Goals as goal
use Rattle.writing.proofs.write_spans.Goals.{then-dlci_of-s, else-dlci_of-s}

pub loop-i-init : goal.loop-i-init
loop-i-init c = search writing_start

pub write_piece-at-requires : goal.write_piece-at-requires
write_piece-at-requires c = search writing_pre

pub loop-i-preserved : goal.loop-i-preserved
loop-i-preserved c =
    elim c.if-dlci_of-s.branch [
      | then-dlci_of-s w ↦ rw (w.out-is, w.at-is) (writing_turn _ _ _ c.args.s.lying _ _ _ _ c.loop-i.invariant c.requires c.loop-i-test.true _ c.dlci_of.ensures w.if-dlci_of-s.true _ _ w.write_piece-at.ensures)
      | else-dlci_of-s w ↦ rw (w.out-is, w.at-is) (writing_skip _ _ _ c.args.s.lying _ _ _ _ c.loop-i.invariant c.requires c.loop-i-test.true _ c.dlci_of.ensures w.if-dlci_of-s.false)
    ]

pub returns : goal.returns
returns c = search writing_end
