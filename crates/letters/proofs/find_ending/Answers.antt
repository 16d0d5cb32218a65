use Rattle.letters.proofs.Stems.{ending_start, ending_found, ending_turn, ending_none}
use Rattle.letters.proofs.find_ending.Goals as goal

pub loop-p-init : goal.loop-p-init
loop-p-init c = search ending_start

pub returns-then-same : goal.returns-then-same
returns-then-same c = ending_found _ _ c.loop-p.invariant _ (rw c.part.ensures.is at c.same.ensures) c.loop-p-test.true c.if-same.true

pub loop-p-preserved : goal.loop-p-preserved
loop-p-preserved c = ending_turn _ _ c.loop-p.invariant _ (rw c.part.ensures.is at c.same.ensures) c.loop-p-test.true c.if-same.false

pub returns : goal.returns
returns c = search ending_none
