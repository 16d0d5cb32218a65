use Rattle.std.proofs.Common.{take, add-one}
use Rattle.stretches.specs.Filled.{stretch_at}
use Rattle.stretches.proofs.Filling.{filled_more, filled_whole}
use Rattle.stretches.proofs.fill.Goals as goal

pub loop-i-preserved : goal.loop-i-preserved
loop-i-preserved c =
    let xs = take c.args.count c.args.stretches.now in
    rw (c.stretch_at.ensures, c.loop-i.invariant, add-one) (filled_more (stretch_at c.args.work.now) c.loop-i.i xs c.loop-i-test.true)

pub returns : goal.returns
returns c = search filled_whole
