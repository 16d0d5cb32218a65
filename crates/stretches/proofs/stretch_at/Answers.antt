use Rattle.stretches.proofs.Filling.{stretch_there, stretch_none}
use native.Mathlib.Omega.{arith}
use Rattle.stretches.proofs.stretch_at.Goals as goal

pub returns-then-i-w : goal.returns-then-i-w
returns-then-i-w c = search stretch_there

pub returns : goal.returns
returns c =
    let z = c.default.ensures in
    stretch_none c.args.w.now c.args.i (omega (arith, c.if-i-w.false)) _ _ _ _ _ _ z.0 z.1.0 z.1.1.0 z.1.1.1.0 z.1.1.1.1.0 z.1.1.1.1.1
