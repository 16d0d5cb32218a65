use Rattle.std.proofs.Common.{refl}
use native.Mathlib.Omega.{arith}
use Rattle.order.proofs.Calls.{read_up, read_down}
use Rattle.order.proofs.read_names.Goals as goal

pub returns-then-runs : goal.returns-then-runs
returns-then-runs c = read_up c.args.list _ _ c.runs.ensures c.if-runs.true _ refl refl refl (λ k. omega (arith, c.type_inv.list k))

pub returns-then-runs-2 : goal.returns-then-runs-2
returns-then-runs-2 c = read_down c.args.list _ _ c.runs-2.ensures c.if-runs-2.true _ refl refl refl
