use Rattle.laws.proofs.Exits.{handed_up}
use Rattle.order.proofs.Calls.{order_ill, order_short, order_wrote}
use native.Mathlib.Omega.{arith}
use Rattle.order.proofs.capture_order.Goals as goal

pub returns-in_err-way : goal.returns-in_err-way
returns-in_err-way c =
    rw (handed_up _ c.from_residual.ensures.1) (order_ill c.args.names _ _ c.read_names.ensures _ c.in_err-way.was)

pub returns-then-out-need : goal.returns-then-out-need
returns-then-out-need c = order_short c.args.names _ _ c.read_names.ensures _ c.in_ok-way.was c.if-out-need.true

pub returns : goal.returns
returns c = let m = order_wrote c.args.names c.args.out.now _ c.read_names.ensures _ c.in_ok-way.was _ (omega arith) c.write_in_order.ensures in record { answers = m.answers; writes = m.writes }
