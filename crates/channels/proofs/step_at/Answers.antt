use Rattle.channels.proofs.Payloads.{command_within}
use Rattle.channels.proofs.Walk.{step_is}
use native.Mathlib.Omega.{arith}
use Rattle.channels.proofs.step_at.Goals as goal

pub overflow_add-end : goal.overflow_add-end
overflow_add-end c = omega (arith, command_within c.args.s.now c.args.at _ c.requires c.command_len.ensures)

pub slice_bounds-read_signal-end : goal.slice_bounds-read_signal-end
slice_bounds-read_signal-end c = command_within c.args.s.now c.args.at _ c.requires c.command_len.ensures

pub returns : goal.returns
returns c = step_is _ _ _ c.requires c.command_len.ensures _ _ _ c.read_signal-said.ensures
