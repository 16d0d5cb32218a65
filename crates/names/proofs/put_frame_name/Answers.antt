use Rattle.names.proofs.Writing.{name_written}
use Rattle.names.proofs.Parts.{length_head, length_type, length_seq, length_command}
use Rattle.names.specs.Names.{name_len}
use Rattle.items.specs.Items.{rx_of}
use native.Mathlib.Omega.{arith}
use Rattle.names.proofs.put_frame_name.Goals as goal

pub put_head-a-requires : goal.put_head-a-requires
unfolding name_len
put_head-a-requires c = omega arith

pub put_type-b-requires : goal.put_type-b-requires
unfolding name_len
put_type-b-requires c = omega (arith, length_head c.args.stamp.ms c.args.stamp.counter (rx_of c.args.stamp.direction))

pub put_seq-c-requires : goal.put_seq-c-requires
unfolding name_len
put_seq-c-requires c = omega (arith, length_head c.args.stamp.ms c.args.stamp.counter (rx_of c.args.stamp.direction), length_type c.args.f.frame.kind)

pub put_command-d-requires : goal.put_command-d-requires
unfolding name_len
put_command-d-requires c = omega (arith, length_head c.args.stamp.ms c.args.stamp.counter (rx_of c.args.stamp.direction), length_type c.args.f.frame.kind, length_seq c.args.f.frame.seq)

pub copy_to-requires : goal.copy_to-requires
unfolding name_len
copy_to-requires c = omega (arith, length_head c.args.stamp.ms c.args.stamp.counter (rx_of c.args.stamp.direction), length_type c.args.f.frame.kind, length_seq c.args.f.frame.seq, length_command c.args.f.frame)

pub returns : goal.returns
returns c = name_written _ _ _ _ _ _ _ _ _ _ _ _ _ _ _ _ c.put_head-a.ensures c.put_type-b.ensures c.put_seq-c.ensures c.put_command-d.ensures c.copy_to.ensures
