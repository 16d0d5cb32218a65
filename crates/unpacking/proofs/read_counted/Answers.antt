use Rattle.std.proofs.Common.{arith}
use Rattle.unpacking.proofs.Judging.{sound_few, sound_summed}
use Rattle.unpacking.proofs.read_counted.Goals as goal

pub overflow_sub-n : goal.overflow_sub-n
overflow_sub-n c = search sound_few

pub judge-requires : goal.judge-requires
judge-requires c = sound_summed _ _ _ c.requires.measured c.requires.sound _ _ c.last_byte-last.ensures (omega arith) (omega arith)
