use Rattle.letters.proofs.Stems.{pairs_there, pairing_start, pairing_turn, pairing_end}
use Rattle.letters.proofs.is_pair.Goals as goal

pub slice_bounds-p-items-end : goal.slice_bounds-p-items-end
slice_bounds-p-items-end c = search pairs_there

pub loop-p-init : goal.loop-p-init
loop-p-init c = search pairing_start

pub loop-p-preserved : goal.loop-p-preserved
loop-p-preserved c = search pairing_turn

pub returns : goal.returns
returns c = search pairing_end
