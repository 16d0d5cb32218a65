use Rattle.unpacking.proofs.Judging.{wire_short, wire_start, wire_end, wire_whole}
use Rattle.unpacking.proofs.read_frame.Goals as goal

pub returns-then-n-lt9 : goal.returns-then-n-lt9
returns-then-n-lt9 c = search wire_short

pub returns-then-wire-ne62 : goal.returns-then-wire-ne62
returns-then-wire-ne62 c = search wire_start

pub returns-then-wire-end-ne60 : goal.returns-then-wire-end-ne60
returns-then-wire-end-ne60 c = search wire_end

pub returns : goal.returns
returns c = search wire_whole
