use Rattle.uih.proofs.Fcs.{fcs_final, fcs_plain}
use Rattle.uih.proofs.fcs_of.Goals as goal

pub returns-then-control-eq255 : goal.returns-then-control-eq255
returns-then-control-eq255 c = search fcs_final

pub returns : goal.returns
returns c = search fcs_plain
