use Rattle.gathering.proofs.Gathering.{gather_begun, gather_ready, gather_turn, gathered}
use Rattle.gathering.proofs.take_pdus.Goals as goal

pub loop-j-init : goal.loop-j-init
loop-j-init c = gather_begun _ _ _ _ _ _ c.default-t.ensures.0 c.default-t.ensures.1.0 c.requires

pub take_pdu-t-requires : goal.take_pdu-t-requires
take_pdu-t-requires c = search gather_ready

pub loop-j-preserved : goal.loop-j-preserved
loop-j-preserved c = search gather_turn

pub returns : goal.returns
returns c = search gathered
