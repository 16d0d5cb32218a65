use Rattle.channels.proofs.Walk.{running_begun, running_note, running_noted, running_done}
use Rattle.channels.proofs.note_pdus.Goals as goal

pub loop-i-init : goal.loop-i-init
loop-i-init c = search running_begun

pub note_pdu-requires : goal.note_pdu-requires
note_pdu-requires c = search running_note

pub loop-i-preserved : goal.loop-i-preserved
loop-i-preserved c = search running_noted

pub returns : goal.returns
returns c = search running_done
