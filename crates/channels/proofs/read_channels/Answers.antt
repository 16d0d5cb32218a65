use Rattle.channels.proofs.Walk.{note_clear, none_noted, noted_cleared}
use Rattle.channels.proofs.read_channels.Goals as goal

pub clear-requires : goal.clear-requires
clear-requires c = search note_clear

pub note_pdus-requires : goal.note_pdus-requires
note_pdus-requires c = search none_noted

pub returns : goal.returns
returns c = search noted_cleared
