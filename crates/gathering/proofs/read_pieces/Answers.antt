use Rattle.gathering.proofs.Gathering.{count_clear, pieces_begun, pieces_cleared}
use Rattle.gathering.proofs.read_pieces.Goals as goal

pub clear-requires : goal.clear-requires
clear-requires c = search count_clear

pub take_pdus-requires : goal.take_pdus-requires
take_pdus-requires c = search pieces_begun

pub returns : goal.returns
returns c = search pieces_cleared
