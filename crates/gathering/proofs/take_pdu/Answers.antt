use Rattle.gathering.proofs.Gathering.{up_pre, taken_passed, taken_wrong, taken_asks, taken_opens, taken_piece, piece_pre}
use Rattle.gathering.proofs.take_pdu.Goals as goal

pub count_up-s-requires : goal.count_up-s-requires
count_up-s-requires c = search up_pre

pub count_up-s-requires-in-Opens : goal.count_up-s-requires-in-Opens
count_up-s-requires-in-Opens c = search up_pre

pub take_piece-found-requires : goal.take_piece-found-requires
take_piece-found-requires c = search piece_pre

pub returns-in-Asks : goal.returns-in-Asks
returns-in-Asks c = search taken_asks

pub returns-in-Opens : goal.returns-in-Opens
returns-in-Opens c = search taken_opens

pub returns-in-Carries : goal.returns-in-Carries
returns-in-Carries c = search taken_piece

pub returns-in-Wrong : goal.returns-in-Wrong
returns-in-Wrong c = search taken_wrong

pub returns-in-Passed : goal.returns-in-Passed
returns-in-Passed c = search taken_passed
