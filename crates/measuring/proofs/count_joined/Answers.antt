use Rattle.measuring.proofs.Counting.{behind_none, behind_room, behind_counted}
use Rattle.measuring.proofs.count_joined.Goals as goal

pub returns-then-e-m : goal.returns-then-e-m
returns-then-e-m c = search behind_none

pub count_part-c-requires : goal.count_part-c-requires
count_part-c-requires c = search behind_room

pub returns : goal.returns
returns c = search behind_counted
