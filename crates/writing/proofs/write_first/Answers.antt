use Rattle.writing.proofs.Writing.{first_some, first_pre, first_wrote, first_none}
use Rattle.writing.proofs.write_first.Goals as goal

pub begins-requires : goal.begins-requires
begins-requires c = search first_some

pub write_closed-to-requires : goal.write_closed-to-requires
write_closed-to-requires c = search first_pre

pub returns-then-begins : goal.returns-then-begins
returns-then-begins c = search first_wrote

pub returns : goal.returns
returns c = search first_none
