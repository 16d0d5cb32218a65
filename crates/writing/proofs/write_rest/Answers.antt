use Rattle.writing.proofs.Writing.{rest_none, rest_part, rest_pre, rest_wrote}
use Rattle.writing.proofs.write_rest.Goals as goal

pub returns-then-n-held_after : goal.returns-then-n-held_after
returns-then-n-held_after c = search rest_none

pub part-requires : goal.part-requires
part-requires c = search rest_part

pub write_part-c-requires : goal.write_part-c-requires
write_part-c-requires c = search rest_pre

pub returns : goal.returns
returns c = search rest_wrote
