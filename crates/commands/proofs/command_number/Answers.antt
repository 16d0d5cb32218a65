use Rattle.commands.proofs.Searching.{command_none, command_some, unknown_spot}
use Rattle.std.specs.Prelude.{Some, None}
use Rattle.commands.specs.Commands.{name_in}
use Rattle.commands.proofs.command_number.Goals as goal

pub returns-then-f-eq0 : goal.returns-then-f-eq0
returns-then-f-eq0 c = search command_none

pub returns-in-Some : goal.returns-in-Some
returns-in-Some c =
    command_some _ (Some c.in-Some.table) _ c.if-f-eq0.false c.in-Some.ensures c.command_in.ensures

pub returns-in-None : goal.returns-in-None
unfolding name_in
returns-in-None c = command_some _ None _ c.if-f-eq0.false c.in-None.ensures unknown_spot
