use Rattle.names.proofs.Writing.{command_written}
use Rattle.names.proofs.put_command.Goals as goal

pub returns : goal.returns
returns c = command_written _ _ _ _ _ _ c.args.f.known c.put_part.ensures
