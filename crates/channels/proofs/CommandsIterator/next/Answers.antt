use Rattle.channels.proofs.Payloads.{commands_end, command_fits, first_given, command_goes}
use Rattle.channels.proofs.CommandsIterator.next.Goals as goal

pub returns-then-rest-lt4-clause-steps : goal.returns-then-rest-lt4-clause-steps
returns-then-rest-lt4-clause-steps c = let e = commands_end _ c.if-rest-lt4.true in (e, e)

pub split_at-requires : goal.split_at-requires
split_at-requires c = search command_fits

pub returns-clause-steps : goal.returns-clause-steps
returns-clause-steps c = search first_given

pub returns-clause-goes : goal.returns-clause-goes
returns-clause-goes c = command_goes _ _ _ (search first_given)
