use Rattle.std.proofs.Common.{refl}
use Rattle.laws.proofs.Exits.{handed_up}
use Rattle.items.proofs.Checked.{names_refused, names_walk, names_well}
use Rattle.items.proofs.lists.Names.check.Goals as goal

pub returns-in_err-check : goal.returns-in_err-check
returns-in_err-check c =
    rw (handed_up _ c.from_residual.ensures.1) (names_refused c.args.list _ _ c.check.ensures c.in_err-check.was)

pub invariant_of-result : goal.invariant_of-result
invariant_of-result c = record { walks = names_walk c.args.list _ _ c.check.ensures c.in_ok-check.was }

pub returns : goal.returns
returns c = names_well _ _ _ c.check.ensures c.in_ok-check.was _ refl refl
