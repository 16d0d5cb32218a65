use Rattle.std.proofs.Common.{refl, arith}
use Rattle.items.proofs.Entries.{walk_fits, walk_ill}
use Rattle.items.proofs.walking.WalkIterator.next.Goals as goal

pub overflow_add-self-in-Some : goal.overflow_add-self-in-Some
overflow_add-self-in-Some c = let n = walk_fits c.args.self.now c.in-Some.entry c.in-Some.ensures in omega (arith, n)

pub returns-in-None-clause-steps : goal.returns-in-None-clause-steps
returns-in-None-clause-steps c = walk_ill _ _ c.if-list-at.false c.in-None.ensures refl
