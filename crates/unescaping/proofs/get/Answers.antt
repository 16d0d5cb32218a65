use Rattle.unescaping.proofs.Places.{got_inside, got_second, got_fits, got_plain, got_escaped}
use Rattle.std.proofs.Common.{refl, arith}
use Rattle.unescaping.proofs.get.Goals as goal

pub bounds-s-i : goal.bounds-s-i
bounds-s-i c = got_inside _ _ c.requires

pub bounds-s-i-then-b-eq61 : goal.bounds-s-i-then-b-eq61
bounds-s-i-then-b-eq61 c = search got_second

pub overflow_add-result-then-b-eq61 : goal.overflow_add-result-then-b-eq61
overflow_add-result-then-b-eq61 c = omega (arith, got_fits c.args.s.now c.args.i c.requires c.if-b-eq61.true)

pub overflow_add-result-2 : goal.overflow_add-result-2
overflow_add-result-2 c = omega (arith, got_inside c.args.s.now c.args.i c.requires)

pub returns-then-b-eq61 : goal.returns-then-b-eq61
returns-then-b-eq61 c = got_escaped _ _ c.requires c.if-b-eq61.true _ refl refl

pub returns : goal.returns
returns c = got_plain _ _ c.requires c.if-b-eq61.false _ refl refl
