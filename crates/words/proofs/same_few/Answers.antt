use Rattle.words.proofs.Fields.{alike_start, alike_one, alike_end, other_byte}
use Rattle.words.proofs.same_few.Goals as goal

pub loop-i-init : goal.loop-i-init
loop-i-init c = search alike_start

pub returns-then-a-i : goal.returns-then-a-i
returns-then-a-i c = other_byte _ _ c.loop-i.i c.if-a-i.true

pub loop-i-preserved : goal.loop-i-preserved
loop-i-preserved c = search alike_one

pub returns : goal.returns
returns c = search alike_end
