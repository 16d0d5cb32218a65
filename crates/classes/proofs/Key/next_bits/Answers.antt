use Rattle.classes.proofs.Bits.{turn_used, turn_on}
use Rattle.classes.proofs.Key.next_bits.Goals as goal

pub returns-then-rest-eq1 : goal.returns-then-rest-eq1
returns-then-rest-eq1 c = search turn_used

pub returns : goal.returns
returns c = search turn_on
