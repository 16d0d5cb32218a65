use Rattle.laws.specs.Numbers.{le16}
use Rattle.fragments.proofs.Walking.{half_here}
use borrow.Author.Rules.{rules}
use Rattle.fragments.proofs.begun.Begun.half.Goals as goal

pub returns-then-at-len_of : goal.returns-then-at-len_of
returns-then-at-len_of c = half_here _ _ _ _ _ c.args.self.walk _ _ c.len_of.ensures c.if-at-len_of.true _ c.place_of.ensures _ c.get_le16.ensures

pub returns : goal.returns
unfolding le16
returns c = search rules
