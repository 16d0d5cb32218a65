use Rattle.fragments.proofs.Linking.{head_new, head_old}
use Rattle.fragments.proofs.head_of.Goals as goal

pub returns-then-at-rows : goal.returns-then-at-rows
returns-then-at-rows c = search head_new

pub returns : goal.returns
returns c = search head_old
