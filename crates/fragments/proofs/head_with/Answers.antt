use Rattle.fragments.proofs.Linking.{with_none, with_some}
use Rattle.fragments.proofs.head_with.Goals as goal

pub returns-then-n-eq0 : goal.returns-then-n-eq0
returns-then-n-eq0 c = search with_none

pub returns : goal.returns
returns c = search with_some
