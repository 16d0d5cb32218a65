use Rattle.tree.proofs.Index.{seek_none, seek_free}
use Rattle.tree.proofs.Forest.seek.Goals as goal

pub returns-then-self-eq0 : goal.returns-then-self-eq0
returns-then-self-eq0 c = search seek_none

pub returns-in-Free : goal.returns-in-Free
returns-in-Free c = search seek_free
