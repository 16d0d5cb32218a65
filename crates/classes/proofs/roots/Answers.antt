use Rattle.classes.proofs.Bits.{one_tree, trees_256, trees_4096, trees_65536}
use Rattle.classes.proofs.roots.Goals as goal

pub returns-then-n-lt256 : goal.returns-then-n-lt256
returns-then-n-lt256 c = search one_tree

pub returns-then-n-lt4096 : goal.returns-then-n-lt4096
returns-then-n-lt4096 c = search trees_256

pub returns-then-n-lt65536 : goal.returns-then-n-lt65536
returns-then-n-lt65536 c = search trees_4096

pub returns : goal.returns
returns c = search trees_65536
