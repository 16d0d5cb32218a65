use Rattle.classes.proofs.Chains.{all_unlinked, all_linked}
use Rattle.classes.proofs.link_all.Goals as goal

pub link_rows-requires : goal.link_rows-requires
link_rows-requires c = search all_unlinked

pub returns : goal.returns
returns c = search all_linked
