use Rattle.search.proofs.Searching.{lacking_turn, lacking_end}
use Rattle.search.proofs.is_without.Goals as goal

pub loop-b-preserved : goal.loop-b-preserved
loop-b-preserved c = search lacking_turn

pub returns : goal.returns
returns c = search lacking_end
