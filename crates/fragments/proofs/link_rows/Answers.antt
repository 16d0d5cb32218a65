use Rattle.fragments.proofs.Linking.{linking_start, linking_turn, linking_end}
use Rattle.fragments.proofs.link_rows.Goals as goal

pub loop-i-init : goal.loop-i-init
loop-i-init c = search linking_start

pub loop-i-preserved : goal.loop-i-preserved
loop-i-preserved c = search linking_turn

pub returns : goal.returns
returns c = search linking_end
