use Rattle.classes.proofs.Chains.{linking_start, linking_row, linking_turn}
use Rattle.classes.proofs.link_rows.Goals as goal

pub loop-i-init : goal.loop-i-init
loop-i-init c = search linking_start

pub note_row-last-requires : goal.note_row-last-requires
note_row-last-requires c = search linking_row

pub loop-i-preserved : goal.loop-i-preserved
loop-i-preserved c = search linking_turn
