use Rattle.table.specs.Table.{put_row}
use Rattle.table.proofs.put_row.Goals as goal

pub returns : goal.returns
unfolding put_row
returns c = cc
