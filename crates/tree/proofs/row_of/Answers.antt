use Rattle.tree.proofs.Index.{enter_link}
use Rattle.tree.proofs.Seats.{row_taken, row_free}
use Rattle.tree.proofs.row_of.Goals as goal

pub put32-requires : goal.put32-requires
put32-requires c = search enter_link

pub returns-in-Taken : goal.returns-in-Taken
returns-in-Taken c = search row_taken

pub returns-in-Free : goal.returns-in-Free
returns-in-Free c = search row_free
