use Rattle.laws.proofs.Exits.{handed_up}
use Rattle.trace.proofs.Listings.{lists_long, lists_refused, lists_all}
use Rattle.trace.proofs.list_records.Goals as goal

pub returns-then-file-gt1048576 : goal.returns-then-file-gt1048576
returns-then-file-gt1048576 c = search lists_long

pub returns-in_err-format : goal.returns-in_err-format
returns-in_err-format c = rw (handed_up _ c.from_residual.ensures.1) (search (lists_refused, c.in_err-format.was))

pub returns : goal.returns
returns c = search (lists_all, c.in_ok-format.was)
