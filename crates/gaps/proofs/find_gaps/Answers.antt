use Rattle.laws.proofs.Exits.{handed_up}
use Rattle.gaps.proofs.Finding.{find_packets, find_found, find_refused}
use Rattle.gaps.proofs.find_gaps.Goals as goal

pub returns-in_err-t : goal.returns-in_err-t
returns-in_err-t c = rw (handed_up _ c.from_residual.ensures.1) (search (find_refused, c.in_err-t.was))

pub find_signs-requires : goal.find_signs-requires
find_signs-requires c = search (find_packets, c.in_ok-t.was)

pub returns : goal.returns
returns c = search (find_found, c.in_ok-t.was)
