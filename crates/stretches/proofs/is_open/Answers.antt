use Rattle.stretches.proofs.Listing.{open_other, open_later, open_first}
use Rattle.stretches.proofs.is_open.Goals as goal

pub returns-then-dlci_of-t : goal.returns-then-dlci_of-t
returns-then-dlci_of-t c = search open_other

pub returns-then-is_some : goal.returns-then-is_some
returns-then-is_some c = search open_later

pub returns : goal.returns
returns c = search open_first
