use Rattle.laws.proofs.Exits.{handed_up}
use Rattle.pcap.proofs.Headers.{header_not, header_room, header_read, header_other}
use Rattle.pcap.proofs.read_header.Goals as goal

pub returns-in_err-encoding : goal.returns-in_err-encoding
returns-in_err-encoding c = rw (handed_up _ c.from_residual.ensures.1) (search (header_not, c.in_err-encoding.was))

pub number-n-requires : goal.number-n-requires
number-n-requires c = search (header_room, c.in_ok-encoding.was)

pub returns-then-n-ne201 : goal.returns-then-n-ne201
returns-then-n-ne201 c = search (header_other, c.in_ok-encoding.was)

pub returns : goal.returns
returns c = search (header_read, c.in_ok-encoding.was)
