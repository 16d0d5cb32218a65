use Rattle.pcap.proofs.Headers.{number_big, number_little}
use Rattle.pcap.proofs.Encoding.number.Goals as goal

pub returns-then-self : goal.returns-then-self
returns-then-self c = search number_big

pub returns : goal.returns
returns c = search number_little
