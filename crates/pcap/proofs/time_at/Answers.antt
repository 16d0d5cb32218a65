use Rattle.pcap.proofs.Reading.{time_at}
use Rattle.pcap.proofs.time_at.Goals as goal

pub returns : goal.returns
returns c = search time_at
