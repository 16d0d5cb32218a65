use Rattle.pcap.proofs.Reading.{size_at}
use Rattle.pcap.proofs.record_size.Goals as goal

pub returns : goal.returns
returns c = search size_at
