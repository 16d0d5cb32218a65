use Rattle.options.proofs.Numbers.{container_btsnoop, container_pcap}
use Rattle.options.proofs.container_of.Goals as goal

pub returns-in-0 : goal.returns-in-0
returns-in-0 c = search container_btsnoop

pub returns-in_default : goal.returns-in_default
returns-in_default c = search container_pcap
