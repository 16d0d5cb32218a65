use native.Mathlib.Omega.{arith}
use Rattle.recorded.proofs.Records.{bytes_head}
use Rattle.recorded.proofs.is_short.Goals as goal

pub get_be32-requires : goal.get_be32-requires
get_be32-requires c = omega (arith, bytes_head c.args.r _ c.bytes-bytes.ensures)

pub get_be32-requires-in-Btsnoop : goal.get_be32-requires-in-Btsnoop
get_be32-requires-in-Btsnoop c = omega (arith, bytes_head c.args.r _ c.bytes-bytes.ensures)

pub number-requires : goal.number-requires
number-requires c = omega (arith, bytes_head c.args.r _ c.bytes-bytes.ensures)

pub number-requires-in-Pcap : goal.number-requires-in-Pcap
number-requires-in-Pcap c = search bytes_head
