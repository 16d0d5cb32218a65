use Rattle.recorded.proofs.Records.{bytes_head}
use Rattle.recorded.proofs.drops_of.Goals as goal

pub get_be32-requires : goal.get_be32-requires
get_be32-requires c = search bytes_head
