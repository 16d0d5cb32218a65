use Rattle.signs.proofs.Acl.{directed_short, directed_acl, directed_other}
use Rattle.signs.proofs.is_directed_acl.Goals as goal

pub returns-then-bytes-lt20 : goal.returns-then-bytes-lt20
returns-then-bytes-lt20 c = search directed_short

pub returns-then-way-lt2 : goal.returns-then-way-lt2
returns-then-way-lt2 c = search directed_acl

pub returns-else-way-lt2 : goal.returns-else-way-lt2
returns-else-way-lt2 c = search directed_other
