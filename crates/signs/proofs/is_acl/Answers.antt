use Rattle.trace.proofs.Finding.{bytes_btsnoop}
use Rattle.signs.proofs.is_acl.Goals as goal

pub is_flagged_acl-requires : goal.is_flagged_acl-requires
is_flagged_acl-requires c = search bytes_btsnoop
