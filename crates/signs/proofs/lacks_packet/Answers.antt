use Rattle.signs.proofs.Acl.{packet_lies, packet_lacks, packet_none}
use Rattle.signs.proofs.lacks_packet.Goals as goal

pub returns-else-not-is_acl : goal.returns-else-not-is_acl
returns-else-not-is_acl c = search packet_lacks

pub returns-then-not-is_acl : goal.returns-then-not-is_acl
returns-then-not-is_acl c = search packet_none

pub slice_bounds-lacks_data-count : goal.slice_bounds-lacks_data-count
slice_bounds-lacks_data-count c = search packet_lies

pub slice_bounds-lacks_data-start : goal.slice_bounds-lacks_data-start
slice_bounds-lacks_data-start c = search packet_lies
