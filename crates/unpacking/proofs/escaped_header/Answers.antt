use Rattle.std.proofs.Common.{refl}
use Rattle.unpacking.proofs.Judging.{header_is}
use Rattle.unpacking.proofs.escaped_header.Goals as goal

pub returns : goal.returns
returns c = header_is _ _ _ _ c.requires refl c.fill_few-used.ensures _ refl refl (cc) refl
