use Rattle.std.proofs.Common.{refl}
use Rattle.items.proofs.Entries.{entry_short, entry_passes, entry_whole}
use Rattle.items.proofs.walking.entry_at.Goals as goal

pub returns-in_err-head : goal.returns-in_err-head
returns-in_err-head c = rw c.from_residual.ensures (entry_short _ _ _ c.requires c.in_err-head.ensures.cases)

pub returns-in_err-body : goal.returns-in_err-body
returns-in_err-body c = rw c.from_residual-in_err-body.ensures (entry_passes _ _ _ c.requires _ _ c.in_ok-head.ensures.cases _ c.get_le32.ensures c.in_err-body.ensures.cases)

pub returns : goal.returns
returns c = entry_whole _ _ _ c.requires _ _ c.in_ok-head.ensures.cases _ _ _ c.get_le32.ensures c.in_ok-body.ensures.cases refl c.get_le16-kind.ensures _ _ c.allowed.ensures c.then_some.ensures
