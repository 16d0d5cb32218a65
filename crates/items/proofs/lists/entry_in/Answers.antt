use Rattle.std.proofs.Common.{refl, arith}
use Rattle.items.proofs.Walks.{end_is}
use Rattle.items.proofs.Entries.{read_at, part_size}
use Rattle.items.proofs.lists.entry_in.Goals as goal

pub returns : goal.returns
returns c =
    let r = read_at _ _ _ refl c.get_le16.ensures (part_size _ _ _ c.get_le32.ensures) (c.requires c.if-list-at.false) in
    (c.if-list-at.false, r, omega (arith, r.end, end_is c.args.list.now c.args.at, c.get_le32.ensures))
