use Rattle.names.proofs.Writing.{name_length}
use Rattle.names.proofs.frame_name_len.Goals as goal

pub returns : goal.returns
returns c =
    name_length _ _ _ _ _ _ _ _ _ _ _ c.from.ensures c.data_type_name-kind.ensures c.args.f.known c.decimal_len-k.ensures c.decimal_len.ensures c.max.ensures c.name_len.ensures c.name_len-2.ensures
