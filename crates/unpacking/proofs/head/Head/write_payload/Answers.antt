use Rattle.unpacking.proofs.Answers.{payload_cut, payload_bare}
use Rattle.unpacking.proofs.head.Head.write_payload.Goals as goal

pub slice_bounds-copy_to-end : goal.slice_bounds-copy_to-end
slice_bounds-copy_to-end c = payload_cut c.args.self

pub returns-then-part : goal.returns-then-part
returns-then-part c = payload_bare c.args.self c.if-part.true _ _ _ c.copy_to.ensures
