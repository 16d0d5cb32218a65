use Rattle.laws.proofs.Exits.{handed_up}
use Rattle.unpacking.proofs.Answers.{unpack_refused, unpack_short, unpack_wrote}
use Rattle.unpacking.proofs.unpack.Goals as goal

pub returns-in_err-h : goal.returns-in_err-h
returns-in_err-h c =
    rw (handed_up _ c.from_residual.ensures.1) (unpack_refused _ _ c.in_err-h.ensures _)

pub returns-then-out-h : goal.returns-then-out-h
returns-then-out-h c = unpack_short _ _ c.in_ok-h.ensures _ c.if-out-h.true

pub returns : goal.returns
returns c = unpack_wrote _ _ c.in_ok-h.ensures _ c.if-out-h.false _ c.write_payload.ensures
