use Rattle.laws.proofs.Exits.{handed_up}
use Rattle.capture.proofs.CallLaws.{packets_none, packets_some}
use Rattle.capture.proofs.find_packets.Goals as goal

pub returns-in_err-stream : goal.returns-in_err-stream
returns-in_err-stream c = rw (handed_up _ c.from_residual.ensures.1) (packets_none _ _ _ c.args.options c.requires _ _ c.gather-g.ensures _ _ c.choose_stream.ensures _ c.ok_or.ensures.ok_part c.ok_or.ensures.value _ c.in_err-stream.was)

pub returns : goal.returns
returns c = packets_some _ _ _ c.args.options c.requires _ _ c.gather-g.ensures _ _ c.choose_stream.ensures _ c.ok_or.ensures.ok_part c.ok_or.ensures.value _ c.in_ok-stream.was _ c.wrong_on.ensures
