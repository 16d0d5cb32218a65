use Rattle.laws.proofs.Exits.{handed_up}
use Rattle.capture.specs.Options.{options_of}
use Rattle.capture.proofs.CallLaws.{find_needs, find_refused, find_read}
use Rattle.capture.proofs.find.Goals as goal

pub find_packets-requires : goal.find_packets-requires
find_packets-requires c = find_needs _ _ _ _ _ _ c.open_trace.ensures _ c.in_ok-opened.was

pub returns-in_err-opened : goal.returns-in_err-opened
returns-in_err-opened c = rw (handed_up _ c.from_residual.ensures.1) (find_refused _ _ _ (options_of c.args.options) _ _ c.open_trace.ensures _ c.in_err-opened.was)

pub returns : goal.returns
returns c = find_read _ _ _ (options_of c.args.options) _ _ c.open_trace.ensures _ c.in_ok-opened.was _ _ c.find_packets.ensures
