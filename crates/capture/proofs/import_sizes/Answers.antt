use Rattle.laws.proofs.Exits.{handed_up}
use Rattle.capture.specs.Options.{options_of}
use Rattle.capture.proofs.CallLaws.{sizing_refused, sizing_found}
use Rattle.capture.proofs.import_sizes.Goals as goal

pub returns-in_err-s : goal.returns-in_err-s
returns-in_err-s c = rw (handed_up _ c.from_residual.ensures.1) (sizing_refused _ _ _ (options_of c.args.options) _ _ c.find.ensures _ c.in_err-s.was)

pub returns : goal.returns
returns c = sizing_found _ _ _ (options_of c.args.options) _ _ c.find.ensures _ c.in_ok-s.was
