use Rattle.laws.proofs.Exits.{handed_up}
use Rattle.capture.specs.Options.{options_of}
use Rattle.capture.proofs.CallLaws.{import_refused, import_short, import_room, import_written}
use Rattle.capture.proofs.import.Goals as goal

pub returns-in_err-s : goal.returns-in_err-s
returns-in_err-s c = rw (handed_up _ c.from_residual.ensures.1) (import_refused _ _ _ (options_of c.args.options) c.args.out.now _ _ c.find.ensures _ c.in_err-s.was)

pub returns-then-out-needed : goal.returns-then-out-needed
returns-then-out-needed c = import_short _ _ _ (options_of c.args.options) c.args.out.now _ _ c.find.ensures _ c.in_ok-s.was c.if-out-needed.true

pub write_list-requires : goal.write_list-requires
write_list-requires c = import_room _ _ _ (options_of c.args.options) c.args.out.now _ _ c.find.ensures _ c.in_ok-s.was c.if-out-needed.false

pub returns : goal.returns
returns c = import_written _ _ _ (options_of c.args.options) c.args.out.now _ _ c.find.ensures _ c.in_ok-s.was c.if-out-needed.false _ _ c.write_list.ensures
