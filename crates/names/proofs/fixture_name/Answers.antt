use Rattle.laws.proofs.Exits.{handed_up}
use Rattle.names.proofs.Naming.{unsound, sound}
use Rattle.names.proofs.fixture_name.Goals as goal

pub returns-in_err-frame : goal.returns-in_err-frame
returns-in_err-frame c =
    rw (handed_up _ c.from_residual.ensures.1) (unsound _ _ _ _ _ _ c.in_err-frame.ensures)

pub returns : goal.returns
returns c = sound _ _ _ _ _ _ _ _ c.in_ok-frame.ensures c.name_frame.ensures
