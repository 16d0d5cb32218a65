use Rattle.std.proofs.Common.{◌∙◌}
use Rattle.laws.proofs.Exits.{handed_up}
use Rattle.unpacking.proofs.Judging.{scanned_counts, flaw_sound, body_flawed}
use Rattle.unpacking.proofs.read_body.Goals as goal

pub returns-in_err-first_flaw : goal.returns-in_err-first_flaw
returns-in_err-first_flaw c =
    rw (handed_up _ c.from_residual.ensures.1) (body_flawed _ _ (c.in_err-first_flaw.ensures ∙ c.scan-t.ensures.clean))

pub read_counted-requires : goal.read_counted-requires
read_counted-requires c = record { measured = scanned_counts _ _ c.scan-t.ensures c.in_ok-first_flaw.ensures; sound = flaw_sound _ (c.in_ok-first_flaw.ensures ∙ c.scan-t.ensures.clean) }
