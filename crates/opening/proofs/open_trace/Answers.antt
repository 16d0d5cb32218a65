use mathlib.Core.Path.{refl}
use Rattle.laws.proofs.Exits.{handed_up}
use Rattle.opening.proofs.Opening.{unsized, sized, open_unsized, sized_pre, sized_refused, sized_read}
use Rattle.opening.proofs.open_trace.Goals as goal

pub returns-in_err-check_sizes : goal.returns-in_err-check_sizes
returns-in_err-check_sizes c =
    rw (handed_up _ c.from_residual.ensures.1) (open_unsized _ _ _ _ _ _ (unsized _ _ _ c.check_sizes.ensures _ c.in_err-check_sizes.was))

pub open_records-requires : goal.open_records-requires
open_records-requires c = sized_pre _ _ _ (sized _ _ _ c.check_sizes.ensures _ c.in_ok-check_sizes.was) _ c.read_header.ensures _ c.in_ok-format.was

pub returns-in_err-format : goal.returns-in_err-format
returns-in_err-format c =
    rw (handed_up _ c.from_residual-in_err-format.ensures.1)
    (sized_refused _ _ _ (sized _ _ _ c.check_sizes.ensures _ c.in_ok-check_sizes.was) _ c.read_header.ensures _ _ _ c.in_err-format.was)

pub returns : goal.returns
returns c =
    sized_read _ _ _ (sized _ _ _ c.check_sizes.ensures _ c.in_ok-check_sizes.was) _ c.read_header.ensures _ _ _ refl c.in_ok-format.was _ _ c.open_records.ensures
