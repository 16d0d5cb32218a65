use native.Mathlib.Omega.{arith}
use Rattle.places.proofs.PlacesLaws.{in_unsized, in_few, in_none, in_plan, in_room, in_listed}
use Rattle.laws.proofs.Exits.{handed_up}
use Rattle.opening.proofs.Opening.{unsized, sized}
use Rattle.places.proofs.import_places.Goals as goal

pub returns-in_err-check_sizes : goal.returns-in_err-check_sizes
returns-in_err-check_sizes c =
    rw (handed_up _ c.from_residual.ensures.1) (in_unsized _ _ _ _ _ _ _ (unsized _ _ _ c.check_sizes.ensures _ c.in_err-check_sizes.was))

pub returns-then-places-n : goal.returns-then-places-n
returns-then-places-n c =
    let small = (sized _ _ _ c.check_sizes.ensures _ c.in_ok-check_sizes.was).small in in_few _ _ _ _ _ _ small (omega (arith, small, c.if-places-n.true))

pub returns-in_err-summary : goal.returns-in_err-summary
returns-in_err-summary c = in_none _ _ _ _ _ _ (sized _ _ _ c.check_sizes.ensures _ c.in_ok-check_sizes.was) (omega (arith, c.if-places-n.false)) _ _ _ c.import.ensures _ c.in_err-summary.was _ c.from_residual-in_err-summary.ensures.1

pub plan-p-requires : goal.plan-p-requires
plan-p-requires c = in_plan _ _ _ c.args.places _ _ (sized _ _ _ c.check_sizes.ensures _ c.in_ok-check_sizes.was) (omega (arith, c.if-places-n.false)) _ _ _ c.import.ensures _ c.in_ok-summary.was

pub list_open-listed-requires : goal.list_open-listed-requires
list_open-listed-requires c = in_room _ _ _ c.args.places _ _ (sized _ _ _ c.check_sizes.ensures _ c.in_ok-check_sizes.was) (omega (arith, c.if-places-n.false)) _ _ _ c.import.ensures _ c.in_ok-summary.was _ c.plan-p.ensures

pub returns : goal.returns
returns c = in_listed _ _ _ _ _ _ (sized _ _ _ c.check_sizes.ensures _ c.in_ok-check_sizes.was) (omega (arith, c.if-places-n.false)) _ _ _ c.import.ensures _ c.in_ok-summary.was _ c.plan-p.ensures _ _ c.list_open-listed.ensures
