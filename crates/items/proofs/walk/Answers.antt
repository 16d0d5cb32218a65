use Rattle.std.proofs.Common.{refl, arith}
use Rattle.laws.proofs.Exits.{handed_up}
use Rattle.items.proofs.Entries.{over_end}
use Rattle.items.proofs.Steps.{checking_start, checking_less, checking_on, checking_turn, checking_ill, checking_end}
use Rattle.items.proofs.walk.Goals as goal

pub loop-entry-init : goal.loop-entry-init
loop-entry-init c = rw c.into_iter-entry-iterator.ensures.into_iter_gives (tt, tt, record { list = refl; kind = refl }, checking_start _ _)

pub overflow_add-n : goal.overflow_add-n
overflow_add-n c = let h = checking_less _ _ _ _ _ c.loop-entry.invariant.2 c.loop-entry.invariant.3 _ c.in-Some.ensures.steps _ c.in_ok-entry.was in omega (arith, h)

pub returns-in_err-entry : goal.returns-in_err-entry
returns-in_err-entry c =
    rw (handed_up _ c.from_residual.ensures.1) (checking_ill _ _ _ _ _ c.loop-entry.invariant.2 c.loop-entry.invariant.3 _ c.in-Some.ensures.steps _ c.in_err-entry.was)

pub loop-entry-preserved : goal.loop-entry-preserved
loop-entry-preserved c = (
  tt,
  tt,
  checking_on _ _ _ _ _ c.loop-entry.invariant.2 c.loop-entry.invariant.3 _ c.in-Some.ensures.steps _ c.in_ok-entry.was,
  checking_turn _ _ _ _ _ c.loop-entry.invariant.2 c.loop-entry.invariant.3 _ c.in-Some.ensures.steps _ c.in_ok-entry.was,
)

pub returns : goal.returns
returns c = checking_end _ _ _ _ c.loop-entry.invariant.3 (over_end _ _ _ c.loop-entry.invariant.2 c.in-None.ensures.steps.0)
