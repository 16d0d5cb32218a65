use Rattle.std.proofs.Common.{refl, eqb}
use borrow.Author.Tests.{eq-eqb, eqb-true}
use Rattle.laws.proofs.Choice.{split_b}
use Rattle.items.proofs.Entries.{over_end}
use Rattle.traceprint.proofs.Names.{printing_start, printing_on, printing_name, printing_other, printing_end, never_ill}
use Rattle.traceprint.proofs.print_names.Goals as goal

pub loop-entry-init : goal.loop-entry-init
loop-entry-init g c = rw c.into_iter-entry-iterator.ensures.into_iter_gives (tt, tt, record { list = refl; kind = refl }, λ w. printing_start _ _ w)

pub loop-entry-preserved-in-Continue-branch-2 : goal.loop-entry-preserved-in-Continue-branch-2
loop-entry-preserved-in-Continue-branch-2 g c = (
  tt,
  tt,
  printing_on _ _ _ c.loop-entry.invariant.2 _ c.in-Some.ensures.steps _ c.in-Ok.is,
  λ w. printing_name _ _ _ c.loop-entry.invariant.2 _ c.in-Some.ensures.steps _ _ (c.loop-entry.invariant.3 w) _ c.in-Ok.is _ _ (eq-eqb _ _ c.if-entry-eq-NAME.true) c.in_ok-write_all.ensures.bytes c.in_ok-write_all-2.ensures.bytes,
)

pub loop-entry-preserved : goal.loop-entry-preserved
loop-entry-preserved g c = (
  tt,
  tt,
  printing_on _ _ _ c.loop-entry.invariant.2 _ c.in-Some.ensures.steps _ c.in-Ok.is,
  λ w. printing_other _ _ _ c.loop-entry.invariant.2 _ c.in-Some.ensures.steps _ _ (c.loop-entry.invariant.3 w) _ c.in-Ok.is (split_b (eqb c.in-Ok.entry.kind 3) (λ e. absurd (c.if-entry-eq-NAME.false (eqb-true _ _ e))) (λ e. e)),
)

pub returns-in_default : goal.returns-in_default
returns-in_default g c = λ w. never_ill _ _ _ c.loop-entry.invariant.2 _ c.in-Some.ensures.steps _ _ (c.loop-entry.invariant.3 w) _ c.in_default.is

pub returns : goal.returns
returns g c = λ w. printing_end _ _ _ _ (c.loop-entry.invariant.3 w) (over_end _ _ _ c.loop-entry.invariant.2 c.in-None.ensures.steps.0)
