use Rattle.std.proofs.Common.{refl}
use Rattle.items.specs.Items.{span_test}
use Rattle.items.proofs.Entries.{read_fits, read_next, read_test}
use Rattle.items.proofs.Checked.{spans_none, span_gave, span_goes}
use Rattle.items.proofs.lists.SpansIterator.next.Goals as goal

pub entry_in-requires : goal.entry_in-requires
entry_in-requires c = read_fits span_test _ _ c.args.self.now.walks

pub returns-in_err-entry-clause-steps : goal.returns-in_err-entry-clause-steps
returns-in_err-entry-clause-steps c = let e = spans_none c.args.self.now c.in_err-entry.ensures in rw c.from_residual.ensures (e, e)

pub invariant_of-self : goal.invariant_of-self
invariant_of-self c = record { walks = rw c.in_ok-entry.ensures.2 (read_next span_test _ _ c.args.self.now.walks c.in_ok-entry.ensures.0 _ c.in_ok-entry.ensures.1) }

pub span-requires : goal.span-requires
span-requires c = read_test span_test _ _ c.args.self.now.walks c.in_ok-entry.ensures.0 _ c.in_ok-entry.ensures.1

pub returns-clause-steps : goal.returns-clause-steps
returns-clause-steps c = span_gave _ _ _ _ c.in_ok-entry.ensures.0 c.in_ok-entry.ensures.1 c.span.ensures refl c.in_ok-entry.ensures.2

pub returns-clause-goes : goal.returns-clause-goes
returns-clause-goes c = span_goes _ _ _ (span_gave _ _ _ _ c.in_ok-entry.ensures.0 c.in_ok-entry.ensures.1 c.span.ensures refl c.in_ok-entry.ensures.2)
