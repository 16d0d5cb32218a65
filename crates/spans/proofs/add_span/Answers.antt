use Rattle.spans.proofs.Scans.{one_first, one_known}
use Rattle.spans.proofs.add_span.Goals as goal

pub returns-then-t-eq0 : goal.returns-then-t-eq0
returns-then-t-eq0 c = one_first _ _ c.if-t-eq0.true _ c.unpacks.ensures _ c.from.ensures

pub returns-else-t-eq0 : goal.returns-else-t-eq0
returns-else-t-eq0 c = search one_known
