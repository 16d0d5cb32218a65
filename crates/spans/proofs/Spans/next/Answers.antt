use Rattle.spans.proofs.Buffers.{next_is_span, next_is_rest}
use Rattle.std.proofs.lemmas.List.{take_rest}
use Rattle.spans.proofs.Spans.next.Goals as goal

pub returns-then-end-begun : goal.returns-then-end-begun
returns-then-end-begun c = next_is_rest _ _ _ _ c.find_soon.ensures (take_rest c.args.self.now.rest.now c.find_soon.result) c.find_soon-end.ensures c.if-end-begun.true

pub returns : goal.returns
returns c = next_is_span _ _ _ _ c.find_soon.ensures (take_rest c.args.self.now.rest.now c.find_soon.result) c.find_soon-end.ensures c.if-end-begun.false _ c.split_at.ensures.front _ c.split_at.ensures.back
