use Rattle.items.proofs.Entries.{test_long, span_read, part_from}
use Rattle.items.proofs.walking.Entry.span.Goals as goal

pub get_le64-requires : goal.get_le64-requires
get_le64-requires c = test_long _ _ c.requires

pub slice_bounds-result-count : goal.slice_bounds-result-count
slice_bounds-result-count c = test_long _ _ c.requires

pub slice_bounds-result-start : goal.slice_bounds-result-start
slice_bounds-result-start c = test_long _ _ c.requires

pub returns : goal.returns
returns c = span_read c.args.self _ _ _ c.requires c.of_kind.ensures c.get_le64.ensures (part_from c.args.self.body.now 8)
