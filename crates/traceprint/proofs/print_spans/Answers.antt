-- What planning wrote lies in its output, and is the list of the fixtures.
use Rattle.std.proofs.Common.{rules, sym, ◌∙◌, length-take-le}
use Rattle.traceprint.proofs.Within.{plan_within}
use Rattle.traceprint.proofs.Told.{says, after, plan_walks, plan_refused, line_of, wrote_lines}
use Rattle.traceprint.proofs.print_spans.Goals as goal

pub slice_bounds-fixtures-end : goal.slice_bounds-fixtures-end
slice_bounds-fixtures-end g c = plan_within _ _ _ _ _ _ c.in-Ok.ensures

pub slice_bounds-print_names-end : goal.slice_bounds-print_names-end
slice_bounds-print_names-end g c = sym (length-take-le _ _ (plan_within _ _ _ _ _ _ c.in-Ok.ensures))

pub returns-in_ok-print_counts-in-Ok : goal.returns-in_ok-print_counts-in-Ok
returns-in_ok-print_counts-in-Ok g c =
    let m = c.in-Ok.ensures in
    let p = c.print_names.ensures (plan_walks _ _ _ _ _ m (search rules)) in
    says _ _ _ _ _ (after _ _ _ _ _ _ c.in_ok-print_counts-in-Ok.ensures p) (wrote_lines _ _ _ _ _ _ m (search rules) (search rules))

pub returns-in-Err : goal.returns-in-Err
returns-in-Err g c = says _ _ _ _ _ c.writeln.ensures.bytes (line_of _ _ c.from.ensures ∙ plan_refused _ _ _ _ c.in-Err.e c.in-Err.ensures (search rules))
