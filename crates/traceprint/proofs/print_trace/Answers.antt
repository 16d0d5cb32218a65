-- The spans that import wrote lie in its output, and what import answers is printed.
use Rattle.std.proofs.Common.{rules, sym, ◌∙◌, length-take-le}
use Rattle.traceprint.proofs.Within.{lies_within}
use Rattle.traceprint.proofs.Told.{says, line_of, trace_refused, trace_listed}
use Rattle.traceprint.proofs.print_trace.Goals as goal

pub slice_bounds-spans-end : goal.slice_bounds-spans-end
slice_bounds-spans-end g c = lies_within _ _ c.in-Ok.ensures.lies

pub slice_bounds-print_spans-end : goal.slice_bounds-print_spans-end
slice_bounds-print_spans-end g c = sym (length-take-le _ _ (lies_within _ _ c.in-Ok.ensures.lies))

pub returns-in-Err : goal.returns-in-Err
returns-in-Err g c = says _ _ _ _ _ c.writeln.ensures.bytes (line_of _ _ c.from.ensures ∙ trace_refused _ _ (search rules) c.in-Err.e _ c.in-Err.ensures.meets)

pub returns-in-Ok : goal.returns-in-Ok
returns-in-Ok g c = says _ _ _ _ _ c.print_spans.ensures (trace_listed _ _ (search rules) c.in-Ok.s _ c.in-Ok.ensures.meets)
