use Rattle.trace.proofs.ReaderLaws.{step_end, step_short, step_cut, step_whole}
use Rattle.trace.proofs.Trace.step_at.Goals as goal

pub returns-then-n-at : goal.returns-then-n-at
returns-then-n-at c = search step_end

pub returns-then-left-lt16 : goal.returns-then-left-lt16
returns-then-left-lt16 c = search step_short

pub returns-then-left-size : goal.returns-then-left-size
returns-then-left-size c = search step_cut

pub returns : goal.returns
returns c = search step_whole
