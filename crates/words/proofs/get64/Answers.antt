use Rattle.words.proofs.Words.{long_read}
use mathlib.Core.Path.{◌∙◌}
use Rattle.words.proofs.get64.Goals as goal

pub returns : goal.returns
returns c = c.get_le64.ensures ∙ long_read c.args.w.now c.args.i
