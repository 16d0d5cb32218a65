use Rattle.channels.proofs.Grades.{raised_kept, raised_more}
use Rattle.channels.proofs.raise.Goals as goal

pub returns-then-v-get32 : goal.returns-then-v-get32
returns-then-v-get32 c = search raised_kept

pub returns : goal.returns
returns c = search raised_more
