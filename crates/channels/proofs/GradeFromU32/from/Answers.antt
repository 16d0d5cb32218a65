use Rattle.channels.proofs.Grades.{graded_zero, graded_one, graded_more}
use Rattle.channels.proofs.GradeFromU32.from.Goals as goal

pub returns-in-0 : goal.returns-in-0
returns-in-0 c = search graded_zero

pub returns-in-1 : goal.returns-in-1
returns-in-1 c = search graded_one

pub returns-in_default : goal.returns-in_default
returns-in_default c = search graded_more
