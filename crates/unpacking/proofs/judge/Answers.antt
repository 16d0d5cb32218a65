use Rattle.unpacking.proofs.Judging.{judge_short, judge_sum, judge_length, judge_whole}
use Rattle.unpacking.proofs.judge.Goals as goal

pub returns-then-n-lt7 : goal.returns-then-n-lt7
returns-then-n-lt7 c = search judge_short

pub returns-then-last-sum : goal.returns-then-last-sum
returns-then-last-sum c = search judge_sum

pub returns-then-declared-actual : goal.returns-then-declared-actual
returns-then-declared-actual c = search judge_length

pub returns : goal.returns
returns c = search judge_whole
