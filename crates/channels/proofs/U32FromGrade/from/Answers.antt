use Rattle.channels.specs.Noting.{word_of}
use Rattle.channels.proofs.U32FromGrade.from.Goals as goal

pub returns-in-Named : goal.returns-in-Named
unfolding word_of
returns-in-Named c = rw c.in-Named.is

pub returns-in-Answered : goal.returns-in-Answered
unfolding word_of
returns-in-Answered c = rw c.in-Answered.is

pub returns-in-Asked : goal.returns-in-Asked
unfolding word_of
returns-in-Asked c = rw c.in-Asked.is
