use Rattle.words.specs.Words.{put_word}
use lib.ListN.{length-set}
use native.Mathlib.Omega.{arith}
use borrow.Author.Rules.{rules}
use Rattle.words.proofs.put32.Goals as goal

pub bounds-w-at-2 : goal.bounds-w-at-2
bounds-w-at-2 c = simp length-set (omega arith)

pub bounds-w-at-3 : goal.bounds-w-at-3
bounds-w-at-3 c = simp length-set (omega arith)

pub bounds-w-at-4 : goal.bounds-w-at-4
bounds-w-at-4 c = simp length-set (omega arith)

pub returns : goal.returns
unfolding put_word
returns c = search rules
