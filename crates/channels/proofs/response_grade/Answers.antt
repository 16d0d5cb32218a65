use native.Mathlib.Omega.{arith}
use Rattle.channels.proofs.Grades.{response_fails, response_admits, response_unasked}
use Rattle.channels.proofs.response_grade.Goals as goal
use Rattle.channels.proofs.response_grade.Goals.{else-ok-via-then-ok+else-eq, else-ok-via-else-ok}

pub returns-then-eq : goal.returns-then-eq
returns-then-eq c = grind (arith, response_admits)

pub returns-else-ok : goal.returns-else-ok
returns-else-ok c =
    elim c.else-ok.branch [
      | else-ok-via-then-ok+else-eq w ↦ grind (arith, response_unasked)
      | else-ok-via-else-ok w ↦ search response_fails
    ]
