use Rattle.search.proofs.Searching.{later_is, sooner_is, half_none, half_placed}
use native.Mathlib.Omega.{arith}
use Rattle.search.proofs.find_short.Goals as goal
use Rattle.search.proofs.find_short.Goals.{then-is_without, else-is_without}

pub returns-then-is_without-2 : goal.returns-then-is_without-2
returns-then-is_without-2 c =
    half_none _ _ _ _ (omega arith) (omega arith) c.is_without.ensures
    (elim c.if-is_without.branch [
      | then-is_without w ↦ later_is _ _ _ w.at-is w.if-is_without.true
      | else-is_without w ↦ sooner_is _ _ _ w.at-is w.if-is_without.false
    ])
    _ c.is_without-2.ensures c.if-is_without-2.true

pub returns : goal.returns
returns c =
    half_placed _ _ _ _ (omega arith) (omega arith) c.is_without.ensures
    (elim c.if-is_without.branch [
      | then-is_without w ↦ later_is _ _ _ w.at-is w.if-is_without.true
      | else-is_without w ↦ sooner_is _ _ _ w.at-is w.if-is_without.false
    ])
    _ c.place_of.ensures
