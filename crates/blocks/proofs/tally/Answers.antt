use Rattle.std.proofs.Common.{refl, ◌∙◌, arith, rules}
use Rattle.blocks.proofs.Counting.{tally_start, tally_part, tally_end}
use Rattle.blocks.proofs.tally.Goals as goal

pub loop-part-preserved : goal.loop-part-preserved
loop-part-preserved g c = record {
  size = c.in-Some.ensures.steps.0 ∙ c.loop-part.invariant.size;
  tallies = tally_part _ _ _ _ _ _ c.loop-part.invariant.tallies _ _ c.in-Some.ensures.steps.1.0 _ c.tally_few-t.ensures _ refl;
}
