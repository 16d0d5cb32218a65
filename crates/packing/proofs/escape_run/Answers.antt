use Rattle.packing.proofs.Escapes.{full_is, chunk_room, chunk_turn, chunk_end}
use Rattle.std.proofs.Common.{◌∙◌, refl}
use Rattle.packing.proofs.escape_run.Goals as goal

pub pair_block-at-requires : goal.pair_block-at-requires
pair_block-at-requires c = record {
  part_len = c.in-Some.ensures.steps.1.1 ∙ c.loop-part.invariant.size;
  part_value = search full_is;
  part_in_bounds = chunk_room _ _ _ _ _ _ _ c.loop-part.invariant.chunks _ _ c.in-Some.ensures.steps.1.0 (c.in-Some.ensures.steps.1.1 ∙ c.loop-part.invariant.size) c.requires;
}

pub loop-part-preserved : goal.loop-part-preserved
loop-part-preserved c = record {
  size = c.in-Some.ensures.steps.0 ∙ c.loop-part.invariant.size;
  chunks = chunk_turn _ _ _ _ _ _ _ c.loop-part.invariant.chunks _ _ c.in-Some.ensures.steps.1.0 (c.in-Some.ensures.steps.1.1 ∙ c.loop-part.invariant.size) _ _ c.pair_block-at.ensures;
}

pub returns-then-not-is_full : goal.returns-then-not-is_full
returns-then-not-is_full c = chunk_end _ _ _ _ _ _ _ c.loop-part.invariant.chunks _ refl refl

pub returns : goal.returns
returns c = chunk_end _ _ _ _ _ _ _ c.loop-part.invariant.chunks _ refl refl
