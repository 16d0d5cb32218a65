use Rattle.letters.proofs.Places.{start_reach, len_reach, part_within, part_is}
use native.Mathlib.Omega.{arith}
use Rattle.letters.proofs.part.Goals as goal

pub bounds-all_starts-p : goal.bounds-all_starts-p
bounds-all_starts-p c = start_reach _ c.requires _ c.all_starts.ensures

pub bounds-all_lens-p : goal.bounds-all_lens-p
bounds-all_lens-p c = len_reach _ c.requires _ c.all_lens.ensures

pub slice_bounds-result-end : goal.slice_bounds-result-end
slice_bounds-result-end c = part_within _ c.requires _ _ _ c.all_starts.ensures c.all_lens.ensures c.all_letters.ensures

pub returns : goal.returns
returns c = part_is _ c.requires _ _ _ c.all_starts.ensures c.all_lens.ensures c.all_letters.ensures (omega arith)
