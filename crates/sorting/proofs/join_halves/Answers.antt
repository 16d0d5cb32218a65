use Rattle.sorting.proofs.Places.{merge_pre, joins_met, joins_merged, joins_turned}
use Rattle.sorting.proofs.join_halves.Goals as goal

pub returns-then-is_first : goal.returns-then-is_first
returns-then-is_first c = search joins_met

pub merge_words-requires : goal.merge_words-requires
merge_words-requires c = search merge_pre

pub returns-then-is_first-2 : goal.returns-then-is_first-2
returns-then-is_first-2 c = joins_merged _ _ _ c.requires _ c.copy_words.ensures _ c.merge_words.ensures

pub returns : goal.returns
returns c = search joins_turned
