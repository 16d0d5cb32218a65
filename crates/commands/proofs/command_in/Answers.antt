use Rattle.commands.proofs.Searching.{rising1, rising2, spot1, spot2}
use lib.Dec.{lit≤}
use mathlib.Core.Path.{◌∙◌}
use Rattle.commands.proofs.command_in.Goals as goal

pub find_in-requires : goal.find_in-requires
find_in-requires c = record { count_bound = lit≤ tt; all_codes_value = rising1 }

pub find_in-requires-in-Two : goal.find_in-requires-in-Two
find_in-requires-in-Two c = record { count_bound = lit≤ tt; all_codes_value = rising2 }

pub returns-in-One : goal.returns-in-One
returns-in-One c = rw c.in-One.is (spot1 _ _ (c.unwrap_or.ensures ∙ c.find_in.ensures.is))

pub returns-in-Two : goal.returns-in-Two
returns-in-Two c = rw c.in-Two.is (spot2 _ _ (c.unwrap_or-in-Two.ensures ∙ c.find_in-in-Two.ensures.is))
