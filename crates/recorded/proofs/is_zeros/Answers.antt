use mathlib.Core.Path.{ap, ◌∙◌}
use lib.Dec.{eqb}
use lib.Seq.{take_all}
use Rattle.std.proofs.Common.{rules, tests}
use Rattle.std.proofs.lemmas.Iterator.{YieldsList-from_slice}
use Rattle.std.proofs.lemmas.Iterator.Search.{all_from_yields_List}
use Rattle.signs.specs.Recorded.{is_zeros}
use Rattle.recorded.proofs.Records.{zeros_all}
use Rattle.recorded.proofs.is_zeros.Goals as goal

pub returns : goal.returns
returns c =
    let b = c.iter.result.rest.now in
    all_from_yields_List (λ x. eqb x 0) _ _ c.all.result c.all.ensures.ran (YieldsList-from_slice b cc) (λ x b q k. search (rules, tests)) ∙ zeros_all b ∙ ap is_zeros (search (rules, take_all))
