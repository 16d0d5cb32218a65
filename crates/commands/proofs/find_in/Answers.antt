use Rattle.commands.proofs.Searching.{part_fits, spot_some, spot_else}
use Rattle.commands.proofs.find_in.Goals as goal

pub slice_bounds-codes-end : goal.slice_bounds-codes-end
slice_bounds-codes-end c = part_fits _ _ _ c.all_codes.ensures c.requires.count_bound c.requires.all_codes_value

pub returns-in-Ok : goal.returns-in-Ok
returns-in-Ok c =
    spot_some _ _ _ c.all_codes.ensures c.requires.count_bound c.requires.all_codes_value _ _ c.binary_search.ensures.position _ c.in-Ok.is

pub returns-in-Err : goal.returns-in-Err
returns-in-Err c =
    spot_else _ _ _ c.all_codes.ensures c.requires.count_bound c.requires.all_codes_value _ _ c.binary_search.ensures.position _ c.in-Err.is
