use Rattle.gaps.proofs.Finding.{find_followed, find_all}
use Rattle.gaps.proofs.find_signs.Goals as goal

pub left_open-left-requires : goal.left_open-left-requires
left_open-left-requires c = search find_followed

pub returns : goal.returns
returns c = search find_all
