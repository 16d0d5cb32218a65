use Rattle.letters.proofs.Joining.{pair_place, halves_are}
use Rattle.letters.proofs.halves_of.Goals as goal

pub bounds-all_pairs-n : goal.bounds-all_pairs-n
bounds-all_pairs-n c = pair_place _ _ c.args.n.known c.all_pairs.ensures

pub returns : goal.returns
returns c = halves_are _ _ c.args.n.known c.all_pairs.ensures
