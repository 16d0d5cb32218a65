use Rattle.split.proofs.Linking.{class_linked}
use Rattle.split.proofs.link_pieces.Goals as goal

pub returns : goal.returns
returns c = search class_linked
