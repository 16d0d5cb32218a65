use Rattle.signs.proofs.Acl.{data_short, data_there}
use Rattle.signs.proofs.lacks_data.Goals as goal

pub returns-in_default : goal.returns-in_default
returns-in_default c = search data_short

pub returns : goal.returns
returns c = search data_there
