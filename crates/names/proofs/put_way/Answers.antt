use Rattle.names.specs.Names.{way_name}
use Rattle.items.specs.Items.{rx_of}
use Rattle.names.proofs.put_way.Goals as goal

pub returns-in-Rx : goal.returns-in-Rx
unfolding way_name rx_of
returns-in-Rx c = rw c.in-Rx.is c.copy_to.ensures

pub returns-in-Tx : goal.returns-in-Tx
unfolding way_name rx_of
returns-in-Tx c = rw c.in-Tx.is c.copy_to-in-Tx.ensures
