use Rattle.items.specs.Items.{rx_of}
use Rattle.channels.proofs.flip.Goals as goal

pub returns-in-Rx : goal.returns-in-Rx
unfolding rx_of
returns-in-Rx c = rw c.in-Rx.is

pub returns-in-Tx : goal.returns-in-Tx
unfolding rx_of
returns-in-Tx c = rw c.in-Tx.is
