use Rattle.items.specs.Items.{rx_of}
use Rattle.channels.specs.ChannelTable.{channel_key}
use native.Mathlib.Omega.{arith}
use Rattle.channels.proofs.key_of.Goals as goal

pub returns-in-Rx : goal.returns-in-Rx
unfolding channel_key rx_of
returns-in-Rx c = rw (c.key_on.ensures, c.in-Rx.is)

pub returns-in-Tx : goal.returns-in-Tx
unfolding channel_key rx_of
returns-in-Tx c = rw (c.key_on-in-Tx.ensures, c.in-Tx.is) (omega arith)
