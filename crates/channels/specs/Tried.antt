-- Which PDUs are tried, by either channel rule, each at its place: by the PDUs up to and with it, and by all PDUs of the file.
use Rattle.std.specs.Prelude.{Bool, not, ◌&&◌, ◌||◌, List, leb}
use Rattle.l2cap.specs.Pdus.{Pdu}
use Rattle.channels.specs.Signals.{signals}
use Rattle.channels.specs.Channels.{named, channel_of, is_tried}
use Rattle.channels.specs.Core.{holds}

-- the source's, document 01; Bluetooth Core's, document 02, job 10
pub data ChannelRule : Type 0 where
  source core : ChannelRule

-- The source's: admitted anywhere in the file, or guessed. Bluetooth Core's: what holds when the PDU is complete, its own commands counted, or guessed.
-- A dynamic CID is guessed that nothing in the file names.
unfoldable pub tried_by : ChannelRule → List Pdu → List Pdu → Pdu → Bool
tried_by source up_to all p = is_tried (signals all) p
tried_by core up_to all p = holds up_to (channel_of p) || (leb 0x40 p.cid && not (named (signals all) (channel_of p)))
