-- Judging by Bluetooth Core's rule as a pass can do it: the signals of each PDU are noted, then the PDU is judged by what is known.
use Rattle.std.specs.Prelude.{Bool, cond, List, [], ◌∷◌, leb}
use Rattle.l2cap.specs.Pdus.{Pdu}
use Rattle.channels.specs.Signals.{Signal}
use Rattle.channels.specs.Channels.{named, channel_of, asks_session}
use Rattle.channels.specs.Core.{pdu_core_signals}
use Rattle.channels.specs.CoreReplay.{Known, noted_all}
use Rattle.uih.specs.Frames.{frame_of}
use Rattle.rfcomm.specs.Pieces.{Kind, asks, passed, frame_kind, Judged}

-- where the file's signals name its channel, what holds once the PDU's own signals are noted; else a guess
unfoldable pub tried_known : List Signal → Known → Pdu → Bool
tried_known ss s p = cond (named ss (channel_of p)) (s.held (channel_of p)) (leb 0x40 p.cid)

unfoldable pub kind_known : Bool → List Signal → Known → Pdu → Kind
kind_known fcs ss s p = cond (asks_session p) asks (cond (tried_known ss s p) (frame_kind fcs (frame_of p.payload)) passed)

unfoldable pub replayed : Bool → List Signal → Known → List Pdu → List Judged
replayed fcs ss s [] = []
replayed fcs ss s (p ∷ ps) = record { pdu = p; kind = kind_known fcs ss (noted_all s (pdu_core_signals p)) p } ∷ replayed fcs ss (noted_all s (pdu_core_signals p)) ps
