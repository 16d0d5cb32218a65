-- Recordings of a monitor (datalink 2001) with more than one adapter, all on handle 0x40 and DLCI 18.
use Prim.Native.Nat.{ℕ, ◌+◌, ◌*◌}
use mathlib.Core.List.{List, [], ◌∷◌}
use lib.ListN.{take, drop}
use Rattle.items.specs.declared.Direction.{Direction}
use Rattle.items.specs.declared.Direction.TheVariants.{Rx, Tx}
use Rattle.container.specs.Packets.{link_of}
use Rattle.container.specs.Container.{Container}
use Rattle.btsnoop.specs.Records.{btsnoop}
use Rattle.cut.specs.Recording.{Frame, wire, Link, Mark, free, part, last, Record, Recording}
use Rattle.cut.proofs.Made.{header_of, row, acl, pdu, uih_on, sabm_on, request_of, response_of, frame_of, each}
use Rattle.cut.proofs.Recordings.{ack, unended}
use Rattle.adapters.specs.Links.{by_handle}

-- the low 16 flag bits, 4 for Tx and 5 for Rx, and the adapter's index above them
abbrev monitor_flags : ℕ → Direction → ℕ
monitor_flags index Rx = 65536 * index + 5
monitor_flags index Tx = 65536 * index + 4

-- a fragment on handle 0x40 of an adapter: direction, milliseconds, boundary flag, bytes
abbrev seen : ℕ → Direction → ℕ → ℕ → List ℕ → Mark → Record
seen index t ms flag b m = record { bytes = row (monitor_flags index t) ms (drop 1 (acl 0x40 flag b)); mark = m }

-- a PDU that is not a data PDU, in one packet
abbrev freely : ℕ → Direction → ℕ → ℕ → List ℕ → Record
freely index t ms cid b = seen index t ms 2 (pdu cid b) free

-- a data PDU in one packet
abbrev sends : ℕ → Direction → ℕ → ℕ → List ℕ → Record
sends index t ms cid i = seen index t ms 2 (pdu cid (uih_on 18 i)) (last i)

-- a data PDU received in two packets: its first 9 bytes, then the rest
abbrev starts : ℕ → ℕ → List ℕ → Record
starts index ms i = seen index Rx ms 2 (take 9 (pdu 0x41 (uih_on 18 i))) part

abbrev ends_with : ℕ → ℕ → List ℕ → Record
ends_with index ms i = seen index Rx ms 1 (drop 9 (pdu 0x41 (uih_on 18 i))) (last i)

-- a link, the frames received on it, and the beginning of one more
abbrev receives : ℕ → List Frame → List ℕ → Link
receives link fs p = record { handle = link; cid = each 0x41 0x52; frames = each fs []; partial = each p [] }

abbrev monitored : {C : Container} → List Record → List Link → Recording C
monitored rs ls = record { d = 18; header = header_of 2001; records = rs; links = ls }

abbrev f₁ : Frame
f₁ = frame_of 0x0C 0 (0x3C ∷ 0x10 ∷ [])

abbrev f₂ : Frame
f₂ = frame_of 0x01 1 []

-- ---- links that share a handle

-- Adapters 0 and 1 both use CID 0x41, and their fragments run together. What adapter 0xFFFF does is free: it names the CID, and opens a multiplexer and a link
-- between the fragments.
abbrev pub shared : Recording btsnoop
shared =
    monitored
    (starts 0 5 (wire f₁) ∷ starts 1 6 (wire f₂) ∷
    freely 0xFFFF Tx 7 1 (request_of 1 0x41) ∷ freely 0xFFFF Tx 8 0x41 (sabm_on 0) ∷ freely 0xFFFF Tx 8 0x41 (sabm_on 18) ∷
    ends_with 0 9 (wire f₁) ∷ ends_with 1 10 (wire f₂) ∷ sends 1 Tx 11 0x52 (take 4 (wire unended)) ∷ [])
    (receives (link_of 0 0x40) (f₁ ∷ []) [] ∷
    record { handle = link_of 1 0x40; cid = each 0x41 0x52; frames = each (f₂ ∷ []) []; partial = each [] (take 4 (wire unended)) } ∷ [])

-- two links with interleaved fragments, by their adapters' indexes
abbrev interleaved : ℕ → ℕ → Recording btsnoop
interleaved i j =
    monitored
    (starts i 5 (wire ack) ∷ starts j 6 (wire f₂) ∷ ends_with i 7 (wire ack) ∷ ends_with j 8 (wire f₂) ∷ [])
    (receives (link_of i 0x40) (ack ∷ []) [] ∷ receives (link_of j 0x40) (f₂ ∷ []) [] ∷ [])

abbrev pub two_links : Recording btsnoop
two_links = interleaved 0 1

-- indexes that have their low 8 bits in common
abbrev pub upper_bits : Recording btsnoop
upper_bits = interleaved 0x0100 0

abbrev pub all_bits : Recording btsnoop
all_bits = interleaved 0xFFFF 0x00FF

-- ---- what another adapter does on the handle, between the data or after them

-- a frame in two data PDUs, and between them a SABM on another adapter
abbrev halves : ℕ → Recording btsnoop
halves e = monitored (sends 0 Rx 5 0x41 (take 4 (wire ack)) ∷ freely 1 Rx 6 0x41 (sabm_on e) ∷ sends 0 Rx 7 0x41 (drop 4 (wire ack)) ∷ []) (receives (link_of 0 0x40) (ack ∷ []) [] ∷ [])

abbrev pub sessions : Recording btsnoop
sessions = halves 0

abbrev pub opened : Recording btsnoop
opened = halves 18

-- another adapter names the CID
abbrev pub named_elsewhere : Recording btsnoop
named_elsewhere = monitored (sends 0 Rx 5 0x41 (wire ack) ∷ freely 1 Tx 6 1 (request_of 1 0x41) ∷ []) (receives (link_of 0 0x40) (ack ∷ []) [] ∷ [])

-- A PSM 3 request on one adapter, and on another a response to its source: it names the channel of a PDU there and does not admit it. The link sends nothing.
abbrev pub answered : Recording btsnoop
answered =
    monitored
    (freely 1 Tx 5 1 (request_of 3 0x61) ∷ freely 0 Rx 6 1 (response_of 0x53 0x61 0) ∷ freely 0 Tx 7 0x53 (uih_on 18 (wire ack)) ∷ [])
    (receives (link_of 0 0x40) [] [] ∷ [])

-- of which the beginning is sent. With the wire of a frame without payload behind its first 7 bytes there stands a frame that unpacks.
abbrev pub begun : Frame
begun = frame_of 0xBB 0 (0 ∷ 0 ∷ 0 ∷ 0 ∷ 0 ∷ 0 ∷ 0 ∷ [])

-- the beginning of a frame on one adapter, a whole one on another
abbrev pub stretch : Recording btsnoop
stretch =
    monitored
    (sends 0 Rx 5 0x41 (take 7 (wire begun)) ∷ sends 1 Rx 6 0x41 (wire ack) ∷ [])
    (receives (link_of 0 0x40) [] (take 7 (wire begun)) ∷ receives (link_of 1 0x40) (ack ∷ []) [] ∷ [])

-- ---- one handle, two indexes

-- a data PDU whose two fragments have indexes 0 and 1
abbrev torn_records : List Record
torn_records = starts 0 5 (wire f₂) ∷ ends_with 1 6 (wire f₂) ∷ []

abbrev pub torn_by_handle : Recording by_handle
torn_by_handle = monitored torn_records (receives 0x40 (f₂ ∷ []) [] ∷ [])

abbrev pub torn_with : List Link → Recording btsnoop
torn_with ls = monitored torn_records ls

-- with the link of either index
abbrev pub torn : ℕ → Recording btsnoop
torn index = torn_with (receives (link_of index 0x40) (f₂ ∷ []) [] ∷ [])

-- a frame whose two data PDUs have indexes 0 and 1
abbrev torn_frame_records : List Record
torn_frame_records = sends 0 Rx 5 0x41 (take 4 (wire ack)) ∷ sends 1 Rx 6 0x41 (drop 4 (wire ack)) ∷ []

abbrev pub torn_frame_by_handle : Recording by_handle
torn_frame_by_handle = monitored torn_frame_records (receives 0x40 (ack ∷ []) [] ∷ [])

-- each index's link has its own half
abbrev pub torn_frame : Recording btsnoop
torn_frame = monitored torn_frame_records (receives (link_of 0 0x40) [] (take 4 (wire ack)) ∷ receives (link_of 1 0x40) [] (drop 4 (wire ack)) ∷ [])
