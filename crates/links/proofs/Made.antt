-- Files for the examples: the three packets of a link, by themselves, among what other links and adapters send, and each with one thing changed.
use Prim.Native.Nat.{ℕ, ◌+◌, ◌*◌}
use mathlib.Core.Bool.{Bool, true, false}
use mathlib.Core.List.{List, [], ◌∷◌, ◌++◌}
use lib.ListN.{length, take, drop}
use Rattle.laws.specs.Answers.{Outcome, gives}
use Rattle.items.specs.Items.{Span, span_list}
use Rattle.container.specs.Packets.{Packet}
use Rattle.cut.proofs.Made.{header_of, stamped, row, acl, pdu, uih_on, sabm_on, request_of}

-- a list with so many buffers unfinished
abbrev pub lists : List Span → ℕ → Outcome
lists ss n = gives (length ss ∷ n ∷ length (span_list ss) ∷ []) (span_list ss)

-- a packed frame with this sequence number, and the beginning of one
abbrev pub frame : ℕ → List ℕ
frame n = 0x3E ∷ 1 ∷ n ∷ 0 ∷ 0 ∷ 0 ∷ 1 ∷ 7 ∷ (9 + n) ∷ 0x3C ∷ []

abbrev pub begun : List ℕ
begun = 0x3E ∷ 1 ∷ 2 ∷ []

-- a data PDU of DLCI 18 in two fragments; one with a frame and the beginning of another
abbrev pub front : List ℕ
front = take 9 (pdu 0x41 (uih_on 18 (frame 0)))

abbrev pub back : List ℕ
back = drop 9 (pdu 0x41 (uih_on 18 (frame 0)))

abbrev pub more : ℕ → List ℕ
more n = pdu 0x41 (uih_on 18 (frame n ++ begun))

-- a packet of the handle 0x40 on adapter 0: direction (1 Rx, 0 Tx), whether it starts a PDU, milliseconds, data
abbrev pub packet : ℕ → Bool → ℕ → List ℕ → Packet
packet rx start ms b = record { link = 0x40; rx = rx; start = start; time = ms; bytes = b }

abbrev pub three : List Packet
three = packet 1 true 5 front ∷ packet 1 false 6 back ∷ packet 1 true 7 (more 1) ∷ []

-- ---- on datalink 1002: the three packets alone, by the boundary flag of the second, and direction, milliseconds and frame of the third

abbrev pub alone_with : ℕ → ℕ → ℕ → ℕ → List ℕ
alone_with flag rx ms n = header_of 1002 ++ (row 1 5 (acl 0x40 2 front) ++ (row 1 6 (acl 0x40 flag back) ++ row rx ms (acl 0x40 0 (more n))))

abbrev pub alone : List ℕ
alone = alone_with 1 1 7 1

-- the third first
abbrev pub turned : List ℕ
turned = header_of 1002 ++ (row 1 7 (acl 0x40 0 (more 1)) ++ (row 1 5 (acl 0x40 2 front) ++ row 1 6 (acl 0x40 1 back)))

-- ---- on datalink 2001

-- a fragment without the byte of H4; a record of a monitor, by an adapter's index
abbrev pub bare : ℕ → ℕ → List ℕ → List ℕ
bare h flag b = drop 1 (acl h flag b)

abbrev pub seen : ℕ → ℕ → ℕ → List ℕ → List ℕ
seen index rx ms b = row (65536 * index + 4 + rx) ms b

-- The same three. The flag that starts, bytes past the data and microseconds under a millisecond are others. Between them: the handle 0x41 sends a frame on
-- DLCI 20, begins a PDU, asks for PSM 3; adapter 1 has the handle 0x40 too, names the CID, opens a multiplexer, sends a frame; a record that is no ACL data.
abbrev pub among : List ℕ
among =
    header_of 2001 ++
    (seen 0 1 1 (bare 0x41 2 (pdu 0x50 (uih_on 20 (frame 3)))) ++
    (seen 0 1 5 (bare 0x40 3 front ++ (1 ∷ 2 ∷ [])) ++
    (seen 1 0 5 (bare 0x40 2 (pdu 1 (request_of 1 0x41))) ++
    (seen 0 1 5 (bare 0x41 2 front) ++
    (seen 0 1 6 (bare 0x40 1 back) ++
    (seen 0 0 6 (bare 0x41 2 (pdu 1 (request_of 3 0x50))) ++
    (seen 1 1 6 (bare 0x40 2 (pdu 0x50 (sabm_on 0))) ++
    (row 3 6 (bare 0x40 2 front) ++
    (stamped 5 (0x00dcddb30f2f8000 + 7999) (bare 0x40 2 (more 1)) ++
    seen 1 1 8 (bare 0x40 2 (pdu 0x50 (uih_on 18 (frame 4)))))))))))))

-- ---- DLCIs of one link

-- on 18 a frame; on 19, the other way, a span that does not unpack; on 20 a beginning
abbrev pub unpackable : List ℕ
unpackable = 0x3E ∷ 5 ∷ 0x3C ∷ []

abbrev pub sides : List ℕ
sides =
    header_of 1002 ++
    (row 1 1 (acl 0x40 2 (pdu 0x41 (uih_on 18 (frame 0)))) ++
    (row 0 2 (acl 0x40 2 (pdu 0x52 (uih_on 19 unpackable))) ++
    row 1 3 (acl 0x40 2 (pdu 0x41 (uih_on 20 begun)))))

-- ---- one record, which a datalink says how to read

abbrev pub read_as : ℕ → List ℕ
read_as datalink = header_of datalink ++ row 1 5 (bare 0x0202 0 (pdu 0x41 (uih_on 18 (frame 0))))
