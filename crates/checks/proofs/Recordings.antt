-- Recordings with right and wrong FCS bytes: honest ones where FCS is checked, and for the rules that it touches one that breaks each.
use Prim.Native.Nat.{ℕ, ◌+◌, ◌*◌}
use mathlib.Core.List.{List, [], ◌∷◌, ◌++◌}
use lib.Bits.{bit_xor}
use lib.ListN.{length, take, drop}
use Rattle.items.specs.declared.Direction.{Direction}
use Rattle.items.specs.declared.Direction.TheVariants.{Rx, Tx}
use Rattle.btsnoop.specs.Records.{btsnoop}
use Rattle.uih.specs.Fcs.{fcs_of}
use Rattle.cut.specs.Recording.{Frame, wire, part, last, Record, Recording}
use Rattle.cut.proofs.Made.{header_of, row, flags_of, acl, pdu, sabm_on, request_of, response_of, end_of, freely, frame_of, each}
use Rattle.cut.proofs.Recordings.{ack}

-- ---- UIH frames

-- on a DLCI, with control 0xEF and an FCS
abbrev uih_with : ℕ → List ℕ → ℕ → List ℕ
uih_with e i fcs = (4 * e + 1) ∷ 0xEF ∷ (2 * length i + 1) ∷ (i ++ (fcs ∷ []))

-- with the right FCS
abbrev pub right_on : ℕ → List ℕ → List ℕ
right_on e i = uih_with e i (fcs_of ((4 * e + 1) ∷ 0xEF ∷ []))

-- with a bit of it wrong
abbrev pub faulty_on : ℕ → List ℕ → List ℕ
faulty_on e i = uih_with e i (bit_xor (fcs_of ((4 * e + 1) ∷ 0xEF ∷ [])) 1)

-- with control 0xFF and a credit byte, and the right FCS
abbrev pub credit_on : ℕ → ℕ → List ℕ → List ℕ
credit_on e credit i = (4 * e + 1) ∷ 0xFF ∷ (2 * length i + 1) ∷ credit ∷ (i ++ (fcs_of ((4 * e + 1) ∷ 0xFF ∷ []) ∷ []))

-- ---- one link, on 0x41 (Rx) and 0x52 (Tx), with its frames

abbrev cid_of : Direction → ℕ
cid_of = each 0x41 0x52

abbrev one_link : List Record → List Frame → List Frame → Recording btsnoop
one_link rs fs gs = record { d = 18; header = header_of 1002; records = rs; links = record { handle = 0x40; cid = cid_of; frames = each fs gs; partial = each [] [] } ∷ [] }

-- a data PDU by its UIH frame and the information of it: in one packet; its first k bytes, and the rest
abbrev sends : Direction → ℕ → List ℕ → List ℕ → Record
sends t ms b i = record { bytes = row (flags_of t) ms (acl 0x40 2 (pdu (cid_of t) b)); mark = last i }

abbrev starts : Direction → ℕ → List ℕ → ℕ → Record
starts t ms b k = record { bytes = row (flags_of t) ms (acl 0x40 2 (take k (pdu (cid_of t) b))); mark = part }

abbrev ends_with : Direction → ℕ → List ℕ → List ℕ → ℕ → Record
ends_with t ms b i k = record { bytes = row (flags_of t) ms (acl 0x40 1 (drop k (pdu (cid_of t) b))); mark = last i }

abbrev f₁ : Frame
f₁ = frame_of 0x0C 0 (0x3C ∷ 0x10 ∷ [])

abbrev f₂ : Frame
f₂ = frame_of 0x01 1 []

-- a frame and the beginning of another; the rest of that one
abbrev front : List ℕ
front = wire ack ++ take 5 (wire f₁)

abbrev rest : List ℕ
rest = drop 5 (wire f₁)

-- ---- honest where FCS is checked

-- Data PDUs in two packets and with a credit byte, a frame over both. All else is free: wrong frames on the other DLCI of the channel before, on d between
-- (one has a frame, one has nothing) and after, data on another channel, and a SABM with a wrong FCS there.
abbrev pub noisy : Recording btsnoop
noisy =
    one_link
    (freely 0x40 Rx 1 0x41 (faulty_on 19 (wire ack)) ∷
    starts Rx 2 (right_on 18 front) 6 ∷
    ends_with Rx 3 (right_on 18 front) front 6 ∷
    freely 0x40 Rx 4 0x41 (faulty_on 18 (wire f₂)) ∷
    freely 0x40 Rx 5 0x41 (faulty_on 18 []) ∷
    freely 0x40 Rx 6 0x41 (right_on 20 (wire f₂)) ∷
    freely 0x40 Tx 7 0x52 (sabm_on 20) ∷
    sends Rx 8 (credit_on 18 7 rest) rest ∷
    freely 0x40 Rx 9 0x41 (faulty_on 18 []) ∷ [])
    (ack ∷ f₁ ∷ []) []

-- a wrong frame on d within a frame
abbrev pub mixed : Recording btsnoop
mixed = one_link (sends Rx 5 (right_on 18 front) front ∷ freely 0x40 Rx 6 0x41 (faulty_on 18 (wire f₂)) ∷ sends Rx 7 (right_on 18 rest) rest ∷ []) (ack ∷ f₁ ∷ []) []

-- a wrong frame on d that is tried only in a cut before the last record, which names its channel for another PSM
abbrev pub heard_later : Recording btsnoop
heard_later = one_link (sends Rx 5 (right_on 18 (wire ack)) (wire ack) ∷ freely 0x40 Rx 6 0x70 (faulty_on 18 []) ∷ freely 0x40 Tx 7 1 (request_of 5 0x70) ∷ []) (ack ∷ []) []

-- by Bluetooth Core's rule: wrong frames while the channel is held, and after its end
abbrev pub held : Recording btsnoop
held =
    one_link
    (freely 0x40 Tx 1 1 (request_of 3 0x41) ∷
    freely 0x40 Rx 2 1 (response_of 0x52 0x41 0) ∷
    sends Tx 3 (right_on 18 (wire ack)) (wire ack) ∷
    freely 0x40 Tx 4 0x52 (faulty_on 18 (wire f₂)) ∷
    freely 0x40 Rx 5 1 (end_of 0x52 0x41) ∷
    freely 0x40 Tx 6 0x52 (faulty_on 18 []) ∷ [])
    [] (ack ∷ [])

-- ---- one rule broken, else honest

-- checks: a data PDU with a wrong FCS
abbrev pub wrong_data : Recording btsnoop
wrong_data = one_link (sends Rx 5 (faulty_on 18 (wire ack)) (wire ack) ∷ []) (ack ∷ []) []

-- alone: data on d that is not a link's, with the right FCS
abbrev pub right_data : Recording btsnoop
right_data = one_link (sends Rx 5 (right_on 18 (wire ack)) (wire ack) ∷ freely 0x40 Rx 6 0x70 (right_on 18 (wire f₂)) ∷ []) (ack ∷ []) []

-- settled: a link on d opened anew within a frame, by a SABM with a wrong FCS
abbrev pub wrong_sabm : Recording btsnoop
wrong_sabm =
    one_link
    (sends Rx 5 (right_on 18 (take 4 (wire ack))) (take 4 (wire ack)) ∷ freely 0x40 Rx 6 0x41 (sabm_on 18) ∷ sends Rx 7 (right_on 18 (drop 4 (wire ack))) (drop 4 (wire ack)) ∷ [])
    (ack ∷ []) []
