-- Recordings for Bluetooth Core's rule: honest ones, and for the rules on channels and on judged PDUs some that break one. q asks, s is a success, x an end.
use Prim.Native.Nat.{ℕ}
use mathlib.Core.List.{List, [], ◌∷◌}
use lib.ListN.{take, drop}
use Rattle.items.specs.declared.Direction.TheVariants.{Rx, Tx}
use Rattle.btsnoop.specs.Records.{btsnoop}
use Rattle.cut.specs.Recording.{Frame, wire, Record, Recording}
use Rattle.cut.proofs.Made.{header_of, uih_on, request_by, response_by, end_of, freely, sends, starts, ends_with, frame_of, each}
use Rattle.cut.proofs.Recordings.{ack}

abbrev f₂ : Frame
f₂ = frame_of 0x01 1 []

-- one link, on 0x41 (Rx) and 0x52 (Tx): the frames of each direction
abbrev one_link : List Record → List Frame → List Frame → Recording btsnoop
one_link rs fs gs = record { d = 18; header = header_of 1002; records = rs; links = record { handle = 0x40; cid = each 0x41 0x52; frames = each fs gs; partial = each [] [] } ∷ [] }

-- at some milliseconds: a request for 0x41 and its success with 0x52, with an identifier; their end
abbrev q : ℕ → ℕ → ℕ → Record
q ms id psm = freely 0x40 Tx ms 1 (request_by id psm 0x41)

abbrev s : ℕ → ℕ → Record
s ms id = freely 0x40 Rx ms 1 (response_by id 0x52 0x41 0)

abbrev x : ℕ → Record
x ms = freely 0x40 Rx ms 1 (end_of 0x52 0x41)

-- ---- honest

-- a service of PSM 1 with look-alike bytes on the same CIDs, before the success and after the end
abbrev pub reused : Recording btsnoop
reused =
    one_link
    (q 1 1 1 ∷ s 2 1 ∷ freely 0x40 Rx 3 0x41 (uih_on 18 (wire f₂)) ∷ q 4 2 3 ∷ s 5 2 ∷ sends 0x40 Rx 6 0x41 18 (wire ack) ∷ sends 0x40 Tx 7 0x52 18 (wire f₂) ∷ x 8 ∷ freely 0x40 Rx 9 0x41 (uih_on 18 (wire f₂)) ∷ [])
    (ack ∷ []) (f₂ ∷ [])

-- success between the fragments of a data PDU: it counts what holds when the PDU is complete
abbrev pub succeeds_within : Recording btsnoop
succeeds_within = one_link (q 1 1 3 ∷ starts 0x40 Tx 2 0x52 18 (wire ack) 9 ∷ s 3 1 ∷ ends_with 0x40 Tx 4 0x52 18 (wire ack) 9 ∷ []) [] (ack ∷ [])

-- ---- one rule broken, else honest

-- channels: the success has another identifier; the data come after the end; the end comes between the fragments
abbrev pub other_identifier : Recording btsnoop
other_identifier = one_link (q 1 1 3 ∷ s 2 2 ∷ sends 0x40 Tx 3 0x52 18 (wire ack) ∷ []) [] (ack ∷ [])

abbrev pub after_end : Recording btsnoop
after_end = one_link (q 1 1 3 ∷ s 2 1 ∷ x 3 ∷ sends 0x40 Tx 4 0x52 18 (wire ack) ∷ []) [] (ack ∷ [])

abbrev pub ends_within : Recording btsnoop
ends_within = one_link (q 1 1 3 ∷ s 2 1 ∷ starts 0x40 Tx 3 0x52 18 (wire ack) 9 ∷ x 4 ∷ ends_with 0x40 Tx 5 0x52 18 (wire ack) 9 ∷ []) [] (ack ∷ [])

-- settled: another service asks for PSM 3 within a frame
abbrev pub asked_within : Recording btsnoop
asked_within = one_link (sends 0x40 Rx 1 0x41 18 (take 4 (wire ack)) ∷ freely 0x40 Tx 2 1 (request_by 1 3 0x50) ∷ sends 0x40 Rx 3 0x41 18 (drop 4 (wire ack)) ∷ []) (ack ∷ []) []

-- alone: a success with a foreign source, which the source's rule does not match, and data on its destination
abbrev pub foreign_source : Recording btsnoop
foreign_source = one_link (freely 0x40 Tx 1 1 (request_by 3 3 0x50) ∷ sends 0x40 Rx 2 0x41 18 (wire ack) ∷ freely 0x40 Rx 3 1 (response_by 3 0x51 0x99 0) ∷ freely 0x40 Tx 4 0x51 (uih_on 18 (wire f₂)) ∷ []) (ack ∷ []) []
