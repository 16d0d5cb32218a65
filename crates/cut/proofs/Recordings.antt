-- Recordings: the worked example, one with everything, and for each rule of honesty one that breaks it.
use Prim.Native.Nat.{ℕ}
use mathlib.Core.List.{List, [], ◌∷◌, ◌++◌}
use lib.ListN.{take, drop}
use Rattle.items.specs.declared.Direction.TheVariants.{Rx, Tx}
use Rattle.btsnoop.specs.Header.{magic}
use Rattle.btsnoop.specs.Records.{btsnoop}
use Rattle.outcome.proofs.Examples.{sample}
use Rattle.cut.specs.Recording.{Frame, wire, Link, free, part, last, Record, Recording}
use Rattle.cut.proofs.Made.{be, header_of, row, acl, pdu, uih_on, sabm_on, request_of, response_of, freely, sends, starts, ends_with, frame_of, each}

-- ---- the worked example

abbrev pub ack : Frame
ack = frame_of 0x01 0 []

abbrev pub example : Recording btsnoop
example = record {
  d = 18;
  header = take 16 sample;
  records = record { bytes = drop 16 sample; mark = last (wire ack) } ∷ [];
  links = record { handle = 0x40; cid = each 0x41 0x40; frames = each (ack ∷ []) []; partial = each [] [] } ∷ [];
}

-- ---- a signalled link and a guessed one: both directions, interleaved fragments, a frame over two PDUs, two frames in one PDU, escaped bytes,
-- partial frames at the end, free records between, and a PDU that only a cut tries

abbrev f₁ : Frame
f₁ = frame_of 0x0C 0 (0x3C ∷ 0x10 ∷ [])

abbrev f₂ : Frame
f₂ = frame_of 0x01 1 []

abbrev f₃ : Frame
f₃ = frame_of 0x0E 0 (0x02 ∷ 0x3E ∷ [])

-- of which the beginning is sent
abbrev pub unended : Frame
unended = frame_of 0x0C 0 (0x00 ∷ 0x01 ∷ [])

abbrev pub busy : Recording btsnoop
busy = record {
  d = 18;
  header = header_of 1002;
  records =
      -- an HCI event
      record { bytes = row 3 0 (4 ∷ 0x0E ∷ 1 ∷ 0 ∷ []); mark = free } ∷
      -- the channel of the first link is asked for and admitted, multiplexer and link are opened
      freely 0x40 Tx 1 1 (request_of 3 0x41) ∷
      freely 0x40 Rx 2 1 (response_of 0x52 0x41 0) ∷
      freely 0x40 Tx 3 0x52 (sabm_on 0) ∷
      freely 0x40 Tx 4 0x52 (sabm_on 18) ∷
      -- on the second link a frame over two PDUs, the second of which closes another too; between them fragments of the first link
      sends 0x41 Rx 5 0x60 18 (take 5 (wire f₃)) ∷
      starts 0x40 Rx 6 0x41 18 (wire f₁ ++ wire f₂) 9 ∷
      sends 0x41 Rx 7 0x60 18 (drop 5 (wire f₃) ++ wire f₂) ∷
      ends_with 0x40 Rx 8 0x41 18 (wire f₁ ++ wire f₂) 9 ∷
      -- tried only until its channel is named; it is on another channel
      freely 0x40 Rx 9 0x70 (uih_on 20 (0x3E ∷ 0x00 ∷ 0x3C ∷ [])) ∷
      sends 0x40 Tx 10 0x52 18 (wire ack) ∷
      freely 0x40 Tx 11 1 (request_of 1 0x70) ∷
      -- a packet that lacks its data
      record { bytes = row 0 12 (2 ∷ 0x41 ∷ 0x20 ∷ 9 ∷ 0 ∷ 1 ∷ []); mark = free } ∷
      sends 0x41 Tx 13 0x61 18 (take 7 (wire unended)) ∷
      sends 0x40 Rx 14 0x41 18 (take 4 (wire unended)) ∷ [];
  links =
      record { handle = 0x40; cid = each 0x41 0x52; frames = each (f₁ ∷ f₂ ∷ []) (ack ∷ []); partial = each (take 4 (wire unended)) [] } ∷
      record { handle = 0x41; cid = each 0x60 0x61; frames = each (f₃ ∷ f₂ ∷ []) []; partial = each [] (take 7 (wire unended)) } ∷ [];
}

-- ---- one rule broken, else honest

abbrev link_of : ℕ → List Frame → List ℕ → Link
link_of cid fs p = record { handle = 0x40; cid = each cid 0x52; frames = each fs []; partial = each p [] }

abbrev one_link : List Record → Link → Recording btsnoop
one_link rs l = record { d = 18; header = header_of 1002; records = rs; links = l ∷ [] }

-- a version that 3 refuses
abbrev pub bad_header : Recording btsnoop
bad_header = record { d = 18; header = magic ++ (be 4 2 ++ be 4 1002); records = sends 0x40 Rx 5 0x41 18 (wire ack) ∷ []; links = link_of 0x41 (ack ∷ []) [] ∷ [] }

-- a record that says to be longer than it is
abbrev pub not_whole : Recording btsnoop
not_whole = one_link (record { bytes = take 26 (row 0 1 (4 ∷ 0 ∷ 0 ∷ 0 ∷ [])); mark = free } ∷ sends 0x40 Rx 5 0x41 18 (wire ack) ∷ []) (link_of 0x41 (ack ∷ []) [])

-- one handle listed twice
abbrev pub same_handles : Recording btsnoop
same_handles = record {
  d = 18;
  header = header_of 1002;
  records = sends 0x40 Rx 5 0x41 18 (wire ack ++ take 4 (wire unended)) ∷ [];
  links = link_of 0x41 (ack ∷ []) (take 4 (wire unended)) ∷ link_of 0x41 (ack ∷ []) (take 4 (wire unended)) ∷ [];
}

-- a CID that is not dynamic
abbrev pub low_cid : Recording btsnoop
low_cid = one_link (sends 0x40 Rx 5 0x3F 18 (wire ack) ∷ []) (link_of 0x3F (ack ∷ []) [])

-- a channel that is named, for another PSM
abbrev pub named_channel : Recording btsnoop
named_channel = one_link (freely 0x40 Tx 1 1 (request_of 1 0x41) ∷ sends 0x40 Rx 5 0x41 18 (wire ack) ∷ []) (link_of 0x41 (ack ∷ []) [])

-- a channel that is named, and admitted only after its data
abbrev pub admitted_late : Recording btsnoop
admitted_late =
    one_link
    (freely 0x40 Rx 1 1 (request_of 3 0x99) ∷ freely 0x40 Tx 2 1 (request_of 1 0x41) ∷ sends 0x40 Rx 5 0x41 18 (wire ack) ∷ freely 0x40 Tx 6 1 (response_of 0x41 0x99 0) ∷ [])
    (link_of 0x41 (ack ∷ []) [])

-- a mark that tells other information than is sent
abbrev pub false_mark : Recording btsnoop
false_mark = one_link (record { bytes = row 1 5 (acl 0x40 2 (pdu 0x41 (uih_on 18 (wire ack)))); mark = last (wire f₂) } ∷ []) (link_of 0x41 (f₂ ∷ []) [])

-- a first fragment with flag 1
abbrev pub no_start : Recording btsnoop
no_start = one_link (record { bytes = row 1 5 (acl 0x40 1 (pdu 0x41 (uih_on 18 (wire ack)))); mark = last (wire ack) } ∷ []) (link_of 0x41 (ack ∷ []) [])

-- another packet of the handle and direction between
abbrev pub between : Recording btsnoop
between = one_link (starts 0x40 Rx 5 0x41 18 (wire ack) 9 ∷ freely 0x40 Rx 6 4 [] ∷ ends_with 0x40 Rx 7 0x41 18 (wire ack) 9 ∷ []) (link_of 0x41 (ack ∷ []) [])

-- complete before its last fragment
abbrev pub early : Recording btsnoop
early =
    one_link
    (record { bytes = row 1 5 (acl 0x40 2 (pdu 0x41 (uih_on 18 (wire ack)))); mark = part } ∷ record { bytes = row 1 6 (acl 0x40 1 (0 ∷ [])); mark = last (wire ack) } ∷ [])
    (link_of 0x41 (ack ∷ []) [])

-- frames that were not sent
abbrev pub other_frames : Recording btsnoop
other_frames = one_link (sends 0x40 Rx 5 0x41 18 (wire ack) ∷ []) (link_of 0x41 (f₂ ∷ []) [])

-- a last part that begins no packed frame
abbrev pub no_beginning : Recording btsnoop
no_beginning = one_link (sends 0x40 Rx 5 0x41 18 (wire ack ++ (0x3E ∷ 0x00 ∷ 0x3C ∷ [])) ∷ []) (link_of 0x41 (ack ∷ []) (0x3E ∷ 0x00 ∷ 0x3C ∷ []))

-- a link on d opened anew within a frame
abbrev pub new_link : Recording btsnoop
new_link = one_link (sends 0x40 Rx 5 0x41 18 (take 4 (wire ack)) ∷ freely 0x40 Rx 6 0x41 (sabm_on 18) ∷ sends 0x40 Rx 7 0x41 18 (drop 4 (wire ack)) ∷ []) (link_of 0x41 (ack ∷ []) [])

-- a session opened within a frame, on a channel that is tried only in a cut before the last record
abbrev pub new_session : Recording btsnoop
new_session =
    one_link
    (sends 0x40 Rx 5 0x41 18 (take 4 (wire ack)) ∷ freely 0x40 Rx 6 0x70 (sabm_on 0) ∷ sends 0x40 Rx 7 0x41 18 (drop 4 (wire ack)) ∷ freely 0x40 Tx 8 1 (request_of 1 0x70) ∷ [])
    (link_of 0x41 (ack ∷ []) [])

-- data on d that is not a link's
abbrev pub other_data : Recording btsnoop
other_data = one_link (sends 0x40 Rx 5 0x41 18 (wire ack) ∷ freely 0x40 Rx 6 0x70 (uih_on 18 (wire f₂)) ∷ []) (link_of 0x41 (ack ∷ []) [])

-- data on the other DLCI of the channel
abbrev pub other_dlci : Recording btsnoop
other_dlci = one_link (freely 0x40 Rx 4 0x70 (uih_on 19 (wire f₂)) ∷ sends 0x40 Rx 5 0x41 18 (wire ack) ∷ []) (link_of 0x41 (ack ∷ []) [])

-- data on d on a channel that is tried only in a cut before the last record
abbrev pub only_cut : Recording btsnoop
only_cut = one_link (sends 0x40 Rx 5 0x41 18 (wire ack) ∷ freely 0x40 Rx 6 0x70 (uih_on 18 (wire f₂)) ∷ freely 0x40 Tx 7 1 (request_of 1 0x70) ∷ []) (link_of 0x41 (ack ∷ []) [])
