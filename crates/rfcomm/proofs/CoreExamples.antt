-- One PDU at several places, by Bluetooth Core's rule and by the source's, by computation.
use Prim.Native.Nat.{ℕ}
use mathlib.Core.Path.{◌≡◌, refl}
use mathlib.Core.List.{List, [], ◌∷◌, map}
use Rattle.laws.specs.Chop.{chop, chop_from}
use Rattle.laws.specs.Keys.{eq_k}
use Rattle.laws.specs.Numbers.{le16}
use Rattle.l2cap.specs.Pdus.{Pdu}
use Rattle.channels.specs.Signals.{command_size, is_command, commands, body, signal_of, signals_in, pdu_signals, signals}
use Rattle.channels.specs.Channels.{any, names, named, asks_for, admits, admitted_after, admitted, is_tried, asks_rfcomm, asks_session}
use Rattle.channels.specs.Core.{core_signal_of, core_signals_in, pdu_core_signals, core_signals, latest, both_hold, events_of, events_after, events, holds_after, holds}
use Rattle.channels.specs.Tried.{ChannelRule, source, core, tried_by}
use Rattle.uih.specs.Fcs.{shift_one, shifted, register, fcs_of}
use Rattle.uih.specs.Frames.{is_sabm, is_uih, short_length, info_length, info_start, credit_of, frame_of, is_right}
use Rattle.rfcomm.specs.Pieces.{Kind, asks, opens, passed, uih_kind, frame_kind, unchecked, kind_by, judged_from, judged_by}

-- on one handle: direction, CID, payload
abbrev on : ℕ → ℕ → List ℕ → Pdu
on rx cid b = record { link = 0x40; rx = rx; time = 0; cid = cid; payload = b }

-- a request for PSM 3 and its success, whose destination is 0x42, by the source that is asked for; their end. Read as a frame, each has the control byte of SABM.
abbrev q : ℕ → Pdu
q cid = on 0 1 (0x02 ∷ 0x3F ∷ 4 ∷ 0 ∷ 3 ∷ 0 ∷ cid ∷ 0 ∷ [])

abbrev s : ℕ → Pdu
s cid = on 1 1 (0x03 ∷ 0x3F ∷ 8 ∷ 0 ∷ 0x42 ∷ 0 ∷ cid ∷ 0 ∷ 0 ∷ 0 ∷ 0 ∷ 0 ∷ [])

abbrev x : ℕ → Pdu
x cid = on 1 1 (0x07 ∷ 0x3F ∷ 4 ∷ 0 ∷ 0x42 ∷ 0 ∷ cid ∷ 0 ∷ [])

-- SABM on DLCI 18
abbrev m : Pdu
m = on 1 0x41 (0x4B ∷ 0x3F ∷ 1 ∷ 0x1C ∷ [])

abbrev kinds_by : ChannelRule → List Pdu → List Kind
kinds_by rule ps = map (λ j. j.kind) (judged_by (unchecked rule) ps)

pub places :
    -- before the request, before the success, between success and end, after the end
    (kinds_by core (m ∷ q 0x41 ∷ m ∷ s 0x41 ∷ m ∷ x 0x41 ∷ m ∷ []) ≡ passed ∷ asks ∷ passed ∷ passed ∷ opens 18 ∷ passed ∷ passed ∷ []) ×
    (kinds_by source (m ∷ q 0x41 ∷ m ∷ s 0x41 ∷ m ∷ x 0x41 ∷ m ∷ []) ≡ opens 18 ∷ asks ∷ opens 18 ∷ passed ∷ opens 18 ∷ passed ∷ opens 18 ∷ []) ×
    -- its own commands counted: on CID 1 the success's own PDU is tried, the end's own no longer
    (kinds_by core (q 1 ∷ s 1 ∷ x 1 ∷ []) ≡ asks ∷ opens 0 ∷ passed ∷ []) × (kinds_by source (q 1 ∷ s 1 ∷ x 1 ∷ []) ≡ asks ∷ opens 0 ∷ opens 1 ∷ [])
unfolding judged_by judged_from kind_by frame_kind uih_kind is_right fcs_of register shifted shift_one frame_of credit_of info_start info_length short_length is_uih is_sabm tried_by holds holds_after events events_after events_of both_hold latest core_signals pdu_core_signals core_signals_in core_signal_of is_tried admitted admitted_after admits asks_for asks_session asks_rfcomm named names any signals pdu_signals signals_in signal_of commands body is_command command_size chop chop_from eq_k le16
places = (refl, refl, refl, refl)
