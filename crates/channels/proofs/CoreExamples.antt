-- Short sequences by Bluetooth Core's rule, by computation: is the PDU tried?
use Prim.Native.Nat.{ℕ}
use mathlib.Core.Path.{◌≡◌, refl}
use mathlib.Core.Bool.{Bool, true, false}
use mathlib.Core.List.{List, [], ◌∷◌, ◌++◌}
use Rattle.laws.specs.Chop.{chop, chop_from}
use Rattle.laws.specs.Keys.{eq_k}
use Rattle.laws.specs.Numbers.{le16}
use Rattle.l2cap.specs.Pdus.{Pdu}
use Rattle.channels.specs.Signals.{command_size, is_command, commands, body, signal_of, signals_in, pdu_signals, signals}
use Rattle.channels.specs.Channels.{any, names, named}
use Rattle.channels.specs.Core.{core_signal_of, core_signals_in, pdu_core_signals, core_signals, latest, both_hold, events_of, events_after, events, holds_after, holds}
use Rattle.channels.specs.Tried.{core, tried_by}

-- a PDU of a handle, direction and CID
abbrev on : ℕ → ℕ → ℕ → List ℕ → Pdu
on h rx cid b = record { link = h; rx = rx; time = 0; cid = cid; payload = b }

-- a request (identifier, PSM, source), a response (identifier, destination, source, result), an end (destination, source)
abbrev asking : ℕ → ℕ → ℕ → List ℕ
asking id psm source = 0x02 ∷ id ∷ 4 ∷ 0 ∷ psm ∷ 0 ∷ source ∷ 0 ∷ []

abbrev answering : ℕ → ℕ → ℕ → ℕ → List ℕ
answering id destination source result = 0x03 ∷ id ∷ 8 ∷ 0 ∷ destination ∷ 0 ∷ source ∷ 0 ∷ result ∷ 0 ∷ 0 ∷ 0 ∷ []

abbrev ending : ℕ → ℕ → List ℕ
ending destination source = 0x07 ∷ 9 ∷ 4 ∷ 0 ∷ destination ∷ 0 ∷ source ∷ 0 ∷ []

-- signalling, Tx and Rx
abbrev tx : List ℕ → Pdu
tx b = on 0x40 0 1 b

abbrev rx : List ℕ → Pdu
rx b = on 0x40 1 1 b

-- a request for PSM 3 with source 0x41 and its success with destination 0x42, identifier 1; an end from the success's side; a request for PSM 1
abbrev q₃ : Pdu
q₃ = tx (asking 1 3 0x41)

abbrev s₀ : Pdu
s₀ = rx (answering 1 0x42 0x41 0)

abbrev x : Pdu
x = rx (ending 0x42 0x41)

abbrev q₁ : Pdu
q₁ = tx (asking 1 1 0x41)

abbrev pending : Pdu
pending = rx (answering 1 0x42 0x41 1)

abbrev refused : Pdu
refused = rx (answering 1 0 0x41 2)

-- data, Rx to 0x41 and Tx to 0x42
abbrev R : Pdu
R = on 0x40 1 0x41 []

abbrev T : Pdu
T = on 0x40 0 0x42 []

-- after some PDUs, with others to come
abbrev tried_amid : List Pdu → Pdu → List Pdu → Bool
tried_amid before p after = tried_by core (before ++ (p ∷ [])) (before ++ p ∷ after) p

abbrev Tried : List Pdu → Pdu → Type 0
Tried before p = tried_amid before p [] ≡ true

abbrev Not : List Pdu → Pdu → Type 0
Not before p = tried_amid before p [] ≡ false

pub sequences :
    -- guessed; named; held
    Tried [] R × Not (q₃ ∷ []) R × Tried (q₃ ∷ s₀ ∷ []) R × Tried (q₃ ∷ s₀ ∷ []) T × Not [] (on 0x40 1 0x3F []) ×
    -- a response before its request; another identifier; identifier 0
    Not (s₀ ∷ q₃ ∷ []) R × Not (s₀ ∷ q₃ ∷ []) T × Not (q₃ ∷ rx (answering 2 0x42 0x41 0) ∷ []) R × Tried (tx (asking 0 3 0x41) ∷ rx (answering 0 0x42 0x41 0) ∷ []) R ×
    -- pending, refused, no result
    Not (q₃ ∷ pending ∷ []) R × Tried (q₃ ∷ pending ∷ s₀ ∷ []) R × Tried (q₃ ∷ refused ∷ []) T × Not (q₃ ∷ refused ∷ []) R × Tried (q₃ ∷ s₀ ∷ refused ∷ []) R ×
    Not (q₃ ∷ rx (0x03 ∷ 1 ∷ 4 ∷ 0 ∷ 0x42 ∷ 0 ∷ 0x41 ∷ 0 ∷ []) ∷ []) T ×
    -- the latest request, also for another PSM; one that names nothing is passed over
    Not (q₃ ∷ q₁ ∷ s₀ ∷ []) R × Not (q₃ ∷ tx (asking 1 1 0x43) ∷ s₀ ∷ []) T × Tried (q₃ ∷ tx (0x02 ∷ 1 ∷ 2 ∷ 0 ∷ 1 ∷ 0 ∷ []) ∷ s₀ ∷ []) R × Not (q₁ ∷ s₀ ∷ []) T ×
    Not (q₃ ∷ tx (asking 1 3 0x43) ∷ s₀ ∷ []) R × Tried (q₃ ∷ tx (asking 1 3 0x43) ∷ s₀ ∷ []) T × Tried (q₃ ∷ tx (asking 2 1 0x43) ∷ s₀ ∷ []) R ×
    -- from the same side; on another handle; the response's own source is not compared
    Not (rx (asking 1 3 0x41) ∷ s₀ ∷ []) T × Not (on 0x41 0 1 (asking 1 3 0x41) ∷ s₀ ∷ []) T × Tried (q₃ ∷ rx (answering 1 0x42 0x99 0) ∷ []) R × Tried (q₃ ∷ rx (answering 1 0x42 0x99 0) ∷ []) T ×
    -- an end: of both, of one, of none; from the other side; with the fields swapped; too short; 0x06
    Not (q₃ ∷ s₀ ∷ x ∷ []) R × Not (q₃ ∷ s₀ ∷ x ∷ []) T ×
    Tried (q₃ ∷ s₀ ∷ rx (ending 0x42 0x77) ∷ []) R × Not (q₃ ∷ s₀ ∷ rx (ending 0x42 0x77) ∷ []) T × Not (q₃ ∷ s₀ ∷ rx (ending 0x77 0x41) ∷ []) R × Tried (q₃ ∷ s₀ ∷ rx (ending 0x77 0x41) ∷ []) T ×
    Not (q₃ ∷ s₀ ∷ tx (ending 0x41 0x42) ∷ []) R × Not (q₃ ∷ s₀ ∷ tx (ending 0x41 0x42) ∷ []) T × Tried (q₃ ∷ s₀ ∷ rx (ending 0x41 0x42) ∷ []) R × Tried (q₃ ∷ s₀ ∷ rx (ending 0x41 0x42) ∷ []) T ×
    Tried (q₃ ∷ s₀ ∷ rx (0x07 ∷ 9 ∷ 3 ∷ 0 ∷ 0x42 ∷ 0 ∷ 0x41 ∷ []) ∷ []) R × Tried (q₃ ∷ s₀ ∷ rx (0x06 ∷ 9 ∷ 4 ∷ 0 ∷ 0x42 ∷ 0 ∷ 0x41 ∷ 0 ∷ []) ∷ []) R × Tried (q₃ ∷ s₀ ∷ on 0x41 1 1 (ending 0x42 0x41) ∷ []) R ×
    -- an end names nothing; a request is not used up; what holds is a set; another service's success ends nothing
    Tried (x ∷ []) R × Tried (q₃ ∷ s₀ ∷ x ∷ s₀ ∷ []) R × Not (q₃ ∷ s₀ ∷ s₀ ∷ x ∷ []) R × Tried (q₃ ∷ s₀ ∷ x ∷ q₃ ∷ s₀ ∷ []) R × Not (q₃ ∷ s₀ ∷ x ∷ q₁ ∷ s₀ ∷ []) R × Tried (q₃ ∷ s₀ ∷ q₁ ∷ s₀ ∷ []) R × Tried (q₃ ∷ s₀ ∷ q₁ ∷ s₀ ∷ []) T ×
    -- several commands in one PDU, in order
    Not (q₃ ∷ rx (answering 1 0x42 0x41 0 ++ ending 0x42 0x41) ∷ []) R × Tried (q₃ ∷ rx (ending 0x42 0x41 ++ answering 1 0x42 0x41 0) ∷ []) R ×
    -- a PDU's own commands count: on CID 1 the success's own PDU is tried, the end's own no longer
    Tried (tx (asking 1 3 1) ∷ []) (rx (answering 1 0x42 1 0)) × Not (tx (asking 1 3 1) ∷ rx (answering 1 0x42 1 0) ∷ []) (rx (ending 0x42 1)) ×
    -- what comes later: a name ends the guess, nothing else changes
    (tried_amid [] R (q₁ ∷ []) ≡ false) × (tried_amid (q₃ ∷ s₀ ∷ []) R (x ∷ []) ≡ true) × (tried_amid (q₃ ∷ s₀ ∷ []) R (q₁ ∷ []) ≡ true) × (tried_amid (q₃ ∷ []) R (s₀ ∷ []) ≡ false)
unfolding tried_by holds holds_after events events_after events_of both_hold latest core_signals pdu_core_signals core_signals_in core_signal_of named names any signals pdu_signals signals_in signal_of commands body is_command command_size chop chop_from eq_k le16
sequences = (refl, refl, refl, refl, refl, refl, refl, refl, refl, refl, refl, refl, refl, refl, refl, refl, refl, refl, refl, refl, refl, refl, refl, refl, refl, refl, refl, refl, refl, refl, refl, refl, refl, refl, refl, refl, refl, refl, refl, refl, refl, refl, refl, refl, refl, refl, refl, refl, refl, refl, refl, refl, refl, refl)
