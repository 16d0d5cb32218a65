-- Channels as Bluetooth Core has them (document 02, job 10): for PSM 3 only, they hold from success to end.
use Rattle.std.specs.Prelude.{ℕ, Bool, true, false, cond, ◌&&◌, List, [], ◌∷◌, ◌++◌, length, get_or, leb, eqb}
use Rattle.std.proofs.Math.Option.{Option, none, some}
use Rattle.laws.specs.Keys.{Key, eq_k}
use Rattle.laws.specs.Numbers.{le16}
use Rattle.l2cap.specs.Pdus.{Pdu}
use Rattle.channels.specs.Signals.{commands, code, body, triple, opposite}

-- ---- what commands say

abbrev pub identifier : List ℕ → ℕ
identifier c = get_or c 1 0

-- a request is known by its link (an adapter's index and handle), direction and identifier
abbrev pub request_key : ℕ → ℕ → ℕ → Key
request_key link rx id = link ∷ rx ∷ id ∷ []

pub data CoreSignal : Type 0 where
  -- a request: by what it is known, its PSM, and the channel of its source
  connects : Key → ℕ → Key → CoreSignal
  -- a response with result 0: by what the request that it answers is known, and the channel of its destination
  succeeds : Key → Key → CoreSignal
  -- a Disconnection Response: the channels of its destination and of its source
  disconnects : Key → Key → CoreSignal

-- Request 0x02 (PSM, source), response 0x03 (destination, source, result), each naming in the opposite direction; the request that a response answers is from the other side.
-- 0x07 (destination, source): the destination's triple in the opposite direction and the source's in its own. Under 4 body bytes say nothing; a response of under 6 is no success.
unfoldable pub core_signal_of : ℕ → ℕ → List ℕ → List CoreSignal
core_signal_of link rx c =
    cond (leb 4 (length (body c)))
    (cond (eqb (code c) 0x02) (connects (request_key link rx (identifier c)) (le16 (body c) 0) (triple link (opposite rx) (le16 (body c) 2)) ∷ [])
    (cond (eqb (code c) 0x03 && (leb 6 (length (body c)) && eqb (le16 (body c) 4) 0)) (succeeds (request_key link (opposite rx) (identifier c)) (triple link (opposite rx) (le16 (body c) 0)) ∷ [])
    (cond (eqb (code c) 0x07) (disconnects (triple link (opposite rx) (le16 (body c) 0)) (triple link rx (le16 (body c) 2)) ∷ [])
    [])))
    []

unfoldable pub core_signals_in : ℕ → ℕ → List (List ℕ) → List CoreSignal
core_signals_in link rx [] = []
core_signals_in link rx (c ∷ cs) = core_signal_of link rx c ++ core_signals_in link rx cs

unfoldable pub pdu_core_signals : Pdu → List CoreSignal
pdu_core_signals p = cond (eqb p.cid 1) (core_signals_in p.link p.rx (commands p.payload)) []

unfoldable pub core_signals : List Pdu → List CoreSignal
core_signals [] = []
core_signals (p ∷ ps) = pdu_core_signals p ++ core_signals ps

-- ---- what happens to channels

-- a channel holds from here on, or ends
pub record Event : Type 0 where
  pub channel : Key
  pub holding : Bool

-- The latest request that is known by k, among those before with the last first: the channel of its source, if it is for PSM 3.
unfoldable pub latest : Key → List CoreSignal → Option Key
latest k [] = none
latest k (connects j psm source ∷ earlier) = cond (eq_k k j) (cond (eqb psm 3) (some source) none) (latest k earlier)
latest k (succeeds j destination ∷ earlier) = latest k earlier
latest k (disconnects destination source ∷ earlier) = latest k earlier

-- the request's source and the response's destination hold
unfoldable pub both_hold : Option Key → Key → List Event
both_hold none destination = []
both_hold (some source) destination = record { channel = source; holding = true } ∷ record { channel = destination; holding = true } ∷ []

unfoldable pub events_of : List CoreSignal → CoreSignal → List Event
events_of earlier (connects k psm source) = []
events_of earlier (succeeds k destination) = both_hold (latest k earlier) destination
events_of earlier (disconnects destination source) = record { channel = destination; holding = false } ∷ record { channel = source; holding = false } ∷ []

unfoldable pub events_after : List CoreSignal → List CoreSignal → List Event
events_after earlier [] = []
events_after earlier (s ∷ ss) = events_of earlier s ++ events_after (s ∷ earlier) ss

-- the events that PDUs bring, in order
unfoldable pub events : List Pdu → List Event
events ps = events_after [] (core_signals ps)

-- what the last event of a channel makes it; as it was, without one
unfoldable pub holds_after : Bool → List Event → Key → Bool
holds_after held [] t = held
holds_after held (e ∷ es) t = holds_after (cond (eq_k t e.channel) e.holding held) es t

-- a channel holds once these PDUs are complete
unfoldable pub holds : List Pdu → Key → Bool
holds ps t = holds_after false (events ps) t
