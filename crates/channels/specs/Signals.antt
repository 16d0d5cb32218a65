-- Signalling on CID 1: commands, and the requests and responses among them.
use Rattle.std.specs.Prelude.{ℕ, ◌+◌, ◌-◌, Bool, cond, ◌&&◌, List, [], ◌∷◌, ◌++◌, length, get_or, take, drop, leb, eqb}
use Rattle.laws.specs.Chop.{chop}
use Rattle.laws.specs.Keys.{Key}
use Rattle.laws.specs.Numbers.{le16}
use Rattle.l2cap.specs.Pdus.{Pdu}

-- a command: code, identifier, 16-bit length, body
unfoldable pub command_size : List ℕ → ℕ
command_size b = 4 + le16 b 2

-- under 4 bytes left end the PDU
unfoldable pub is_command : List ℕ → Bool
is_command b = leb 4 (length b)

-- the commands of a payload, each as its bytes; a last one may be shorter than its size
unfoldable pub commands : List ℕ → List (List ℕ)
commands b = chop is_command command_size b

abbrev pub code : List ℕ → ℕ
code c = get_or c 0 0

-- a body passing the end reads as empty
unfoldable pub body : List ℕ → List ℕ
body c = cond (leb (command_size c) (length c)) (take (le16 c 2) (drop 4 c)) []

-- the channel of data with this CID in this direction of a link (an adapter's index and handle)
abbrev pub triple : ℕ → ℕ → ℕ → Key
triple link rx cid = link ∷ rx ∷ cid ∷ []

abbrev pub opposite : ℕ → ℕ
opposite rx = 1 - rx

pub data Signal : Type 0 where
  -- the channel named, and the PSM
  request : Key → ℕ → Signal
  -- the channel named, the channel of the request that it answers, and whether the result is 0
  response : Key → Key → Bool → Signal

-- A request (PSM, source) names the opposite direction's source. A response (destination, source, result) names the opposite
-- direction's destination; the request that it answers came from the opposite side and named the source in the response's direction.
-- Under 4 body bytes name nothing; a response of under 6 is no success.
unfoldable pub signal_of : ℕ → ℕ → List ℕ → List Signal
signal_of link rx c =
    cond (leb 4 (length (body c)))
    (cond (eqb (code c) 0x02) (request (triple link (opposite rx) (le16 (body c) 2)) (le16 (body c) 0) ∷ [])
    (cond (eqb (code c) 0x03)
    (response (triple link (opposite rx) (le16 (body c) 0)) (triple link rx (le16 (body c) 2)) (leb 6 (length (body c)) && eqb (le16 (body c) 4) 0) ∷ [])
    []))
    []

unfoldable pub signals_in : ℕ → ℕ → List (List ℕ) → List Signal
signals_in link rx [] = []
signals_in link rx (c ∷ cs) = signal_of link rx c ++ signals_in link rx cs

unfoldable pub pdu_signals : Pdu → List Signal
pdu_signals p = cond (eqb p.cid 1) (signals_in p.link p.rx (commands p.payload)) []

-- the signals of PDUs, in order
unfoldable pub signals : List Pdu → List Signal
signals [] = []
signals (p ∷ ps) = pdu_signals p ++ signals ps
