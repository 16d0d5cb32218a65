-- What ACL packets show of what is not in a file, by the states in which reassembly meets them.
use Rattle.std.specs.Prelude.{ℕ, Bool, false, cond, List, [], ◌∷◌, map, eqb}
use Rattle.std.proofs.Math.Option.{Option, none, some}
use Rattle.laws.specs.Keys.{Key}
use Rattle.laws.specs.Keyed.{Machine, run, after, keep}
use Rattle.container.specs.Packets.{Packet}
use Rattle.l2cap.specs.Pdus.{joined, still_open, packet_key}
use Rattle.signs.specs.Places.{Placed}

-- what is open: the bytes at hand, and the place of the packet that began them
abbrev pub Begun : Type 0
Begun = Option (Placed (List ℕ))

unfoldable pub bytes_of : Begun → Option (List ℕ)
bytes_of none = none
bytes_of (some b) = some b.is

unfoldable pub place_of : Begun → ℕ
place_of none = 0
place_of (some b) = b.at

unfoldable pub begun_at : ℕ → Option (List ℕ) → Begun
begun_at at none = none
begun_at at (some b) = some (record { at = at; is = b })

-- what stays open after a packet is what reassembly keeps; a start begins anew
unfoldable pub goes_on : Begun → Placed Packet → Begun
goes_on s a = begun_at (cond a.is.start a.at (place_of s)) (still_open (joined (bytes_of s) a.is))

abbrev pub placed_key : Placed Packet → Key
placed_key a = packet_key a.is

abbrev pub following : (Begun → Placed Packet → List ℕ) → Machine (Placed Packet) ℕ
following out = record { S = Begun; key = placed_key; next = goes_on; out = out }

abbrev pub nothing : Key → Begun
nothing k = none

-- a continuation with nothing open
unfoldable pub stray_out : Begun → Placed Packet → List ℕ
stray_out none a = cond a.is.start [] (a.at ∷ [])
stray_out (some b) a = []

unfoldable pub strays : List (Placed Packet) → List ℕ
strays ps = run (following stray_out) nothing ps

-- a start where a PDU is open gives that up
unfoldable pub given_up_out : Begun → Placed Packet → List ℕ
given_up_out none a = []
given_up_out (some b) a = cond a.is.start (a.at ∷ []) []

unfoldable pub given_up : List (Placed Packet) → List ℕ
given_up ps = run (following given_up_out) nothing ps

-- what is open under a key at the end
unfoldable pub at_end : List (Placed Packet) → Key → Begun
at_end ps = after (following stray_out) nothing ps

unfoldable pub began_at : Begun → ℕ → Bool
began_at none at = false
began_at (some b) at = eqb b.at at

-- the packets that began what is open at the end
unfoldable pub left_open : List (Placed Packet) → List ℕ
left_open ps = map (λ a. a.at) (keep (λ a. began_at (at_end ps (placed_key a)) a.at) ps)
