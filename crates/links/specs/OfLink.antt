-- What is of one link, at each layer above the packets.
use Rattle.std.specs.Prelude.{ℕ, Bool, List, get_or, eqb}
use Rattle.laws.specs.Keys.{Key}
use Rattle.laws.specs.Keyed.{keep}
use Rattle.l2cap.specs.Pdus.{Pdu}
use Rattle.channels.specs.Signals.{Signal, request, response}
use Rattle.rfcomm.specs.Pieces.{Judged, Piece}

-- the link stands first in the key of a channel, and in that of a buffer
abbrev pub link_in : Key → ℕ
link_in k = get_or k 0 0

abbrev pub pdus_on : ℕ → List Pdu → List Pdu
pdus_on l ps = keep (λ p. eqb p.link l) ps

-- the signal names a channel of the link
unfoldable pub is_on : ℕ → Signal → Bool
is_on l (request k psm) = eqb (link_in k) l
is_on l (response k asked ok) = eqb (link_in k) l

abbrev pub signals_on : ℕ → List Signal → List Signal
signals_on l ss = keep (is_on l) ss

abbrev pub judged_on : ℕ → List Judged → List Judged
judged_on l js = keep (λ j. eqb j.pdu.link l) js

-- the pieces of one link, of those that a file brings
unfoldable pub pieces_on : ℕ → List Piece → List Piece
pieces_on l ps = keep (λ p. eqb (link_in p.key) l) ps
