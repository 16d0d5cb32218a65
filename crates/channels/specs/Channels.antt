-- Channels: what signals name and admit, and which PDUs are tried.
use Rattle.std.specs.Prelude.{ℕ, Bool, false, not, ◌&&◌, ◌||◌, List, [], ◌∷◌, length, leb, eqb}
use Rattle.laws.specs.Keys.{Key, eq_k}
use Rattle.laws.specs.Numbers.{le16}
use Rattle.l2cap.specs.Pdus.{Pdu}
use Rattle.channels.specs.Signals.{Signal, request, response, triple, code, body, commands}

unfoldable pub any : {A : Type 0} → (A → Bool) → List A → Bool
any f [] = false
any f (x ∷ xs) = f x || any f xs

unfoldable pub names : Key → Signal → Bool
names t (request k psm) = eq_k t k
names t (response k asked ok) = eq_k t k

unfoldable pub named : List Signal → Key → Bool
named ss t = any (names t) ss

-- a PSM 3 request that names the channel
unfoldable pub asks_for : Key → Signal → Bool
asks_for t (request k psm) = eqb psm 3 && eq_k t k
asks_for t (response k asked ok) = false

-- a PSM 3 request admits what it names; a response with result 0 does if it answers an earlier PSM 3 request
unfoldable pub admits : List Signal → Key → Signal → Bool
admits earlier t (request k psm) = eqb psm 3 && eq_k t k
admits earlier t (response k asked ok) = ok && (eq_k t k && any (asks_for asked) earlier)

unfoldable pub admitted_after : List Signal → List Signal → Key → Bool
admitted_after earlier [] t = false
admitted_after earlier (s ∷ ss) t = admits earlier t s || admitted_after (s ∷ earlier) ss t

unfoldable pub admitted : List Signal → Key → Bool
admitted ss t = admitted_after [] ss t

abbrev pub channel_of : Pdu → Key
channel_of p = triple p.link p.rx p.cid

-- admitted anywhere in the file, or a dynamic CID that nothing in the file names
unfoldable pub is_tried : List Signal → Pdu → Bool
is_tried ss p = admitted ss (channel_of p) || (leb 0x40 p.cid && not (named ss (channel_of p)))

-- a PSM 3 request, even one of 2 body bytes
unfoldable pub asks_rfcomm : List ℕ → Bool
asks_rfcomm c = eqb (code c) 0x02 && (leb 2 (length (body c)) && eqb (le16 (body c) 0) 3)

-- a PDU on CID 1 with such a request adds a session and is done with
unfoldable pub asks_session : Pdu → Bool
asks_session p = eqb p.cid 1 && any asks_rfcomm (commands p.payload)
