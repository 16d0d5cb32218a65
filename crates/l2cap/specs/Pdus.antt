-- PDUs, put together from fragments for each link (an adapter's index and handle) and direction.
use Rattle.std.specs.Prelude.{ℕ, ◌+◌, Bool, cond, List, [], ◌∷◌, ◌++◌, length, take, drop, leb}
use Rattle.std.proofs.Math.Option.{Option, none, some}
use Rattle.laws.specs.Keys.{Key}
use Rattle.laws.specs.Keyed.{Machine, run}
use Rattle.laws.specs.Numbers.{le16}
use Rattle.container.specs.Packets.{Packet}

pub record Pdu : Type 0 where
  pub link : ℕ
  pub rx : ℕ
  pub time : ℕ
  pub cid : ℕ
  pub payload : List ℕ

-- the bytes at hand after a packet. A start discards a partial PDU; a continuation with nothing open is skipped.
unfoldable pub joined : Option (List ℕ) → Packet → Option (List ℕ)
joined none a = cond a.start (some a.bytes) none
joined (some b) a = cond a.start (some a.bytes) (some (b ++ a.bytes))

-- a length, a CID, and that many bytes. (Fewer than 4 bytes are fewer than 4 and any length.)
unfoldable pub is_complete : List ℕ → Bool
is_complete b = leb (4 + le16 b 0) (length b)

-- what stays open
unfoldable pub still_open : Option (List ℕ) → Option (List ℕ)
still_open none = none
still_open (some b) = cond (is_complete b) none (some b)

-- excess bytes are dropped; the time is that of the record completing it
unfoldable pub pdu_of : List ℕ → Packet → Pdu
pdu_of b a = record { link = a.link; rx = a.rx; time = a.time; cid = le16 b 2; payload = take (le16 b 0) (drop 4 b) }

unfoldable pub completed : Option (List ℕ) → Packet → List Pdu
completed none a = []
completed (some b) a = cond (is_complete b) (pdu_of b a ∷ []) []

abbrev pub packet_key : Packet → Key
packet_key a = a.link ∷ a.rx ∷ []

abbrev pub reassembly : Machine Packet Pdu
reassembly = record { S = Option (List ℕ); key = packet_key; next = λ s a. still_open (joined s a); out = λ s a. completed (joined s a) a }

unfoldable pub pdus : List Packet → List Pdu
pdus ps = run reassembly (λ k. none) ps
