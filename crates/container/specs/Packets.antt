-- ACL packets: what the bytes of one say, from whatever record they come.
use Rattle.std.specs.Prelude.{ℕ, ◌+◌, ◌*◌, ◌/◌, ◌%◌, Bool, cond, not, List, [], ◌∷◌, length, get_or, take, drop, leb, eqb}
use Rattle.std.proofs.Math.Option.{Option, none, some}
use Rattle.laws.specs.Keyed.{keep}
use Rattle.laws.specs.Numbers.{le16}

-- an ACL packet whose fields are all there: a fragment of a PDU
pub record Packet : Type 0 where
  -- the connection, an adapter's index and a handle as one number: nothing above this file knows what it is made of
  pub link : ℕ
  -- 1: Rx, from the headset; 0: Tx, to it
  pub rx : ℕ
  -- it starts a PDU; else it continues one
  pub start : Bool
  -- milliseconds
  pub time : ℕ
  pub bytes : List ℕ

-- a link: an adapter's index and a handle. Two adapters may use one handle; a handle has 12 bits, so no two pairs are one number.
abbrev pub link_of : ℕ → ℕ → ℕ
link_of index handle = 4096 * index + handle

-- the packet's fields: a handle field (handle in the low 12 bits, boundary flag in bits 12 and 13), a data length, the data.
-- Flag 1 continues, any other starts. A field or data that is not there skips the packet; bytes past the data are ignored.
unfoldable pub fragment : ℕ → ℕ → ℕ → List ℕ → Option Packet
fragment index rx time b =
    cond (leb (4 + le16 b 2) (length b))
    (some (record {
      link = link_of index (le16 b 0 % 4096);
      rx = rx;
      start = not (eqb (le16 b 0 / 4096 % 4) 1);
      time = time;
      bytes = take (le16 b 2) (drop 4 b);
    }))
    none

-- H4 wants first byte 02 and drops it. It says nothing of an adapter: the index is 0.
unfoldable pub h4_packet : ℕ → ℕ → List ℕ → Option Packet
h4_packet rx time b = cond (eqb (get_or b 0 0) 2) (fragment 0 rx time (drop 1 b)) none

-- the packets of records, by a reader of one record
abbrev pub or_none : Option Packet → List Packet → List Packet
or_none none ps = ps
or_none (some p) ps = p ∷ ps

unfoldable pub packets : (List ℕ → Option Packet) → List (List ℕ) → List Packet
packets read [] = []
packets read (r ∷ rs) = or_none (read r) (packets read rs)

-- the packets of one link, in order
unfoldable pub of_link : ℕ → List Packet → List Packet
of_link l ps = keep (λ a. eqb a.link l) ps
