-- How the code sees that a record is ACL data, and that it holds no packet.
use Rattle.std.specs.Prelude.{ℕ, ◌+◌, ◌≡◌, Bool, cond, not, List, length, leb, eqb}
use Rattle.laws.specs.Numbers.{le16}
use Rattle.btsnoop.specs.Headers.{number_of}
use Rattle.pcap.specs.declared.Encoding.{Encoding}
use Rattle.trace.specs.declared.Format.{Format}
use Rattle.trace.specs.declared.Format.TheVariants.{Btsnoop as ByDatalink, Pcap as ByEncoding}
use Rattle.signs.specs.Recorded.{is_acl}

-- ACL data in a record of pcap, however its numbers are written
pub record DirectedIs (b : List ℕ) (r : Bool) : Type 0 where
  pub is : (e : Encoding) → r ≡ is_acl (ByEncoding e) b

-- a field of the packet, or its data, is not all there
unfoldable pub lacks_data : List ℕ → Bool
lacks_data b = not (leb (4 + le16 b 2) (length b))

-- the bytes of a record of ACL data before the packet: the head, for H4 the type, in pcap the direction and the type
unfoldable pub before_packet : Format → ℕ
before_packet (ByDatalink d) = cond (eqb (number_of d) 1002) 25 24
before_packet (ByEncoding e) = 21
