-- What the records of a file show of what is not in it, by what its header says.
use Rattle.std.specs.Prelude.{ℕ, ◌+◌, ◌-◌, ◌/◌, ◌%◌, Bool, true, false, cond, not, ◌&&◌, ◌||◌, List, [], ◌∷◌, get_or, drop, ltb, eqb}
use Rattle.std.proofs.Math.Option.{Option, none, some}
use Rattle.laws.specs.Numbers.{be32}
use Rattle.container.specs.Packets.{Packet}
use Rattle.btsnoop.specs.Headers.{number_of}
use Rattle.pcap.specs.Header.{number}
use Rattle.trace.specs.Formats.{packet_by}
use Rattle.trace.specs.declared.Format.{Format}
use Rattle.trace.specs.declared.Format.TheVariants.{Btsnoop as ByDatalink, Pcap as ByEncoding}
use Rattle.signs.specs.Places.{Placed}

-- stored short: the original length is over the included one; in pcap, over the captured one
unfoldable pub is_short : Format → List ℕ → Bool
is_short (ByDatalink d) r = ltb (be32 r 4) (be32 r 0)
is_short (ByEncoding e) r = ltb (number e.big r 8) (number e.big r 12)

-- zeros only
unfoldable pub is_zeros : List ℕ → Bool
is_zeros [] = true
is_zeros (b ∷ bs) = eqb b 0 && is_zeros bs

-- ACL data by its flags: 1001 and 1002 with bit 1 clear, 1002 with the first byte 02 too; 2001 with 4 or 5 in the low 16 bits.
-- In pcap by its direction, 0 or 1, and the byte 02 after it.
unfoldable pub is_acl : Format → List ℕ → Bool
is_acl (ByDatalink d) r =
    cond (eqb (number_of d) 2001)
    (eqb (be32 r 8 % 65536) 4 || eqb (be32 r 8 % 65536) 5)
    (not (eqb (be32 r 8 / 2 % 2) 1) && (not (eqb (number_of d) 1002) || eqb (get_or (drop 24 r) 0 0) 2))
is_acl (ByEncoding e) r = (eqb (be32 (drop 16 r) 0) 0 || eqb (be32 (drop 16 r) 0) 1) && eqb (get_or (drop 20 r) 0 0) 2

unfoldable pub is_none : Option Packet → Bool
is_none none = true
is_none (some p) = false

-- ACL data that is skipped: a field of its packet, or the data, is not there
unfoldable pub is_skipped : Format → List ℕ → Bool
is_skipped g r = is_acl g r && is_none (packet_by g r)

-- the packets that the recorder dropped so far, by its own count; a pcap record has no such count
unfoldable pub drops : Format → List ℕ → ℕ
drops (ByDatalink d) r = be32 r 12
drops (ByEncoding e) r = 0

-- by how much the count rises, from record to record, over what it was before
unfoldable pub dropped : Format → ℕ → List (Placed (List ℕ)) → ℕ
dropped g before [] = 0
dropped g before (r ∷ rs) = (drops g r.is - before) + dropped g (drops g r.is) rs

-- the places where it rises
unfoldable pub dropped_at : Format → ℕ → List (Placed (List ℕ)) → List ℕ
dropped_at g before [] = []
dropped_at g before (r ∷ rs) = cond (ltb before (drops g r.is)) (r.at ∷ dropped_at g (drops g r.is) rs) (dropped_at g (drops g r.is) rs)
