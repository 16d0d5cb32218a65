-- ACL packets: what a record of link type 201 holds of one. The adapter index is 0.
use Rattle.std.specs.Prelude.{ℕ, ◌+◌, ◌*◌, ◌/◌, Bool, cond, List, drop, eqb}
use Rattle.std.proofs.Math.Option.{Option, none}
use Rattle.laws.specs.Numbers.{be32}
use Rattle.container.specs.Packets.{Packet, h4_packet}
use Rattle.pcap.specs.Header.{number}

-- seconds times 1000 plus the fraction rounded down; both unsigned, since 1970
unfoldable pub milliseconds : Bool → Bool → List ℕ → ℕ
milliseconds big nano r = 1000 * number big r 0 + cond nano (number big r 4 / 1000000) (number big r 4 / 1000)

-- a direction, 4 bytes big-endian in either byte order: 0 Tx, 1 Rx, others skipped; then H4.
-- (A packet too short for a direction is skipped with these words too: it has no H4 type. See `too_short`.)
unfoldable pub directed_packet : ℕ → List ℕ → Option Packet
directed_packet time b =
    cond (eqb (be32 b 0) 0) (h4_packet 0 time (drop 4 b))
    (cond (eqb (be32 b 0) 1) (h4_packet 1 time (drop 4 b)) none)

unfoldable pub packet_of : Bool → Bool → List ℕ → Option Packet
packet_of big nano r = directed_packet (milliseconds big nano r) (drop 16 r)
