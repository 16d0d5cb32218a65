-- ACL packets: what a record holds of one, for each datalink.
use Rattle.std.specs.Prelude.{ℕ, ◌-◌, ◌/◌, ◌%◌, cond, List, drop, eqb}
use Rattle.std.proofs.Math.Option.{Option, none}
use Rattle.laws.specs.Numbers.{be32, be64}
use Rattle.container.specs.Packets.{Packet, fragment, h4_packet}

-- microseconds since the epoch, at least 0, in milliseconds rounded down
unfoldable pub milliseconds : List ℕ → ℕ
milliseconds r = (be64 r 16 - 0x00dcddb30f2f8000) / 1000

-- 1001 and 1002: flag bit 1 skips; bit 0 set is Rx, clear is Tx. 1002 is H4. The adapter's index is 0.
unfoldable pub hci_packet : ℕ → ℕ → ℕ → List ℕ → Option Packet
hci_packet datalink flags time b =
    cond (eqb (flags / 2 % 2) 1) none
    (cond (eqb datalink 1002)
    (h4_packet (flags % 2) time b)
    (fragment 0 (flags % 2) time b))

-- 2001: the upper 16 flag bits are the adapter's index; the low 16 are 4 for Tx, 5 for Rx, others skipped
unfoldable pub monitor_packet : ℕ → ℕ → List ℕ → Option Packet
monitor_packet flags time b =
    cond (eqb (flags % 65536) 4) (fragment (flags / 65536) 0 time b)
    (cond (eqb (flags % 65536) 5) (fragment (flags / 65536) 1 time b) none)

unfoldable pub packet_of : ℕ → List ℕ → Option Packet
packet_of datalink r =
    cond (eqb datalink 2001)
    (monitor_packet (be32 r 8) (milliseconds r) (drop 24 r))
    (hci_packet datalink (be32 r 8) (milliseconds r) (drop 24 r))
