-- The same packets written as a btsnoop file of datalink 1002 and as a pcap file.
use Rattle.std.specs.Prelude.{ℕ, zero, suc, ◌+◌, ◌/◌, ◌%◌, ◌<◌, Bool, true, false, cond, List, [], ◌∷◌, ◌++◌, map, length}
use Rattle.laws.specs.Lists.{flat}
use Rattle.laws.specs.Numbers.{le}
use Rattle.items.specs.declared.Direction.{Direction}
use Rattle.items.specs.Items.{rx_of}
use Rattle.btsnoop.specs.Header.{magic}
use Rattle.pcap.specs.Header.{big_micro, little_micro, big_nano, little_nano}

-- a number in bytes, the highest first
abbrev pub be : ℕ → ℕ → List ℕ
be zero v = []
be (suc k) v = be k (v / 256) ++ (v % 256 ∷ [])

-- in 4 bytes, by the byte order
abbrev pub num : Bool → ℕ → List ℕ
num true v = be 4 v
num false v = le 4 v

-- a packet as it was seen: nanoseconds since 1970, direction, and its bytes as H4
pub record Seen : Type 0 where
  pub time : ℕ
  pub way : Direction
  pub h4 : List ℕ

-- its numbers fit their fields: seconds and lengths in 4 bytes
pub record Fits (p : Seen) : Type 0 where
  pub seconds : p.time / 1000000000 < 4294967296
  pub size : 4 + length p.h4 < 4294967296

-- ---- btsnoop, datalink 1002

abbrev pub btsnoop_head : List ℕ
btsnoop_head = magic ++ (be 4 1 ++ be 4 1002)

-- original length, included length, flags, drops; microseconds from year 0; the packet
abbrev pub btsnoop_record : Seen → List ℕ
btsnoop_record p = be 4 (length p.h4) ++ (be 4 (length p.h4) ++ (be 4 (rx_of p.way) ++ (be 4 0 ++ (be 8 (0x00dcddb30f2f8000 + p.time / 1000) ++ p.h4))))

abbrev pub btsnoop_file : List Seen → List ℕ
btsnoop_file ps = btsnoop_head ++ flat (map btsnoop_record ps)

-- ---- pcap, link type 201

abbrev pub magic_of : Bool → Bool → List ℕ
magic_of true true = big_nano
magic_of true false = big_micro
magic_of false true = little_nano
magic_of false false = little_micro

-- version 2.4, no zone, no accuracy, snap length 65,535
abbrev pub pcap_head : Bool → Bool → List ℕ
pcap_head big nano = magic_of big nano ++ (cond big (0 ∷ 2 ∷ 0 ∷ 4 ∷ []) (2 ∷ 0 ∷ 4 ∷ 0 ∷ []) ++ (num big 0 ++ (num big 0 ++ (num big 65535 ++ num big 201))))

-- seconds, fraction, captured length, original length; direction; the packet
abbrev pub pcap_record : Bool → Bool → Seen → List ℕ
pcap_record big nano p =
    num big (p.time / 1000000000) ++ (num big (cond nano (p.time % 1000000000) (p.time / 1000 % 1000000)) ++
    (num big (4 + length p.h4) ++ (num big (4 + length p.h4) ++ (be 4 (rx_of p.way) ++ p.h4))))

abbrev pub pcap_file : Bool → Bool → List Seen → List ℕ
pcap_file big nano ps = pcap_head big nano ++ flat (map (pcap_record big nano) ps)
