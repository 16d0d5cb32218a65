-- What a container is: a file header, then records that tell their own size, each of which may hold an ACL packet. btsnoop and pcap are two.
use Rattle.std.specs.Prelude.{ℕ, ◌+◌, ◌≤◌, ◌≡◌, Bool, true, List, ◌++◌, length, drop, leb}
use Rattle.std.proofs.Math.Option.{Option, some}
use Rattle.laws.specs.Chop.{chop}
use Rattle.laws.specs.Lists.{flat}
use Rattle.container.specs.Packets.{Packet, packets}

pub record Container : Type 0 where
  -- the length of the file header
  pub head : ℕ
  -- the file has it; else this refusal: 3, 21
  pub is_file : List ℕ → Bool
  pub foreign : ℕ
  -- the link type that it carries, and whether that is taken; else this refusal, with the number carried: 4, 22
  pub link_type : List ℕ → ℕ
  pub is_taken : ℕ → Bool
  pub untaken : ℕ
  -- given the header, the size of a record from its front
  pub size : List ℕ → List ℕ → ℕ
  -- and the packet in a record, which is its bytes; none if it is skipped
  pub packet : List ℕ → List ℕ → Option Packet

-- ---- reading, by the size of a record from its front

-- a record that passes the end is not whole; it ends the reading
unfoldable pub is_whole : (List ℕ → ℕ) → List ℕ → Bool
is_whole size b = leb (size b) (length b)

-- the whole records of the bytes after the header
unfoldable pub records_in : (List ℕ → ℕ) → List ℕ → List (List ℕ)
records_in size b = chop (is_whole size) size b

module _ (C : Container) where
  unfoldable pub records : List ℕ → List (List ℕ)
  records f = records_in (C.size f) (drop C.head f)

  -- where the first record starts that passes the end, or the file's length
  unfoldable pub tail_offset : List ℕ → ℕ
  tail_offset f = C.head + length (flat (records f))

  -- the ACL packets that the file's whole records hold
  unfoldable pub packets_in : List ℕ → List Packet
  packets_in f = packets (C.packet f) (records f)

-- ---- what the reading and the cut rely on

pub record Lawful (C : Container) : Type 0 where
  -- a record has at least 16 bytes, and its size sees no more than these
  pub least : (f b : List ℕ) → 16 ≤ C.size f b
  pub size_front : (f r x : List ℕ) → 16 ≤ length r → C.size f (r ++ x) ≡ C.size f r
  -- what has the header has all of it
  pub long : (f : List ℕ) → C.is_file f ≡ true → C.head ≤ length f
  -- nothing after the header tells what file it is, its link type, the size of a record, or the packet in it
  pub file_front : (h x : List ℕ) → length h ≡ C.head → C.is_file (h ++ x) ≡ C.is_file h
  pub link_front : (h x : List ℕ) → length h ≡ C.head → C.link_type (h ++ x) ≡ C.link_type h
  pub sizes_front : (h x : List ℕ) → length h ≡ C.head → C.size (h ++ x) ≡ C.size h
  pub packets_front : (h x : List ℕ) → length h ≡ C.head → C.packet (h ++ x) ≡ C.packet h
  -- a record that holds a packet has 25 bytes besides the packet's
  pub room : (f r : List ℕ) (p : Packet) → C.packet f r ≡ some p → 25 + length p.bytes ≤ length r
