-- pcap keeps the laws of a container.
use Prim.Native.Nat.{ℕ, ◌+◌, ◌≤◌}
use mathlib.Core.Path.{◌≡◌, refl, ap}
use mathlib.Core.Bool.{Bool, true, false}
use mathlib.Core.List.{List, [], ◌++◌}
use mathlib.Core.Option.{none, some}
use native.Mathlib.Omega.{arith}
use lib.ListN.{length, drop, length-append, length-drop, drop_of_length-le}
use lib.Seq.{take-append-le}
use lib.Dec.{leb, eqb}
use borrow.Author.Tests.{le-leb, leb-true}
use Rattle.laws.proofs.Choice.{split_b, no_way}
use Rattle.laws.specs.Numbers.{be32}
use Rattle.container.specs.Container.{Lawful}
use Rattle.container.specs.Packets.{Packet, h4_packet}
use Rattle.container.proofs.Fronts.{be32_front, le32_front}
use Rattle.container.proofs.Packets.{not_some, h4_room}
use Rattle.pcap.specs.Header.{is_big, is_little, is_nano, is_pcap, number, link_of}
use Rattle.pcap.specs.Records.{record_size}
use Rattle.pcap.specs.Packets.{milliseconds, directed_packet, packet_of}
use Rattle.pcap.specs.Pcap.{pcap}

pub number_front : (big : Bool) (h x : List ℕ) (i : ℕ) → i + 4 ≤ length h → number big (h ++ x) i ≡ number big h i
unfolding number
number_front true h x i g = be32_front h x i g
number_front false h x i g = le32_front h x i g

-- ---- sizes

size_least : (big : Bool) (b : List ℕ) → 16 ≤ record_size big b
unfolding record_size
size_least big b = omega arith

size_front : (big : Bool) (r x : List ℕ) → 16 ≤ length r → record_size big (r ++ x) ≡ record_size big r
unfolding record_size
size_front big r x h = rw (number_front big r x 8 (omega arith))

-- ---- the header

file_long : (f : List ℕ) → is_pcap f ≡ true → 24 ≤ length f
unfolding is_pcap
file_long f e = split_b (leb 24 (length f)) (λ q. leb-true 24 (length f) q) (λ q. no_way (rw q at e) refl)

module _ (h x : List ℕ) (e : length h ≡ 24) where
  big_front : is_big (h ++ x) ≡ is_big h
  unfolding is_big
  big_front = rw (take-append-le 4 h x (omega arith))

  little_front : is_little (h ++ x) ≡ is_little h
  unfolding is_little
  little_front = rw (take-append-le 4 h x (omega arith))

  nano_front : is_nano (h ++ x) ≡ is_nano h
  unfolding is_nano
  nano_front = rw (take-append-le 4 h x (omega arith))

  file_front : is_pcap (h ++ x) ≡ is_pcap h
  unfolding is_pcap
  file_front = rw (big_front, little_front, le-leb 24 (length (h ++ x)) (simp length-append (omega arith)), le-leb 24 (length h) (omega arith))

  link_front : link_of (h ++ x) ≡ link_of h
  unfolding link_of
  link_front = rw big_front (number_front (is_big h) h x 20 (omega arith))

  packets_front : packet_of (is_big (h ++ x)) (is_nano (h ++ x)) ≡ packet_of (is_big h) (is_nano h)
  packets_front = rw (big_front, nano_front)

-- ---- a record with a packet

directed_room : (time : ℕ) (b : List ℕ) (p : Packet) → directed_packet time b ≡ some p → 9 + length p.bytes ≤ length b
unfolding directed_packet
directed_room time b p e =
    split_b (eqb (be32 b 0) 0)
    (λ q. let h = h4_room 0 time (drop 4 b) p (rw q at e) in omega (arith, length-drop 4 b))
    (λ q. split_b (eqb (be32 b 0) 1)
    (λ z. let h = h4_room 1 time (drop 4 b) p (rw (q, z) at e) in omega (arith, length-drop 4 b))
    (λ z. not_some (rw (q, z) at e)))

-- a packet too short to hold a direction, or one that holds nothing else, is skipped
pub too_short : (time : ℕ) (b : List ℕ) → length b ≤ 4 → directed_packet time b ≡ none
unfolding directed_packet h4_packet
too_short time b h =
    let d : drop 4 b ≡ [] = drop_of_length-le b h in
    split_b (eqb (be32 b 0) 0)
    (λ q. rw (q, d))
    (λ q. split_b (eqb (be32 b 0) 1) (λ z. rw (q, z, d)) (λ z. rw (q, z)))

pub packet_room : (big nano : Bool) (r : List ℕ) (p : Packet) → packet_of big nano r ≡ some p → 25 + length p.bytes ≤ length r
unfolding packet_of
packet_room big nano r p e = let h = directed_room (milliseconds big nano r) (drop 16 r) p e in omega (arith, length-drop 16 r)

pub lawful : Lawful pcap
lawful = record {
  least = λ f b. size_least (is_big f) b;
  size_front = λ f r x h. size_front (is_big f) r x h;
  long = file_long;
  file_front = file_front;
  link_front = link_front;
  sizes_front = λ h x e. ap record_size (big_front h x e);
  packets_front = packets_front;
  room = λ f r p e. packet_room (is_big f) (is_nano f) r p e;
}
