-- btsnoop keeps the laws of a container.
use Prim.Native.Nat.{ℕ, ◌+◌, ◌/◌, ◌%◌, ◌<◌, ◌≤◌}
use mathlib.Core.Path.{◌≡◌, refl, ap}
use mathlib.Core.List.{List, ◌++◌}
use mathlib.Core.Option.{Option, none, some}
use native.Mathlib.Omega.{arith}
use lib.ListN.{length, drop, length-append, length-drop}
use lib.Seq.{take-append-le}
use lib.Dec.{eqb}
use borrow.Author.Tests.{le-leb}
use Rattle.laws.proofs.Choice.{split_b}
use Rattle.laws.specs.Numbers.{be32}
use Rattle.container.specs.Container.{Lawful}
use Rattle.container.specs.Packets.{Packet}
use Rattle.container.proofs.Fronts.{be32_front}
use Rattle.container.proofs.Packets.{not_some, fragment_room, h4_room}
use Rattle.btsnoop.specs.Header.{is_btsnoop, datalink}
use Rattle.btsnoop.proofs.Headers.{begins_long}
use Rattle.btsnoop.specs.Records.{record_size, btsnoop}
use Rattle.btsnoop.specs.Packets.{milliseconds, hci_packet, monitor_packet, packet_of}

size_least : (b : List ℕ) → 16 ≤ record_size b
unfolding record_size
size_least b = omega arith

size_front : (r x : List ℕ) → 16 ≤ length r → record_size (r ++ x) ≡ record_size r
unfolding record_size
size_front r x h = rw (be32_front r x 4 (omega arith))

file_front : (h x : List ℕ) → length h ≡ 16 → is_btsnoop (h ++ x) ≡ is_btsnoop h
unfolding is_btsnoop
file_front h x e = rw (be32_front h x 8 (omega arith), take-append-le 8 h x (omega arith), le-leb 16 (length (h ++ x)) (simp length-append (omega arith)), le-leb 16 (length h) (omega arith))

link_front : (h x : List ℕ) → length h ≡ 16 → datalink (h ++ x) ≡ datalink h
unfolding datalink
link_front h x e = be32_front h x 12 (omega arith)

-- ---- a record with a packet

hci_room : (dl flags time : ℕ) (b : List ℕ) (p : Packet) → hci_packet dl flags time b ≡ some p → 4 + length p.bytes ≤ length b
unfolding hci_packet
hci_room dl flags time b p e =
    split_b (eqb (flags / 2 % 2) 1)
    (λ q. not_some (rw q at e))
    (λ q. split_b (eqb dl 1002)
    (λ z. let h = h4_room (flags % 2) time b p (rw (q, z) at e) in omega arith)
    (λ z. fragment_room 0 (flags % 2) time b p (rw (q, z) at e)))

monitor_room : (flags time : ℕ) (b : List ℕ) (p : Packet) → monitor_packet flags time b ≡ some p → 4 + length p.bytes ≤ length b
unfolding monitor_packet
monitor_room flags time b p e =
    split_b (eqb (flags % 65536) 4)
    (λ q. fragment_room (flags / 65536) 0 time b p (rw q at e))
    (λ q. split_b (eqb (flags % 65536) 5)
    (λ z. fragment_room (flags / 65536) 1 time b p (rw (q, z) at e))
    (λ z. not_some (rw (q, z) at e)))

-- 28 bytes besides its own
pub packet_room : (dl : ℕ) (r : List ℕ) (p : Packet) → packet_of dl r ≡ some p → 28 + length p.bytes ≤ length r
unfolding packet_of
packet_room dl r p e =
    split_b (eqb dl 2001)
    (λ q. let h = monitor_room (be32 r 8) (milliseconds r) (drop 24 r) p (rw q at e) in omega (arith, length-drop 24 r))
    (λ q. let h = hci_room dl (be32 r 8) (milliseconds r) (drop 24 r) p (rw q at e) in omega (arith, length-drop 24 r))

-- so a shorter record has none
pub packet_none : (dl : ℕ) (r : List ℕ) → length r < 28 → packet_of dl r ≡ none
packet_none dl r h = go (packet_of dl r) refl where
  go : (o : Option Packet) → packet_of dl r ≡ o → packet_of dl r ≡ none
  go none e = e
  go (some p) e = absurd (omega (arith, packet_room dl r p e))

pub lawful : Lawful btsnoop
lawful = record {
  least = λ f b. size_least b;
  size_front = λ f r x h. size_front r x h;
  long = λ f e. begins_long f e;
  file_front = file_front;
  link_front = link_front;
  sizes_front = λ h x e. refl;
  packets_front = λ h x e. ap packet_of (link_front h x e);
  room = λ f r p e. let h = packet_room (datalink f) r p e in omega arith;
}
