-- Laws of formats, for both containers at once: sizes, fronts, packets; and what a file's header says reads it as its container does.
use Prim.Native.Nat.{ℕ, ◌+◌, ◌-◌, ◌<◌, ◌≤◌}
use mathlib.Core.Path.{◌≡◌, refl, sym, ap, ◌∙◌}
use mathlib.Core.List.{List, ◌++◌}
use mathlib.Core.Option.{Option, none, some}
use native.Mathlib.Omega.{arith}
use lib.ListN.{length, take, drop, length-drop, take-append-drop}
use lib.Seq.{length-take-le}
use Rattle.container.specs.Container as container
use Rattle.container.specs.Packets.{Packet}
use Rattle.btsnoop.specs.Header.{datalink}
use Rattle.btsnoop.specs.Headers.{number_of}
use Rattle.btsnoop.specs.Records as btsnoop_records
use Rattle.btsnoop.specs.declared.Datalink.{Datalink}
use Rattle.btsnoop.proofs.Reading.{read_as}
use Rattle.btsnoop.proofs.Laws as btsnoop_laws
use Rattle.btsnoop.proofs.Records as btsnoop_times
use Rattle.pcap.specs.Records as pcap_records
use Rattle.pcap.specs.declared.Encoding.{Encoding}
use Rattle.pcap.proofs.Laws as pcap_laws
use Rattle.pcap.proofs.Reading as pcap_times
use Rattle.trace.specs.Formats.{container_of, format_of, file_head, record_head, size_by, time_by, packet_by, records_by, packets_by, tail_by}
use Rattle.trace.specs.declared.Container.{Container}
use Rattle.trace.specs.declared.Container.TheVariants.{Btsnoop, Pcap}
use Rattle.trace.specs.declared.Format.{Format}
use Rattle.trace.specs.declared.Format.TheVariants.{Btsnoop as ByDatalink, Pcap as ByEncoding}

-- ---- either container

-- the container keeps the laws of one
pub lawful : (b : Container) → container.Lawful (container_of b)
lawful Btsnoop = btsnoop_laws.lawful
lawful Pcap = pcap_laws.lawful

pub head_least : (g : Format) → 16 ≤ record_head g
unfolding record_head
head_least (ByDatalink d) = omega arith
head_least (ByEncoding e) = omega arith

pub head_most : (g : Format) → record_head g ≤ 24
unfolding record_head
head_most (ByDatalink d) = omega arith
head_most (ByEncoding e) = omega arith

pub file_head_least : (g : Format) → 16 ≤ file_head g
unfolding file_head
file_head_least (ByDatalink d) = omega arith
file_head_least (ByEncoding e) = omega arith

pub file_head_most : (g : Format) → file_head g ≤ 24
unfolding file_head
file_head_most (ByDatalink d) = omega arith
file_head_most (ByEncoding e) = omega arith

-- ---- by the case that a format is

module _ (g : Format) (d : Datalink) (q : g ≡ ByDatalink d) where
  pub file_head_btsnoop : (16 ≡ file_head g) × (16 ≤ 24)
  unfolding file_head
  file_head_btsnoop = (rw q, omega arith)

  pub record_head_btsnoop : (24 ≡ record_head g) × (24 ≤ 24)
  unfolding record_head
  record_head_btsnoop = (rw q, omega arith)

  pub size_btsnoop : (b : List ℕ) (n : ℕ) → n ≡ btsnoop_records.record_size b → n ≡ size_by g b
  unfolding size_by
  size_btsnoop b n e = rw q e

module _ (g : Format) (x : Encoding) (q : g ≡ ByEncoding x) where
  pub file_head_pcap : (24 ≡ file_head g) × (24 ≤ 24)
  unfolding file_head
  file_head_pcap = (rw q, omega arith)

  pub record_head_pcap : (16 ≡ record_head g) × (16 ≤ 24)
  unfolding record_head
  record_head_pcap = (rw q, omega arith)

  pub size_pcap : (b : List ℕ) (n : ℕ) → n ≡ pcap_records.record_size x.big b → n ≡ size_by g b
  unfolding size_by
  size_pcap b n e = rw q e

-- ---- for every format

-- a record has its head
pub size_least : (g : Format) (b : List ℕ) → record_head g ≤ size_by g b
unfolding record_head size_by btsnoop_records.record_size pcap_records.record_size
size_least (ByDatalink d) b = omega arith
size_least (ByEncoding e) b = omega arith

-- a record that holds a packet has 25 bytes besides the packet's
pub packet_room : (g : Format) (r : List ℕ) (p : Packet) → packet_by g r ≡ some p → 25 + length p.bytes ≤ length r
unfolding packet_by
packet_room (ByDatalink d) r p e = let h = btsnoop_laws.packet_room (number_of d) r p e in omega arith
packet_room (ByEncoding x) r p e = pcap_laws.packet_room x.big x.nano r p e

-- so a shorter record has none
pub packet_none : (g : Format) (r : List ℕ) → length r < 25 → packet_by g r ≡ none
packet_none g r h = go (packet_by g r) refl where
  go : (o : Option Packet) → packet_by g r ≡ o → packet_by g r ≡ none
  go none e = e
  go (some p) e = absurd (omega (arith, packet_room g r p e))

-- the time stands in the head
pub time_front : (g : Format) (r x : List ℕ) → record_head g ≤ length r → time_by g (r ++ x) ≡ time_by g r
unfolding record_head time_by
time_front (ByDatalink d) r x h = btsnoop_times.time_front r x h
time_front (ByEncoding e) r x h = pcap_times.time_front e.big e.nano r x h

-- of a record in a file, from its place on
pub time_part : (g : Format) (f : List ℕ) (at end : ℕ) → at + record_head g ≤ end → end ≤ length f → time_by g (take (end - at) (drop at f)) ≡ time_by g (drop at f)
time_part g f at end h m =
    let l : length (take (end - at) (drop at f)) ≡ end - at = length-take-le (end - at) (drop at f) (simp length-drop (omega arith)) in
    sym (time_front g (take (end - at) (drop at f)) (drop (end - at) (drop at f)) (omega arith)) ∙ ap (λ (l : List ℕ). time_by g l) (take-append-drop (end - at) (drop at f))

-- ---- a file's header says how its container reads it

pub head_of : (b : Container) (f : List ℕ) → file_head (format_of b f) ≡ (container_of b).head
unfolding file_head
head_of Btsnoop f = refl
head_of Pcap f = refl

pub packet_of_law : (b : Container) (f : List ℕ) → packet_by (format_of b f) ≡ (container_of b).packet f
unfolding packet_by
packet_of_law Btsnoop f = read_as (datalink f)
packet_of_law Pcap f = refl

pub records_of : (b : Container) (f : List ℕ) → records_by (format_of b f) f ≡ container.records (container_of b) f
unfolding container.records file_head size_by
records_of Btsnoop f = refl
records_of Pcap f = refl

pub packets_of_law : (b : Container) (f : List ℕ) → packets_by (format_of b f) f ≡ container.packets_in (container_of b) f
unfolding container.packets_in container.records file_head size_by packet_by
packets_of_law Btsnoop f = rw (read_as (datalink f))
packets_of_law Pcap f = refl

pub tail_of_law : (b : Container) (f : List ℕ) → tail_by (format_of b f) f ≡ container.tail_offset (container_of b) f
unfolding container.tail_offset container.records file_head size_by
tail_of_law Btsnoop f = refl
tail_of_law Pcap f = refl
