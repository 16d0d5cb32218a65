-- How many records and packets a file can have, in either container: a record has at least 16 bytes, one with a packet 25.
use Prim.Native.Nat.{ℕ, zero, suc, ◌+◌, ◌-◌, ◌*◌, ◌/◌, ◌≤◌}
use mathlib.Core.Path.{◌≡◌, refl, ◌∙◌}
use mathlib.Core.Bool.{true}
use mathlib.Core.List.{List, [], ◌∷◌}
use mathlib.Core.Option.{Option, none, some}
use native.Mathlib.Omega.{arith}
use lib.ListN.{length, take, drop, length-drop}
use lib.Seq.{length-take-le}
use borrow.Author.Tests.{leb-true}
use Rattle.laws.proofs.Choice.{split_b}
use Rattle.container.specs.Packets.{Packet, or_none, packets}
use Rattle.container.specs.Container.{Container, Lawful, is_whole, records_in, records, packets_in}
use Rattle.container.proofs.Records.{records_eq, size_some}
use Rattle.pcap.specs.Header.{is_pcap}
use Rattle.pcap.specs.Pcap.{pcap}
use Rattle.pcap.proofs.Laws as pcap_laws

-- a packet more takes 25 bytes more
one_more : (o : Option Packet) (ps : List Packet) (n : ℕ) → ((p : Packet) → o ≡ some p → 25 ≤ n) → 25 * length (or_none o ps) ≤ n + 25 * length ps
one_more none ps n h = omega arith
one_more (some p) ps n h = omega (arith, h p refl)

module _ (C : Container) (L : Lawful C) (f : List ℕ) where
  record Most (b : List ℕ) : Type 0 where
    pub records : 16 * length (records_in (C.size f) b) ≤ length b
    pub packets : 25 * length (packets (C.packet f) (records_in (C.size f) b)) ≤ length b

  most_none : (b : List ℕ) → records_in (C.size f) b ≡ [] → Most b
  unfolding packets
  most_none b e = record { records = rw e (omega arith); packets = rw e (omega arith) }

  most_more : (b : List ℕ) (k : ℕ) → k ≡ C.size f b → k ≤ length b → records_in (C.size f) b ≡ take k b ∷ records_in (C.size f) (drop k b) → Most (drop k b) → Most b
  unfolding packets
  most_more b k q h e m =
      let l : length (take k b) ≡ k = length-take-le k b h in
      let d : length (drop k b) ≡ length b - k = length-drop k b in
      let s = L.least f b in
      let o = one_more (C.packet f (take k b)) (packets (C.packet f) (records_in (C.size f) (drop k b))) k (λ p g. omega (arith, L.room f (take k b) p g)) in
      record {
        records = rw e (omega (arith, m.records));
        packets = rw e (omega (arith, m.packets));
      }

  most : (n : ℕ) (b : List ℕ) → length b ≤ n → Most b
  unfolding is_whole
  most zero b h =
      split_b (is_whole (C.size f) b)
      (λ w. absurd (omega (arith, leb-true (C.size f b) (length b) w, L.least f b)))
      (λ w. most_none b (records_eq (C.size f) (size_some C L f) b ∙ rw w))
  most (suc n) b h =
      split_b (is_whole (C.size f) b)
      (λ w.
      let g : C.size f b ≤ length b = leb-true (C.size f b) (length b) w in
      most_more b (C.size f b) refl g (records_eq (C.size f) (size_some C L f) b ∙ rw w) (most n (drop (C.size f b) b) (omega (arith, L.least f b, length-drop (C.size f b) b))))
      (λ w. most_none b (records_eq (C.size f) (size_some C L f) b ∙ rw w))

  -- the whole file, its header included
  pub records_most : C.is_file f ≡ true → C.head + 16 * length (records C f) ≤ length f
  unfolding records
  records_most e = let m = most (length (drop C.head f)) (drop C.head f) (omega arith) in omega (arith, m.records, length-drop C.head f, L.long f e)

  pub packets_most : C.is_file f ≡ true → C.head + 25 * length (packets_in C f) ≤ length f
  unfolding packets_in records
  packets_most e = let m = most (length (drop C.head f)) (drop C.head f) (omega arith) in omega (arith, m.packets, length-drop C.head f, L.long f e)

-- a pcap file: 24 bytes and 16 a record, 25 a packet
pub pcap_most : (f : List ℕ) → is_pcap f ≡ true → (24 + 16 * length (records pcap f) ≤ length f) × (24 + 25 * length (packets_in pcap f) ≤ length f)
pcap_most f e = (records_most pcap pcap_laws.lawful f e, packets_most pcap pcap_laws.lawful f e)

-- so the file's length divided by 24 is at least the number of its packets, and places for stretches suffice
pub pcap_places : (f : List ℕ) → is_pcap f ≡ true → length (packets_in pcap f) ≤ length f / 24
pcap_places f e = omega (arith, (pcap_most f e).1)
