-- The same packets at the same times give the same answer in both containers, but for the tail offset.
use Prim.Native.Nat.{ℕ, ◌+◌, ◌*◌, ◌/◌, ◌%◌, ◌<◌}
use mathlib.Core.Path.{◌≡◌, refl, sym, ap, ◌∙◌, fun_ext}
use mathlib.Core.Bool.{Bool, true, false, cond}
use mathlib.Core.List.{List, [], ◌∷◌, ◌++◌, map}
use mathlib.Core.Option.{Option, none, some}
use native.Mathlib.Omega.{arith}
use lib.ListN.{length, drop}
use borrow.Author.Tests.{eq-eqb}
use Rattle.laws.specs.Lists.{flat, All, all_nil, all_cons}
use Rattle.laws.specs.Keys.{eq_k}
use Rattle.laws.specs.Numbers.{le32, be32, be64}
use Rattle.items.specs.declared.Direction.{Direction}
use Rattle.items.specs.declared.Direction.TheVariants.{Rx, Tx}
use Rattle.items.specs.Items.{rx_of}
use Rattle.container.specs.Packets.{Packet, h4_packet, or_none, packets}
use Rattle.container.specs.Container.{Container, tail_offset, packets_in}
use Rattle.container.proofs.Records.{IsRecord, packets_written, tail_written}
use Rattle.btsnoop.specs.Header.{is_btsnoop, datalink, is_datalink}
use Rattle.btsnoop.specs.Records.{record_size, btsnoop}
use Rattle.btsnoop.specs.Packets.{milliseconds, hci_packet, packet_of}
use Rattle.btsnoop.proofs.Laws as btsnoop_laws
use Rattle.pcap.specs.Header.{is_big, is_little, is_nano, is_pcap, number, link_of, is_link}
use Rattle.pcap.specs.Records as pcap_records
use Rattle.pcap.specs.Packets.{directed_packet}
use Rattle.pcap.specs.Packets as pcap_packets
use Rattle.pcap.specs.Pcap.{pcap}
use Rattle.pcap.proofs.Laws as pcap_laws
use Rattle.rfcomm.specs.Pieces.{Piece}
use Rattle.outcome.specs.Import.{Tail, strict, tolerant, Options, Found, found, missing, chosen, listed, file_pieces, file_wrong, read, ends_well, outcome}
use Rattle.formats.specs.Written.{be, Seen, Fits, btsnoop_head, btsnoop_record, btsnoop_file, pcap_head, pcap_record, pcap_file}

-- ---- any two files

-- an answer with another tail offset
abbrev pub with_tail : ℕ → Found → Found
with_tail t (found x) = found (record { dlci = x.dlci; spans = x.spans; unfinished = x.unfinished; tail = t; wrong = x.wrong; account = x.account })
with_tail t (missing n vs) = missing n vs

listed_tail : (ps : List Piece) (wrongs : ℕ → ℕ) (s t : ℕ) (o : Option ℕ) → listed ps wrongs t o ≡ with_tail t (listed ps wrongs s o)
unfolding listed
listed_tail ps wrongs s t none = refl
listed_tail ps wrongs s t (some d) = refl

-- a file that is not refused by 3, 4, 5 or 21, 22, 5
pub record Good (C : Container) (tail : Tail) (f : List ℕ) : Type 0 where
  pub file : C.is_file f ≡ true
  pub link : C.is_taken (C.link_type f) ≡ true
  pub ends : ends_well C tail f ≡ true

good_read : (C : Container) (f : List ℕ) (o : Options) → Good C o.tail f → outcome C f o ≡ listed (file_pieces C o.judging f) (file_wrong C o.judging f) (tail_offset C f) (chosen o.channel (file_pieces C o.judging f))
unfolding outcome read
good_read C f o g = rw (g.file, g.link, g.ends)

pub same_packets : (C D : Container) (f g : List ℕ) (o : Options) → Good C o.tail f → Good D o.tail g → packets_in C f ≡ packets_in D g → outcome D g o ≡ with_tail (tail_offset D g) (outcome C f o)
unfolding file_pieces
same_packets C D f g o a b e =
    let p : file_pieces C o.judging f ≡ file_pieces D o.judging g = rw e in
    let w : file_wrong C o.judging f ≡ file_wrong D o.judging g = fun_ext (λ d. rw e) in
    rw (good_read C f o a, good_read D g o b, p, w) (listed_tail (file_pieces D o.judging g) (file_wrong D o.judging g) (tail_offset C f) (tail_offset D g) (chosen o.channel (file_pieces D o.judging g)))

-- ---- the packets that were written

seen_packet : Seen → Option Packet
seen_packet p = h4_packet (rx_of p.way) (p.time / 1000000) p.h4

seen_packets : List Seen → List Packet
seen_packets [] = []
seen_packets (p ∷ ps) = or_none (seen_packet p) (seen_packets ps)

read_written : (read : List ℕ → Option Packet) (write : Seen → List ℕ) → ((p : Seen) → Fits p → read (write p) ≡ seen_packet p) → {ps : List Seen} → All Fits ps → packets read (map write ps) ≡ seen_packets ps
unfolding packets seen_packets
read_written read write h all_nil = refl
read_written read write h (all_cons {x = p} {xs = ps} f fs) = rw (h p f, read_written read write h fs)

all_written : (T : List ℕ → Type 0) (write : Seen → List ℕ) → ((p : Seen) → Fits p → T (write p)) → {ps : List Seen} → All Fits ps → All T (map write ps)
all_written T write h all_nil = all_nil
all_written T write h (all_cons {x = p} f fs) = all_cons (h p f) (all_written T write h fs)

digits : (v : ℕ) → v < 4294967296 → 16777216 * (v / 256 / 256 / 256 % 256) + 65536 * (v / 256 / 256 % 256) + 256 * (v / 256 % 256) + v % 256 ≡ v
digits v h = omega arith

low : (v : ℕ) → 16777216 * (v / 256 / 256 / 256 % 256) + 65536 * (v / 256 / 256 % 256) + 256 * (v / 256 % 256) + v % 256 + 4294967296 * (v / 256 / 256 / 256 / 256) ≡ v
low v = omega arith

-- ---- btsnoop

way_small : (t : Direction) → rx_of t < 4294967296
unfolding rx_of
way_small Rx = omega arith
way_small Tx = omega arith

hci_way : (t : Direction) (time : ℕ) (b : List ℕ) → hci_packet 1002 (rx_of t) time b ≡ h4_packet (rx_of t) time b
unfolding hci_packet rx_of
hci_way Rx time b = refl
hci_way Tx time b = refl

module _ (p : Seen) (f : Fits p) where
  btsnoop_size : IsRecord record_size (btsnoop_record p)
  unfolding record_size be32
  btsnoop_size = omega (arith, digits (length p.h4) (omega (arith, f.size)))

  btsnoop_time : milliseconds (btsnoop_record p) ≡ p.time / 1000000
  unfolding milliseconds be64 be32
  btsnoop_time =
      let v : ℕ = 0x00dcddb30f2f8000 + p.time / 1000 in
      let h : v / 256 / 256 / 256 / 256 < 4294967296 = omega (arith, f.seconds) in
      omega (arith, low v, digits (v / 256 / 256 / 256 / 256) h)

  btsnoop_flags : be32 (btsnoop_record p) 8 ≡ rx_of p.way
  unfolding be32
  btsnoop_flags = digits (rx_of p.way) (way_small p.way)

  btsnoop_packet : packet_of 1002 (btsnoop_record p) ≡ seen_packet p
  unfolding packet_of seen_packet
  btsnoop_packet = rw (btsnoop_time, btsnoop_flags) (hci_way p.way (p.time / 1000000) p.h4)

-- ---- pcap

module _ (nano : Bool) (p : Seen) (f : Fits p) where
  fraction : ℕ
  fraction = cond nano (p.time % 1000000000) (p.time / 1000 % 1000000)

  fraction_small : fraction < 4294967296
  unfolding fraction
  fraction_small = go nano
    where
      go : (n : Bool) → cond n (p.time % 1000000000) (p.time / 1000 % 1000000) < 4294967296
      go true = omega arith
      go false = omega arith

  pcap_size : (big : Bool) → IsRecord (pcap_records.record_size big) (pcap_record big nano p)
  unfolding pcap_records.record_size number be32 le32
  pcap_size true = omega (arith, digits (4 + length p.h4) (omega (arith, f.size)))
  pcap_size false = omega (arith, digits (4 + length p.h4) (omega (arith, f.size)))

  seconds_read : (big : Bool) → number big (pcap_record big nano p) 0 ≡ p.time / 1000000000
  unfolding number be32 le32
  seconds_read true = digits (p.time / 1000000000) f.seconds
  seconds_read false = omega (arith, digits (p.time / 1000000000) f.seconds)

  fraction_read : (big : Bool) → number big (pcap_record big nano p) 4 ≡ fraction
  unfolding number be32 le32 fraction
  fraction_read true = digits (cond nano (p.time % 1000000000) (p.time / 1000 % 1000000)) fraction_small
  fraction_read false = omega (arith, digits (cond nano (p.time % 1000000000) (p.time / 1000 % 1000000)) fraction_small)

  pcap_time : (big : Bool) → pcap_packets.milliseconds big nano (pcap_record big nano p) ≡ p.time / 1000000
  unfolding pcap_packets.milliseconds fraction
  pcap_time big = rw (seconds_read big, fraction_read big) (go nano)
    where
      go : (n : Bool) → 1000 * (p.time / 1000000000) + cond n (cond n (p.time % 1000000000) (p.time / 1000 % 1000000) / 1000000) (cond n (p.time % 1000000000) (p.time / 1000 % 1000000) / 1000) ≡ p.time / 1000000
      go true = omega arith
      go false = omega arith

  directed : (t : Direction) (time : ℕ) → directed_packet time (be 4 (rx_of t) ++ p.h4) ≡ h4_packet (rx_of t) time p.h4
  unfolding directed_packet be32 rx_of
  directed Rx time = refl
  directed Tx time = refl

  after_head : (big : Bool) → drop 16 (pcap_record big nano p) ≡ be 4 (rx_of p.way) ++ p.h4
  after_head true = refl
  after_head false = refl

  pcap_packet : (big : Bool) → pcap_packets.packet_of big nano (pcap_record big nano p) ≡ seen_packet p
  unfolding pcap_packets.packet_of seen_packet
  pcap_packet big = rw (pcap_time big, after_head big) (directed p.way (p.time / 1000000))

-- ---- headers

btsnoop_head_law : (is_btsnoop btsnoop_head ≡ true) × (datalink btsnoop_head ≡ 1002)
unfolding is_btsnoop datalink be32 eq_k
btsnoop_head_law = (refl, refl)

pcap_head_law : (big nano : Bool) → (is_pcap (pcap_head big nano) ≡ true) × (link_of (pcap_head big nano) ≡ 201) × (is_big (pcap_head big nano) ≡ big) × (is_nano (pcap_head big nano) ≡ nano) × (length (pcap_head big nano) ≡ 24)
unfolding is_pcap link_of is_big is_little is_nano number be32 le32 eq_k
pcap_head_law true true = (refl, refl, refl, refl, refl)
pcap_head_law true false = (refl, refl, refl, refl, refl)
pcap_head_law false true = (refl, refl, refl, refl, refl)
pcap_head_law false false = (refl, refl, refl, refl, refl)

ends_whole : (C : Container) (tail : Tail) (f : List ℕ) → tail_offset C f ≡ length f → ends_well C tail f ≡ true
unfolding ends_well
ends_whole C strict f e = eq-eqb (tail_offset C f) (length f) e
ends_whole C tolerant f e = refl

-- ---- both

module _ (ps : List Seen) (fs : All Fits ps) where
  btsnoop_whole : All (IsRecord record_size) (map btsnoop_record ps)
  btsnoop_whole = all_written (IsRecord record_size) btsnoop_record btsnoop_size fs

  btsnoop_packets : packets_in btsnoop (btsnoop_file ps) ≡ seen_packets ps
  btsnoop_packets =
      packets_written btsnoop btsnoop_laws.lawful btsnoop_head refl (map btsnoop_record ps) btsnoop_whole
      ∙ rw btsnoop_head_law.1 (read_written (packet_of 1002) btsnoop_record btsnoop_packet fs)

  btsnoop_tail : tail_offset btsnoop (btsnoop_file ps) ≡ length (btsnoop_file ps)
  btsnoop_tail = tail_written btsnoop btsnoop_laws.lawful btsnoop_head refl (map btsnoop_record ps) btsnoop_whole

  btsnoop_good : (tail : Tail) → Good btsnoop tail (btsnoop_file ps)
  unfolding is_datalink
  btsnoop_good tail = record {
    file = (btsnoop_laws.lawful).file_front btsnoop_head (flat (map btsnoop_record ps)) refl ∙ btsnoop_head_law.0;
    link = rw ((btsnoop_laws.lawful).link_front btsnoop_head (flat (map btsnoop_record ps)) refl, btsnoop_head_law.1);
    ends = ends_whole btsnoop tail (btsnoop_file ps) btsnoop_tail;
  }

  module _ (big nano : Bool) where
    h : (is_pcap (pcap_head big nano) ≡ true) × (link_of (pcap_head big nano) ≡ 201) × (is_big (pcap_head big nano) ≡ big) × (is_nano (pcap_head big nano) ≡ nano) × (length (pcap_head big nano) ≡ 24)
    h = pcap_head_law big nano

    pcap_whole : All (IsRecord (pcap_records.record_size (is_big (pcap_head big nano)))) (map (pcap_record big nano) ps)
    pcap_whole = rw h.2 (all_written (IsRecord (pcap_records.record_size big)) (pcap_record big nano) (λ p f. pcap_size nano p f big) fs)

    pcap_packets_are : packets_in pcap (pcap_file big nano ps) ≡ seen_packets ps
    pcap_packets_are =
        packets_written pcap pcap_laws.lawful (pcap_head big nano) h.4 (map (pcap_record big nano) ps) pcap_whole
        ∙ rw (h.2, h.3) (read_written (pcap_packets.packet_of big nano) (pcap_record big nano) (λ p f. pcap_packet nano p f big) fs)

    pcap_tail : tail_offset pcap (pcap_file big nano ps) ≡ length (pcap_file big nano ps)
    pcap_tail = tail_written pcap pcap_laws.lawful (pcap_head big nano) h.4 (map (pcap_record big nano) ps) pcap_whole

    pcap_good : (tail : Tail) → Good pcap tail (pcap_file big nano ps)
    unfolding is_link
    pcap_good tail = record {
      file = (pcap_laws.lawful).file_front (pcap_head big nano) (flat (map (pcap_record big nano) ps)) h.4 ∙ h.0;
      link = rw ((pcap_laws.lawful).link_front (pcap_head big nano) (flat (map (pcap_record big nano) ps)) h.4, h.1);
      ends = ends_whole pcap tail (pcap_file big nano ps) pcap_tail;
    }

    -- the same packets at the same times, in a btsnoop file of datalink 1002 and in a pcap file of either byte order and resolution:
    -- the same answer, but for the tail offset, which is the file's length
    pub same_answer : (o : Options) → outcome pcap (pcap_file big nano ps) o ≡ with_tail (length (pcap_file big nano ps)) (outcome btsnoop (btsnoop_file ps) o)
    same_answer o =
        same_packets btsnoop pcap (btsnoop_file ps) (pcap_file big nano ps) o (btsnoop_good o.tail) (pcap_good o.tail) (btsnoop_packets ∙ sym pcap_packets_are)
        ∙ ap (λ (t : ℕ). with_tail t (outcome btsnoop (btsnoop_file ps) o)) pcap_tail
