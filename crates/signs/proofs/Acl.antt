-- ACL data in a record, and that its packet is all there, as the code finds it.
use Rattle.std.specs.Prelude.{Option, Some, None}
use Prim.Native.Nat.{ℕ, ◌+◌, ◌-◌, ◌/◌, ◌%◌, ◌<◌, ◌≤◌}
use mathlib.Core.Path.{◌≡◌, refl, sym, ◌∙◌}
use mathlib.Core.Bool.{Bool, true, false, not, ◌&&◌, ◌||◌}
use mathlib.Core.List.{List, []}
use native.Mathlib.Omega.{arith}
use lib.ListN.{length, get_or, take, drop, drop_of_length-le}
use lib.Seq.{drop-drop}
use lib.Dec.{leb, ltb, eqb}
use borrow.Author.Tests.{eq-eqb, ne_eqb, le-leb, lt-leb, lt-ltb, le-ltb}
use Rattle.std.proofs.lemmas.List.{take_rest}
use Rattle.laws.proofs.Choice.{split_b, split≡, split≤, no_way}
use Rattle.laws.specs.Numbers.{be32, le16}
use Rattle.words.specs.Fields.{field_of}
use Rattle.container.specs.Packets.{fragment, h4_packet}
use Rattle.acl.proofs.Parts.{be32_drop}
use Rattle.btsnoop.specs.Headers.{number_of}
use Rattle.btsnoop.specs.declared.Datalink.{Datalink}
use Rattle.btsnoop.specs.declared.Datalink.TheVariants.{Hci, H4, Monitor}
use Rattle.btsnoop.specs.Packets.{milliseconds, hci_packet, monitor_packet, packet_of}
use Rattle.pcap.specs.Packets as pcap_packets
use Rattle.pcap.specs.declared.Encoding.{Encoding}
use Rattle.trace.specs.Formats.{record_head, packet_by}
use Rattle.trace.specs.Finding.{bytes_of}
use Rattle.trace.proofs.Finding.{bytes_least}
use Rattle.trace.specs.declared.record.Record.{Record}
use Rattle.trace.specs.declared.Format.{Format}
use Rattle.trace.specs.declared.Format.TheVariants.{Btsnoop as ByDatalink, Pcap as ByEncoding}
use Rattle.signs.specs.Recorded.{is_acl, is_none}
use Rattle.signs.specs.Reading.{DirectedIs, lacks_data, before_packet}

not_there : ◌≡◌ {A = ℕ} 0 1 → ⊥
not_there z = omega arith

not_ltb : (n m : ℕ) → ltb m n ≡ not (leb n m)
not_ltb n m = split≤ n m (λ l. rw (le-leb n m l, le-ltb m n l)) (λ l. rw (lt-leb n m l, lt-ltb m n l))

and_false : (b : Bool) → (b && false) ≡ false
and_false true = refl
and_false false = refl

and_true : (b : Bool) → (b && true) ≡ b
and_true true = refl
and_true false = refl

-- ---- ACL data

-- a slice up to the end
abbrev rest : List ℕ → ℕ → List ℕ
rest b n = take (length b - n) (drop n b)

not_one : (n : ℕ) → not (eqb (n / 2 % 2) 1) ≡ eqb (n / 2 % 2) 0
not_one n = split≡ (n / 2 % 2) 1 (λ e. rw e) (λ e. let z : n / 2 % 2 ≡ 0 = omega arith in rw z)

module _ (b : List ℕ) (d : Datalink) (flags : ℕ) (e : flags ≡ be32 b 8) where
  pub acl_monitor : d ≡ Monitor → (t : Bool) → t ≡ (eqb (flags % 65536) 4 || eqb (flags % 65536) 5) → t ≡ is_acl (ByDatalink d) b
  unfolding is_acl
  acl_monitor q t h = rw (q, ← e) h

  pub acl_hci : d ≡ Hci → eqb (flags / 2 % 2) 0 ≡ is_acl (ByDatalink d) b
  unfolding is_acl
  acl_hci q = rw (q, ← e, not_one flags) (sym (and_true (eqb (flags / 2 % 2) 0)))

  pub acl_h4 : d ≡ H4 → flags / 2 % 2 ≡ 0 → (t : Bool) → t ≡ eqb (get_or (rest b 24) 0 0) 2 → t ≡ is_acl (ByDatalink d) b
  unfolding is_acl
  acl_h4 q z t h = rw (q, ← e, z, ← take_rest b 24) h

  pub acl_not : d ≡ H4 → (flags / 2 % 2 ≡ 0 → ⊥) → eqb (flags / 2 % 2) 0 ≡ is_acl (ByDatalink d) b
  unfolding is_acl
  acl_not q n = rw (q, ← e, not_one flags, ne_eqb (flags / 2 % 2) 0 n)

module _ (b : List ℕ) where
  pub directed_short : length b < 20 → DirectedIs b false
  unfolding is_acl
  directed_short h = record {
    is = λ e. sym (
        let n : drop 20 b ≡ [] = drop_of_length-le b {i = 20} (omega arith) in
        let z : eqb (get_or (drop 20 b) 0 0) 2 ≡ false = rw n in
        rw z (and_false (eqb (be32 (drop 16 b) 0) 0 || eqb (be32 (drop 16 b) 0) 1)));
  }

  module _ (way : ℕ) (w : way ≡ be32 b 16) where
    way_part : be32 (drop 16 b) 0 ≡ way
    way_part = be32_drop b 16 0 ∙ sym w

    pub directed_acl : way < 2 → (t : Bool) → t ≡ eqb (get_or (rest b 20) 0 0) 2 → DirectedIs b t
    unfolding is_acl
    directed_acl g t q = record {
      is = λ e. rw (way_part, ← take_rest b 20) (split≤ 1 way
          (λ l. let z : way ≡ 1 = omega arith in rw (ne_eqb way 0 (λ y. absurd (omega arith)), eq-eqb way 1 z) q)
          (λ l. let z : way ≡ 0 = omega arith in rw (eq-eqb way 0 z) q));
    }

    pub directed_other : 2 ≤ way → DirectedIs b (ltb way 2)
    unfolding is_acl
    directed_other g = record { is = λ e. rw (le-ltb way 2 g, way_part, ne_eqb way 0 (λ z. absurd (omega arith)), ne_eqb way 1 (λ z. absurd (omega arith))) }

-- by the case that the format is
module _ (r : Record) (b : List ℕ) (s : b ≡ bytes_of r) where
  pub acl_flagged : (d : Datalink) → r.trace.format ≡ ByDatalink d → (t : Bool) → t ≡ is_acl (ByDatalink d) b → t ≡ is_acl r.trace.format (bytes_of r)
  acl_flagged d q t e = rw (q, ← s) e

  pub acl_directed : (x : Encoding) → r.trace.format ≡ ByEncoding x → (t : Bool) → DirectedIs b t → t ≡ is_acl r.trace.format (bytes_of r)
  acl_directed x q t e = rw (q, ← s) (e.is x)

-- ---- its packet

none_data : (index rx time : ℕ) (b : List ℕ) → is_none (fragment index rx time b) ≡ lacks_data b
unfolding is_none fragment lacks_data
none_data index rx time b = split_b (leb (4 + le16 b 2) (length b)) (λ e. rw e) (λ e. rw e)

none_h4 : (rx time : ℕ) (b : List ℕ) → get_or b 0 0 ≡ 2 → is_none (h4_packet rx time b) ≡ lacks_data (drop 1 b)
unfolding h4_packet
none_h4 rx time b e = rw (eq-eqb (get_or b 0 0) 2 e) (none_data 0 rx time (drop 1 b))

module _ (r : List ℕ) where
  abbrev flags : ℕ
  flags = be32 r 8

  abbrev first : ℕ
  first = get_or (drop 24 r) 0 0

  flagged_none : (d : Datalink) → is_acl (ByDatalink d) r ≡ false → is_none (packet_of (number_of d) r) ≡ true
  unfolding is_acl packet_of monitor_packet hci_packet h4_packet is_none
  flagged_none Monitor e =
      split≡ (flags % 65536) 4
      (λ q. no_way (rw (eq-eqb (flags % 65536) 4 q)) e)
      (λ q. split≡ (flags % 65536) 5
      (λ p. no_way (rw (ne_eqb (flags % 65536) 4 q, eq-eqb (flags % 65536) 5 p)) e)
      (λ p. rw (ne_eqb (flags % 65536) 4 q, ne_eqb (flags % 65536) 5 p)))
  flagged_none H4 e =
      split≡ (flags / 2 % 2) 1
      (λ q. rw (eq-eqb (flags / 2 % 2) 1 q))
      (λ q. split≡ first 2
      (λ b. no_way (rw (ne_eqb (flags / 2 % 2) 1 q, eq-eqb first 2 b)) e)
      (λ b. rw (ne_eqb (flags / 2 % 2) 1 q, ne_eqb first 2 b)))
  flagged_none Hci e =
      split≡ (flags / 2 % 2) 1
      (λ q. rw (eq-eqb (flags / 2 % 2) 1 q))
      (λ q. no_way (rw (ne_eqb (flags / 2 % 2) 1 q)) e)

  flagged_data : (d : Datalink) → is_acl (ByDatalink d) r ≡ true → is_none (packet_of (number_of d) r) ≡ lacks_data (drop (before_packet (ByDatalink d)) r)
  unfolding is_acl packet_of monitor_packet hci_packet before_packet
  flagged_data Monitor e =
      split≡ (flags % 65536) 4
      (λ q. rw (eq-eqb (flags % 65536) 4 q) (none_data (flags / 65536) 0 (milliseconds r) (drop 24 r)))
      (λ q. split≡ (flags % 65536) 5
      (λ p. rw (ne_eqb (flags % 65536) 4 q, eq-eqb (flags % 65536) 5 p) (none_data (flags / 65536) 1 (milliseconds r) (drop 24 r)))
      (λ p. no_way e (rw (ne_eqb (flags % 65536) 4 q, ne_eqb (flags % 65536) 5 p))))
  flagged_data H4 e =
      split≡ (flags / 2 % 2) 1
      (λ q. no_way e (rw (eq-eqb (flags / 2 % 2) 1 q)))
      (λ q. split≡ first 2
      (λ b.
      let w : drop 1 (drop 24 r) ≡ drop 25 r = drop-drop 1 24 r in
      rw (ne_eqb (flags / 2 % 2) 1 q, ← w) (none_h4 (flags % 2) (milliseconds r) (drop 24 r) b))
      (λ b. no_way e (rw (ne_eqb (flags / 2 % 2) 1 q, ne_eqb first 2 b))))
  flagged_data Hci e =
      split≡ (flags / 2 % 2) 1
      (λ q. no_way e (rw (eq-eqb (flags / 2 % 2) 1 q)))
      (λ q. rw (ne_eqb (flags / 2 % 2) 1 q) (none_data 0 (flags % 2) (milliseconds r) (drop 24 r)))

module _ (e : Encoding) (r : List ℕ) where
  abbrev way : ℕ
  way = be32 (drop 16 r) 0

  drop_type : drop 4 (drop 16 r) ≡ drop 20 r
  drop_type = drop-drop 4 16 r

  directed_none : is_acl (ByEncoding e) r ≡ false → is_none (pcap_packets.packet_of e.big e.nano r) ≡ true
  unfolding is_acl pcap_packets.packet_of pcap_packets.directed_packet h4_packet is_none
  directed_none q =
      split≡ way 0
      (λ z. split≡ (get_or (drop 20 r) 0 0) 2
      (λ t. no_way (rw (eq-eqb way 0 z, eq-eqb (get_or (drop 20 r) 0 0) 2 t)) q)
      (λ t. rw (eq-eqb way 0 z, drop_type, ne_eqb (get_or (drop 20 r) 0 0) 2 t)))
      (λ z. split≡ way 1
      (λ y. split≡ (get_or (drop 20 r) 0 0) 2
      (λ t. no_way (rw (ne_eqb way 0 z, eq-eqb way 1 y, eq-eqb (get_or (drop 20 r) 0 0) 2 t)) q)
      (λ t. rw (ne_eqb way 0 z, eq-eqb way 1 y, drop_type, ne_eqb (get_or (drop 20 r) 0 0) 2 t)))
      (λ y. rw (ne_eqb way 0 z, ne_eqb way 1 y)))

  directed_data : is_acl (ByEncoding e) r ≡ true → is_none (pcap_packets.packet_of e.big e.nano r) ≡ lacks_data (drop 21 r)
  unfolding is_acl pcap_packets.packet_of pcap_packets.directed_packet
  directed_data q =
      let w : drop 1 (drop 20 r) ≡ drop 21 r = drop-drop 1 20 r in
      split≡ (get_or (drop 20 r) 0 0) 2
      (λ t. split≡ way 0
      (λ z. rw (eq-eqb way 0 z, drop_type, ← w) (none_h4 0 (pcap_packets.milliseconds e.big e.nano r) (drop 20 r) t))
      (λ z. split≡ way 1
      (λ y. rw (ne_eqb way 0 z, eq-eqb way 1 y, drop_type, ← w) (none_h4 1 (pcap_packets.milliseconds e.big e.nano r) (drop 20 r) t))
      (λ y. no_way q (rw (ne_eqb way 0 z, ne_eqb way 1 y)))))
      (λ t. no_way q (rw (ne_eqb (get_or (drop 20 r) 0 0) 2 t) (and_false (eqb way 0 || eqb way 1))))

pub acl_none : (g : Format) (r : List ℕ) → is_acl g r ≡ false → is_none (packet_by g r) ≡ true
unfolding packet_by
acl_none (ByDatalink d) r q = flagged_none r d q
acl_none (ByEncoding e) r q = directed_none e r q

pub acl_data : (g : Format) (r : List ℕ) → is_acl g r ≡ true → is_none (packet_by g r) ≡ lacks_data (drop (before_packet g) r)
unfolding packet_by before_packet
acl_data (ByDatalink d) r q = flagged_data r d q
acl_data (ByEncoding e) r q = directed_data e r q

-- ---- what the code returns

module _ (g : Format) where
  module _ (d : Datalink) (q : g ≡ ByDatalink d) where
    pub before_hci : d ≡ Hci → 24 ≡ before_packet g
    unfolding before_packet
    before_hci e = rw (q, e)

    pub before_h4 : d ≡ H4 → 25 ≡ before_packet g
    unfolding before_packet
    before_h4 e = rw (q, e)

    pub before_monitor : d ≡ Monitor → 24 ≡ before_packet g
    unfolding before_packet
    before_monitor e = rw (q, e)

  pub before_directed : (x : Encoding) → g ≡ ByEncoding x → 21 ≡ before_packet g
  unfolding before_packet
  before_directed x q = rw q

module _ (b : List ℕ) (x : Option ℕ) (h : x ≡ field_of b 2) where
  -- the field is not there, so neither is all of the packet
  pub data_short : x ≡ None → true ≡ lacks_data b
  unfolding field_of lacks_data
  data_short e = split≤ (2 + 2) (length b)
      (λ l. let z : Some (le16 b 2) ≡ None = sym (rw (le-leb (2 + 2) (length b) l) at h) ∙ e in absurd (not_there cc))
      (λ l. rw (lt-leb (4 + le16 b 2) (length b) (omega arith)))

  pub data_there : (n : ℕ) → x ≡ Some n → (m : ℕ) → m ≡ n → ltb (length b) (4 + m) ≡ lacks_data b
  unfolding field_of lacks_data
  data_there n e m em = split≤ (2 + 2) (length b)
      (λ l. let z : Some (le16 b 2) ≡ Some n = sym (rw (le-leb (2 + 2) (length b) l) at h) ∙ e in let q : le16 b 2 ≡ n = cc in rw (em, ← q) (not_ltb (4 + le16 b 2) (length b)))
      (λ l. let z : None ≡ Some n = sym (rw (lt-leb (2 + 2) (length b) l) at h) ∙ e in absurd (not_there cc))

-- a record of ACL data has the bytes before the packet
acl_long : (g : Format) (r : List ℕ) → record_head g ≤ length r → is_acl g r ≡ true → before_packet g ≤ length r
unfolding record_head is_acl before_packet
acl_long (ByDatalink Hci) r h t = h
acl_long (ByDatalink Monitor) r h t = h
acl_long (ByDatalink H4) r h t = split≤ 25 (length r)
    (λ l. l)
    (λ l.
    let k : length r ≤ 24 = omega arith in
    let n : drop 24 r ≡ [] = drop_of_length-le r k in
    no_way t (split≡ (be32 r 8 / 2 % 2) 1
    (λ x. rw (eq-eqb (be32 r 8 / 2 % 2) 1 x))
    (λ x. rw (ne_eqb (be32 r 8 / 2 % 2) 1 x, n))))
acl_long (ByEncoding x) r h t = split≤ 21 (length r)
    (λ l. l)
    (λ l.
    let k : length r ≤ 20 = omega arith in
    let n : drop 20 r ≡ [] = drop_of_length-le r k in
    let z : eqb (get_or (drop 20 r) 0 0) 2 ≡ false = rw n in
    no_way t (rw z (and_false (eqb (be32 (drop 16 r) 0) 0 || eqb (be32 (drop 16 r) 0) 1))))

module _ (r : Record) (a : Bool) (h : a ≡ is_acl r.trace.format (bytes_of r)) where
  module _ (e : a ≡ true) (n : ℕ) (q : n ≡ before_packet r.trace.format) (b : List ℕ) (s : b ≡ bytes_of r) where
    pub packet_lies : n ≤ length b
    packet_lies = rw (q, s) (acl_long r.trace.format (bytes_of r) (bytes_least r) (sym h ∙ e))

    pub packet_lacks : (t : Bool) → t ≡ lacks_data (rest b n) → t ≡ is_none (packet_by r.trace.format (bytes_of r))
    packet_lacks t et =
        let z : rest b n ≡ drop n b = take_rest b n in
        et ∙ sym (acl_data r.trace.format (bytes_of r) (sym h ∙ e) ∙ rw (z, s, q))

  pub packet_none : a ≡ false → not a ≡ is_none (packet_by r.trace.format (bytes_of r))
  packet_none e = rw e (sym (acl_none r.trace.format (bytes_of r) (sym h ∙ e)))
