-- The table of packets, one packet more, and the loop over the records.
use Rattle.std.specs.Prelude.{Option, Some, None}
use Rattle.std.specs.Int.{from_bool}
use Prim.Native.Nat.{ℕ, suc, ◌+◌, ◌-◌, ◌*◌, ◌/◌, ◌<◌, ◌≤◌}
use mathlib.Core.Path.{◌≡◌, refl, sym, ap, ◌∙◌}
use mathlib.Core.Bool.{Bool, true, false, cond}
use mathlib.Core.List.{List, [], ◌∷◌, ◌++◌, append_assoc, append-nil}
use mathlib.Core.Option.{Option as Maybe, none, some}
use native.Mathlib.Omega.{arith}
use native.Mathlib.Numerals.{add-one}
use lib.ListN.{length, get_or, take, drop, length-drop}
use lib.Seq.{length-take-le}
use borrow.Author.Tests.{le-leb, lt-leb, eqb-true}
use lib.Dec.{eqb}
use Rattle.laws.proofs.Choice.{split≤, split_b}
use Rattle.laws.specs.Keyed.{keep}
use Rattle.laws.proofs.Keyed.{keep_append}
use Rattle.words.specs.Words.{word, put_word, long, put_long}
use Rattle.words.specs.Front.{Front}
use Rattle.words.proofs.Front.{front_word}
use Rattle.words.specs.Rows.{put_words}
use Rattle.words.proofs.Rows.{length_puts, front_puts, word_puts, long_puts}
use Rattle.container.specs.Container.{is_whole}
use Rattle.container.specs.Packets.{Packet, or_none, packets, of_link}
use Rattle.acl.specs.Reading.{Held, StandsIn, between, bytes_in, end_of, packet_from, shown}
use Rattle.acl.specs.declared.excerpt.Excerpt.{Excerpt}
use Rattle.acl.specs.declared.Fragment.{Fragment}
use Rattle.btsnoop.specs.Reading as btsnoop_reading
use Rattle.btsnoop.specs.Packets as btsnoop_packets
use Rattle.btsnoop.specs.declared.Datalink.{Datalink}
use Rattle.pcap.specs.Reading as pcap_reading
use Rattle.pcap.specs.Packets as pcap_packets
use Rattle.pcap.specs.declared.Encoding.{Encoding}
use Rattle.trace.specs.Formats.{record_head, size_by, time_by, packet_by, packets_by, records_from}
use Rattle.trace.proofs.Formats.{head_least, head_most, file_head_least, size_least, packet_room, packet_none, time_part}
use Rattle.trace.specs.Walk.{RecordAt, is_empty}
use Rattle.trace.specs.Reader.{Moves, Starts}
use Rattle.trace.specs.Finding.{bytes_of, FoundHere, Reads}
use Rattle.trace.proofs.Finding.{bytes_length, reads_same, found_here, found_told, found_end, found_none, none_end}
use Rattle.trace.proofs.Walk.{flat_step}
use Rattle.trace.proofs.ReaderLaws.{empty_told}
use Rattle.trace.specs.declared.Format.{Format}
use Rattle.trace.specs.declared.Format.TheVariants.{Btsnoop as ByDatalink, Pcap as ByEncoding}
use Rattle.trace.specs.declared.Trace.{Trace}
use Rattle.trace.specs.declared.record.Record.{Record}
use Rattle.trace.specs.declared.reader.Reader.{Reader}
use Rattle.packets.specs.declared.Empty.{Empty}
use Rattle.packets.specs.PacketTable.{packet_at, packets_from, data_of}
use Rattle.packets.proofs.PacketFrames.{packets_front, packets_snoc, data_front}
use Rattle.packets.specs.Adding.{RecordIs, Which, is_asked, asked, AddPre, Added, Passed, ReadPre, ReadTo, Walking, put_packet, row_of}

-- ---- the packet and the time of a record, by the case that the format is

module _ (r : Record) where
  -- its bytes as an excerpt of the file
  bytes_end : r.at + length (bytes_of r) ≡ r.end
  bytes_end = omega (arith, bytes_length r, r.whole.least)

  module _ (x : Excerpt) (e : bytes_in x ≡ bytes_of r) (p : x.place ≡ r.at) where
    stands : StandsIn r.trace.file.now x
    stands = record { same = rw (e, p, bytes_length r) }

    held_in : (y : Option Fragment) → Held (end_of x) y → Held r.end y
    held_in y h = let z : end_of x ≡ r.end = rw (e, p) bytes_end in rw z at h

    module _ (d : Datalink) (q : r.trace.format ≡ ByDatalink d) where
      pub btsnoop_packet : (y : Option Fragment) → btsnoop_reading.RecordIs x d y → RecordIs r y
      unfolding packet_by time_by
      btsnoop_packet y m = record { shows = rw (q, ← e) (m.shows r.trace.file.now stands); held = held_in y m.held }

    module _ (c : Encoding) (q : r.trace.format ≡ ByEncoding c) where
      pub pcap_packet : (y : Option Fragment) → pcap_reading.RecordIs x y → RecordIs r y
      unfolding packet_by time_by pcap_packets.packet_of
      pcap_packet y m = record { shows = rw (q, ← e) (m.shows r.trace.file.now stands (pcap_packets.milliseconds c.big c.nano (bytes_in x))); held = held_in y m.held }

  module _ (d : Datalink) (q : r.trace.format ≡ ByDatalink d) where
    pub btsnoop_room : r.at + 24 ≤ length r.trace.file.now
    unfolding record_head
    btsnoop_room = let h : r.at + 24 ≤ r.end = rw q at r.whole.least in omega (arith, r.whole.most)

    pub btsnoop_time : (t : ℕ) → t ≡ btsnoop_packets.milliseconds (drop r.at r.trace.file.now) → t ≡ time_by r.trace.format (drop r.at r.trace.file.now)
    unfolding time_by
    btsnoop_time t e = rw q e

  module _ (e : Encoding) (q : r.trace.format ≡ ByEncoding e) where
    pub pcap_room : r.at + 8 ≤ length r.trace.file.now
    unfolding record_head
    pcap_room = let h : r.at + 16 ≤ r.end = rw q at r.whole.least in omega (arith, r.whole.most)

    pub pcap_time : (t : ℕ) → t ≡ pcap_packets.milliseconds e.big e.nano (drop r.at r.trace.file.now) → t ≡ time_by r.trace.format (drop r.at r.trace.file.now)
    unfolding time_by
    pcap_time t n = rw q n

-- ---- a row

bool_word : (b : Bool) → from_bool b ≡ cond b 1 0
bool_word true = refl
bool_word false = refl

start_back : (b : Bool) → eqb (cond b 1 0) 1 ≡ b
start_back true = refl
start_back false = refl

put_is : (w : List ℕ) (at : ℕ) (x : Fragment) (t : ℕ) → put_long (put_word (put_word (put_word (put_word w at x.key) (at + 1) (cond x.start 1 0)) (at + 2) x.place) (at + 3) x.len) (at + 4) t ≡ put_words w at (row_of x t)
unfolding put_words row_of put_long
put_is w at x t =
    let a : at + 1 ≡ suc at = omega arith in
    let b : at + 2 ≡ suc (suc at) = omega arith in
    let c : at + 3 ≡ suc (suc (suc at)) = omega arith in
    let d : at + 4 ≡ suc (suc (suc (suc at))) = omega arith in
    let e : at + 4 + 1 ≡ suc (suc (suc (suc (suc at)))) = omega arith in
    rw (e, a, b, c, d)

pub put_all : (w : List ℕ) (i : ℕ) (x : Fragment) (t : ℕ) (a b c d u : List ℕ) (s : ℕ) → a ≡ put_word w (6 * i) x.key → s ≡ from_bool x.start → b ≡ put_word a (6 * i + 1) s → c ≡ put_word b (6 * i + 2) x.place → d ≡ put_word c (6 * i + 3) x.len → u ≡ put_long d (6 * i + 4) t → u ≡ put_packet w i x t
unfolding put_packet
put_all w i x t a b c d u y p o q r s e = e ∙ rw (s, r, q, p, o, bool_word x.start) (put_is w (6 * i) x t)

-- ---- those asked for

asked_nil : (only : Which) → asked only [] ≡ []
unfolding asked of_link keep
asked_nil None = refl
asked_nil (Some l) = refl

asked_one : (only : Which) (p : Packet) → asked only (p ∷ []) ≡ cond (is_asked only p.link) (p ∷ []) []
unfolding asked is_asked of_link keep
asked_one None p = refl
asked_one (Some l) p = refl

asked_append : (only : Which) (ps qs : List Packet) → asked only (ps ++ qs) ≡ asked only ps ++ asked only qs
unfolding asked of_link
asked_append None ps qs = refl
asked_append (Some l) ps qs = keep_append (λ (a : Packet). eqb a.link l) ps qs

-- ---- one packet more

module _ (r : Record) (w : List ℕ) (only : Which) (count : ℕ) (pre : AddPre r w count) (x : Option Fragment) (is : RecordIs r x) where
  abbrev g : Format
  g = r.trace.format

  abbrev f : List ℕ
  f = r.trace.file.now

  -- nothing is added
  add_nothing : asked only (or_none (packet_by g (bytes_of r)) []) ≡ [] → Added r w only count w count
  add_nothing q = record {
    list = rw (q, append-nil);
    fits = pre.fits;
    total = omega arith;
    more = omega arith;
    size = refl;
  }

  pub add_none : x ≡ None → Added r w only count w count
  unfolding shown
  add_none e = let q : packet_by g (bytes_of r) ≡ none = is.shows ∙ rw e in add_nothing (rw q (asked_nil only))

  module _ (y : Fragment) (e : x ≡ Some y) where
    held : y.place + y.len ≤ r.end
    held = rw e at is.held

    shows_it : packet_by g (bytes_of r) ≡ some (packet_from f (time_by g (drop r.at f)) y)
    unfolding shown
    shows_it = is.shows ∙ rw (e, time_part g f r.at r.end r.whole.least r.whole.most)

    -- the packet alone, if it is asked for
    alone : asked only (or_none (packet_by g (bytes_of r)) []) ≡ cond (is_asked only (y.key / 2)) (packet_from f (time_by g (drop r.at f)) y ∷ []) []
    unfolding packet_from
    alone = rw shows_it (asked_one only (packet_from f (time_by g (drop r.at f)) y))

    pub add_unasked : (b : Bool) → b ≡ is_asked only (y.key / 2) → b ≡ false → Added r w only count w count
    add_unasked b eb q = let k : is_asked only (y.key / 2) ≡ false = sym eb ∙ q in add_nothing (alone ∙ rw k)

  module _ (y : Fragment) (e : x ≡ Some y) (b : Bool) (eb : b ≡ is_asked only (y.key / 2)) (q : b ≡ true) (ms : ℕ) (em : ms ≡ time_by g (drop r.at f)) (u : List ℕ) (eu : u ≡ put_packet w count y ms) where
    front : Front (24 * count) u w
    unfolding put_packet
    front = rw eu (front_puts (24 * count) (row_of y ms) w (6 * count) (omega arith))

    row : (j : ℕ) → j < 6 → word u (6 * count + j) ≡ get_or (row_of y ms) j 0
    unfolding put_packet row_of
    row j h = rw eu (word_puts (row_of y ms) w (6 * count) j (omega (arith, pre.room)) h)

    packet_is : packet_at f u count ≡ packet_from f ms y
    unfolding packet_at packet_from row_of put_packet
    packet_is =
        let a : word u (6 * count) ≡ y.key = (let z : 6 * count + 0 ≡ 6 * count = omega arith in rw z at (row 0 (omega arith))) in
        let t : long u (6 * count + 4) ≡ ms = rw eu (long_puts (row_of y ms) w (6 * count) 4 ms (omega (arith, pre.room)) (omega arith) refl refl) in
        rw (a, row 1 (omega arith), row 2 (omega arith), row 3 (omega arith), t, start_back y.start)

    -- a record has 25 bytes besides the packet's
    spent : 25 + y.len ≤ r.end - r.at
    unfolding packet_from
    spent =
        let l : length (take y.len (drop y.place f)) ≡ y.len = length-take-le y.len (drop y.place f) (simp length-drop (omega (arith, held y e, r.whole.most))) in
        let k : 25 + length (take y.len (drop y.place f)) ≤ length (bytes_of r) = packet_room g (bytes_of r) (packet_from f (time_by g (drop r.at f)) y) (shows_it y e) in
        omega (arith, bytes_length r)

    pub add_one_packet : Added r w only count u (count + 1)
    unfolding data_of row_of put_packet
    add_one_packet =
        let k : is_asked only (y.key / 2) ≡ true = sym eb ∙ q in
        let z : 0 + count ≡ count = omega arith in
        let d : data_of u (suc count) ≡ data_of w count + y.len = rw (data_front (24 * count) u w count (omega arith) front, row 3 (omega arith)) in
        record {
          list = rw (add-one, packets_snoc f u 0 count, z, packets_front (24 * count) f u w 0 count (omega arith) front, packet_is, alone y e, k, em);
          fits = record {
            fits = λ i h. split≤ (suc i) count
                (λ l. rw (front_word (24 * count) u w (6 * i + 2) (omega arith) front, front_word (24 * count) u w (6 * i + 3) (omega arith) front) (pre.fits.fits i l))
                (λ l. let v : i ≡ count = omega arith in rw (v, row 2 (omega arith), row 3 (omega arith)) (omega (arith, held y e, r.whole.most)));
          };
          total = rw add-one (omega (arith, d, spent));
          more = omega arith;
          size = rw eu (length_puts (row_of y ms) w (6 * count));
        }

pub walk_start : (t : Trace) (only : Which) (w : List ℕ) → ReadPre t.format t.file.now w → (q : Reader) → Starts t q → Walking t only w w q 0 0
unfolding packets_from data_of
walk_start t only w p q s = record {
  trace = s.trace;
  least = omega (arith, file_head_least t.format, s.at);
  within = rw s.at p.some;
  size = refl;
  fits = record { fits = λ i h. absurd (omega arith) };
  total = omega (arith, file_head_least t.format, s.at);
  same = rw s.at;
  number = rw s.at (omega arith);
  tail = rw s.at;
}

or_none_append : (o : Maybe Packet) (xs : List Packet) → or_none o [] ++ xs ≡ or_none o xs
or_none_append none xs = refl
or_none_append (some p) xs = refl

asked_next : (only : Which) (o : Maybe Packet) (xs : List Packet) → asked only (or_none o []) ++ asked only xs ≡ asked only (or_none o xs)
asked_next only o xs = sym (asked_append only (or_none o []) xs) ∙ ap (λ (l : List Packet). asked only l) (or_none_append o xs)

-- ---- records without a packet

module _ (g : Format) (f : List ℕ) (at : ℕ) (h : at ≤ length f) (head : ℕ) (e : head ≡ record_head g) where
  pub empty_short : length f - at < head → false ≡ is_empty g (drop at f)
  unfolding is_empty is_whole
  empty_short s = split_b (eqb (size_by g (drop at f)) (record_head g))
      (λ q. rw (q, lt-leb (size_by g (drop at f)) (length (drop at f)) (simp length-drop (omega (arith, size_least g (drop at f))))))
      (λ q. rw q)

  pub empty_room : head ≤ length f - at → at + 16 ≤ length f
  empty_room s = omega (arith, head_least g)

  pub empty_is : (n : ℕ) → n ≡ size_by g (drop at f) → head ≤ length f - at → eqb n head ≡ is_empty g (drop at f)
  unfolding is_empty is_whole
  empty_is n m s = rw (← m, ← e) (split_b (eqb n head)
      (λ q. let z : n ≡ head = eqb-true n head q in rw (q, le-leb n (length (drop at f)) (simp length-drop (omega arith))))
      (λ q. rw q))

-- a record of the head alone
pass_one : (g : Format) (f : List ℕ) (at e : ℕ) → RecordAt g f at e → e ≡ at + record_head g → Passed g f at (record { end = e; count = 1 })
unfolding packets
pass_one g f at e r h =
    let l : length (between f at e) ≡ e - at = length-take-le (e - at) (drop at f) (simp length-drop (omega (arith, r.most))) in
    record {
      least = omega (arith, r.least, head_least g);
      most = r.most;
      list = rw (r.list, packet_none g (between f at e) (omega (arith, head_most g)));
      records = omega (arith, ap length r.list);
      tail = flat_step g f at e r;
    }

pass_then : (g : Format) (f : List ℕ) (at : ℕ) (x y : Empty) → Passed g f at x → Passed g f x.end y → Passed g f at (record { end = y.end; count = x.count + y.count })
pass_then g f at x y a b = record {
  least = omega (arith, a.least, b.least);
  most = b.most;
  list = a.list ∙ b.list;
  records = omega (arith, a.records, b.records);
  tail = a.tail ∙ b.tail;
}

module _ (g : Format) (f : List ℕ) (head : ℕ) (eh : head ≡ record_head g) (at i n : ℕ) (a : Passed g f at (record { end = i; count = n })) (t : Bool) (e : t ≡ is_empty g (drop i f)) (q : t ≡ true) where
  here_empty : RecordAt g f i (i + head)
  here_empty = rw eh (empty_told g f i (sym e ∙ q))

  pub pass_turn : Passed g f at (record { end = i + head; count = n + 1 })
  pass_turn = pass_then g f at (record { end = i; count = n }) (record { end = i + head; count = 1 }) a (pass_one g f i (i + head) here_empty (rw eh))

  pub pass_less : length f - (i + head) < length f - i
  pass_less = omega (arith, here_empty.most, head_least g)

-- ---- all records

module _ (t : Trace) (only : Which) (w₀ : List ℕ) (p : ReadPre t.format t.file.now w₀) (w : List ℕ) (q : Reader) (count whole : ℕ) (v : Walking t only w₀ w q count whole) where
  abbrev by : Format
  by = t.format

  abbrev file : List ℕ
  file = t.file.now

  module _ (x : Option Record) (z : Reader) (n : Reads q x z) where
    module _ (r : Record) (e : x ≡ Some r) where
      found : FoundHere t q.at r
      found = found_here t q v.trace x z n r e

      here : RecordAt by file q.at r.end
      here = found_told t q v.trace x z n r e

      to_end : z.at ≡ r.end
      to_end = found_end t q v.trace x z n r e

      pub walk_turn : (u : List ℕ) (c : ℕ) → Added r w only count u c → Walking t only w₀ u z c (whole + 1)
      unfolding packets
      walk_turn u c a =
          let l : packets_from file u 0 c ≡ packets_from file w 0 count ++ asked only (or_none (packet_by by (between file q.at r.end)) []) = rw (found.same, found.starts) at a.list in
          record {
            trace = reads_same t q v.trace x z n;
            least = omega (arith, v.least, here.least, head_least by, to_end);
            within = rw to_end here.most;
            size = a.size ∙ v.size;
            fits = rw found.same at a.fits;
            total = omega (arith, a.total, v.total, here.least, found.starts, to_end);
            same = rw (
              to_end,
              l,
              append_assoc,
              asked_next only (packet_by by (between file q.at r.end)) (packets (packet_by by) (records_from by file r.end)),
            ) (rw here.list at v.same);
            number = rw to_end (omega (arith, v.number, ap length here.list));
            tail = rw to_end (sym (flat_step by file q.at r.end here) ∙ v.tail);
          }

      module _ (head : ℕ) (eh : head ≡ record_head by) (h : r.end ≡ r.at + head) (y : Empty) (b : Passed by file r.end y) (k : Reader) (m : Moves z y.end k) where
        passed : Passed by file q.at (record { end = y.end; count = 1 + y.count })
        passed = pass_then by file q.at (record { end = r.end; count = 1 }) y (pass_one by file q.at r.end here (h ∙ rw (eh, found.starts))) b

        pub walk_pass : Walking t only w₀ w k count (whole + 1 + y.count)
        walk_pass = record {
          trace = m.trace ∙ reads_same t q v.trace x z n;
          least = omega (arith, v.least, passed.least, m.at);
          within = rw m.at passed.most;
          size = v.size;
          fits = v.fits;
          total = omega (arith, v.total, passed.least, m.at);
          same = rw m.at (rw passed.list at v.same);
          number = rw m.at (omega (arith, v.number, passed.records));
          tail = rw m.at (sym passed.tail ∙ v.tail);
        }

    pub ended : x ≡ None → ReadTo by file only w (record { count = count; records = whole; tail = z.at })
    unfolding packets
    ended m =
        let s : records_from by file q.at ≡ [] = found_none t q v.trace x z n m in
        let o : z.at ≡ q.at = none_end t q v.trace x z n m in
        let k : packets_from file w 0 count ++ asked only [] ≡ asked only (packets_by by file) = rw s at v.same in
        record {
          tabled = record { fits = v.fits; total = omega (arith, v.total, v.within); small = p.small; room = rw v.size p.room };
          list = sym (append-nil (packets_from file w 0 count)) ∙ (rw (asked_nil only) at k);
          records = omega (arith, v.number, ap length s);
          tail = rw o ((let z : q.at + 0 ≡ q.at = omega arith in sym z) ∙ (rw s at v.tail));
        }
