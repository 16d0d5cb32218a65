-- The run over all packets.
use Rattle.std.specs.Prelude.{None}
use mathlib.Core.Path.{◌≡◌, refl, sym, ap, ◌∙◌, fun_ext}
use mathlib.Core.List.{List, ◌++◌, append_assoc, append-nil}
use mathlib.Core.Option.{Option, none}
use Prim.Native.Nat.{ℕ, ◌+◌, ◌-◌, ◌*◌, ◌/◌, ◌<◌, ◌≤◌}
use native.Mathlib.Omega.{arith}
use lib.ListN.{length}
use lib.Dec.{eqb}
use borrow.Author.Tests.{eq-eqb, ne_eqb}
use Rattle.laws.proofs.Choice.{split≡}
use Rattle.laws.specs.Lists.{All}
use Rattle.laws.specs.Keys.{eq_k}
use Rattle.words.specs.Words.{word}
use Rattle.words.specs.Front.{Front}
use Rattle.words.proofs.Front.{front_refl, front_then}
use Rattle.table.specs.Table.{lookup}
use Rattle.container.specs.Packets.{Packet}
use Rattle.packets.specs.PacketTable.{packet_at, packets_from, data_of, Tabled}
use Rattle.packets.proofs.PacketFrames.{packets_next, packets_none, data_mono, two_ways, packet_front, packets_front, tabled_front}
use Rattle.fragments.specs.Bytes.{number_of}
use Rattle.l2cap.specs.Pdus.{Pdu, packet_key, reassembly, pdus}
use Rattle.l2cap.specs.PduTable.{pdus_from, pays_of, Reassembled}
use Rattle.l2cap.proofs.PduFrames.{inside_top}
use Rattle.l2cap.specs.Rekeyed.{run_by}
use Rattle.l2cap.proofs.Rekeyed.{run_by_law, rekey}
use Rattle.fragments.specs.Links.{Linked, Seats, Blank, LinkRoom, LinkedTo}
use Rattle.l2cap.specs.Steps.{open_at, open_in, row_at, RowPre, held_of, map_of, Ready, Step, Stepped, Run, Ran, stays, steps}
use Rattle.l2cap.specs.declared.Tables.{Tables}
use Rattle.l2cap.proofs.Opens.{never, as_blank}
use Rattle.l2cap.proofs.Stepping.{seat_row, seat_room, seat_open}
use Rattle.l2cap.proofs.Ranges.{range_low, range_step, range_turn}

-- ---- link and direction as one number

pub same_key : (x y : Packet) → x.rx ≤ 1 → y.rx ≤ 1 → eq_k (packet_key x) (packet_key y) ≡ eqb (number_of x) (number_of y)
unfolding eq_k
same_key x y p q =
    split≡ x.link y.link
    (λ a. split≡ x.rx y.rx
    (λ b. rw (eq-eqb x.link y.link a, eq-eqb x.rx y.rx b, eq-eqb (number_of x) (number_of y) (omega arith)))
    (λ b. rw (eq-eqb x.link y.link a, ne_eqb x.rx y.rx b, ne_eqb (number_of x) (number_of y) (λ z. b (omega arith)))))
    (λ a. rw (ne_eqb x.link y.link a, ne_eqb (number_of x) (number_of y) (λ z. a (omega arith))))

-- the machines of all numbers, run over packets
abbrev run_numbered : (ℕ → Option (List ℕ)) → List Packet → List Pdu
run_numbered m ps = run_by reassembly.next reassembly.out eqb number_of m ps

pub pdus_numbered : (ps : List Packet) → All (λ (p : Packet). p.rx ≤ 1) ps → pdus ps ≡ run_numbered (λ k. none) ps
unfolding pdus
pdus_numbered ps all =
    run_by_law reassembly (λ k. none) ps
    ∙ rekey reassembly.next reassembly.out eq_k eqb packet_key number_of (λ (p : Packet). p.rx ≤ 1) same_key (λ k. none) (λ k. none) (λ x p. refl) ps all

-- ---- i packets are read, and the others are still to come

-- what every loop of steps keeps, whatever it takes from them
pub record Going (f w₀ : List ℕ) (q count : ℕ) (w : List ℕ) (t : Tables) (i : ℕ) : Type 0 where
  pub run : Run f w q t i count
  pub size : length w ≡ length w₀
  pub front : Front (4 * q) w w₀

-- and the PDUs
pub record Running (f w₀ : List ℕ) (q count : ℕ) (w : List ℕ) (t : Tables) (i : ℕ) : Type 0 where
  pub going : Going f w₀ q count w t i
  pub same : pdus_from f w (2 * q) 0 t.made ++ run_numbered (map_of f w (3 * q) t.live i) (packets_from f w₀ i (count - i)) ≡ pdus (packets_from f w₀ 0 count)

-- before the first: a table of packets, linked, and n rows with their keys where nothing is open
pub record Fresh (f w : List ℕ) (q n count : ℕ) : Type 0 where
  pub tabled : Tabled f w count
  pub quarter : q ≡ length f / 4
  pub linked : Linked w q count
  pub seats : Seats w q n count
  pub few : n ≤ count
  pub blank : Blank w (3 * q) n

module _ (f w₀ : List ℕ) (q n count : ℕ) (pre : Fresh f w₀ q n count) where
  pub run_closed : (k : ℕ) → open_at w₀ (3 * q) n k ≡ None
  unfolding open_at
  run_closed k = as_blank (lookup w₀ (3 * q) n k) (pre.blank.says k)

  nothing : ◌≡◌ {A = ℕ → Option (List ℕ)} (map_of f w₀ (3 * q) n 0) (λ k. none)
  unfolding map_of held_of
  nothing = fun_ext (λ k. ap (held_of f w₀ k 0) (run_closed k))

  pub fresh_run : Run f w₀ q (record { live = n; made = 0; top = 4 * q }) 0 count
  unfolding pays_of data_of
  fresh_run = record {
    within = omega arith;
    ready = record {
      quarter = pre.quarter;
      live = omega (arith, pre.few, pre.linked.most, pre.linked.low);
      made = omega arith;
      bump = omega arith;
      ends = omega arith;
      few = omega (arith, pre.blank.sum);
      sound = record { sound = λ k a g x. never (sym (run_closed k) ∙ x); own = λ k a g x. never (sym (run_closed k) ∙ x) };
      placed = λ j h. absurd (omega arith);
    };
    tabled = pre.tabled;
    linked = pre.linked;
    seats = pre.seats;
  }

  pub going_start : Going f w₀ q count w₀ (record { live = n; made = 0; top = 4 * q }) 0
  going_start = record { run = fresh_run; size = refl; front = front_refl (4 * q) w₀ }

  pub run_start : Running f w₀ q count w₀ (record { live = n; made = 0; top = 4 * q }) 0
  unfolding pdus_from
  run_start =
      let z : count - 0 ≡ count = omega arith in
      record { going = going_start; same = rw (z, nothing) (sym (pdus_numbered (packets_from f w₀ 0 count) (two_ways f w₀ 0 count))) }

module _ (f w₀ : List ℕ) (q count : ℕ) (w : List ℕ) (t : Tables) (i : ℕ) where
  module _ (v : Going f w₀ q count w t i) where
    pub going_low : 24 * count ≤ 4 * q
    going_low = range_low f w q t i count v.run

    pub going_step : i < count → Step f w q t i
    going_step h = range_step f w q t i count v.run h

    -- the packet that a step reads
    pub going_packet : i < count → packet_at f w i ≡ packet_at f w₀ i
    going_packet h = packet_front (4 * q) f w w₀ i (omega (arith, going_low)) v.front

    -- the row of a packet's key, read or still to come
    module _ (j : ℕ) (h : j < count) where
      pub going_row : RowPre w q j
      going_row = seat_row f w q t.live count v.run.tabled v.run.ready.quarter v.run.ready.live v.run.seats j h

      pub going_room : 4 * row_at w q j + 16 ≤ length w
      going_room = seat_room f w q t.live count v.run.tabled v.run.ready.quarter v.run.ready.live v.run.seats j h (row_at w q j) refl

      pub going_open : open_at w (3 * q) t.live (word w (6 * j)) ≡ open_in w (row_at w q j)
      going_open = seat_open f w q t.live count v.run.tabled v.run.ready.quarter v.run.ready.live v.run.seats j h

    pub going_turn : i < count → (u : List ℕ) (r : Tables) → Stepped f w q t i u r → Going f w₀ q count u r (i + 1)
    going_turn h u r st = record {
      run = range_turn f w q t i count v.run h u r st;
      size = st.size ∙ v.size;
      front = front_then (4 * q) u w w₀ st.front v.front;
    }

  module _ (v : Running f w₀ q count w t i) where
    pub run_turn : i < count → (u : List ℕ) (r : Tables) → Stepped f w q t i u r → Running f w₀ q count u r (i + 1)
    unfolding run_by
    run_turn h u r st = record {
      going = going_turn v.going h u r st;
      same = rw (st.list, st.map, append_assoc, going_packet v.going h) (rw (packets_next f w₀ i count h) at v.same);
    }

    pub run_end : count ≤ i → Reassembled f w t.made (pdus (packets_from f w₀ 0 count))
    unfolding run_by
    run_end h =
        let tb : Tabled f w count = v.going.run.tabled in
        let rd : Ready f w q t i = v.going.run.ready in
        let dm : data_of w i ≤ data_of w count = data_mono w i count v.going.run.within in
        let full : t.top ≤ 8 * q = omega (arith, rd.ends, rd.few, tb.total, rd.quarter) in
        record {
          list = rw (← rd.quarter) (sym (append-nil (pdus_from f w (2 * q) 0 t.made)) ∙ (rw (packets_none f w₀ i count h) at v.same));
          placed = rw (← rd.quarter) (λ j l. inside_top f w (2 * q + 7 * j) t.top (8 * q) full (rd.placed j l));
          few = rw (← rd.quarter) (omega (arith, rd.few, rd.made, v.going.run.within, tb.total));
          small = tb.small;
          room = tb.room;
        }

-- the steps up to packet j
ran_on :
    (f w₀ : List ℕ) (q count : ℕ) (w : List ℕ) (t : Tables) (a : ℕ) → Running f w₀ q count w t a →
    {u : List ℕ} {r : Tables} {j : ℕ} → Ran f q w t a u r j → j ≤ count → Running f w₀ q count u r j
ran_on f w₀ q count w t a go stays h = go
ran_on f w₀ q count w t a go (steps {v} {s} {i} {u} {r} ran st) h = run_turn f w₀ q count v s i (ran_on f w₀ q count w t a go ran (omega arith)) (omega arith) u r st

-- ---- before the first packet

module _ (f w : List ℕ) (count : ℕ) (pre : Tabled f w count) (q : ℕ) (e : q ≡ length f / 4) where
  pub link_room : LinkRoom w q count
  link_room = record { some = omega (arith, pre.total); low = omega (arith, pre.total); small = omega (arith, pre.small); room = omega (arith, pre.room) }

  module _ (v : List ℕ) (c : ℕ) (l : LinkedTo w q count v c) where
    low₀ : 24 * count ≤ 4 * (3 * q)
    low₀ = omega (arith, pre.total)

    pub link_fresh : Fresh f v q c count
    link_fresh = record {
      tabled = tabled_front (4 * (3 * q)) f v w count low₀ l.front l.size pre;
      quarter = e;
      linked = l.linked;
      seats = l.seats;
      few = l.few;
      blank = l.blank;
    }

    pub link_run : Run f v q (record { live = c; made = 0; top = 4 * q }) 0 count
    link_run = fresh_run f v q c count link_fresh

    -- all packets are read
    pub run_all :
        (u : List ℕ) (r : Tables) → Ran f q v (record { live = c; made = 0; top = 4 * q }) 0 u r count →
        Reassembled f u r.made (pdus (packets_from f w 0 count))
    run_all u r ran =
        rw (packets_front (4 * (3 * q)) f v w 0 count (omega (arith, low₀)) l.front) at
        (run_end f v q count u r count
        (ran_on f v q count v (record { live = c; made = 0; top = 4 * q }) 0 (run_start f v q c count link_fresh) ran (omega arith))
        (omega arith))
