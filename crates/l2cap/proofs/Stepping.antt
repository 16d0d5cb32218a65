-- A step: what the open rows stand for before and after one packet.
use Rattle.std.specs.Prelude.{Option as Maybe, Some, None}
use mathlib.Core.Path.{◌≡◌, refl, sym, ap, ◌∙◌, fun_ext}
use mathlib.Core.Bool.{Bool, true, false, cond}
use mathlib.Core.Logic.{◌⊎◌, inl, inr}
use mathlib.Core.List.{List, ◌++◌, append-nil}
use mathlib.Core.Option.{Option, none, some}
use Prim.Native.Nat.{ℕ, ◌+◌, ◌-◌, ◌*◌, ◌/◌, ◌<◌, ◌≤◌}
use native.Mathlib.Omega.{arith}
use lib.ListN.{length, length-append}
use lib.Dec.{eqb, leb}
use borrow.Author.Tests.{eq-eqb, ne_eqb, le-leb, lt-leb}
use Rattle.laws.proofs.Choice.{split≡}
use Rattle.laws.specs.Numbers.{le16}
use Rattle.words.specs.Words.{word, long}
use Rattle.words.specs.Front.{Front}
use Rattle.words.proofs.Front.{front_then, front_word, front_less, front_refl}
use Rattle.table.specs.Table.{some as row, find_in, lookup, upd, second, sum_of, Stored, Agree}
use Rattle.table.proofs.Table.{find_below, lookup_found, lookup_agree, long_agree, sum_agree, second_le}
use Rattle.tree.proofs.Index.{find_agree}
use Rattle.packets.specs.PacketTable.{packet_at, data_of, Tabled}
use Rattle.packets.proofs.PacketFrames.{data_next, data_front}
use Rattle.fragments.specs.Links.{Seats}
use Rattle.fragments.specs.Bytes.{since, begun, InWork}
use Rattle.fragments.proofs.Walking.{number_at, bytes_length, piece_own, piece_other, since_one, since_snoc, since_front}
use Rattle.l2cap.specs.Pdus.{joined, is_complete, still_open, completed}
use Rattle.l2cap.specs.PduTable.{pdus_from, pays_of}
use Rattle.l2cap.specs.PduFrames.{Placed}
use Rattle.l2cap.proofs.PduFrames.{placed_agree, pdus_agree, pays_agree}
use Rattle.l2cap.specs.Rekeyed.{put_by}
use Rattle.l2cap.specs.Steps.{open_from, Need, row_at, RowPre, as_open, open_at, open_in, longer, grown, next_at, next_by, Arrive, first_word, got_word, SetOpen, put_open, Finish, Finished, held_of, map_of, Sound, Step, after, Stepped}
use Rattle.l2cap.specs.declared.Open.{Open}
use Rattle.l2cap.specs.declared.Tables.{Tables}
use Rattle.l2cap.proofs.Opens.{never, same_open, as_zero, as_pos, open_row, set_other, set_stored, set_finds, arrive_got, arrive_none}

-- ---- what is open once a packet is read

packet_start :
    (f w : List ℕ) (i : ℕ) →
    packet_at f w i ≡ record { link = (packet_at f w i).link; rx = (packet_at f w i).rx; start = eqb (word w (6 * i + 1)) 1; time = (packet_at f w i).time; bytes = (packet_at f w i).bytes }
unfolding packet_at
packet_start f w i = refl

-- what is open began before
sound_le : (f w : List ℕ) (b live i : ℕ) → Sound f w b live i → (k a g : ℕ) → open_at w b live k ≡ open_from a g → (a ≤ i) × (g ≡ length (since f w k a i))
sound_le f w b live i s k a g e = (omega (arith, (s.sound k a g e).0), (s.sound k a g e).1)

module _ (f w : List ℕ) (b live i : ℕ) (s : Sound f w b live i) where
  held_first : some (since f w (word w (6 * i)) i (i + 1)) ≡ some (packet_at f w i).bytes
  held_first = ap some (since_one f w (word w (6 * i)) i ∙ piece_own f w (word w (6 * i)) i refl)

  held_more : (a : ℕ) → a ≤ i → some (since f w (word w (6 * i)) a (i + 1)) ≡ some (since f w (word w (6 * i)) a i ++ (packet_at f w i).bytes)
  held_more a h = ap some (since_snoc f w (word w (6 * i)) a i h ∙ rw (piece_own f w (word w (6 * i)) i refl))

  -- it is what the machine has at hand
  held_open : (o : Maybe Open) → ((a g : ℕ) → o ≡ open_from a g → a ≤ i) → (t : Bool) →
      held_of f w (word w (6 * i)) (i + 1) (cond t (open_from i (word w (6 * i + 3))) (longer o (word w (6 * i + 3))))
      ≡ joined (held_of f w (word w (6 * i)) i o) (record { link = (packet_at f w i).link; rx = (packet_at f w i).rx; start = t; time = (packet_at f w i).time; bytes = (packet_at f w i).bytes })
  unfolding held_of longer joined
  held_open None h true = held_first
  held_open None h false = refl
  held_open (Some pdu) h true = held_first
  held_open (Some pdu) h false = held_more pdu.first (h pdu.first pdu.got refl)

  pub arrive_held : held_of f w (word w (6 * i)) (i + 1) (next_at w b live i) ≡ after f w b live i
  unfolding next_at grown map_of
  arrive_held =
      rw (number_at f w i)
      (held_open (open_at w b live (word w (6 * i))) (λ a g e. (sound_le f w b live i s (word w (6 * i)) a g e).0) (eqb (word w (6 * i + 1)) 1)
      ∙ ap (joined (held_of f w (word w (6 * i)) i (open_at w b live (word w (6 * i))))) (sym (packet_start f w i)))

  -- it began with a packet of the key
  pub arrive_own : (a g : ℕ) → next_at w b live i ≡ open_from a g → word w (6 * a) ≡ word w (6 * i)
  unfolding next_at grown longer
  arrive_own a g e = go (open_at w b live (word w (6 * i))) (λ x y q. s.own (word w (6 * i)) x y q) (eqb (word w (6 * i + 1)) 1) e where
    go :
        (o : Maybe Open) → ((x y : ℕ) → o ≡ open_from x y → word w (6 * x) ≡ word w (6 * i)) → (t : Bool) →
        cond t (open_from i (word w (6 * i + 3))) (longer o (word w (6 * i + 3))) ≡ open_from a g → word w (6 * a) ≡ word w (6 * i)
    go o h true q = let x : i ≡ a = (same_open i (word w (6 * i + 3)) a g q).0 in rw (← x)
    go None h false q = never q
    go (Some pdu) h false q = let m : pdu.first ≡ a = (same_open pdu.first (pdu.got + word w (6 * i + 3)) a g q).0 in rw (← m) (h pdu.first pdu.got refl)

  -- and its bytes are counted right
  pub arrive_sound :
      word w (6 * i + 2) + word w (6 * i + 3) ≤ length f → (a g : ℕ) → next_at w b live i ≡ open_from a g →
      (a ≤ i) × (g ≡ length (since f w (word w (6 * i)) a (i + 1)))
  unfolding next_at grown longer
  arrive_sound fit a g e = go (open_at w b live (word w (6 * i))) (λ x y q. sound_le f w b live i s (word w (6 * i)) x y q) (eqb (word w (6 * i + 1)) 1) e where
    own : length (packet_at f w i).bytes ≡ word w (6 * i + 3)
    own = bytes_length f w i fit

    first : length (since f w (word w (6 * i)) i (i + 1)) ≡ word w (6 * i + 3)
    first = rw (since_one f w (word w (6 * i)) i, piece_own f w (word w (6 * i)) i refl) own

    go :
        (o : Maybe Open) → ((x y : ℕ) → o ≡ open_from x y → (x ≤ i) × (y ≡ length (since f w (word w (6 * i)) x i))) → (t : Bool) →
        cond t (open_from i (word w (6 * i + 3))) (longer o (word w (6 * i + 3))) ≡ open_from a g → (a ≤ i) × (g ≡ length (since f w (word w (6 * i)) a (i + 1)))
    go o h true q = let z = same_open i (word w (6 * i + 3)) a g q in (omega (arith, z.0), rw (← z.0) (sym z.1 ∙ sym first))
    go None h false q = never q
    go (Some pdu) h false q =
        let m : pdu.first ≡ a = (same_open pdu.first (pdu.got + word w (6 * i + 3)) a g q).0 in
        let n : pdu.got + word w (6 * i + 3) ≡ g = (same_open pdu.first (pdu.got + word w (6 * i + 3)) a g q).1 in
        let l : length (since f w (word w (6 * i)) pdu.first (i + 1)) ≡ pdu.got + word w (6 * i + 3) =
        rw (since_snoc f w (word w (6 * i)) pdu.first i (h pdu.first pdu.got refl).0, piece_own f w (word w (6 * i)) i refl, length-append, own, ← (h pdu.first pdu.got refl).1) in
        (rw (← m) (h pdu.first pdu.got refl).0, rw (← m) (sym n ∙ sym l))

-- ---- the packet's key gets v, and one packet more is read

module _
    (f u w : List ℕ) (b live c i n : ℕ) (v : Maybe Open)
    (s : Sound f w b live i) (fr : Front n u w) (low : 24 * i + 24 ≤ n)
    (says : (k : ℕ) → open_at u b c k ≡ cond (eqb (word w (6 * i)) k) v (open_at w b live k))
    (vs : (a g : ℕ) → v ≡ open_from a g → (a ≤ i) × (g ≡ length (since f w (word w (6 * i)) a (i + 1))))
    (vo : (a g : ℕ) → v ≡ open_from a g → word w (6 * a) ≡ word w (6 * i)) where
  since_other : (k a : ℕ) → (word w (6 * i) ≡ k → ⊥) → a ≤ i → since f u k a (i + 1) ≡ since f w k a i
  since_other k a ne h =
      since_front n f u w k a (i + 1) (omega arith) (omega arith) fr ∙ since_snoc f w k a i h ∙ (rw (piece_other f w k i ne, append-nil))

  held_own : (x : Maybe Open) → ((a g : ℕ) → x ≡ open_from a g → a ≤ i) → held_of f u (word w (6 * i)) (i + 1) x ≡ held_of f w (word w (6 * i)) (i + 1) x
  unfolding held_of
  held_own None h = refl
  held_own (Some pdu) h = let l : pdu.first ≤ i = h pdu.first pdu.got refl in ap some (since_front n f u w (word w (6 * i)) pdu.first (i + 1) (omega arith) (omega arith) fr)

  held_other : (k : ℕ) → (word w (6 * i) ≡ k → ⊥) → (x : Maybe Open) → ((a g : ℕ) → x ≡ open_from a g → a ≤ i) → held_of f u k (i + 1) x ≡ held_of f w k i x
  unfolding held_of
  held_other k ne None h = refl
  held_other k ne (Some pdu) h = ap some (since_other k pdu.first ne (h pdu.first pdu.got refl))

  pub next_map : ◌≡◌ {A = ℕ → Option (List ℕ)} (map_of f u b c (i + 1)) (put_by eqb (map_of f w b live i) (word w (6 * i)) (held_of f w (word w (6 * i)) (i + 1) v))
  unfolding map_of
  next_map = fun_ext (λ k.
      ap (held_of f u k (i + 1)) (says k)
      ∙ split≡ (word w (6 * i)) k
      (λ e. rw (← e, eq-eqb (word w (6 * i)) (word w (6 * i)) refl) (held_own v (λ a g q. (vs a g q).0)))
      (λ e. rw (ne_eqb (word w (6 * i)) k e, ne_eqb k (word w (6 * i)) (λ x. e (sym x))) (held_other k e (open_at w b live k) (λ a g q. (sound_le f w b live i s k a g q).0))))

  pub next_sound : Sound f u b c (i + 1)
  next_sound = record { sound = λ k a g e. go k a g (sym (says k) ∙ e); own = λ k a g e. own k a g (sym (says k) ∙ e) } where
    own : (k a g : ℕ) → cond (eqb (word w (6 * i)) k) v (open_at w b live k) ≡ open_from a g → word u (6 * a) ≡ k
    own k a g e =
        split≡ (word w (6 * i)) k
        (λ z.
        let q : v ≡ open_from a g = (rw (eq-eqb (word w (6 * i)) k z) at e) in
        front_word n u w (6 * a) (omega (arith, (vs a g q).0)) fr ∙ vo a g q ∙ z)
        (λ z.
        let q : open_at w b live k ≡ open_from a g = (rw (ne_eqb (word w (6 * i)) k z) at e) in
        front_word n u w (6 * a) (omega (arith, (s.sound k a g q).0)) fr ∙ s.own k a g q)

    go : (k a g : ℕ) → cond (eqb (word w (6 * i)) k) v (open_at w b live k) ≡ open_from a g → (a < i + 1) × (g ≡ length (since f u k a (i + 1)))
    go k a g e =
        split≡ (word w (6 * i)) k
        (λ z.
        let q = vs a g (rw (eq-eqb (word w (6 * i)) k z) at e) in
        let l : a ≤ i = q.0 in
        (omega arith, rw (since_front n f u w k a (i + 1) (omega arith) (omega arith) fr, ← z) q.1))
        (λ z.
        let q = sound_le f w b live i s k a g (rw (ne_eqb (word w (6 * i)) k z) at e) in
        (omega (arith, q.0), rw (since_other k a z q.0) q.1))

-- a row stored says so
stored_open :
    (v w u : List ℕ) (b n k y z r : ℕ) → ((j : ℕ) → lookup v b n j ≡ lookup w b n j) → Stored v b n k y z u r → (j : ℕ) →
    open_at u b r j ≡ cond (eqb k j) (as_open (row y z)) (open_at w b n j)
unfolding open_at upd
stored_open v w u b n k y z r lk so j = ap as_open (so.says j) ∙ rw (lk j) (go (eqb k j)) where
  go : (t : Bool) → as_open (cond t (row y z) (lookup w b n j)) ≡ cond t (as_open (row y z)) (as_open (lookup w b n j))
  go true = refl
  go false = refl

-- ---- the row of a packet's key

module _
    (f w : List ℕ) (q n count : ℕ) (tb : Tabled f w count) (qe : q ≡ length f / 4) (few : 2 * n ≤ q) (st : Seats w q n count)
    (i : ℕ) (h : i < count) where
  pub seat_below : word w (7 * q + 2 * i + 1) < n
  seat_below = find_below w (3 * q) (word w (6 * i)) n (word w (7 * q + 2 * i + 1)) (st.row i h)

  pub seat_row : RowPre w q i
  unfolding row_at
  seat_row = record { room = omega (arith, tb.total, tb.room); small = omega (arith, seat_below, tb.small) }

  pub seat_room : (at : ℕ) → at ≡ row_at w q i → 4 * at + 16 ≤ length w
  unfolding row_at
  seat_room at e = omega (arith, seat_below, tb.room)

  pub seat_open : open_at w (3 * q) n (word w (6 * i)) ≡ open_in w (row_at w q i)
  unfolding row_at
  seat_open = open_row w (3 * q) n (word w (6 * i)) (word w (7 * q + 2 * i + 1)) (st.row i h)

-- ---- one packet

-- v is w, or what the end of a PDU made of it. The packet's key is still to get o, a row with y bytes.
record Storing (f w : List ℕ) (q : ℕ) (t : Tables) (i : ℕ) (v : List ℕ) (made top : ℕ) (o : Maybe Open) (y : ℕ) : Type 0 where
  front : Front (4 * q) v w
  rows : Agree (3 * q) (3 * q + 4 * t.live) v w
  size : length v ≡ length w
  most : made ≤ i + 1
  bump : 4 * q ≤ top
  ends : top ≤ 4 * q + 4 * made + pays_of v (2 * q) made
  few : 4 * made + pays_of v (2 * q) made + sum_of w (3 * q) t.live + y ≤ data_of w (i + 1) + second (lookup w (3 * q) t.live (word w (6 * i)))
  placed : Placed f v (2 * q) made top
  counted : (a g : ℕ) → o ≡ open_from a g → (a ≤ i) × (g ≡ length (since f w (word w (6 * i)) a (i + 1)))
  own : (a g : ℕ) → o ≡ open_from a g → word w (6 * a) ≡ word w (6 * i)
  beyond : (j : ℕ) → 7 * q ≤ j → word v j ≡ word w j
  list : pdus_from f v (2 * q) 0 made ≡ pdus_from f w (2 * q) 0 t.made ++ completed (after f w (3 * q) t.live i) (packet_at f w i)
  held : held_of f w (word w (6 * i)) (i + 1) o ≡ still_open (after f w (3 * q) t.live i)
  comes : (o ≡ None) ⊎ (o ≡ next_at w (3 * q) t.live i)

module _ (f w : List ℕ) (q : ℕ) (t : Tables) (i : ℕ) (p : Step f w q t i) where
  seat : find_in w (3 * q) (word w (6 * i)) t.live ≡ Some (word w (7 * q + 2 * i + 1))
  seat = p.seats.row i (omega arith)

  below : word w (7 * q + 2 * i + 1) < t.live
  below = seat_below f w q t.live (i + 1) p.tabled p.ready.quarter p.ready.live p.seats i (omega arith)

  pub step_row : RowPre w q i
  step_row = seat_row f w q t.live (i + 1) p.tabled p.ready.quarter p.ready.live p.seats i (omega arith)

  low : 24 * i + 24 ≤ 4 * q
  low = omega (arith, p.tabled.total, p.ready.quarter)

  module _ (at : ℕ) (ae : at ≡ row_at w q i) where
    at_is : at ≡ 3 * q + 4 * word w (7 * q + 2 * i + 1)
    unfolding row_at
    at_is = ae

    pub at_room : 4 * at + 16 ≤ length w
    at_room = seat_room f w q t.live (i + 1) p.tabled p.ready.quarter p.ready.live p.seats i (omega arith) at ae

    pub full_opens : (first need : ℕ) (v : List ℕ) (top : ℕ) → Finished f w q t i first need v top → SetOpen v at None
    unfolding first_word got_word
    full_opens first need v top fin = record { room = rw fin.size at_room; first = omega arith; got = omega arith }

    -- the bytes so far
    at_got : second (lookup w (3 * q) t.live (word w (6 * i))) ≡ word w (at + 3)
    unfolding second
    at_got = rw at_is (ap second (lookup_found w (3 * q) (word w (6 * i)) t.live (word w (7 * q + 2 * i + 1)) seat))

    pub step_arrive : Arrive w at i
    step_arrive = record {
      low = omega (arith, p.tabled.total, p.tabled.room);
      room = at_room;
      sums = omega (arith, at_got, second_le w (3 * q) t.live (word w (6 * i)), p.tabled.total, p.tabled.small, p.ready.few, data_next w i);
    }

    next_by_law : next_by w at i ≡ next_at w (3 * q) t.live i
    unfolding next_by next_at
    next_by_law = rw (at_is, ← open_row w (3 * q) t.live (word w (6 * i)) (word w (7 * q + 2 * i + 1)) seat)

    -- the key's row gets o
    step_set :
        (v : List ℕ) (made top : ℕ) (o : Maybe Open) (x y : ℕ) → Storing f w q t i v made top o y → as_open (row x y) ≡ o →
        (u : List ℕ) → u ≡ put_open v at x y → Stepped f w q t i u (record { live = t.live; made = made; top = top })
    step_set v made top o x y b oe u eu =
        let k : ℕ = word w (6 * i) in
        let r : ℕ = word w (7 * q + 2 * i + 1) in
        let c : ℕ = t.live in
        let kv : (j : ℕ) → j < c → long v (3 * q + 4 * j) ≡ long w (3 * q + 4 * j) =
        (λ j h. long_agree v w (3 * q + 4 * j) (b.rows (3 * q + 4 * j) (omega arith) (omega arith)) (b.rows (3 * q + 4 * j + 1) (omega arith) (omega arith))) in
        let fv : (j : ℕ) → find_in v (3 * q) j c ≡ find_in w (3 * q) j c = (λ j. find_agree v w (3 * q) j c kv) in
        let ev : u ≡ put_open v (3 * q + 4 * r) x y = rw (← at_is) eu in
        let rv : 4 * (3 * q + 4 * c) ≤ length v = omega (arith, b.size, p.ready.live, p.tabled.room, p.ready.quarter) in
        let so : Stored v (3 * q) c k x y u c = set_stored v (3 * q) c k r (fv k ∙ seat) x y rv u ev in
        let up : (j : ℕ) → 7 * q ≤ j → word u j ≡ word v j =
        (λ j h. set_other v (3 * q) c k r (fv k ∙ seat) x y rv u ev j (λ z. omega (arith, below, p.ready.live)) (λ z. omega (arith, below, p.ready.live))) in
        let lk : (j : ℕ) → lookup v (3 * q) c j ≡ lookup w (3 * q) c j = (λ j. lookup_agree v w (3 * q) c j b.rows) in
        let says : (j : ℕ) → open_at u (3 * q) c j ≡ cond (eqb k j) o (open_at w (3 * q) c j) =
        (λ j. stored_open v w u (3 * q) c k x y c lk so j ∙ rw oe) in
        let sum : sum_of u (3 * q) c + second (lookup w (3 * q) c k) ≡ sum_of w (3 * q) c + y =
        (rw (lk k, sum_agree v w (3 * q) c b.rows) at so.sum) in
        let fro : Front (8 * q) u v = front_less (8 * q) (4 * (3 * q)) u v (omega arith) so.front in
        let frn : Front (4 * q) u w = front_then (4 * q) u v w (front_less (4 * q) (8 * q) u v (omega arith) fro) b.front in
        let frt : Front top u v = front_less top (8 * q) u v (omega (arith, b.ends, b.few, second_le w (3 * q) c k, p.tabled.total, p.ready.quarter)) fro in
        let ag : Agree (2 * q) (2 * q + 7 * made) u v =
        (λ j lo hi. front_word (4 * (3 * q)) u v j (omega (arith, b.most, p.tabled.total, p.ready.quarter)) so.front) in
        let py : pays_of u (2 * q) made ≡ pays_of v (2 * q) made = pays_agree u v (2 * q) made ag in
        let dt : data_of u (i + 1) ≡ data_of w (i + 1) = data_front (4 * q) u w (i + 1) (omega (arith, low)) frn in
        record {
          ready = record {
            quarter = p.ready.quarter;
            live = p.ready.live;
            made = b.most;
            bump = b.bump;
            ends = rw py b.ends;
            few = rw (py, dt) (omega (arith, sum, b.few));
            sound = next_sound f u w (3 * q) c c i (4 * q) o p.ready.sound frn low says b.counted b.own;
            placed = placed_agree f u v (2 * q) made top top (omega arith) ag b.placed;
          };
          front = frn;
          beyond = λ j h. up j h ∙ b.beyond j h;
          finds = λ j. set_finds v (3 * q) c k r (fv k ∙ seat) x y rv u ev j ∙ fv j;
          size = so.size ∙ b.size;
          list = pdus_agree f u v (2 * q) 0 made made top (omega arith) ag frt b.placed ∙ b.list;
          map = next_map f u w (3 * q) c c i (4 * q) o p.ready.sound frn low says b.counted b.own ∙ rw (b.held, number_at f w i);
          own = rw (says k, eq-eqb k k refl) b.comes;
          others = λ j n. rw (says j, ne_eqb k j n);
        }

    module _ (next : Maybe Open) (ne : next ≡ next_by w at i) where
      next_is_law : next ≡ next_at w (3 * q) t.live i
      next_is_law = ne ∙ next_by_law

      -- a continuation of nothing
      pub step_skip : next ≡ None → Stepped f w q t i w t
      unfolding held_of still_open completed
      step_skip e₀ =
          let e : next_at w (3 * q) t.live i ≡ None = sym next_is_law ∙ e₀ in
          let k : ℕ = word w (6 * i) in
          let hn : none ≡ after f w (3 * q) t.live i = (rw e at (arrive_held f w (3 * q) t.live i p.ready.sound)) in
          let no : open_at w (3 * q) t.live k ≡ None = arrive_none w (3 * q) t.live i e in
          let says : (j : ℕ) → open_at w (3 * q) t.live j ≡ cond (eqb k j) None (open_at w (3 * q) t.live j) =
          (λ j. split≡ k j (λ z. rw (eq-eqb k j z) (ap (open_at w (3 * q) t.live) (sym z) ∙ no)) (λ z. rw (ne_eqb k j z))) in
          let vs : (a g : ℕ) → None ≡ open_from a g → (a ≤ i) × (g ≡ length (since f w k a (i + 1))) = (λ a g x. never x) in
          let vo : (a g : ℕ) → None ≡ open_from a g → word w (6 * a) ≡ k = (λ a g x. never x) in
          record {
            ready = record {
              quarter = p.ready.quarter;
              live = p.ready.live;
              made = omega (arith, p.ready.made);
              bump = p.ready.bump;
              ends = p.ready.ends;
              few = omega (arith, p.ready.few, data_next w i);
              sound = next_sound f w w (3 * q) t.live t.live i (4 * q) None p.ready.sound (front_refl (4 * q) w) low says vs vo;
              placed = p.ready.placed;
            };
            front = front_refl (4 * q) w;
            beyond = λ j h. refl;
            finds = λ j. refl;
            size = refl;
            list = sym (rw (← hn) (append-nil (pdus_from f w (2 * q) 0 t.made)));
            map = next_map f w w (3 * q) t.live t.live i (4 * q) None p.ready.sound (front_refl (4 * q) w) low says vs vo ∙ rw (← hn, number_at f w i);
            own = inl no;
            others = λ j n. refl;
          }

      module _ (first got : ℕ) (fe : next ≡ open_from first got) where
        e : next_at w (3 * q) t.live i ≡ open_from first got
        e = sym next_is_law ∙ fe

        step_first : (first ≤ i) × (got ≡ length (since f w (word w (6 * i)) first (i + 1)))
        step_first = arrive_sound f w (3 * q) t.live i p.ready.sound (p.tabled.fits.fits i (omega arith)) first got e

        step_own : word w (6 * first) ≡ word w (6 * i)
        step_own = arrive_own f w (3 * q) t.live i p.ready.sound first got e

        -- what the machine has at hand, from the packet that began it
        step_begun : begun f w first (i + 1) ≡ since f w (word w (6 * i)) first (i + 1)
        step_begun = rw step_own

        pub step_walk : InWork f w q first (i + 1)
        step_walk = record { tabled = p.tabled; quarter = p.ready.quarter; linked = p.linked; before = omega (arith, step_first.0) }

        held_next : some (since f w (word w (6 * i)) first (i + 1)) ≡ after f w (3 * q) t.live i
        unfolding held_of
        held_next = (rw e at (arrive_held f w (3 * q) t.live i p.ready.sound))

        -- what is made and open, with the new bytes in place of the key's old ones
        step_got :
            4 * t.made + pays_of w (2 * q) t.made + sum_of w (3 * q) t.live + got
            ≤ data_of w (i + 1) + second (lookup w (3 * q) t.live (word w (6 * i)))
        step_got = omega (arith, arrive_got w (3 * q) t.live i first got e, data_next w i, p.ready.few)

        step_small : got + 4 * t.made + pays_of w (2 * q) t.made ≤ data_of w (i + 1)
        step_small = omega (arith, step_got, second_le w (3 * q) t.live (word w (6 * i)))

        pub hold_opens : SetOpen w at (open_from first got)
        unfolding first_word got_word
        hold_opens = record {
          room = at_room;
          first = omega (arith, step_first.0, p.tabled.total, p.tabled.small);
          got = omega (arith, step_small, p.tabled.total, p.tabled.small);
        }

        pub step_finish : (need : ℕ) → Need (begun f w first (i + 1)) got need → need ≤ got → Finish f w q t i first need
        step_finish need ni le = record {
          walk = step_walk;
          low = omega (arith, p.tabled.total, p.ready.quarter, p.ready.bump);
          mid = omega (arith, p.ready.ends, step_small, p.tabled.total, p.ready.quarter);
          room = omega (arith, p.ready.made, p.tabled.total, p.tabled.room, p.ready.quarter);
          small = omega (arith, p.ready.made, p.tabled.total, p.tabled.small, p.ready.quarter);
          needs = ni.enough le;
          there = rw step_begun (omega (arith, step_first.1));
          placed = p.ready.placed;
        }

        -- the PDU is not complete
        pub step_hold :
            (need : ℕ) → Need (begun f w first (i + 1)) got need → got < need →
            (u : List ℕ) → u ≡ put_open w at (first_word (open_from first got)) (got_word (open_from first got)) → Stepped f w q t i u t
        unfolding held_of still_open completed is_complete first_word got_word
        step_hold need ni lt u eu =
            let s = step_first in
            let B : List ℕ = since f w (word w (6 * i)) first (i + 1) in
            let g : got < 4 + le16 B 0 = (rw step_begun at (ni.short lt)) in
            let cmp : leb (4 + le16 B 0) (length B) ≡ false = lt-leb (4 + le16 B 0) (length B) (omega (arith, s.1)) in
            let va : as_open (row (first + 1) got) ≡ open_from first got = as_pos (first + 1) got (λ z. omega arith) ∙ (let z : first + 1 - 1 ≡ first = omega arith in rw z) in
            step_set w t.made t.top (open_from first got) (first + 1) got (record {
              front = front_refl (4 * q) w;
              rows = λ j lo hi. refl;
              size = refl;
              most = omega (arith, p.ready.made);
              bump = p.ready.bump;
              ends = p.ready.ends;
              few = omega (arith, step_got);
              placed = p.ready.placed;
              counted = λ a g z. let m = same_open first got a g z in rw (← m.0, ← m.1) s;
              own = λ a g z. let m = same_open first got a g z in rw (← m.0) step_own;
              beyond = λ j h. refl;
              list = sym (rw (← held_next, cmp) (append-nil (pdus_from f w (2 * q) 0 t.made)));
              held = rw (← held_next, cmp);
              comes = inr (sym e);
            }) va u eu

        -- the PDU is complete
        pub step_full :
            (need : ℕ) → Need (begun f w first (i + 1)) got need → need ≤ got →
            (v : List ℕ) (top : ℕ) → Finished f w q t i first need v top →
            (u : List ℕ) → u ≡ put_open v at (first_word None) (got_word None) → Stepped f w q t i u (record { live = t.live; made = t.made + 1; top = top })
        unfolding held_of still_open completed is_complete first_word got_word
        step_full need ni le v top fin u eu =
            let s = step_first in
            let B : List ℕ = since f w (word w (6 * i)) first (i + 1) in
            let nb : need ≡ 4 + le16 B 0 = (rw step_begun at (ni.enough le)) in
            let cmp : leb (4 + le16 B 0) (length B) ≡ true = le-leb (4 + le16 B 0) (length B) (omega (arith, s.1)) in
            step_set v (t.made + 1) top None 0 0 (record {
              front = front_less (4 * q) t.top v w p.ready.bump fin.front;
              rows = λ j lo hi. fin.above j (omega (arith, p.ready.made, p.tabled.total, p.ready.quarter, step_small));
              size = fin.size;
              most = omega (arith, p.ready.made);
              bump = omega (arith, p.ready.bump, fin.least);
              ends = omega (arith, fin.most, fin.pays, p.ready.ends);
              few = omega (arith, fin.pays, step_got);
              placed = fin.placed;
              counted = λ a g z. never z;
              own = λ a g z. never z;
              beyond = λ j h. fin.above j (omega (arith, h, p.ready.made, p.tabled.total, p.ready.quarter, step_small));
              list = fin.list ∙ rw (step_begun, ← held_next, cmp);
              held = rw (← held_next, cmp);
              comes = inl refl;
            }) (as_zero 0 0 refl) u eu
