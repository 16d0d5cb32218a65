-- A PDU is complete: its bytes joined, if they have to be, and its row.
use mathlib.Core.Path.{◌≡◌, refl, sym, ap, ◌∙◌}
use mathlib.Core.Bool.{Bool, true, false, cond}
use mathlib.Core.List.{List, [], ◌∷◌, ◌++◌, append_assoc}
use mathlib.Core.Logic.{inl, inr}
use Prim.Native.Nat.{ℕ, suc, ◌+◌, ◌-◌, ◌*◌, ◌/◌, ◌%◌, ◌<◌, ◌≤◌}
use native.Mathlib.Omega.{arith}
use lib.ListN.{length, get_or, set, take, drop, length-take, length-drop}
use lib.Seq.{sets, get_or-set_other, drop-drop, length-take-le, sets-eq, take-take, take-append-le, drop-append-le, drop_at}
use Rattle.std.proofs.lemmas.List.{take-append-drop}
use Rattle.laws.proofs.Choice.{split≤}
use Rattle.laws.specs.Numbers.{le16}
use Rattle.laws.specs.Stores.{Writes}
use Rattle.laws.proofs.Stores.{writes_long}
use Rattle.words.specs.Words.{word, long}
use Rattle.words.proofs.Words.{word_of_bytes}
use Rattle.words.specs.Front.{Front}
use Rattle.words.proofs.Front.{front_refl, front_then, front_part, front_sets, part_take}
use Rattle.table.specs.Table.{Agree}
use Rattle.packets.specs.PacketTable.{packet_at}
use Rattle.fragments.specs.Bytes.{begun, Walk}
use Rattle.fragments.proofs.Walking.{since_one, piece_own, work_inside, work_walk, work_bytes}
use Rattle.l2cap.specs.Pdus.{Pdu, pdu_of}
use Rattle.l2cap.specs.PduTable.{pdu_at, pdus_from, pays_of, Inside}
use Rattle.l2cap.specs.PduFrames.{Placed}
use Rattle.l2cap.proofs.PduFrames.{pdus_snoc, pays_next, placed_agree, pdus_agree, pays_agree}
use Rattle.l2cap.specs.Steps.{put_pdu, Join, Finish, Finished}
use Rattle.l2cap.specs.declared.Row.{Row}
use Rattle.l2cap.specs.declared.Tables.{Tables}
use Rattle.l2cap.proofs.Rows.{row_outside, row_length, row_front, row_len, row_new, row_inside}

-- ---- one row more, whose payload lies in d

pub record Rowed (f w : List ℕ) (b made top : ℕ) (u : List ℕ) (r : ℕ) (new : Pdu) (l : ℕ) : Type 0 where
  pub list : pdus_from f u b 0 (made + 1) ≡ pdus_from f w b 0 made ++ (new ∷ [])
  pub placed : Placed f u b (made + 1) r
  pub pays : pays_of u b (made + 1) ≡ pays_of w b made + l
  pub front : Front top u w

row_more :
    (f v u w : List ℕ) (b made top r : ℕ) (p : Row) → 4 * (b + 7 * made) + 28 ≤ length v → top ≤ 4 * b → top ≤ r → p.cid < 65536 → u ≡ put_pdu v (b + 7 * made) p →
    Agree b (b + 7 * made) v w → Front top v w → Placed f w b made top →
    (d : List ℕ) → cond p.joined u f ≡ d → p.start + p.len ≤ cond p.joined r (length f) →
    Rowed f w b made top u r (record { link = p.key / 2; rx = p.key % 2; time = p.time; cid = p.cid; payload = take p.len (drop p.start d) }) p.len
row_more f v u w b made top r p room low up hc e ag fr pl d de ins =
    let frp : Front top u w = front_then top u v w (rw e (row_front v (b + 7 * made) p top (omega arith))) fr in
    let agp : Agree b (b + 7 * made) u w = (λ j lo hi. (rw e (row_outside v (b + 7 * made) p j (inl hi))) ∙ ag j lo hi) in
    let new : pdu_at f u (b + 7 * made) ≡ record { link = p.key / 2; rx = p.key % 2; time = p.time; cid = p.cid; payload = take p.len (drop p.start d) } =
    rw e (row_new v (b + 7 * made) p room f d (rw e at de)) in
    let ini : Inside f u (b + 7 * made) r = rw e (row_inside v (b + 7 * made) p room f r hc ins) in
    let len : word u (b + 7 * made + 4) ≡ p.len = rw e (row_len v (b + 7 * made) p room) in
    let old : Placed f u b made r = placed_agree f u w b made top r up agp pl in
    record {
      list = pdus_snoc f u b made ∙ rw (pdus_agree f u w b 0 made made top (omega arith) agp frp pl, new);
      placed = λ j h. split≤ (suc j) made (λ x. old j x) (λ x. let z : j ≡ made = omega arith in rw z ini);
      pays = pays_next u b made ∙ rw (pays_agree u w b made agp, len);
      front = frp;
    }

-- ---- a run of stores below the rows

part_sets : (vs l : List ℕ) (at a m : ℕ) → at + length vs ≤ length l → a + m ≤ length vs → take m (drop (at + a) (sets l at vs)) ≡ take m (drop a vs)
part_sets vs l at a m h g =
    let d : drop at (sets l at vs) ≡ vs ++ drop (at + length vs) l =
    ap (drop at) (sets-eq vs l at h ∙ append_assoc (take at l) vs (drop (at + length vs) l))
    ∙ drop_at (take at l) (vs ++ drop (at + length vs) l) at (length-take-le at l (omega arith)) in
    ap (take m) (sym (drop-drop a at (sets l at vs)) ∙ ap (drop a) d ∙ drop-append-le a vs (drop (at + length vs) l) (omega arith))
    ∙ take-append-le m (drop a vs) (drop (at + length vs) l) (simp length-drop (omega arith))

byte_behind : (vs w : List ℕ) (at k : ℕ) → at + length vs ≤ k → get_or (sets w at vs) k 0 ≡ get_or w k 0
byte_behind [] w at k h = refl
byte_behind (x ∷ vs) w at k h =
    byte_behind vs (set w at x) (suc at) k (omega arith) ∙ get_or-set_other w at k x 0 (λ e. omega arith)

-- it leaves the words behind it
word_behind : (vs w : List ℕ) (at j : ℕ) → at + length vs ≤ 4 * j → word (sets w at vs) j ≡ word w j
word_behind vs w at j h = word_of_bytes (sets w at vs) w j (λ k lo hi. byte_behind vs w at k (omega arith))

-- in a part, it is one over all
front_stored : (l vs : List ℕ) (n : ℕ) → length vs ≤ n → n ≤ length l → sets (take n l) 0 vs ++ drop n l ≡ sets l 0 vs
front_stored l vs n g h =
    let m : length (take n l) ≡ n = length-take-le n l h in
    let z : 0 + length vs ≡ length vs = omega arith in
    let e : sets (take n l) 0 vs ≡ vs ++ drop (length vs) (take n l) = rw z at (sets-eq vs (take n l) 0 (omega arith)) in
    let r : sets l 0 vs ≡ vs ++ drop (length vs) l = rw z at (sets-eq vs l 0 (omega arith)) in
    let t : drop (length vs) (take n l) ++ drop n l ≡ drop (length vs) l =
    sym (drop-append-le (length vs) (take n l) (drop n l) (omega arith)) ∙ ap (drop (length vs)) (take-append-drop n l) in
    rw (e, r, append_assoc, t)

back_stored : (w vs : List ℕ) (a : ℕ) → a + length vs ≤ length w → take a w ++ sets (drop a w) 0 vs ≡ sets w a vs
back_stored w vs a h =
    let z : 0 + length vs ≡ length vs = omega arith in
    let e : sets (drop a w) 0 vs ≡ vs ++ drop (length vs) (drop a w) = rw z at (sets-eq vs (drop a w) 0 (simp length-drop (omega arith))) in
    rw (e, drop-drop (length vs) a w) (sym (sets-eq vs w a h ∙ append_assoc (take a w) vs (drop (a + length vs) w)))

-- ---- the bytes of a PDU, joined

module _ (f u rest : List ℕ) (q first upto need : ℕ) (pre : Join f u rest q first upto need) where
  pub join_high : length u ≤ 28 * q
  join_high = omega (arith, pre.before)

  pub join_back : 28 * q - length u ≤ length rest
  join_back = omega (arith, pre.room, join_high)

  module _ (a : List ℕ) (ea : a ≡ take (28 * q - length u) rest) (l : List ℕ) (el : l ≡ drop (28 * q - length u) rest) where
    pub join_is : (n : ℕ) (v : List ℕ) → Writes a 0 (take need (begun f u first upto)) n v → Writes rest 0 (take need (begun f u first upto)) n (v ++ l)
    join_is n v p = record {
      next = p.next;
      writes = rw (p.writes, ea, el)
          (front_stored rest (take need (begun f u first upto)) (28 * q - length u) (simp length-take (omega (arith, pre.before))) join_back);
    }

-- ---- the PDU

module _ (f w : List ℕ) (q : ℕ) (t : Tables) (i first need : ℕ) (pre : Finish f w q t i first need) where
  pub finish_front : t.top ≤ length w
  finish_front = omega (arith, pre.mid, pre.room)

  -- work in two parts, at the end of the joined payloads
  module _ (u : List ℕ) (eu : u ≡ take t.top w) (rest : List ℕ) (er : rest ≡ drop t.top w) where
    rows_long : length u ≡ t.top
    rows_long = ap length eu ∙ length-take-le t.top w finish_front

    rest_long : length rest ≡ length w - t.top
    rest_long = ap length er ∙ length-drop t.top w

    inside : 28 * q ≤ length w
    inside = work_inside f w q first (i + 1) pre.walk

    rows_front : Front (24 * (i + 1)) u w
    rows_front = rw eu (record { same = take-take (24 * (i + 1)) t.top w (omega (arith, pre.low)) })

    links_are : drop (28 * q - length u) rest ≡ drop (28 * q) w
    links_are = let z : t.top + (28 * q - t.top) ≡ 28 * q = omega (arith, pre.mid) in rw (rows_long, er, drop-drop (28 * q - t.top) t.top w, z)

    joined_walk : Walk f u (drop (28 * q - length u) rest) first (i + 1)
    joined_walk = work_walk f w q first (i + 1) pre.walk u (drop (28 * q - length u) rest) rows_front (omega (arith, rows_long, pre.low)) links_are

    pub finish_join : Join f u rest q first (i + 1) need
    finish_join = record {
      before = omega (arith, rows_long, pre.mid);
      room = omega (arith, rows_long, rest_long, inside, finish_front);
      small = omega (arith, pre.walk.quarter, pre.walk.tabled.small);
      walk = joined_walk;
    }

    bytes : begun f u first (i + 1) ≡ begun f w first (i + 1)
    bytes = work_bytes f w q first (i + 1) pre.walk u (drop (28 * q - length u) rest) rows_front (omega (arith, rows_long, pre.low)) links_are

    module _ (n : ℕ) (v : List ℕ) (p : Writes rest 0 (take need (begun f u first (i + 1))) n v) where
      all_there : length (take need (begun f w first (i + 1))) ≡ need
      all_there = length-take-le need (begun f w first (i + 1)) pre.there

      wrote : Writes rest 0 (take need (begun f w first (i + 1))) n v
      wrote = rw bytes at p

      pub joined_is : Writes w t.top (take need (begun f w first (i + 1))) (t.top + n) (u ++ v)
      joined_is = record {
        next = omega (arith, wrote.next);
        writes = rw (wrote.writes, eu, er) (back_stored w (take need (begun f w first (i + 1))) t.top (omega (arith, all_there, pre.mid, pre.room)));
      }

  -- ---- a single fragment: the payload stays in the file

  since_single : first ≡ i → begun f w first (i + 1) ≡ take (word w (6 * i + 3)) (drop (word w (6 * i + 2)) f)
  unfolding packet_at
  since_single e = rw e (since_one f w (word w (6 * i)) i ∙ piece_own f w (word w (6 * i)) i refl)

  single_length : first ≡ i → length (begun f w first (i + 1)) ≡ word w (6 * i + 3)
  single_length e =
      rw (since_single e)
      (length-take-le (word w (6 * i + 3)) (drop (word w (6 * i + 2)) f) (simp length-drop (omega (arith, pre.walk.tabled.fits.fits i (omega arith)))))

  module _ (key c time : ℕ) (ke : key ≡ word w (6 * i)) (ce : c ≡ le16 (begun f w first (i + 1)) 2) (cs : c < 65536) (te : time ≡ long w (6 * i + 4)) where
    row_file :
        (s : ℕ) → first ≡ i → s ≡ word w (6 * i + 2) → (u : List ℕ) →
        u ≡ put_pdu w (2 * q + 7 * t.made) (record { key = key; cid = c; joined = false; start = s + 4; len = need - 4; time = time }) →
        Finished f w q t i first need u t.top
    unfolding packet_at pdu_of
    row_file s fe se u e =
        let B : List ℕ = begun f w first (i + 1) in
        let p : Row = record { key = key; cid = c; joined = false; start = s + 4; len = need - 4; time = time } in
        let l3 : length B ≡ word w (6 * i + 3) = single_length fe in
        let m : need - 4 ≡ le16 B 0 = omega (arith, pre.needs) in
        let pay : take (need - 4) (drop (s + 4) f) ≡ take (le16 B 0) (drop 4 B) =
        rw (m, se)
        (ap (take (le16 B 0)) (sym (drop-drop 4 (word w (6 * i + 2)) f))
        ∙ part_take 4 (le16 B 0) (word w (6 * i + 3)) (drop (word w (6 * i + 2)) f) (omega (arith, pre.needs, pre.there))
        ∙ ap (λ (l : List ℕ). take (le16 B 0) (drop 4 l)) (sym (since_single fe))) in
        let z =
        row_more f w u w (2 * q) t.made t.top t.top p pre.room (omega (arith, pre.mid)) (omega arith) cs e
        (λ j lo hi. refl) (front_refl t.top w) pre.placed f refl (omega (arith, pre.needs, pre.there, pre.walk.tabled.fits.fits i (omega arith))) in
        record {
          list = z.list ∙ rw (pay, ce, te, ke);
          placed = z.placed;
          pays = omega (arith, z.pays, pre.needs);
          front = z.front;
          above = λ j h. rw e (row_outside w (2 * q + 7 * t.made) p j (inr h));
          least = omega arith;
          most = omega arith;
          size = rw e (row_length w (2 * q + 7 * t.made) p);
        }

    pub finish_file :
        (s : ℕ) → first ≡ i → s ≡ word w (6 * i + 2) → (x : Bool × ℕ × ℕ) → x ≡ (false, s, t.top) → (v u : List ℕ) → v ≡ w →
        u ≡ put_pdu v (2 * q + 7 * t.made) (record { key = key; cid = c; joined = x.0; start = x.1 + 4; len = need - 4; time = time }) →
        Finished f w q t i first need u x.2
    finish_file s fe se x xe v u ve e = rw xe (row_file s fe se u (rw (xe, ve) at e))

    -- ---- several: the bytes are joined at the end of those joined, with their header

    row_work :
        (r : ℕ) (v : List ℕ) → Writes w t.top (take need (begun f w first (i + 1))) r v → (u : List ℕ) →
        u ≡ put_pdu v (2 * q + 7 * t.made) (record { key = key; cid = c; joined = true; start = t.top + 4; len = need - 4; time = time }) →
        Finished f w q t i first need u r
    unfolding packet_at pdu_of
    row_work r v g u e =
        let B : List ℕ = begun f w first (i + 1) in
        let p : Row = record { key = key; cid = c; joined = true; start = t.top + 4; len = need - 4; time = time } in
        let at : ℕ = 2 * q + 7 * t.made in
        let m : need - 4 ≡ le16 B 0 = omega (arith, pre.needs) in
        let ln : length (take need B) ≡ need = length-take-le need B pre.there in
        let lv : length v ≡ length w = writes_long w t.top (take need B) r v g in
        let re : r ≡ t.top + need = omega (arith, g.next) in
        let pay : take (need - 4) (drop (t.top + 4) u) ≡ take (le16 B 0) (drop 4 B) =
        front_part (t.top + need) u v (t.top + 4) (need - 4) (omega (arith, pre.needs))
        (rw e (row_front v at p (t.top + need) (omega (arith, pre.mid))))
        ∙ (rw g.writes (part_sets (take need B) w t.top 4 (need - 4) (omega (arith, pre.mid, pre.room)) (omega (arith, pre.needs))))
        ∙ sym (part_take 4 (need - 4) need B (omega (arith, pre.needs)))
        ∙ ap (λ (n : ℕ). take n (drop 4 B)) m in
        let ag : (j : ℕ) → 2 * q ≤ j → word v j ≡ word w j = (λ j lo. rw g.writes (word_behind (take need B) w t.top j (omega (arith, pre.mid)))) in
        let fr : Front t.top v w = rw g.writes (front_sets t.top (take need B) w t.top (omega arith)) in
        let z =
        row_more f v u w (2 * q) t.made t.top r p (omega (arith, pre.room)) (omega (arith, pre.mid)) (omega arith) cs e
        (λ j lo hi. ag j lo) fr pre.placed u refl (omega (arith, pre.needs)) in
        record {
          list = z.list ∙ rw (pay, ce, te, ke);
          placed = z.placed;
          pays = omega (arith, z.pays, pre.needs);
          front = z.front;
          above = λ j h. (rw e (row_outside v at p j (inr h))) ∙ ag j (omega arith);
          least = omega arith;
          most = omega arith;
          size = (rw e (row_length v at p)) ∙ lv;
        }

    pub finish_work :
        (r : ℕ) (x : Bool × ℕ × ℕ) → x ≡ (true, t.top, r) → (v m u : List ℕ) → v ≡ m → Writes w t.top (take need (begun f w first (i + 1))) r m →
        u ≡ put_pdu v (2 * q + 7 * t.made) (record { key = key; cid = c; joined = x.0; start = x.1 + 4; len = need - 4; time = time }) →
        Finished f w q t i first need u x.2
    finish_work r x xe v m u ve g e = rw xe (row_work r m g u (rw (xe, ve) at e))
