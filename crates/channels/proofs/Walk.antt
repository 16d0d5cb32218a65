-- The pass over the PDUs: one step, one PDU, all of them; and what becomes of a PDU.
use Rattle.std.specs.Prelude.{Option, Some, None}
use Prim.Native.Nat.{ℕ, ◌+◌, ◌-◌, ◌*◌, ◌/◌, ◌%◌, ◌<◌, ◌≤◌}
use mathlib.Core.Path.{◌≡◌, refl, sym, ap, ◌∙◌}
use denote.Enum.Bare.{sameb}
use mathlib.Core.Bool.{Bool, true, false, cond, not, ◌&&◌, ◌||◌, and-true, and-false, or-false}
use mathlib.Core.List.{List, [], ◌∷◌, ◌++◌, append_assoc}
use native.Mathlib.Omega.{arith}
use lib.Dec.{leb, eqb}
use lib.ListN.{length, take, drop, length-take, drop_of_length-le}
use borrow.Author.Tests.{le-leb, lt-leb, eq-eqb, ne_eqb}
use Rattle.laws.proofs.Choice.{split≤}
use Rattle.words.specs.Words.{word}
use Rattle.words.specs.Front.{Front}
use Rattle.words.proofs.Front.{front_refl, front_then, front_less, front_word}
use Rattle.table.specs.Table.{lookup, Agree}
use Rattle.tree.specs.Tree.{Indexed, Stands, ClearPre, Cleared}
use Rattle.tree.specs.declared.Tree.{Tree}
use Rattle.tree.specs.declared.Table.{Table}
use Rattle.items.specs.Items.{rx_of}
use Rattle.items.specs.declared.Direction.{Direction}
use Rattle.l2cap.specs.Pdus.{Pdu}
use Rattle.l2cap.specs.PduTable.{pdu_at, pdus_from, pays_of, Inside, Reassembled}
use Rattle.l2cap.specs.PduFrames.{Lent, Placed}
use Rattle.l2cap.specs.Reading.{PduIs}
use Rattle.l2cap.specs.declared.Pdu.{Pdu as ReadPdu}
use Rattle.l2cap.proofs.PduFrames.{link_at, rx_at, cid_at, inside_top, payload_length, placed_agree, pdus_agree, pdus_next, pdus_none, pays_next, pays_mono, reassembled_front}
use Rattle.channels.specs.Signals.{Signal, commands, code, body, signal_of, signals_in, pdu_signals, signals}
use Rattle.channels.specs.Channels.{any, is_tried, asks_rfcomm, asks_session}
use Rattle.channels.specs.ChannelTable.{channel_index, says_named, says_admitted}
use Rattle.channels.specs.Reading.{command_bytes, told}
use Rattle.channels.specs.Noting.{grade_of, standing_of, Telling, Noted, NotedIn}
use Rattle.channels.specs.Passing.{StepIs, PduStepPre, NotePre, NotePreIn, PduNoted, PduNotedIn, NoneNoted, ReadChannels, Tries, Judged}
use Rattle.channels.specs.declared.Signal.{Signal as Said}
use Rattle.channels.specs.declared.Step.{Step}
use Rattle.channels.specs.declared.Grade.{Grade}
use Rattle.channels.specs.contracts.Grade.{the_type}
use Rattle.channels.specs.declared.Grade.TheVariants.{Named}
use Rattle.channels.proofs.Passing.{reassembled_own}
use Rattle.channels.proofs.Payloads.{body_room, command_more, command_says, command_within, commands_end}
use Rattle.channels.proofs.Grades.{side_key, admits_grade, standing_unnamed, standing_named, graded_admitted, telling_start, telling_end}

-- ---- one step

one_of : (s t : Bool) (a b : Signal) (n : ℕ) → 8 ≤ n → 8 * length (cond s (a ∷ []) (cond t (b ∷ []) [])) ≤ n
one_of true t a b n h = omega arith
one_of false true a b n h = omega arith
one_of false false a b n h = omega arith

-- a command that says something has 8 bytes
signal_wide : (link rx : ℕ) (c : List ℕ) → 8 * length (signal_of link rx c) ≤ length c
unfolding signal_of
signal_wide link rx c =
    split≤ 4 (length (body c))
    (λ h. rw (le-leb 4 (length (body c)) h) (one_of (eqb (code c) 2) (eqb (code c) 3) _ _ (length c) (omega (arith, body_room c (omega arith)))))
    (λ h. rw (lt-leb 4 (length (body c)) h) (omega arith))

pub step_is :
    (s : List ℕ) (at n : ℕ) → at < length s → n ≡ length (command_bytes (take (length s - at) (drop at s))) → (link : ℕ) (d : Direction) (said : Option Said) →
    told said ≡ signal_of link (rx_of d) (take (at + n - at) (drop at s)) → StepIs s at link (rx_of d) (record { said = said; next = at + n })
step_is s at n h e link d said t = record {
  says = rw t (command_says s at n h e link (rx_of d));
  wide = rw t (omega (arith, signal_wide link (rx_of d) (take (at + n - at) (drop at s)), length-take (at + n - at) (drop at s)));
  more = command_more s at n h e;
  within = command_within s at n h e;
}

module _ (f w : List ℕ) (row at : ℕ) (p : PduStepPre f w row at) (pdu : ReadPdu) (is : PduIs f w row pdu) where
  pub step_inside : at < length pdu.payload.now
  step_inside = omega (arith, ap length is.payload, payload_length f w row p.lent, p.inside)

  pub pdu_step_is :
      (d : Direction) (r : Step) → rx_of d ≡ pdu.side % 2 → StepIs pdu.payload.now at (pdu.side / 2) (rx_of d) r →
      StepIs (pdu_at f w row).payload at (pdu_at f w row).link (pdu_at f w row).rx r
  pdu_step_is d r de q = rw (← is.payload, link_at f w row, rx_at f w row, ← is.side, ← de) q

-- ---- one PDU

-- a row before the table of channels, and its payload, stay as they were
module _ (f u w : List ℕ) (row b : ℕ) (below : row + 7 ≤ b) (inside : Inside f w row (4 * b)) (fr : Front (4 * b) u w) where
  same_row : Agree row (row + 7) u w
  same_row j lo hi = front_word (4 * b) u w j (omega arith) fr

  only : Placed f w row 1 (4 * b)
  only j h = let z : row + 7 * j ≡ row = omega arith in rw z inside

  pub pdu_kept : pdu_at f u row ≡ pdu_at f w row
  unfolding pdus_from
  pdu_kept =
      let e : pdus_from f u row 0 1 ≡ pdus_from f w row 0 1 = pdus_agree f u w row 0 1 1 (4 * b) (omega arith) same_row fr only in
      let z : row + 7 * 0 ≡ row = omega arith in
      let g : pdu_at f u (row + 7 * 0) ≡ pdu_at f w (row + 7 * 0) = cc in
      rw z at g

  pub inside_kept : Inside f u row (4 * b)
  inside_kept =
      let g : Inside f u (row + 7 * 0) (4 * b) = placed_agree f u w row 1 (4 * b) (4 * b) (omega arith) same_row only 0 (omega arith) in
      let z : row + 7 * 0 ≡ row = omega arith in
      rw z at g

-- the commands of the PDU from a place on are still to be noted
pub record Noting (f w₀ : List ℕ) (row b n₀ : ℕ) (w : List ℕ) (n at : ℕ) : Type 0 where
  pub within : at ≤ word w₀ (row + 4)
  pub few : 8 * n ≤ 8 * n₀ + at
  pub front : Front (4 * b) w w₀
  pub size : length w ≡ length w₀
  pub tells :
      (ss rest : List Signal) → Telling ss (lookup w₀ b n₀) (signals_in (pdu_at f w₀ row).link (pdu_at f w₀ row).rx (commands (pdu_at f w₀ row).payload) ++ rest) →
      Telling ss (lookup w b n) (signals_in (pdu_at f w₀ row).link (pdu_at f w₀ row).rx (commands (drop at (pdu_at f w₀ row).payload)) ++ rest)

module _ (f w₀ : List ℕ) (row b n₀ : ℕ) (p : NotePre f w₀ row b n₀) where
  pub not_signalling : (c : ℕ) → c ≡ word w₀ (row + 1) → (c ≡ 1 → ⊥) → PduNoted f w₀ row b n₀ w₀ n₀
  unfolding pdu_signals
  not_signalling c e h = record {
    tells = λ ss rest t. rw (cid_at f w₀ row, ne_eqb (word w₀ (row + 1)) 1 (λ z. h (e ∙ z))) at t;
    few = omega arith;
    front = front_refl (4 * b) w₀;
    size = refl;
  }

  lent : Lent f w₀ row
  lent = record { room = omega (arith, p.below, p.room); inside = inside_top f w₀ row (4 * b) (length w₀) (omega (arith, p.room)) p.inside }

  module _ (w : List ℕ) (n at : ℕ) (v : Noting f w₀ row b n₀ w n at) where
    pub noting_end : (c : ℕ) → c ≡ word w₀ (row + 1) → c ≡ 1 → word w₀ (row + 4) ≤ at → PduNoted f w₀ row b n₀ w n
    unfolding pdu_signals signals_in
    noting_end c e g h =
        let k : length (pdu_at f w₀ row).payload ≤ at = omega (arith, payload_length f w₀ row lent) in
        record {
          tells = λ ss rest t. rw (drop_of_length-le (pdu_at f w₀ row).payload k, commands_end [] (omega arith)) at (v.tells ss rest (rw (cid_at f w₀ row, eq-eqb (word w₀ (row + 1)) 1 (sym e ∙ g)) at t));
          few = omega (arith, v.few, v.within);
          front = v.front;
          size = v.size;
        }

    module _ (more : at < word w₀ (row + 4)) where
      pub noting_pre : PduStepPre f w row at
      noting_pre = record {
        lent = record {
          room = omega (arith, p.below, p.room, v.size);
          inside = inside_top f w row (4 * b) (length w) (omega (arith, p.room, v.size)) (inside_kept f w w₀ row b p.below p.inside v.front);
        };
        inside = rw (front_word (4 * b) w w₀ (row + 4) (omega (arith, p.below)) v.front) more;
      }

      pub noting_turn :
          (r : Step) → StepIs (pdu_at f w row).payload at (pdu_at f w row).link (pdu_at f w row).rx r → (u : List ℕ) (m : ℕ) → Noted w b n r.said u m →
          Noting f w₀ row b n₀ u m r.next
      noting_turn r st u m nt =
          let s : StepIs (pdu_at f w₀ row).payload at (pdu_at f w₀ row).link (pdu_at f w₀ row).rx r = rw (pdu_kept f w w₀ row b p.below p.inside v.front) at st in
          record {
            within = omega (arith, s.within, payload_length f w₀ row lent);
            few = omega (arith, v.few, nt.most, s.wide);
            front = front_then (4 * b) u w w₀ nt.front v.front;
            size = nt.size ∙ v.size;
            tells = λ ss rest t. nt.tells ss _ (rw (s.says, append_assoc) at (v.tells ss rest t));
          }

-- and the index, of a table that stays in its place
pub record NotingIn (f w₀ : List ℕ) (row : ℕ) (t₀ : Table) (w : List ℕ) (t : Table) (at : ℕ) : Type 0 where
  pub place : t.at ≡ t₀.at
  pub noting : Noting f w₀ row t₀.at.rows t₀.count w t.count at
  pub indexed : Indexed w t.at t.count

module _ (f w₀ : List ℕ) (row : ℕ) (t₀ : Table) (p : NotePreIn f w₀ row t₀) where
  module _ (w : List ℕ) (t : Table) (at : ℕ) (v : NotingIn f w₀ row t₀ w t at) where
    pub noting_done : (c : ℕ) → c ≡ word w₀ (row + 1) → c ≡ 1 → word w₀ (row + 4) ≤ at → PduNotedIn f w₀ row t₀ w t.count
    noting_done c e g h = record { noted = noting_end f w₀ row t₀.at.rows t₀.count p.pre w t.count at v.noting c e g h; indexed = rw v.place at v.indexed }

    module _ (more : at < word w₀ (row + 4)) where
      pub noting_more : (r : Step) → StepIs (pdu_at f w row).payload at (pdu_at f w row).link (pdu_at f w row).rx r → (u : List ℕ) (m : ℕ) → NotedIn w t r.said u m →
          NotingIn f w₀ row t₀ u (record { at = t.at; count = m }) r.next
      noting_more r st u m n = record {
        place = v.place;
        noting = noting_turn f w₀ row t₀.at.rows t₀.count p.pre w t.count at v.noting more r st u m (rw v.place at n.noted);
        indexed = n.indexed;
      }

-- ---- all PDUs

-- the channels and their index have room for so many
channel_stands : (f w : List ℕ) (n : ℕ) → 16 ≤ length f → length f ≤ 1048576 → 8 * length f ≤ length w → 8 * n + 16 ≤ length f → Stands w (channel_index (length f / 4)) n
unfolding channel_index
channel_stands f w n some small room few = record { rows = omega arith; room = omega arith; few = omega arith }

pub index_is : (q : ℕ) → record { rows = 3 * q; links = 6 * q + (6 * q) / 7; roots = q / 8 + 1 } ≡ channel_index q
unfolding channel_index
index_is q = refl

pub record Running (f w₀ : List ℕ) (made : ℕ) (w : List ℕ) (rows i : ℕ) : Type 0 where
  pub within : i ≤ made
  pub few : 8 * rows ≤ pays_of w₀ (2 * (length f / 4)) i
  pub front : Front (12 * (length f / 4)) w w₀
  pub size : length w ≡ length w₀
  pub tells : Telling (signals (pdus_from f w₀ (2 * (length f / 4)) 0 made)) (lookup w (3 * (length f / 4)) rows) (signals (pdus_from f w₀ (2 * (length f / 4)) i (made - i)))

-- and the index, of the channels' table
pub record RunningIn (f w₀ : List ℕ) (made : ℕ) (w : List ℕ) (t : Table) (i : ℕ) : Type 0 where
  pub place : t.at ≡ channel_index (length f / 4)
  pub running : Running f w₀ made w t.count i
  pub indexed : Indexed w t.at t.count

pub running_start : (f w : List ℕ) (made : ℕ) → Running f w made w 0 0
unfolding pays_of
running_start f w made =
    let z : made - 0 ≡ made = omega arith in
    record {
      within = omega arith;
      few = omega arith;
      front = front_refl (12 * (length f / 4)) w;
      size = refl;
      tells = rw z (telling_start (signals (pdus_from f w (2 * (length f / 4)) 0 made)) w (3 * (length f / 4)));
    }

module _ (f w₀ : List ℕ) (made : ℕ) (ps : List Pdu) (p : Reassembled f w₀ made ps) (w : List ℕ) (rows i : ℕ) (v : Running f w₀ made w rows i) where
  table_front : Front (4 * (3 * (length f / 4))) w w₀
  table_front = front_less (4 * (3 * (length f / 4))) (12 * (length f / 4)) w w₀ (omega arith) v.front

  module _ (more : i < made) where
    row_below : 2 * (length f / 4) + 7 * i + 7 ≤ 3 * (length f / 4)
    row_below = omega (arith, p.few)

    row_inside : Inside f w₀ (2 * (length f / 4) + 7 * i) (4 * (3 * (length f / 4)))
    row_inside = inside_top f w₀ (2 * (length f / 4) + 7 * i) (8 * (length f / 4)) (4 * (3 * (length f / 4))) (omega arith) (p.placed i more)

    row_size : word w (2 * (length f / 4) + 7 * i + 4) ≡ word w₀ (2 * (length f / 4) + 7 * i + 4)
    row_size = front_word (4 * (3 * (length f / 4))) w w₀ (2 * (length f / 4) + 7 * i + 4) (omega (arith, row_below)) table_front

    few_more : 16 + 29 * made + 8 * rows + word w₀ (2 * (length f / 4) + 7 * i + 4) ≤ length f
    few_more = omega (arith, p.few, v.few, pays_next w₀ (2 * (length f / 4)) i, pays_mono w₀ (2 * (length f / 4)) (i + 1) made (omega arith))

    pub running_pre : NotePre f w (2 * (length f / 4) + 7 * i) (3 * (length f / 4)) rows
    running_pre = record {
      below = row_below;
      inside = inside_kept f w w₀ (2 * (length f / 4) + 7 * i) (3 * (length f / 4)) row_below row_inside table_front;
      room = omega (arith, few_more, row_size, p.room, v.size);
    }

    pub running_turn : (u : List ℕ) (r : ℕ) → PduNoted f w (2 * (length f / 4) + 7 * i) (3 * (length f / 4)) rows u r → Running f w₀ made u r (i + 1)
    unfolding signals
    running_turn u r q = record {
      within = omega arith;
      few = omega (arith, v.few, q.few, row_size, pays_next w₀ (2 * (length f / 4)) i);
      front = front_then (12 * (length f / 4)) u w w₀ (front_less (12 * (length f / 4)) (4 * (3 * (length f / 4))) u w (omega arith) q.front) v.front;
      size = q.size ∙ v.size;
      tells =
          q.tells (signals (pdus_from f w₀ (2 * (length f / 4)) 0 made)) (signals (pdus_from f w₀ (2 * (length f / 4)) (i + 1) (made - (i + 1))))
          (rw (pdu_kept f w w₀ (2 * (length f / 4) + 7 * i) (3 * (length f / 4)) row_below row_inside table_front)
          (rw (pdus_next f w₀ (2 * (length f / 4)) i made more) at v.tells));
    }

  pub running_end : made ≤ i → Indexed w (channel_index (length f / 4)) rows → ReadChannels f w₀ made w rows
  unfolding signals
  running_end h ix =
      let z : i ≡ made = omega (arith, v.within) in
      let k : 8 * rows ≤ pays_of w₀ (2 * (length f / 4)) made = rw (← z) v.few in
      record {
        signalled = record {
          pdus = rw p.list (reassembled_front f w w₀ made ps v.front v.size p);
          tells = telling_end (signals (pdus_from f w₀ (2 * (length f / 4)) 0 made)) w (3 * (length f / 4)) rows (rw (pdus_none f w₀ (2 * (length f / 4)) i made h) at v.tells);
          few = omega (arith, p.few);
          tries = record { small = omega (arith, p.small); indexed = ix; stands = channel_stands f w rows (omega (arith, p.few)) p.small (omega (arith, p.room, v.size)) (omega (arith, p.few)) };
        };
        front = v.front;
        size = v.size;
      }

-- the same with the index
pub running_begun : (f w : List ℕ) (made : ℕ) (x : Tree) → x ≡ channel_index (length f / 4) → Indexed w (channel_index (length f / 4)) 0 → RunningIn f w made w (record { at = x; count = 0 }) 0
running_begun f w made x ex ix = record { place = ex; running = running_start f w made; indexed = rw ex ix }

module _ (f w₀ : List ℕ) (made : ℕ) (ps : List Pdu) (p : Reassembled f w₀ made ps) (w : List ℕ) (t : Table) (i : ℕ) (v : RunningIn f w₀ made w t i) where
  pub running_done : made ≤ i → ReadChannels f w₀ made w t.count
  running_done h = running_end f w₀ made ps p w t.count i v.running h (rw v.place at v.indexed)

  module _ (more : i < made) where
    pub running_note : NotePreIn f w (2 * (length f / 4) + 7 * i) t
    unfolding channel_index
    running_note = record {
      pre = rw v.place (running_pre f w₀ made ps p w t.count i v.running more);
      indexed = v.indexed;
      stands = rw v.place (channel_stands f w (t.count + word w (2 * (length f / 4) + 7 * i + 4) / 8 + 1) (omega (arith, p.few)) p.small (omega (arith, p.room, v.running.size))
          (omega (arith, few_more f w₀ made ps p w t.count i v.running more, row_size f w₀ made ps p w t.count i v.running more)));
    }

    pub running_noted : (u : List ℕ) (r : ℕ) → PduNotedIn f w (2 * (length f / 4) + 7 * i) t u r → RunningIn f w₀ made u (record { at = t.at; count = r }) (i + 1)
    unfolding channel_index
    running_noted u r n = record { place = v.place; running = running_turn f w₀ made ps p w t.count i v.running more u r (rw v.place at n.noted); indexed = n.indexed }

-- ---- what becomes of a PDU

-- what a PDU asks, as it is read from its row
pub asks_is :
    (f w : List ℕ) (row : ℕ) (p : ReadPdu) → PduIs f w row p → (r : Bool) → r ≡ (eqb p.cid 1 && any asks_rfcomm (commands p.payload.now)) → r ≡ asks_session (pdu_at f w row)
unfolding asks_session
asks_is f w row p is r e = e ∙ rw (cid_at f w row, ← is.cid, is.payload)

module _ (w : List ℕ) (b n side cid : ℕ) where
  tried_by_law : (r : Bool) → r ≡ (says_admitted (lookup w b n (side * 65536 + cid)) || (leb 0x40 cid && not (says_named (lookup w b n (side * 65536 + cid))))) → Judged w b n side cid r
  unfolding is_tried
  tried_by_law r e = record {
    right = λ ss p t l x c h.
        rw (l, x, c, ← (t.names (side / 2) (side % 2) cid (omega arith) h), ← (t.admits (side / 2) (side % 2) cid (omega arith) h), side_key side cid) e;
  }

  module _ (g : Option Grade) (p : g ≡ standing_of (lookup w b n (side * 65536 + cid))) where
    tried_unnamed : g ≡ None → Judged w b n side cid (leb 0x40 cid)
    unfolding says_named says_admitted
    tried_unnamed q = tried_by_law (leb 0x40 cid) (rw (standing_unnamed (lookup w b n (side * 65536 + cid)) g p q) (sym (and-true (leb 0x40 cid))))

    tried_named : (v : Grade) → g ≡ Some v → (r : Bool) → r ≡ not (sameb the_type v Named) → Judged w b n side cid r
    tried_named v q r e =
        tried_by_law r
        (rw (admits_grade (lookup w b n (side * 65536 + cid)), ← graded_admitted (grade_of (lookup w b n (side * 65536 + cid))), (standing_named (lookup w b n (side * 65536 + cid)) g p v q).0, (standing_named (lookup w b n (side * 65536 + cid)) g p v q).1, and-false (leb 0x40 cid))
        (e ∙ sym (or-false (not (sameb the_type v Named)))))

module _ (w : List ℕ) (q n side cid : ℕ) (t : Tries w q n) (x : Tree) (ex : x ≡ channel_index q) where
  module _ (k : ℕ) (ek : k ≡ side * 65536 + cid) (g : Option Grade) (p : g ≡ standing_of (lookup w x.rows n k)) where
    pub tries_unnamed : g ≡ None → Judged w (3 * q) n side cid (leb 0x40 cid)
    unfolding channel_index
    tries_unnamed e = tried_unnamed w (3 * q) n side cid g (rw (ex, ek) at p) e

    pub tries_named : (v : Grade) → g ≡ Some v → (r : Bool) → r ≡ not (sameb the_type v Named) → Judged w (3 * q) n side cid r
    unfolding channel_index
    tries_named v e r h = tried_named w (3 * q) n side cid g (rw (ex, ek) at p) v e r h

-- ---- the table empty, and then all PDUs

module _ (f w : List ℕ) (made : ℕ) (ps : List Pdu) (p : Reassembled f w made ps) (x : Tree) (ex : x ≡ channel_index (length f / 4)) where
  pub note_clear : ClearPre w x
  unfolding channel_index
  note_clear = rw ex (record { some = omega arith; many = omega (arith, p.small); room = omega (arith, p.few, p.room) })

  module _ (v : List ℕ) (c : Cleared w x v) where
    front : Front (12 * (length f / 4)) v w
    unfolding channel_index
    front = front_less (12 * (length f / 4)) (4 * (6 * (length f / 4) + (6 * (length f / 4)) / 7)) v w (omega arith) (rw ex at c.front)

    kept : Reassembled f v made ps
    kept = reassembled_front f v w made ps front c.size p

    pub none_noted : NoneNoted f v made
    none_noted = record { pdus = reassembled_own f v made ps kept; indexed = rw ex at c.indexed }

    pub noted_cleared : (u : List ℕ) (r : ℕ) → ReadChannels f v made u r → ReadChannels f w made u r
    noted_cleared u r s = record {
      signalled = rw (kept.list ∙ sym p.list) at s.signalled;
      front = front_then (12 * (length f / 4)) u v w s.front front;
      size = s.size ∙ c.size;
    }
