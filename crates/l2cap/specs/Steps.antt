-- What the functions of the pass ask and promise: what a PDU needs, what is open, a PDU's row, a step.
use Rattle.std.specs.Prelude.{Option as Maybe, Some, None, ℕ, zero, suc, ◌+◌, ◌-◌, ◌*◌, ◌/◌, ◌%◌, ◌<◌, ◌≤◌, ◌≡◌, cond, ◌⊎◌, List, [], ◌∷◌, ◌++◌, length, drop, eqb}
use Rattle.std.proofs.Math.Option.{Option, none, some}
use Rattle.laws.specs.Numbers.{le16}
use Rattle.words.specs.Words.{word, put_word}
use Rattle.words.specs.Front.{Front}
use Rattle.words.specs.Rows.{put_words}
use Rattle.table.specs.Table.{Slot, none as no_row, some as a_row, find_in, lookup, sum_of}
use Rattle.packets.specs.PacketTable.{packet_at, data_of, Tabled}
use Rattle.l2cap.specs.Pdus.{joined, still_open, completed, pdu_of}
use Rattle.l2cap.specs.PduTable.{pdus_from, pays_of}
use Rattle.l2cap.specs.PduFrames.{Placed}
use Rattle.l2cap.specs.Rekeyed.{put_by}
use Rattle.fragments.specs.Links.{Linked, Seats}
use Rattle.fragments.specs.Bytes.{number_of, since, begun, Walk, InWork}
use Rattle.l2cap.specs.declared.Open.{Open}
use Rattle.l2cap.specs.declared.Row.{Row}
use Rattle.l2cap.specs.declared.Tables.{Tables}

-- ---- what a PDU needs

-- r bytes make the PDU complete whose bytes so far are B, got of them
pub record Need (B : List ℕ) (got r : ℕ) : Type 0 where
  pub enough : r ≤ got → r ≡ 4 + le16 B 0
  pub short : got < r → got < 4 + le16 B 0

-- ---- what is open

-- a PDU that packet a began, with g bytes so far
abbrev pub open_from : ℕ → ℕ → Maybe Open
open_from a g = Some (record { first = a; got = g })

-- a row holds the number of the first packet and one more, or 0 if nothing is open, and the bytes so far
unfoldable pub as_open : Slot → Maybe Open
as_open no_row = None
as_open (a_row zero g) = None
as_open (a_row (suc a) g) = open_from a g

unfoldable pub open_at : List ℕ → ℕ → ℕ → ℕ → Maybe Open
open_at w b n k = as_open (lookup w b n k)

unfoldable pub longer : Maybe Open → ℕ → Maybe Open
longer None n = None
longer (Some pdu) n = open_from pdu.first (pdu.got + n)

-- after a fragment of n bytes in packet i
unfoldable pub grown : ℕ → Maybe Open → ℕ → ℕ → Maybe Open
grown start o i n = cond (eqb start 1) (open_from i n) (longer o n)

unfoldable pub next_at : List ℕ → ℕ → ℕ → ℕ → Maybe Open
next_at w b live i = grown (word w (6 * i + 1)) (open_at w b live (word w (6 * i))) i (word w (6 * i + 3))

-- where the row of packet i's key stands, and that it can be read
unfoldable pub row_at : List ℕ → ℕ → ℕ → ℕ
row_at w q i = 3 * q + 4 * word w (7 * q + 2 * i + 1)

pub record RowPre (w : List ℕ) (q i : ℕ) : Type 0 where
  pub room : 4 * (7 * q + 2 * i) + 8 ≤ length w
  pub small : row_at w q i ≤ 67108864

-- by the row at a word: what is open, and what is open once packet i is read
unfoldable pub open_in : List ℕ → ℕ → Maybe Open
open_in w at = as_open (a_row (word w (at + 2)) (word w (at + 3)))

unfoldable pub next_by : List ℕ → ℕ → ℕ → Maybe Open
next_by w at i = grown (word w (6 * i + 1)) (open_in w at) i (word w (6 * i + 3))

pub record Arrive (w : List ℕ) (at i : ℕ) : Type 0 where
  pub low : 24 * i + 24 ≤ length w
  pub room : 4 * at + 16 ≤ length w
  pub sums : word w (at + 3) + word w (6 * i + 3) ≤ 67108864

-- the two words that a row has for what is open
unfoldable pub first_word : Maybe Open → ℕ
first_word None = 0
first_word (Some pdu) = pdu.first + 1

unfoldable pub got_word : Maybe Open → ℕ
got_word None = 0
got_word (Some pdu) = pdu.got

pub record SetOpen (w : List ℕ) (at : ℕ) (o : Maybe Open) : Type 0 where
  pub room : 4 * at + 16 ≤ length w
  pub first : first_word o < 4294967296
  pub got : got_word o < 4294967296

unfoldable pub put_open : List ℕ → ℕ → ℕ → ℕ → List ℕ
put_open w at y z = put_word (put_word w (at + 2) y) (at + 3) z

-- ---- a PDU's row

unfoldable pub words_of : Row → List ℕ
words_of p = p.key ∷ p.cid ∷ cond p.joined 1 0 ∷ p.start ∷ p.len ∷ p.time % 4294967296 ∷ p.time / 4294967296 ∷ []

unfoldable pub put_pdu : List ℕ → ℕ → Row → List ℕ
put_pdu w at p = put_words w at (words_of p)

pub record PutPdu (w : List ℕ) (at : ℕ) (p : Row) : Type 0 where
  pub room : 4 * at + 28 ≤ length w
  pub start : p.start < 4294967296
  pub len : p.len < 4294967296

-- ---- a PDU is complete

-- its bytes can be joined behind the packets' rows, before their links
pub record Join (f rows rest : List ℕ) (q first upto need : ℕ) : Type 0 where
  pub before : length rows + need ≤ 28 * q
  pub room : 28 * q ≤ length rows + length rest
  pub small : q ≤ 1048576
  pub walk : Walk f rows (drop (28 * q - length rows) rest) first upto

pub record Finish (f w : List ℕ) (q : ℕ) (t : Tables) (i first need : ℕ) : Type 0 where
  pub walk : InWork f w q first (i + 1)
  pub low : 24 * i + 24 ≤ t.top
  pub mid : t.top + need ≤ 4 * (2 * q)
  pub room : 4 * (2 * q + 7 * t.made) + 28 ≤ length w
  pub small : 2 * q + 7 * t.made ≤ 16777216
  pub needs : need ≡ 4 + le16 (begun f w first (i + 1)) 0
  pub there : need ≤ length (begun f w first (i + 1))
  pub placed : Placed f w (2 * q) t.made t.top

pub record Finished (f w : List ℕ) (q : ℕ) (t : Tables) (i first need : ℕ) (u : List ℕ) (r : ℕ) : Type 0 where
  pub list : pdus_from f u (2 * q) 0 (t.made + 1) ≡ pdus_from f w (2 * q) 0 t.made ++ (pdu_of (begun f w first (i + 1)) (packet_at f w i) ∷ [])
  pub placed : Placed f u (2 * q) (t.made + 1) r
  pub pays : pays_of u (2 * q) (t.made + 1) + 4 ≡ pays_of w (2 * q) t.made + need
  pub front : Front t.top u w
  pub above : (j : ℕ) → 2 * q + 7 * t.made + 7 ≤ j → word u j ≡ word w j
  pub least : t.top ≤ r
  pub most : r ≤ t.top + need
  pub size : length u ≡ length w

-- ---- a step

-- before the first: n rows of open PDUs, none made
abbrev pub begun_tables : ℕ → ℕ → Tables
begun_tables q n = record { live = n; made = 0; top = 4 * q }

-- the state of a key's machine, with the packets before upto read
unfoldable pub held_of : List ℕ → List ℕ → ℕ → ℕ → Maybe Open → Option (List ℕ)
held_of f w k upto None = none
held_of f w k upto (Some pdu) = some (since f w k pdu.first upto)

-- the states of all machines
unfoldable pub map_of : List ℕ → List ℕ → ℕ → ℕ → ℕ → ℕ → Option (List ℕ)
map_of f w b live i k = held_of f w k i (open_at w b live k)

-- the bytes so far are counted right, from a packet of the key on
pub record Sound (f w : List ℕ) (b live i : ℕ) : Type 0 where
  pub sound : (k a g : ℕ) → open_at w b live k ≡ open_from a g → (a < i) × (g ≡ length (since f w k a i))
  pub own : (k a g : ℕ) → open_at w b live k ≡ open_from a g → word w (6 * a) ≡ k

-- i packets are read. Every data byte is in one open PDU or one made, or dropped: so all areas have room.
pub record Ready (f w : List ℕ) (q : ℕ) (t : Tables) (i : ℕ) : Type 0 where
  pub quarter : q ≡ length f / 4
  pub live : 2 * t.live ≤ q
  pub made : t.made ≤ i
  pub bump : 4 * q ≤ t.top
  pub ends : t.top ≤ 4 * q + 4 * t.made + pays_of w (2 * q) t.made
  pub few : 4 * t.made + pays_of w (2 * q) t.made + sum_of w (3 * q) t.live ≤ data_of w i
  pub sound : Sound f w (3 * q) t.live i
  pub placed : Placed f w (2 * q) t.made t.top

pub record Step (f w : List ℕ) (q : ℕ) (t : Tables) (i : ℕ) : Type 0 where
  pub ready : Ready f w q t i
  pub tabled : Tabled f w (i + 1)
  pub linked : Linked w q (i + 1)
  pub seats : Seats w q t.live (i + 1)

-- the state that packet i finds, and the bytes at hand after it
abbrev pub after : List ℕ → List ℕ → ℕ → ℕ → ℕ → Option (List ℕ)
after f w b live i = joined (map_of f w b live i (number_of (packet_at f w i))) (packet_at f w i)

pub record Stepped (f w : List ℕ) (q : ℕ) (t : Tables) (i : ℕ) (u : List ℕ) (r : Tables) : Type 0 where
  pub ready : Ready f u q r (i + 1)
  pub front : Front (4 * q) u w
  pub beyond : (j : ℕ) → 7 * q ≤ j → word u j ≡ word w j
  pub finds : (k : ℕ) → find_in u (3 * q) k r.live ≡ find_in w (3 * q) k t.live
  pub size : length u ≡ length w
  pub list : pdus_from f u (2 * q) 0 r.made ≡ pdus_from f w (2 * q) 0 t.made ++ completed (after f w (3 * q) t.live i) (packet_at f w i)
  pub map :
      ◌≡◌ {A = ℕ → Option (List ℕ)} (map_of f u (3 * q) r.live (i + 1))
      (put_by eqb (map_of f w (3 * q) t.live i) (number_of (packet_at f w i)) (still_open (after f w (3 * q) t.live i)))
  -- which packet began what is open: under the packet's key nothing is, or what is with the packet; under the others what was
  pub own : (open_at u (3 * q) r.live (word w (6 * i)) ≡ None) ⊎ (open_at u (3 * q) r.live (word w (6 * i)) ≡ next_at w (3 * q) t.live i)
  pub others : (k : ℕ) → (word w (6 * i) ≡ k → ⊥) → open_at u (3 * q) r.live k ≡ open_at w (3 * q) t.live k

-- ---- the steps of a range of packets

-- what they need: a step's state before the first of them, and the tables that they read
pub record Run (f w : List ℕ) (q : ℕ) (t : Tables) (from upto : ℕ) : Type 0 where
  pub within : from ≤ upto
  pub ready : Ready f w q t from
  pub tabled : Tabled f w upto
  pub linked : Linked w q upto
  pub seats : Seats w q t.live upto

-- work and tables after no step, or after some steps and one more
pub data Ran (f : List ℕ) (q : ℕ) (w : List ℕ) (t : Tables) (from : ℕ) : List ℕ → Tables → ℕ → Type 0 where
  stays : Ran f q w t from w t from
  steps : {v : List ℕ} {s : Tables} {i : ℕ} {u : List ℕ} {r : Tables} → Ran f q w t from v s i → Stepped f v q s i u r → Ran f q w t from u r (i + 1)
