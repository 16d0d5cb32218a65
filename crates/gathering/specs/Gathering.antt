-- The pass over the PDUs that counts sessions and links and gathers the pieces.
use Rattle.std.specs.Prelude.{ℕ, ◌+◌, ◌-◌, ◌*◌, ◌/◌, ◌<◌, ◌≤◌, ◌≡◌, Bool, cond, List, [], ◌∷◌, ◌++◌, map, length, get_or}
use Rattle.laws.specs.Keys.{Key}
use Rattle.laws.specs.Keyed.{put, run}
use Rattle.words.specs.Words.{word}
use Rattle.words.specs.Front.{Front}
use Rattle.table.specs.Table.{lookup}
use Rattle.packets.specs.PacketTable.{packets_from}
use Rattle.l2cap.specs.Pdus.{Pdu, pdus}
use Rattle.l2cap.specs.PduTable.{pdu_at, pdus_from, pays_of, Inside}
use Rattle.l2cap.specs.PduFrames.{Lent}
use Rattle.channels.specs.Signals.{Signal, signals}
use Rattle.channels.specs.ChannelTable.{Tells}
use Rattle.channels.specs.Passing.{Signalled, Tries}
use Rattle.rfcomm.specs.Pieces.{kind_of, judged, told, kinds, is_wrong, wrong_on, Counts, counted, brought, counting, pieces}
use Rattle.rfcomm.specs.PieceTable.{pieces_from, infos_of, Within, Pieced}
use Rattle.tree.specs.Tree.{Indexed, SeekPre}
use Rattle.tree.specs.declared.Table.{Table}
use Rattle.gathering.specs.CountTable.{value_of, count_index, Counted}
use Rattle.rfcomm.specs.declared.Part.{Part}
use Rattle.rfcomm.specs.declared.Info.{Info}
use Rattle.gathering.specs.declared.Taken.{Taken}
use Rattle.gathering.specs.declared.Gathered.{Gathered}

-- ---- the piece of a PDU's information

unfoldable pub part_of : List ℕ → ℕ → Table → Info → Part
part_of w row t i = record {
  dlci = i.dlci;
  way = word w row;
  cid = word w (row + 1);
  sessions = value_of (lookup w t.at.rows t.count (64 * (word w row / 2) + 0));
  links = value_of (lookup w t.at.rows t.count (64 * (word w row / 2) + i.dlci));
  start = i.start;
  len = i.len;
  joined = i.joined;
}

pub record PiecePre (w : List ℕ) (row : ℕ) (i : Info) : Type 0 where
  pub whole : 4 * row + 28 ≤ length w
  pub dlci : i.dlci < 64
  pub start : i.start < 4294967296
  pub len : i.len < 65536

pub record TakePre (w : List ℕ) (row : ℕ) (t : Table) (i : Info) (at : ℕ) : Type 0 where
  pub piece : PiecePre w row i
  pub seek : SeekPre w t
  pub room : 4 * at + 32 ≤ length w
  pub few : (k : ℕ) → value_of (lookup w t.at.rows t.count k) < 65536

-- ---- what is known before a PDU is taken in

-- v has how many frames with a wrong FCS came so far, on each DLCI
pub record Ready (f w : List ℕ) (q rows : ℕ) (t : Taken) (j : ℕ) (v : List ℕ) : Type 0 where
  pub quarter : q ≡ length f / 4
  pub lent : Lent f w (2 * q + 7 * j)
  pub inside : Inside f w (2 * q + 7 * j) (8 * q)
  pub channels : 3 * q + 4 * rows ≤ 5 * q
  pub tries : Tries w q rows
  pub counts : t.counts ≤ j
  pub pieces : t.pieces ≤ j
  pub small : length f ≤ 1048576
  pub few : 45 + 29 * j ≤ length f
  pub table : 45 + 32 * t.pieces + word w (2 * q + 7 * j + 4) ≤ length f
  pub room : 8 * length f ≤ length w
  pub values : (k : ℕ) → value_of (lookup w (6 * q) t.counts k) ≤ j
  pub indexed : Indexed w (count_index (6 * q)) t.counts
  pub within : (i : ℕ) → i < t.pieces → Within f w (5 * q + 8 * i) (8 * q)
  pub wrongs : (e : ℕ) → get_or v e 0 ≤ j

-- what taking in a PDU does: the counts and the pieces by their definitions, whatever the signals are that the channels tell of
pub record TakenIn (fcs : Bool) (f w : List ℕ) (q rows : ℕ) (t : Taken) (j : ℕ) (v u : List ℕ) (r : Taken) (v' : List ℕ) : Type 0 where
  pub counts : (m : Key → Counts) (ss : List Signal) → Tells ss w (3 * q) rows → Counted m w (6 * q) t.counts j →
      Counted (put m ((pdu_at f w (2 * q + 7 * j)).link ∷ []) (counted (m ((pdu_at f w (2 * q + 7 * j)).link ∷ [])) (kind_of fcs ss (pdu_at f w (2 * q + 7 * j))))) u (6 * q) r.counts (j + 1)
  pub list : (m : Key → Counts) (ss : List Signal) → Tells ss w (3 * q) rows → Counted m w (6 * q) t.counts j →
      pieces_from f u (5 * q) 0 r.pieces ≡ pieces_from f w (5 * q) 0 t.pieces ++ brought (m ((pdu_at f w (2 * q + 7 * j)).link ∷ [])) (pdu_at f w (2 * q + 7 * j)) (kind_of fcs ss (pdu_at f w (2 * q + 7 * j)))
  pub wrongs : (ss : List Signal) → Tells ss w (3 * q) rows → (e : ℕ) → e < length v → get_or v' e 0 ≡ get_or v e 0 + cond (is_wrong e (kind_of fcs ss (pdu_at f w (2 * q + 7 * j)))) 1 0
  pub within : (i : ℕ) → i < r.pieces → Within f u (5 * q + 8 * i) (8 * q)
  pub few : 32 * r.pieces + infos_of u (5 * q) r.pieces ≤ 32 * t.pieces + infos_of w (5 * q) t.pieces + 29 + word w (2 * q + 7 * j + 4)
  pub indexed : Indexed u (count_index (6 * q)) r.counts
  pub more : r.counts ≤ t.counts + 1
  pub most : r.pieces ≤ t.pieces + 1
  pub front : Front (20 * q) u w
  pub above : (n : ℕ) → 6 * q + (6 * q) / 7 ≤ n → word u n ≡ word w n
  pub size : length u ≡ length w

-- ---- all PDUs

pub record PiecesPre (f w : List ℕ) (made rows : ℕ) : Type 0 where
  pub signalled : Signalled f w made (pdus_from f w (2 * (length f / 4)) 0 made) rows

-- and no key is counted yet
pub record PiecesBegun (f w : List ℕ) (made rows : ℕ) : Type 0 where
  pub pre : PiecesPre f w made rows
  pub indexed : Indexed w (count_index (6 * (length f / 4))) 0

-- how many PDUs, the pieces, by their definition; and for each DLCI how many frames have a wrong FCS
pub record ReadPieces (fcs : Bool) (f w : List ℕ) (made : ℕ) (u : List ℕ) (r : Gathered) : Type 0 where
  pub pdus : r.pdus ≡ made
  pub pieced : Pieced f u r.pieces (pieces (judged fcs (pdus_from f w (2 * (length f / 4)) 0 made)))
  pub wrongs : (e : ℕ) → e < 64 → get_or r.wrong e 0 ≡ wrong_on e (kinds (judged fcs (pdus_from f w (2 * (length f / 4)) 0 made)))
  pub size : length u ≡ length w

-- the same from the packets on
pub record Gathers (fcs : Bool) (f w : List ℕ) (packets : ℕ) (u : List ℕ) (r : Gathered) : Type 0 where
  pub many : r.pdus ≡ length (pdus (packets_from f w 0 packets))
  pub pieced : Pieced f u r.pieces (pieces (judged fcs (pdus (packets_from f w 0 packets))))
  pub wrongs : (e : ℕ) → e < 64 → get_or r.wrong e 0 ≡ wrong_on e (kinds (judged fcs (pdus (packets_from f w 0 packets))))

pub record Gathering (fcs : Bool) (f : List ℕ) (ps : List Pdu) (w₀ w : List ℕ) (made rows : ℕ) (t : Taken) (j : ℕ) (v : List ℕ) : Type 0 where
  pub all : j ≤ made
  pub signalled : Signalled f w made ps rows
  pub states : Key → Counts
  pub counted : Counted states w (6 * (length f / 4)) t.counts j
  pub indexed : Indexed w (count_index (6 * (length f / 4))) t.counts
  pub counts : t.counts ≤ j
  pub took : t.pieces ≤ j
  pub within : (i : ℕ) → i < t.pieces → Within f w (5 * (length f / 4) + 8 * i) (8 * (length f / 4))
  pub few : 32 * t.pieces + infos_of w (5 * (length f / 4)) t.pieces ≤ 29 * j + pays_of w (2 * (length f / 4)) j
  pub same : pieces_from f w (5 * (length f / 4)) 0 t.pieces ++ run counting states (map (told fcs (signals ps)) (pdus_from f w (2 * (length f / 4)) j (made - j))) ≡ pieces (judged fcs ps)
  pub long : length v ≡ 64
  pub rare : (e : ℕ) → get_or v e 0 ≤ j
  pub wrongs : (e : ℕ) → e < 64 → get_or v e 0 + wrong_on e (kinds (map (told fcs (signals ps)) (pdus_from f w (2 * (length f / 4)) j (made - j)))) ≡ wrong_on e (kinds (judged fcs ps))
  pub size : length w ≡ length w₀
