-- The pass over the PDUs that reads their signals, and what it leaves for the passes after it.
use Rattle.std.specs.Prelude.{ℕ, ◌+◌, ◌*◌, ◌/◌, ◌%◌, ◌<◌, ◌≤◌, ◌≡◌, Bool, List, ◌++◌, length, drop}
use Rattle.words.specs.Words.{word}
use Rattle.words.specs.Front.{Front}
use Rattle.table.specs.Table.{lookup}
use Rattle.tree.specs.Tree.{Indexed, Stands}
use Rattle.tree.specs.declared.Table.{Table}
use Rattle.l2cap.specs.Pdus.{Pdu}
use Rattle.l2cap.specs.PduTable.{pdu_at, pdus_from, Inside, Reassembled}
use Rattle.l2cap.specs.PduFrames.{Lent}
use Rattle.channels.specs.Signals.{Signal, commands, signals_in, pdu_signals, signals}
use Rattle.channels.specs.Channels.{is_tried}
use Rattle.channels.specs.ChannelTable.{channel_index, Tells}
use Rattle.channels.specs.Reading.{told}
use Rattle.channels.specs.Noting.{Telling}
use Rattle.channels.specs.declared.Step.{Step}

-- ---- one step, one PDU

-- what the commands from a place on say is what the first says and what those after it do; a command that names a channel has 8 bytes
pub record StepIs (s : List ℕ) (at link rx : ℕ) (r : Step) : Type 0 where
  pub says : signals_in link rx (commands (drop at s)) ≡ told r.said ++ signals_in link rx (commands (drop r.next s))
  pub wide : at + 8 * length (told r.said) ≤ r.next
  pub more : at < r.next
  pub within : r.next ≤ length s

pub record PduStepPre (f w : List ℕ) (row at : ℕ) : Type 0 where
  pub lent : Lent f w row
  pub inside : at < word w (row + 4)

-- the row and its payload lie before the table of channels, at word b, which has room for what the payload can name
pub record NotePre (f w : List ℕ) (row b n : ℕ) : Type 0 where
  pub below : row + 7 ≤ b
  pub inside : Inside f w row (4 * b)
  pub room : 4 * (b + 4 * n) + 2 * word w (row + 4) + 16 ≤ length w

-- and the index has room for it too
pub record NotePreIn (f w : List ℕ) (row : ℕ) (t : Table) : Type 0 where
  pub pre : NotePre f w row t.at.rows t.count
  pub indexed : Indexed w t.at t.count
  pub stands : Stands w t.at (t.count + word w (row + 4) / 8 + 1)

pub record PduNoted (f w : List ℕ) (row b n : ℕ) (u : List ℕ) (r : ℕ) : Type 0 where
  pub tells : (ss rest : List Signal) → Telling ss (lookup w b n) (pdu_signals (pdu_at f w row) ++ rest) → Telling ss (lookup u b r) rest
  pub few : 8 * r ≤ 8 * n + word w (row + 4)
  pub front : Front (4 * b) u w
  pub size : length u ≡ length w

pub record PduNotedIn (f w : List ℕ) (row : ℕ) (t : Table) (u : List ℕ) (r : ℕ) : Type 0 where
  pub noted : PduNoted f w row t.at.rows t.count u r
  pub indexed : Indexed u t.at r

-- ---- the pass

-- the channels can be sought
pub record Tries (w : List ℕ) (q n : ℕ) : Type 0 where
  pub small : q ≤ 1048576
  pub indexed : Indexed w (channel_index q) n
  pub stands : Stands w (channel_index q) n

-- no channel is noted yet
pub record NoneNoted (f w : List ℕ) (made : ℕ) : Type 0 where
  pub pdus : Reassembled f w made (pdus_from f w (2 * (length f / 4)) 0 made)
  pub indexed : Indexed w (channel_index (length f / 4)) 0

-- The PDUs that a list holds, and the channels that their signals name and admit, as the passes after it find them.
pub record Signalled (f w : List ℕ) (made : ℕ) (ps : List Pdu) (rows : ℕ) : Type 0 where
  pub pdus : Reassembled f w made ps
  pub tells : Tells (signals ps) w (3 * (length f / 4)) rows
  pub few : 3 * (length f / 4) + 4 * rows ≤ 5 * (length f / 4)
  pub tries : Tries w (length f / 4) rows

pub record ReadChannels (f w : List ℕ) (made : ℕ) (u : List ℕ) (r : ℕ) : Type 0 where
  pub signalled : Signalled f u made (pdus_from f w (2 * (length f / 4)) 0 made) r
  pub front : Front (12 * (length f / 4)) u w
  pub size : length u ≡ length w

-- ---- which PDUs are tried

-- r is right for every PDU with this first word of its row, 2 * link + direction, and this CID, if the rows tell of the signals
pub record Judged (w : List ℕ) (b n side cid : ℕ) (r : Bool) : Type 0 where
  pub right : (ss : List Signal) (p : Pdu) → Tells ss w b n → p.link ≡ side / 2 → p.rx ≡ side % 2 → p.cid ≡ cid → cid < 65536 → r ≡ is_tried ss p
