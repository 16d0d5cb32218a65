-- What the functions of the pass ask and promise: one packet, one record, the file.
use Rattle.std.specs.Prelude.{ℕ, ◌+◌, ◌*◌, ◌/◌, ◌≤◌, ◌≡◌, true, false, List, length, eqb}
use Rattle.words.specs.Words.{word}
use Rattle.trace.specs.Formats.{packet_by}
use Rattle.trace.specs.Finding.{bytes_of}
use Rattle.trace.specs.declared.Format.{Format}
use Rattle.trace.specs.declared.record.Record.{Record}
use Rattle.l2cap.specs.Steps.{row_at, open_in, Step, Stepped}
use Rattle.signs.specs.Places.{packets_at}
use Rattle.signs.specs.Recorded.{is_none}
use Rattle.signs.specs.Partial.{strays, given_up}
use Rattle.signs.specs.Gaps.{tallied}
use Rattle.signs.specs.Counting.{gap_of}
use Rattle.signs.specs.Following.{Followed}
use Rattle.following.specs.Showing.{shown_by}
use Rattle.following.specs.declared.Partial.{Partial}
use Rattle.following.specs.declared.Pass.{Pass}

-- ---- one packet

-- no sign came more often than packets
pub record Turn (f w : List ℕ) (q : ℕ) (s : Pass) : Type 0 where
  pub step : Step f w q s.tables s.count
  pub stray : s.signs.stray.many ≤ s.count
  pub given : s.signs.given_up.many ≤ s.count

pub record Turned (f w : List ℕ) (q at : ℕ) (s : Pass) (u : List ℕ) (r : Pass) : Type 0 where
  pub count : r.count ≡ s.count + 1
  pub stepped : Stepped f w q s.tables s.count u r.tables
  pub signs : r.signs ≡ shown_by (open_in w (row_at w q s.count)) (eqb (word w (6 * s.count + 1)) 1) at s.signs

-- ---- one record

-- a packet in it is the next
pub record RecordTurn (r : Record) (w : List ℕ) (s : Pass) : Type 0 where
  pub turn : is_none (packet_by r.trace.format (bytes_of r)) ≡ false → Turn r.trace.file.now w (length r.trace.file.now / 4) s

pub record RecordTurned (r : Record) (w : List ℕ) (s : Pass) (u : List ℕ) (t : Pass) : Type 0 where
  pub skips : is_none (packet_by r.trace.format (bytes_of r)) ≡ true → (u ≡ w) × (t ≡ s)
  pub turned : is_none (packet_by r.trace.format (bytes_of r)) ≡ false → Turned r.trace.file.now w (length r.trace.file.now / 4) r.at s u t

-- ---- the file

-- no packet is read, and n rows of open PDUs stand
abbrev pub first_pass : ℕ → ℕ → Pass
first_pass q n = record {
  count = 0;
  tables = record { live = n; made = 0; top = 4 * q };
  signs = record { stray = record { many = 0; first = 0 }; given_up = record { many = 0; first = 0 } };
}

-- the signs of its packets are counted, and work says what is open at the end
pub record FollowedTo (g : Format) (f : List ℕ) (count : ℕ) (u : List ℕ) (r : Partial) : Type 0 where
  pub stray : gap_of r.stray ≡ tallied (strays (packets_at g f))
  pub given : gap_of r.given_up ≡ tallied (given_up (packets_at g f))
  pub followed : Followed g f u count
