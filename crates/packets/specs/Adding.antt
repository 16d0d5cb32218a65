-- The table of packets, one packet more, and the loop over the records.
use Rattle.std.specs.Prelude.{ℕ, Option, None, Some, ◌+◌, ◌-◌, ◌*◌, ◌/◌, ◌%◌, ◌≤◌, ◌≡◌, Bool, true, cond, List, [], ◌∷◌, ◌++◌, length, eqb}
use Rattle.laws.specs.Lists.{flat}
use Rattle.words.specs.Rows.{put_words}
use Rattle.container.specs.Packets.{Packet, or_none, packets, of_link}
use Rattle.acl.specs.Reading.{shown, Held}
use Rattle.acl.specs.declared.Fragment.{Fragment}
use Rattle.trace.specs.Formats.{file_head, time_by, packet_by, records_from, records_by, packets_by, tail_by}
use Rattle.trace.specs.Finding.{bytes_of}
use Rattle.trace.specs.declared.Format.{Format}
use Rattle.trace.specs.declared.Trace.{Trace}
use Rattle.trace.specs.declared.record.Record.{Record}
use Rattle.trace.specs.declared.reader.Reader.{Reader}
use Rattle.packets.specs.PacketTable.{packets_from, data_of, Fits, Tabled}
use Rattle.packets.specs.declared.Packets.{Packets}
use Rattle.packets.specs.declared.Empty.{Empty}

-- ---- the packet of a record

pub record RecordIs (r : Record) (x : Option Fragment) : Type 0 where
  pub shows : packet_by r.trace.format (bytes_of r) ≡ shown r.trace.file.now (time_by r.trace.format (bytes_of r)) x
  pub held : Held r.end x

-- ---- the packets asked for

-- one link's, or any
abbrev pub Which : Type 0
Which = Option ℕ

unfoldable pub is_asked : Which → ℕ → Bool
is_asked None l = true
is_asked (Some k) l = eqb l k

unfoldable pub asked : Which → List Packet → List Packet
asked None ps = ps
asked (Some l) ps = of_link l ps

-- ---- a packet as a row of words

unfoldable pub row_of : Fragment → ℕ → List ℕ
row_of x t = x.key ∷ cond x.start 1 0 ∷ x.place ∷ x.len ∷ t % 4294967296 ∷ t / 4294967296 ∷ []

unfoldable pub put_packet : List ℕ → ℕ → Fragment → ℕ → List ℕ
put_packet w i x t = put_words w (6 * i) (row_of x t)

-- ---- one packet more

pub record AddPre (r : Record) (w : List ℕ) (count : ℕ) : Type 0 where
  pub fits : Fits r.trace.file.now w count
  pub room : 24 * count + 24 ≤ length w

pub record Added (r : Record) (w : List ℕ) (only : Which) (count : ℕ) (u : List ℕ) (n : ℕ) : Type 0 where
  pub list : packets_from r.trace.file.now u 0 n ≡ packets_from r.trace.file.now w 0 count ++ asked only (or_none (packet_by r.trace.format (bytes_of r)) [])
  pub fits : Fits r.trace.file.now u n
  pub total : 25 * n + data_of u n ≤ 25 * count + data_of w count + (r.end - r.at)
  pub more : n ≤ count + 1
  pub size : length u ≡ length w

-- ---- records without a packet

-- r.count records after a place the same packets are still to come as at it, and the whole records end at the same place
pub record Passed (g : Format) (f : List ℕ) (at : ℕ) (r : Empty) : Type 0 where
  pub least : at + 16 * r.count ≤ r.end
  pub most : r.end ≤ length f
  pub list : packets (packet_by g) (records_from g f at) ≡ packets (packet_by g) (records_from g f r.end)
  pub records : length (records_from g f at) ≡ r.count + length (records_from g f r.end)
  pub tail : at + length (flat (records_from g f at)) ≡ r.end + length (flat (records_from g f r.end))

-- ---- all records

pub record ReadPre (g : Format) (f w : List ℕ) : Type 0 where
  pub some : file_head g ≤ length f
  pub small : length f ≤ 1048576
  pub room : 8 * length f ≤ length w

-- the table holds the packets asked for, of the file's whole records
pub record ReadTo (g : Format) (f : List ℕ) (only : Which) (u : List ℕ) (r : Packets) : Type 0 where
  pub tabled : Tabled f u r.count
  pub list : packets_from f u 0 r.count ≡ asked only (packets_by g f)
  pub records : r.records ≡ length (records_by g f)
  pub tail : r.tail ≡ tail_by g f

-- a reader of the trace, after so many whole records, whose packets, those asked for, are in the table
pub record Walking (t : Trace) (only : Which) (w₀ w : List ℕ) (q : Reader) (count whole : ℕ) : Type 0 where
  pub trace : q.trace ≡ t
  pub least : 16 + 16 * whole ≤ q.at
  pub within : q.at ≤ length t.file.now
  pub size : length w ≡ length w₀
  pub fits : Fits t.file.now w count
  pub total : 16 + 25 * count + data_of w count ≤ q.at
  pub same : packets_from t.file.now w 0 count ++ asked only (packets (packet_by t.format) (records_from t.format t.file.now q.at)) ≡ asked only (packets_by t.format t.file.now)
  pub number : whole + length (records_from t.format t.file.now q.at) ≡ length (records_by t.format t.file.now)
  pub tail : q.at + length (flat (records_from t.format t.file.now q.at)) ≡ tail_by t.format t.file.now
