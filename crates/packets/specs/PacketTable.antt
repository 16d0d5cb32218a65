-- The table of packets at the start of work: six words each, 2 * link + direction, 1 for a start, where the data starts in the file, its length, the time.
use Rattle.std.specs.Prelude.{ℕ, zero, suc, ◌+◌, ◌*◌, ◌/◌, ◌%◌, ◌<◌, ◌≤◌, ◌≡◌, List, [], ◌∷◌, length, take, drop, eqb}
use Rattle.words.specs.Words.{word, long}
use Rattle.container.specs.Packets.{Packet}
use Rattle.trace.specs.Formats.{packets_by}
use Rattle.trace.specs.declared.Format.{Format}

unfoldable pub packet_at : List ℕ → List ℕ → ℕ → Packet
packet_at f w i = record {
  link = word w (6 * i) / 2;
  rx = word w (6 * i) % 2;
  start = eqb (word w (6 * i + 1)) 1;
  time = long w (6 * i + 4);
  bytes = take (word w (6 * i + 3)) (drop (word w (6 * i + 2)) f);
}

-- m packets from the i-th on
unfoldable pub packets_from : List ℕ → List ℕ → ℕ → ℕ → List Packet
packets_from f w i zero = []
packets_from f w i (suc m) = packet_at f w i ∷ packets_from f w (suc i) m

-- the data bytes of the first i packets
unfoldable pub data_of : List ℕ → ℕ → ℕ
data_of w zero = 0
data_of w (suc i) = data_of w i + word w (6 * i + 3)

-- every packet's data lies in the file
pub record Fits (f w : List ℕ) (count : ℕ) : Type 0 where
  pub fits : (i : ℕ) → i < count → word w (6 * i + 2) + word w (6 * i + 3) ≤ length f

-- a table that holds packets of a file, and leaves work enough for the passes after it
pub record Tabled (f w : List ℕ) (count : ℕ) : Type 0 where
  pub fits : Fits f w count
  pub total : 16 + 25 * count + data_of w count ≤ length f
  pub small : length f ≤ 1048576
  pub room : 8 * length f ≤ length w

-- the table holds the packets of the file's whole records
pub record Read (g : Format) (f w : List ℕ) (count : ℕ) : Type 0 where
  pub tabled : Tabled f w count
  pub list : packets_from f w 0 count ≡ packets_by g f
