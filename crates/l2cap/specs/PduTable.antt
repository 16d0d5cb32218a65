-- The table of PDUs in work: seven words each, 2 * link + direction, CID, 1 if the payload was joined in work, where it starts, its length, the time.
use Rattle.std.specs.Prelude.{ℕ, zero, suc, ◌+◌, ◌*◌, ◌/◌, ◌%◌, ◌<◌, ◌≤◌, ◌≡◌, cond, List, [], ◌∷◌, length, take, drop, eqb}
use Rattle.words.specs.Words.{word, long}
use Rattle.l2cap.specs.Pdus.{Pdu}

-- the PDU whose row is at a word
unfoldable pub pdu_at : List ℕ → List ℕ → ℕ → Pdu
pdu_at f w at = record {
  link = word w at / 2;
  rx = word w at % 2;
  time = long w (at + 5);
  cid = word w (at + 1);
  payload = take (word w (at + 4)) (drop (word w (at + 3)) (cond (eqb (word w (at + 2)) 1) w f));
}

-- m PDUs from the i-th on, of a table at word b
unfoldable pub pdus_from : List ℕ → List ℕ → ℕ → ℕ → ℕ → List Pdu
pdus_from f w b i zero = []
pdus_from f w b i (suc m) = pdu_at f w (b + 7 * i) ∷ pdus_from f w b (suc i) m

-- the payload bytes of the first i PDUs
unfoldable pub pays_of : List ℕ → ℕ → ℕ → ℕ
pays_of w b zero = 0
pays_of w b (suc i) = pays_of w b i + word w (b + 7 * i + 4)

-- a payload lies in the file, or in the first top bytes of work
pub record Inside (f w : List ℕ) (at top : ℕ) : Type 0 where
  pub inside : word w (at + 3) + word w (at + 4) ≤ cond (eqb (word w (at + 2)) 1) top (length f)
  pub cid : word w (at + 1) < 65536

-- Where the tables lie, for a file of n bytes, in words, with q = n / 4:
-- packets from 0, joined payloads from q, PDUs from 2 * q, open PDUs and then channels from 3 * q, the index of open PDUs and then pieces from 5 * q,
-- the first packet of each key and then counts and held lengths from 6 * q, the packets' links and rows and then the area of spans from 7 * q.
-- The PDUs that a list holds, as the passes after reassembly find them.
pub record Reassembled (f w : List ℕ) (made : ℕ) (ps : List Pdu) : Type 0 where
  pub list : pdus_from f w (2 * (length f / 4)) 0 made ≡ ps
  pub placed : (j : ℕ) → j < made → Inside f w (2 * (length f / 4) + 7 * j) (8 * (length f / 4))
  pub few : 16 + 29 * made + pays_of w (2 * (length f / 4)) made ≤ length f
  pub small : length f ≤ 1048576
  pub room : 8 * length f ≤ length w
