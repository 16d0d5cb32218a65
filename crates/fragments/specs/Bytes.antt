-- The bytes of a key among the packets, and what can be walked.
use Rattle.std.specs.Prelude.{ℕ, suc, ◌+◌, ◌-◌, ◌*◌, ◌/◌, ◌<◌, ◌≤◌, ◌≡◌, cond, List, [], ◌∷◌, ◌++◌, length, eqb, min}
use Rattle.words.specs.Words.{word}
use Rattle.container.specs.Packets.{Packet}
use Rattle.packets.specs.PacketTable.{packets_from, Fits, Tabled}
use Rattle.fragments.specs.Links.{soonest, tag_at, Linked}

-- a link and a direction as the one number that the tables keep
abbrev pub number_of : Packet → ℕ
number_of p = 2 * p.link + p.rx

unfoldable pub piece_of : ℕ → Packet → List ℕ
piece_of k p = cond (eqb (number_of p) k) p.bytes []

-- the data of the packets of a key, joined
unfoldable pub gathered : ℕ → List Packet → List ℕ
gathered k [] = []
gathered k (p ∷ ps) = piece_of k p ++ gathered k ps

-- what a key has from the packets first .. upto - 1
unfoldable pub since : List ℕ → List ℕ → ℕ → ℕ → ℕ → List ℕ
since f w k first upto = gathered k (packets_from f w first (upto - first))

-- what the key of packet first has from there on
abbrev pub begun : List ℕ → List ℕ → ℕ → ℕ → List ℕ
begun f w first upto = since f w (word w (6 * first)) first upto

-- ---- the packets of a key, walked

-- Rows of packets and their links, from one packet on up to another. A link is cut there: what comes behind is not walked.
pub record Walk (f rows links : List ℕ) (first upto : ℕ) : Type 0 where
  pub fits : Fits f rows upto
  pub small : length f ≤ 1048576
  pub table : 24 * upto ≤ length rows
  pub room : 8 * upto ≤ length links
  pub next : (i : ℕ) → i < upto → min (word links (2 * i)) (suc upto) ≡ suc (soonest (tag_at rows (word rows (6 * i))) (word rows (6 * i)) (suc i) (upto - suc i))
  pub before : first < upto

-- the same in work, with q a quarter of the file's length
pub record InWork (f w : List ℕ) (q first upto : ℕ) : Type 0 where
  pub tabled : Tabled f w upto
  pub quarter : q ≡ length f / 4
  pub linked : Linked w q upto
  pub before : first < upto
