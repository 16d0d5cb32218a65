-- Packets of one key, linked: two words for each packet, from word 7 * q on. The first says which packet with its key comes next,
-- of those that bring bytes: its number plus one, and the count of packets stands for none. The second is the row of its key.
use Rattle.std.specs.Prelude.{◌≡◌, List, cond, ℕ, zero, suc, ◌+◌, ◌-◌, ◌*◌, ◌/◌, ◌<◌, ◌≤◌, length, eqb, Option, Some, None}
use Rattle.words.specs.Words.{word, put_word}
use Rattle.words.specs.Front.{Front}
use Rattle.table.specs.Table.{Slot, none, some, find_in, lookup, sum_of}
use Rattle.tree.specs.Tree.{Indexed, EnterPre}
use Rattle.table.specs.declared.Row.{Row}
use Rattle.tree.specs.declared.Tree.{Tree}
use Rattle.tree.specs.declared.Table.{Table}
use Rattle.tree.specs.declared.Seating.{Seating}

-- the first of m rows from i on whose tag is h; i + m if there is none
unfoldable pub soonest : (ℕ → ℕ) → ℕ → ℕ → ℕ → ℕ
soonest b h i zero = i
soonest b h i (suc m) = cond (eqb (b i) h) i (soonest b h (suc i) m)

-- what packet j is to the key h: h if it has the key and brings bytes
unfoldable pub tag_at : List ℕ → ℕ → ℕ → ℕ
tag_at w h j = cond (eqb (word w (6 * j + 3)) 0) (suc h) (word w (6 * j))

-- the packets below upto, and perhaps more, are linked: each to the next one with its key that brings bytes
pub record Linked (w : List ℕ) (q upto : ℕ) : Type 0 where
  pub count : ℕ
  pub most : upto ≤ count
  pub low : 6 * count ≤ q
  pub next : (i : ℕ) → i < count → word w (7 * q + 2 * i) ≡ suc (soonest (tag_at w (word w (6 * i))) (word w (6 * i)) (suc i) (count - suc i))

-- the row of its key is noted for each packet below upto: n rows stand from word 3 * q on
pub record Seats (w : List ℕ) (q n upto : ℕ) : Type 0 where
  pub row : (i : ℕ) → i < upto → find_in w (3 * q) (word w (6 * i)) n ≡ Some (word w (7 * q + 2 * i + 1))

-- n rows at word b that say nothing but 0
unfoldable pub first_of : Slot → ℕ
first_of none = 0
first_of (some y z) = y

pub record Blank (w : List ℕ) (b n : ℕ) : Type 0 where
  pub says : (k : ℕ) → first_of (lookup w b n k) ≡ 0
  pub sum : sum_of w b n ≡ 0

-- ---- what the functions ask and promise

-- where the open PDUs stand and their index
abbrev pub index_of : ℕ → Tree
index_of q = record { rows = 3 * q; links = 5 * q; roots = q / 64 + 1 }

-- n of them
abbrev pub open_in : ℕ → ℕ → Table
open_in q n = record { at = index_of q; count = n }

-- the row of a key with nothing open
abbrev pub blank_row : ℕ → Row
blank_row k = record { key = k; a = 0; b = 0 }

pub record SeatKey (w : List ℕ) (q n : ℕ) : Type 0 where
  pub enter : EnterPre w (open_in q n)
  pub small : q ≤ 1048576

-- The first packet under a key, plus one, of those linked so far that bring bytes: a word for each row, from word 6 * q on. x if the key has no row.
unfoldable pub head_in : List ℕ → ℕ → ℕ → Option ℕ → ℕ
head_in w q x None = x
head_in w q x (Some a) = word w (6 * q + a)

abbrev pub head_at : List ℕ → ℕ → ℕ → ℕ → ℕ → ℕ
head_at w q x n k = head_in w q x (find_in w (3 * q) k n)

-- the same of row a, which is new if there were a rows
unfoldable pub head_of : List ℕ → ℕ → ℕ → ℕ → ℕ → ℕ
head_of w q n a x = cond (eqb a n) x (word w (6 * q + a))

-- with packet i before, of z bytes
unfoldable pub head_with : ℕ → ℕ → ℕ → ℕ
head_with z i y = cond (eqb z 0) y (i + 1)

pub record Head (w : List ℕ) (q a : ℕ) : Type 0 where
  pub room : 4 * (6 * q + a) + 4 ≤ length w
  pub small : q ≤ 1048576

unfoldable pub noted : List ℕ → ℕ → ℕ → ℕ → ℕ → ℕ → List ℕ
noted w q i y a h = put_word (put_word (put_word w (7 * q + 2 * i) y) (7 * q + 2 * i + 1) a) (6 * q + a) h

pub record Note (w : List ℕ) (q i a : ℕ) : Type 0 where
  pub room : 4 * (7 * q + 2 * i) + 8 ≤ length w
  pub low : a < q
  pub small : q ≤ 1048576

-- packet i can be linked, with the keys of those behind it in n rows
pub record LinkStep (w : List ℕ) (q n i : ℕ) : Type 0 where
  pub seat : SeatKey w q n
  pub few : q / 64 + 2 * n + 3 ≤ q
  pub low : 24 * i + 24 ≤ 4 * q
  pub room : 32 * q ≤ length w

-- packet i is linked to the first one under its key, and is now the first itself if it brings bytes
pub record LinkedStep (w : List ℕ) (q n i x : ℕ) (u : List ℕ) (r : Seating) : Type 0 where
  pub link : word u (7 * q + 2 * i) ≡ head_at w q x n (word w (6 * i))
  pub row : find_in u (3 * q) (word w (6 * i)) r.rows ≡ Some (word u (7 * q + 2 * i + 1))
  pub kept : (k a : ℕ) → find_in w (3 * q) k n ≡ Some a → find_in u (3 * q) k r.rows ≡ Some a
  pub heads : (k : ℕ) → head_at u q x r.rows k ≡ cond (eqb (tag_at w k i) k) (i + 1) (head_at w q x n k)
  pub blank : Blank w (3 * q) n → Blank u (3 * q) r.rows
  pub indexed : Indexed u (index_of q) r.rows
  pub most : r.rows ≤ n + 1
  pub front : Front (4 * (3 * q)) u w
  pub beyond : (j : ℕ) → i < j → (word u (7 * q + 2 * j) ≡ word w (7 * q + 2 * j)) × (word u (7 * q + 2 * j + 1) ≡ word w (7 * q + 2 * j + 1))
  pub size : length u ≡ length w

-- room to link the packets, with a table of their keys from word 3 * q on
pub record LinkRoom (w : List ℕ) (q count : ℕ) : Type 0 where
  pub some : 0 < q
  pub low : 6 * count ≤ q
  pub small : q ≤ 1048576
  pub room : 32 * q ≤ length w

-- and the table is empty
pub record LinkBegun (w : List ℕ) (q count : ℕ) : Type 0 where
  pub room : LinkRoom w q count
  pub indexed : Indexed w (index_of q) 0

-- the packets are linked, and n rows with their keys say nothing
pub record LinkedTo (w : List ℕ) (q count : ℕ) (u : List ℕ) (n : ℕ) : Type 0 where
  pub linked : Linked u q count
  pub seats : Seats u q n count
  pub few : n ≤ count
  pub blank : Blank u (3 * q) n
  pub front : Front (4 * (3 * q)) u w
  pub size : length u ≡ length w
