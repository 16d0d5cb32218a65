-- What the functions that write ask for and promise.
use Rattle.std.specs.Prelude.{ℕ, ◌+◌, ◌<◌, ◌≤◌, ◌≡◌, List, ◌++◌, length, get_or, take, drop}
use Rattle.laws.specs.Stores.{Writes}
use Rattle.items.specs.Items.{span, span_item, span_list}
use Rattle.rfcomm.specs.PieceTable.{infos_of}
use Rattle.spans.specs.Scan.{spans_of, rest_of}
use Rattle.search.specs.Seek.{seek}
use Rattle.spans.specs.Spans.{spans}
use Rattle.spans.specs.Parts.{tagged}
use Rattle.spans.specs.Bytewise.{AllQuiet}
use Rattle.split.specs.Last.{lastn}
use Rattle.split.specs.Rows.{piece, dlci_at, len_at, bytes_at, held_of, stream_to, opened, Fits, joined, all}
use Rattle.split.specs.Walks.{Told, AllTold}
use Rattle.split.specs.declared.Plan.{Plan}
use Rattle.writing.specs.declared.Onward.{Onward}

-- the items that the piece i brings
abbrev pub items_of : List ℕ → List ℕ → Plan → ℕ → List ℕ
items_of f w p i = span_list (tagged (piece f w p i).rx (piece f w p i).time (spans_of (joined f w p i)))

pub record WritePre (f w : List ℕ) (p : Plan) (i : ℕ) (out : List ℕ) (at : ℕ) : Type 0 where
  pub row : i < p.n
  pub small : infos_of w p.rows p.n ≤ 1048576
  pub own : dlci_at w p i ≡ p.dlci
  pub fits : Fits f w p i
  pub quiet : AllQuiet (opened f w p i)
  pub told : Told f w p i
  pub room : at + length (items_of f w p i) ≤ length out

-- those of the spans of piece i from skip on
abbrev pub items_from : List ℕ → List ℕ → Plan → ℕ → ℕ → List ℕ
items_from f w p i skip = span_list (tagged (piece f w p i).rx (piece f w p i).time (spans_of (drop skip (bytes_at f w p i))))

-- the first 3C of the piece stands at e
pub record FirstOut (f w : List ℕ) (p : Plan) (i : ℕ) (out : List ℕ) (at e : ℕ) : Type 0 where
  pub pre : WritePre f w p i out at
  pub is : e ≡ seek 0x3C (bytes_at f w p i)
  pub high : e < len_at w p i

-- some of the items are written, and those of the piece from skip on are still to come
pub record FirstWrote (f w : List ℕ) (p : Plan) (i : ℕ) (out : List ℕ) (at : ℕ) (r : Onward) (out' : List ℕ) : Type 0 where
  pub done : List ℕ
  pub items : items_of f w p i ≡ done ++ items_from f w p i r.skip
  pub writes : Writes out at done r.at out'
  pub within : r.skip ≤ len_at w p i
  pub rest : rest_of (joined f w p i) ≡ rest_of (drop r.skip (bytes_at f w p i))

pub record RestPre (f w : List ℕ) (p : Plan) (i : ℕ) (out : List ℕ) (at skip : ℕ) : Type 0 where
  pub row : i < p.n
  pub told : Told f w p i
  pub within : skip ≤ len_at w p i
  pub rest : rest_of (joined f w p i) ≡ rest_of (drop skip (bytes_at f w p i))
  pub room : at + length (items_from f w p i skip) ≤ length out

-- the first 3C of the piece stands at e, and closes what is held or what the piece begins with
pub record Closes (f w : List ℕ) (p : Plan) (i h e : ℕ) : Type 0 where
  pub holds : h ≡ held_of w p i
  pub first : h ≡ 0 → get_or (bytes_at f w p i) 0 0 ≡ 0x3E
  pub at : e ≡ seek 0x3C (bytes_at f w p i)
  pub high : e < len_at w p i

-- the span of the h bytes held and the first k bytes of the piece
unfoldable pub closed_item : List ℕ → List ℕ → Plan → ℕ → ℕ → ℕ → List ℕ
closed_item f w p i h k = span_item (span (piece f w p i).rx (piece f w p i).time (lastn h (stream_to f w p i) ++ take k (bytes_at f w p i)))

pub record ClosePre (f w : List ℕ) (p : Plan) (i : ℕ) (out : List ℕ) (at h k : ℕ) : Type 0 where
  pub row : i < p.n
  pub come : h ≤ length (stream_to f w p i)
  pub small : h ≤ 1048576
  pub part : k ≤ len_at w p i
  pub room : at + 14 + h + k ≤ length out

-- the words that counting left, not too many bytes in all, and room for the list
pub record ListPre (f w : List ℕ) (p : Plan) (out : List ℕ) : Type 0 where
  pub told : AllTold f w p p.n
  pub small : infos_of w p.rows p.n ≤ 1048576
  pub room : length (span_list (spans (all f w p))) ≤ length out
