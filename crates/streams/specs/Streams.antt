-- The DLCI chosen, with what is counted of it, and what work then has, by which its list is written.
use Rattle.std.specs.Prelude.{Option as Maybe, None, Some, ℕ, ◌+◌, ◌-◌, ◌*◌, ◌/◌, ◌<◌, ◌≤◌, ◌≡◌, List, length}
use Rattle.std.proofs.Math.Option.{Option, none, some}
use Rattle.words.specs.Front.{Front}
use Rattle.items.specs.Items.{span_list}
use Rattle.rfcomm.specs.Pieces.{Piece}
use Rattle.rfcomm.specs.PieceTable.{pieces_from, Pieced}
use Rattle.spans.specs.Spans.{spans, unfinished, on_dlci}
use Rattle.spans.specs.Account.{in_spans, dropped, cleared, left}
use Rattle.split.specs.Rows.{all, Linked, Laid}
use Rattle.split.specs.Walks.{AllTold}
use Rattle.split.specs.declared.Plan.{Plan}
use Rattle.measuring.specs.declared.Sums.{Sums}
use Rattle.outcome.specs.Import.{chosen}
use Rattle.streams.specs.declared.Stream.{Stream}

-- the channel that is asked for, if one is; the DLCI chosen, if one is
abbrev pub Channel : Type 0
Channel = Maybe ℕ

abbrev pub Choice : Type 0
Choice = Maybe Stream

unfoldable pub channel_of : Channel → Option ℕ
channel_of None = none
channel_of (Some c) = some c

-- ---- the table of pieces in work

-- for a file of 4 * q bytes or a little more: the pieces from word 5 * q on, from word 6 * q on what links them, then the lengths held and
-- the places of 3C, and from byte 28 * q on what a key holds
unfoldable pub plan_of : ℕ → ℕ → ℕ → Plan
plan_of q n d = record { rows = 5 * q; n = n; chain = 6 * q; held = 6 * q + n; ends = 6 * q + 2 * n; area = 28 * q; dlci = d }

-- the pieces that the table holds
abbrev pub table_pieces : List ℕ → List ℕ → ℕ → List Piece
table_pieces f w n = pieces_from f w (5 * (length f / 4)) 0 n

abbrev pub Tabled : List ℕ → List ℕ → ℕ → Type 0
Tabled f w n = Pieced f w n (table_pieces f w n)

-- a table whose pieces are linked
pub record Ready (f w : List ℕ) (n : ℕ) : Type 0 where
  pub tabled : Tabled f w n
  pub linked : Linked w (plan_of (length f / 4) n 0)

-- the bytes of work below the lengths held
abbrev pub below : List ℕ → ℕ → ℕ
below f n = 4 * (6 * (length f / 4) + n)

-- ---- the choice

-- sums from which the account can be reckoned: no difference passes 0
pub record Accountable (d : ℕ) (s : Sums) : Type 0 where
  pub small : d < 256
  pub listed : 14 * s.tally.count ≤ s.tally.bytes
  pub taken : s.tally.bytes + s.cleared + s.left ≤ s.taken + 14 * s.tally.count

unfoldable pub stream_summed : ℕ → Sums → Stream
stream_summed d s = record {
  dlci = d;
  spans = s.tally.count;
  bytes = s.tally.bytes;
  unfinished = s.unfinished;
  in_spans = s.tally.bytes - 14 * s.tally.count;
  dropped = s.taken - (s.tally.bytes - 14 * s.tally.count) - s.cleared - s.left;
  cleared = s.cleared;
  left = s.left;
}

unfoldable pub stream_of : List Piece → ℕ → Stream
stream_of ps d = record {
  dlci = d;
  spans = length (spans (on_dlci d ps));
  bytes = length (span_list (spans (on_dlci d ps)));
  unfinished = unfinished (on_dlci d ps);
  in_spans = in_spans (on_dlci d ps);
  dropped = dropped (on_dlci d ps);
  cleared = cleared (on_dlci d ps);
  left = left (on_dlci d ps);
}

unfoldable pub choice_of : List Piece → Option ℕ → Choice
choice_of ps none = None
choice_of ps (some d) = Some (stream_of ps d)

-- and work has the words of the DLCI chosen
pub record Chooses (f w : List ℕ) (n : ℕ) (channel : Channel) (u : List ℕ) (r : Choice) : Type 0 where
  pub chooses : r ≡ choice_of (table_pieces f w n) (chosen (channel_of channel) (table_pieces f w n))
  pub front : Front (below f n) u w
  pub told : (s : Stream) → r ≡ Some s → AllTold f u (plan_of (length f / 4) n s.dlci) n
  pub small : (s : Stream) → r ≡ Some s → s.dlci < 64

-- ---- the choice, from the table of pieces on

-- what stands in work for the DLCI d, chosen: a table of n pieces, linked, and what counting left of those of the DLCI
pub record Kept (f u : List ℕ) (n d : ℕ) : Type 0 where
  pub laid : Laid f u (plan_of (length f / 4) n d)
  pub told : AllTold f u (plan_of (length f / 4) n d) n
  pub few : 16 + 32 * n ≤ length f
  pub small : length f ≤ 1048576

-- and that it was chosen for the pieces ps, which the table has
pub record Leaves (f : List ℕ) (ps : List Piece) (channel : Option ℕ) (n : ℕ) (u : List ℕ) (d : ℕ) : Type 0 where
  pub is : chosen channel ps ≡ some d
  pub pieces : all f u (plan_of (length f / 4) n d) ≡ on_dlci d ps
  pub kept : Kept f u n d

-- the choice by the definition; where a DLCI is chosen, work has what its list is written by
pub record ChoosesStream (f w : List ℕ) (n : ℕ) (channel : Channel) (u : List ℕ) (r : Choice) : Type 0 where
  pub chooses : r ≡ choice_of (table_pieces f w n) (chosen (channel_of channel) (table_pieces f w n))
  pub front : Front (24 * (length f / 4)) u w
  pub left : (s : Stream) → r ≡ Some s → Leaves f (table_pieces f w n) (channel_of channel) n u s.dlci
  pub small : (s : Stream) → r ≡ Some s → s.dlci < 64

-- ---- a DLCI given

-- what is counted of it by the definition; and what its list is written by
pub record CountsStream (f w : List ℕ) (n d : ℕ) (u : List ℕ) (r : Stream) : Type 0 where
  pub counts : r ≡ stream_of (table_pieces f w n) d
  pub pieces : all f u (plan_of (length f / 4) n d) ≡ on_dlci d (table_pieces f w n)
  pub front : Front (24 * (length f / 4)) u w
  pub kept : Kept f u n d

-- ---- the list

-- of the spans of the pieces that work has for the DLCI d
abbrev pub kept_list : List ℕ → List ℕ → ℕ → ℕ → List ℕ
kept_list f u n d = span_list (spans (all f u (plan_of (length f / 4) n d)))

pub record WriteListPre (f u : List ℕ) (n d : ℕ) (out : List ℕ) : Type 0 where
  pub kept : Kept f u n d
  pub room : length (kept_list f u n d) ≤ length out
