-- One headset's list (document 02, job 7): 'reads strictly and gives the spans of one adapter index, handle and DLCI, in order of completion, FCS unchecked,
-- and its unfinished count; the list may be empty'.
use Rattle.std.specs.Prelude.{ℕ, Bool, cond, ◌&&◌, List, [], ◌∷◌, length, leb}
use Rattle.laws.specs.Answers.{Outcome, gives, refuses}
use Rattle.items.specs.Items.{Span, span_list}
use Rattle.container.specs.Packets.{Packet, link_of, of_link}
use Rattle.container.specs.Container.{Container, packets_in}
use Rattle.l2cap.specs.Pdus.{pdus}
use Rattle.channels.specs.Tried.{source}
use Rattle.rfcomm.specs.Pieces.{unchecked, Piece, judged_by, pieces}
use Rattle.spans.specs.Spans.{spans, unfinished, on_dlci}
use Rattle.outcome.specs.Import.{strict}
use Rattle.opening.specs.Opening.{opened, or_given}

-- the pieces of every DLCI that packets bring, by import's rules: reassembly, the source's channel rule, sessions, and links opened on a DLCI; FCS is unchecked
unfoldable pub pieces_of : List Packet → List Piece
pieces_of ps = pieces (judged_by (unchecked source) (pdus ps))

-- else 23: 'a handle over 4,095 or a DLCI not 1 to 63'
unfoldable pub may_ask : ℕ → ℕ → Bool
may_ask handle d = leb handle 4095 && (leb 1 d && leb d 63)

-- of these packets and a DLCI: spans, unfinished, bytes written; and the list
unfoldable pub listed_of : ℕ → List Packet → Outcome
listed_of d ps =
    gives
    (length (spans (on_dlci d (pieces_of ps))) ∷ unfinished (on_dlci d (pieces_of ps)) ∷ length (span_list (spans (on_dlci d (pieces_of ps)))) ∷ [])
    (span_list (spans (on_dlci d (pieces_of ps))))

module _ (C : Container) where
  -- 'that handle's own ACL records, the handle taken with its index': the packets of one link that a file's whole records hold
  unfoldable pub own : ℕ → List ℕ → List Packet
  own l f = of_link l (packets_in C f)

  -- 1 to 5 as for import, reading strictly, then 23; 7 is checked last, as for every call that writes
  unfoldable pub one_link : List ℕ → ℕ → ℕ → ℕ → ℕ → Outcome
  one_link f work index handle d =
      or_given (opened C f work strict)
      (cond (may_ask handle d) (listed_of d (own (link_of index handle) f)) (refuses 23 []))

  -- ---- the parts, by themselves

  -- the pieces of one link and DLCI, its spans, and how many of its buffers are unfinished
  unfoldable pub own_pieces : ℕ → ℕ → List ℕ → List Piece
  own_pieces l d f = on_dlci d (pieces_of (own l f))

  unfoldable pub own_spans : ℕ → ℕ → List ℕ → List Span
  own_spans l d f = spans (own_pieces l d f)

  unfoldable pub own_unfinished : ℕ → ℕ → List ℕ → ℕ
  own_unfinished l d f = unfinished (own_pieces l d f)
