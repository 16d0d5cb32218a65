-- Import: the DLCI chosen, its spans, how many buffers are unfinished, the tail offset, its frames with a wrong FCS, and where its bytes went; or a refusal.
use Rattle.std.specs.Prelude.{ℕ, ◌*◌, ◌/◌, Bool, true, cond, ◌&&◌, List, [], ◌∷◌, map, length, leb, eqb}
use Rattle.std.proofs.Math.Option.{Option, none, some}
use Rattle.laws.specs.Answers.{Outcome, gives, refuses}
use Rattle.items.specs.Items.{Span, span_list}
use Rattle.mdr.specs.Frame.{unpacks_of}
use Rattle.container.specs.Container.{Container, tail_offset, packets_in}
use Rattle.l2cap.specs.Pdus.{pdus}
use Rattle.channels.specs.Channels.{any}
use Rattle.channels.specs.Tried.{source}
use Rattle.rfcomm.specs.Pieces.{Judging, unchecked, Judged, judged_by, kinds, wrong_on, Piece, pieces}
use Rattle.spans.specs.Spans.{spans, unfinished, on_dlci}
use Rattle.spans.specs.Account.{Account, account_of, account_values}

pub data Tail : Type 0 where
  strict tolerant : Tail

-- what the caller chooses, beside the file and the buffers
pub record Options : Type 0 where
  -- a channel (0 to 255, or none)
  pub channel : Option ℕ
  -- a tail rule (strict or tolerant)
  pub tail : Tail
  -- a channel rule (the source's, or Bluetooth Core's: document 02, job 10), and a switch (job 3): whether FCS is checked
  pub judging : Judging

-- document 01's import: by the source's channel rule, FCS unchecked
abbrev pub by_source : Option ℕ → Tail → Options
by_source channel tail = record { channel = channel; tail = tail; judging = unchecked source }

-- a given channel is the DLCI divided by 2
unfoldable pub on_channel : Option ℕ → ℕ → Bool
on_channel none d = true
on_channel (some c) d = eqb (d / 2) c

unfoldable pub first : (ℕ → Bool) → List ℕ → Option ℕ
first f [] = none
first f (e ∷ es) = cond (f e) (some e) (first f es)

-- a span of the DLCI unpacks
unfoldable pub has_frame : List Piece → ℕ → Bool
has_frame ps d = any (λ s. unpacks_of s.wire) (spans (on_dlci d ps))

-- the first DLCI seen, on the channel, that has a span which unpacks
unfoldable pub chosen : Option ℕ → List Piece → Option ℕ
chosen channel ps = first (λ d. on_channel channel d && has_frame ps d) (map (λ p. p.dlci) ps)

-- what is found on the DLCI chosen
pub record Finding : Type 0 where
  pub dlci : ℕ
  pub spans : List Span
  pub unfinished : ℕ
  -- the tail offset
  pub tail : ℕ
  -- UIH frames with a wrong FCS, where it is checked
  pub wrong : ℕ
  -- where the bytes of its pieces went
  pub account : Account

pub data Found : Type 0 where
  found : Finding → Found
  missing : ℕ → List ℕ → Found

-- of these pieces, with so many wrong frames on each DLCI; 6 where no DLCI is chosen
unfoldable pub listed : List Piece → (ℕ → ℕ) → ℕ → Option ℕ → Found
listed ps wrongs tail none = missing 6 []
listed ps wrongs tail (some d) = found (record { dlci = d; spans = spans (on_dlci d ps); unfinished = unfinished (on_dlci d ps); tail = tail; wrong = wrongs d; account = account_of (on_dlci d ps) })

-- ---- a file of a container

module _ (C : Container) where
  -- the PDUs that a file's whole records bring, judged
  abbrev pub file_judged : Judging → List ℕ → List Judged
  file_judged by f = judged_by by (pdus (packets_in C f))

  -- the pieces of them
  unfoldable pub file_pieces : Judging → List ℕ → List Piece
  file_pieces by f = pieces (file_judged by f)

  -- how many of them are UIH frames with a wrong FCS, on a DLCI
  abbrev pub file_wrong : Judging → List ℕ → ℕ → ℕ
  file_wrong by f d = wrong_on d (kinds (file_judged by f))

  unfoldable pub read : List ℕ → Options → Found
  read f o = listed (file_pieces o.judging f) (file_wrong o.judging f) (tail_offset C f) (chosen o.channel (file_pieces o.judging f))

  -- 5, strict only: a record passes the end
  unfoldable pub ends_well : Tail → List ℕ → Bool
  ends_well strict f = eqb (tail_offset C f) (length f)
  ends_well tolerant f = true

  -- 3 (pcap: 21), 4 (22), 5, 6
  unfoldable pub outcome : List ℕ → Options → Found
  outcome f o =
      cond (C.is_file f)
      (cond (C.is_taken (C.link_type f))
      (cond (ends_well o.tail f) (read f o) (missing 5 (tail_offset C f ∷ [])))
      (missing C.untaken (C.link_type f ∷ [])))
      (missing C.foreign [])

-- DLCI, frames, unfinished, tail offset, bytes written, frames with a wrong FCS, the four numbers of the account; and the list
unfoldable pub given : Found → Outcome
given (found x) = gives (x.dlci ∷ length x.spans ∷ x.unfinished ∷ x.tail ∷ length (span_list x.spans) ∷ x.wrong ∷ account_values x.account) (span_list x.spans)
given (missing n vs) = refuses n vs

-- 1: over 1,048,576 bytes
unfoldable pub fits : List ℕ → Bool
fits f = leb (length f) 1048576

-- 2: work under 8 times the file length
unfoldable pub work_suffices : List ℕ → ℕ → Bool
work_suffices f work = leb (8 * length f) work

-- 2 too: fewer places lent for stretches than the file length divided by 24
unfoldable pub places_suffice : List ℕ → ℕ → Bool
places_suffice f places = leb (length f / 24) places

module _ (C : Container) where
  -- 1 to 6; 7 is checked last, as for every call that writes
  unfoldable pub imported : List ℕ → ℕ → Options → Outcome
  imported f work o =
      cond (fits f)
      (cond (work_suffices f work) (given (outcome C f o)) (refuses 2 []))
      (refuses 1 [])

  -- the same with a lent list of stretches, of so many places
  unfoldable pub imported_in : List ℕ → ℕ → ℕ → Options → Outcome
  imported_in f work places o =
      cond (fits f)
      (cond (places_suffice f places) (imported f work o) (refuses 2 []))
      (refuses 1 [])
