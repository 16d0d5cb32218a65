-- Document 02's words where a rule says it otherwise: data between success and end; tried in the file or any cut of it.
use Prim.Native.Nat.{ℕ, ◌+◌, ◌*◌}
use mathlib.Core.Path.{◌≡◌, refl, sym, ◌∙◌}
use mathlib.Core.Bool.{Bool, true, false, not, ◌&&◌, ◌||◌}
use mathlib.Core.List.{List, [], ◌∷◌, ◌++◌, append_assoc}
use lib.ListN.{length}
use lib.Dec.{leb}
use Rattle.laws.proofs.Choice.{split_b, no_way}
use Rattle.laws.specs.Chop.{chop, chop_from}
use Rattle.laws.specs.Lists.{flat, All}
use Rattle.laws.specs.Numbers.{le16}
use Rattle.container.specs.Container.{Container, Lawful}
use Rattle.l2cap.specs.Pdus.{Pdu, pdus}
use Rattle.channels.specs.Signals.{command_size, is_command, commands, body, triple, opposite, signals}
use Rattle.channels.specs.Channels.{named, channel_of}
use Rattle.channels.specs.Core.{request_key, connects, succeeds, disconnects, core_signal_of, core_signals_in, pdu_core_signals, core_signals, holds}
use Rattle.channels.specs.CoreLaws.{Between}
use Rattle.channels.proofs.CoreLaws.{between_holds}
use Rattle.channels.specs.Tried.{core, tried_by}
use Rattle.cut.specs.Recording.{Recording, rows}
use Rattle.cut.specs.Left.{records_left}
use Rattle.cut.specs.Honest.{pdus_in, pdus_of, nothing_open, Open, held, unheard, AtData, Channels, core_channels}
use Rattle.cut.proofs.TwoParts.{Front}
use Rattle.cut.proofs.CutRecords.{WholeRecord}
use Rattle.cut.proofs.Verdicts.{named_front}
use Rattle.cut.proofs.PaperWords.{front_cut, UpTo, up_to}

-- ---- on the wire

module _ (h rx time id a₀ a₁ b₀ b₁ : ℕ) where
  -- a request (PSM, source): the source in the opposite direction
  pub request_core :
      pdu_core_signals (record { link = h; rx = rx; time = time; cid = 1; payload = 0x02 ∷ id ∷ 4 ∷ 0 ∷ a₀ ∷ a₁ ∷ b₀ ∷ b₁ ∷ [] }) ≡
      connects (request_key h rx id) (a₀ + 256 * a₁) (triple h (opposite rx) (b₀ + 256 * b₁)) ∷ []
  unfolding pdu_core_signals commands chop chop_from is_command command_size core_signals_in core_signal_of body le16
  request_core = refl

  -- a success (destination, source): it answers the other side, and its destination is in the opposite direction
  pub success_core :
      (x y : ℕ) → pdu_core_signals (record { link = h; rx = rx; time = time; cid = 1; payload = 0x03 ∷ id ∷ 8 ∷ 0 ∷ a₀ ∷ a₁ ∷ b₀ ∷ b₁ ∷ 0 ∷ 0 ∷ x ∷ y ∷ [] }) ≡
      succeeds (request_key h (opposite rx) id) (triple h (opposite rx) (a₀ + 256 * a₁)) ∷ []
  unfolding pdu_core_signals commands chop chop_from is_command command_size core_signals_in core_signal_of body le16
  success_core x y = refl

  -- an end (destination, source): the destination in the opposite direction, the source in its own
  pub end_core :
      pdu_core_signals (record { link = h; rx = rx; time = time; cid = 1; payload = 0x07 ∷ id ∷ 4 ∷ 0 ∷ a₀ ∷ a₁ ∷ b₀ ∷ b₁ ∷ [] }) ≡
      disconnects (triple h (opposite rx) (a₀ + 256 * a₁)) (triple h rx (b₀ + 256 * b₁)) ∷ []
  unfolding pdu_core_signals commands chop chop_from is_command command_size core_signals_in core_signal_of body le16
  end_core = refl

-- ---- data between success and end

-- at each data PDU of the file: a request for PSM 3 and its success are complete, the channel is one of the two, and it has not ended since; or nothing in the file names it
pub data Served {C : Container} (R : Recording C) (up_to : List Pdu) (p : Pdu) : Type 0 where
  between : Between (core_signals up_to) (channel_of p) → Served R up_to p
  never_named : named (signals (pdus_in R R.records)) (channel_of p) ≡ false → Served R up_to p

pub served_channels : {C : Container} (R : Recording C) → AtData R (Served R) → Channels R core
served_channels R f = core_channels (λ a p i b e. go (pdus_of a ++ (p ∷ [])) p (f a p i b e))
  where
    go : (up_to : List Pdu) (p : Pdu) → Served R up_to p → Open R up_to p
    go up_to p (between w) = held (between_holds up_to (channel_of p) w)
    go up_to p (never_named u) = unheard u

-- ---- tried in the file or any cut of it

module _ {C : Container} (R : Recording C) (a : List Pdu) (p : Pdu) where
  -- its channel holds when the PDU is complete; or its CID is at least 0x40 and no PDU up to and with this one names it
  unfoldable pub ever_tried_core : Bool
  ever_tried_core = holds (a ++ (p ∷ [])) (channel_of p) || (leb 0x40 p.cid && not (named (signals (a ++ (p ∷ []))) (channel_of p)))

  -- a cut that has the PDU, after the PDUs a, has it tried
  pub record TriedSomeCore : Type 0 where
    pub n : ℕ
    pub rest : List Pdu
    pub there : pdus_in R (records_left R n) ≡ a ++ p ∷ rest
    pub tried : tried_by core (a ++ (p ∷ [])) (pdus_in R (records_left R n)) p ≡ true

  pub tried_ever_core : TriedSomeCore → ever_tried_core ≡ true
  unfolding ever_tried_core tried_by
  tried_ever_core t =
      let l : List Pdu = pdus_in R (records_left R t.n) in
      split_b (holds (a ++ (p ∷ [])) (channel_of p))
      (λ e. rw e)
      (λ e.
      let h : leb 0x40 p.cid && not (named (signals l) (channel_of p)) ≡ true = rw e at t.tried in
      let f : Front (a ++ (p ∷ [])) l = record { back = t.rest; whole = t.there ∙ sym (append_assoc a (p ∷ []) t.rest) } in
      split_b (leb 0x40 p.cid)
      (λ c. split_b (named (signals l) (channel_of p))
      (λ d. no_way (rw (c, d) at h) refl)
      (λ d. rw (e, c, named_front (channel_of p) f d)))
      (λ c. no_way (rw c at h) refl))

  -- the cut that ends with the PDU is one
  pub ever_tried_core_law : Lawful C → (b : List Pdu) → All (WholeRecord C R.header) R.records → pdus_in R R.records ≡ a ++ p ∷ b → ever_tried_core ≡ true → TriedSomeCore
  unfolding ever_tried_core tried_by pdus_in pdus
  ever_tried_core_law L b w e t =
      let u : UpTo (C.packet R.header) nothing_open R.records a p = up_to (C.packet R.header) nothing_open R.records a p b e in
      let k : records_left R (C.head + length (flat (rows u.front))) ≡ u.front = front_cut L R u.front u.back u.whole w in
      let z : pdus_in R (records_left R (C.head + length (flat (rows u.front)))) ≡ a ++ (p ∷ []) = rw k u.are in
      record { n = C.head + length (flat (rows u.front)); rest = []; there = z; tried = rw z t }
