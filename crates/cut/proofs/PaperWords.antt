-- Document 01's words where a rule says it otherwise: a request and its response admit both directions; tried in the file or any cut of it.
use Prim.Native.Nat.{ℕ, ◌+◌, ◌*◌}
use mathlib.Core.Path.{◌≡◌, refl, sym, ap, ◌∙◌}
use mathlib.Core.Bool.{Bool, true, false, not, ◌&&◌, ◌||◌}
use mathlib.Core.List.{List, [], ◌∷◌, ◌++◌, append_assoc, nil≢cons, head-eq_of_cons-eq, tail-eq_of_cons-eq}
use mathlib.Core.Option.{Option, none, some}
use native.Mathlib.Omega.{arith}
use lib.ListN.{length, length-append}
use lib.Dec.{leb}
use borrow.Author.Tests.{le-leb, lt-leb, leb-true}
use Rattle.laws.proofs.Choice.{split_b, no_way}
use Rattle.laws.specs.Chop.{chop, chop_from}
use Rattle.laws.specs.Lists.{flat, All, all_nil, all_cons}
use Rattle.laws.specs.Numbers.{le16}
use Rattle.laws.specs.Keys.{Key}
use Rattle.laws.proofs.Keys.{eq_eq_k}
use Rattle.laws.specs.Keyed.{of, run, step}
use Rattle.items.specs.declared.Direction.{Direction}
use Rattle.items.specs.declared.Direction.TheVariants.{Rx, Tx}
use Rattle.items.specs.Items.{rx_of}
use Rattle.container.specs.Container.{Container, Lawful}
use Rattle.container.specs.Packets.{Packet, packets}
use Rattle.l2cap.specs.Pdus.{Pdu, joined, is_complete, pdu_of, completed, packet_key, reassembly, pdus}
use Rattle.channels.specs.Signals.{Signal, request, response, command_size, is_command, commands, body, triple, opposite, signal_of, signals_in, pdu_signals, signals}
use Rattle.channels.specs.Channels.{any, asks_for, named, admits, admitted_after, admitted, channel_of, is_tried}
use Rattle.cut.specs.Recording.{Link, Record, Recording, rows, file}
use Rattle.cut.specs.Left.{left_from, records_left, data_key, link_key, data_left}
use Rattle.cut.specs.Honest.{pdus_in, nothing_open, Channel, before}
use Rattle.cut.proofs.TwoParts.{Front}
use Rattle.cut.proofs.CutRecords.{WholeRecord, whole_some, left_none, records_front, records_all}
use Rattle.cut.proofs.DataPdus.{pdus_front}
use Rattle.cut.proofs.Verdicts.{named_front, admitted_front, tried_admitted, tried_unnamed}

-- ---- a PSM 3 request and its successful response

-- on the wire, with any identifier: the request names the opposite direction's source, the response the opposite direction's destination
pub request_signal :
    (h rx time id s₀ s₁ : ℕ) →
    pdu_signals (record { link = h; rx = rx; time = time; cid = 1; payload = 0x02 ∷ id ∷ 4 ∷ 0 ∷ 3 ∷ 0 ∷ s₀ ∷ s₁ ∷ [] }) ≡ request (triple h (opposite rx) (s₀ + 256 * s₁)) 3 ∷ []
unfolding pdu_signals commands chop chop_from is_command command_size signals_in signal_of body le16
request_signal h rx time id s₀ s₁ = refl

pub response_signal :
    (h rx time id d₀ d₁ s₀ s₁ x y : ℕ) →
    pdu_signals (record { link = h; rx = rx; time = time; cid = 1; payload = 0x03 ∷ id ∷ 8 ∷ 0 ∷ d₀ ∷ d₁ ∷ s₀ ∷ s₁ ∷ 0 ∷ 0 ∷ x ∷ y ∷ [] }) ≡
    response (triple h (opposite rx) (d₀ + 256 * d₁)) (triple h rx (s₀ + 256 * s₁)) true ∷ []
unfolding pdu_signals commands chop chop_from is_command command_size signals_in signal_of body le16
response_signal h rx time id d₀ d₁ s₀ s₁ x y = refl

or_true : (b : Bool) → b || true ≡ true
or_true true = refl
or_true false = refl

-- after a request, a response to it is admitted, whatever stands between and before
later_response : (earlier a : List Signal) (k k' : Key) (c : List Signal) → any (asks_for k) earlier ≡ true → admitted_after earlier (a ++ response k' k true ∷ c) k' ≡ true
unfolding admitted_after admits any
later_response earlier [] k k' c e = rw (eq_eq_k k' k' refl, e)
later_response earlier (s ∷ a) k k' c e = rw (later_response (s ∷ earlier) a k k' c (rw e (or_true (asks_for k s)))) (or_true (admits earlier k' s))

asked_first : (earlier a : List Signal) (k : Key) (c : List Signal) → admitted_after earlier (a ++ request k 3 ∷ c) k ≡ true
unfolding admitted_after admits
asked_first earlier [] k c = rw (eq_eq_k k k refl)
asked_first earlier (s ∷ a) k c = rw (asked_first (s ∷ earlier) a k c) (or_true (admits earlier k s))

answered : (earlier a : List Signal) (k k' : Key) (b c : List Signal) → admitted_after earlier (a ++ request k 3 ∷ (b ++ response k' k true ∷ c)) k' ≡ true
unfolding admitted_after any asks_for
answered earlier [] k k' b c = rw (later_response (request k 3 ∷ earlier) b k k' c (rw (eq_eq_k k k refl))) (or_true (admits earlier k' (request k 3)))
answered earlier (s ∷ a) k k' b c = rw (answered (s ∷ earlier) a k k' b c) (or_true (admits earlier k' s))

-- both channels are admitted
pub admits_both :
    (a b c : List Signal) (k k' : Key) →
    (admitted (a ++ request k 3 ∷ (b ++ response k' k true ∷ c)) k ≡ true) × (admitted (a ++ request k 3 ∷ (b ++ response k' k true ∷ c)) k' ≡ true)
unfolding admitted
admits_both a b c k k' = (asked_first [] a k (b ++ response k' k true ∷ c), answered [] a k k' b c)

abbrev pub other : Direction → Direction
other Rx = Tx
other Tx = Rx

-- document 01's rule: in some cut a PSM 3 request for the link's CID in one direction and its successful response with the CID in the other are complete, and none of its data PDUs is
pub record Asked {C : Container} (R : Recording C) (l : Link) : Type 0 where
  pub n : ℕ
  pub quiet : (t : Direction) → of data_key (link_key l t) (data_left R n) ≡ []
  pub asks : Direction
  pub a : List Signal
  pub b : List Signal
  pub c : List Signal
  pub are :
      signals (pdus_in R (records_left R n)) ≡
      a ++ request (triple l.handle (rx_of asks) (l.cid asks)) 3 ∷
      (b ++ response (triple l.handle (rx_of (other asks)) (l.cid (other asks))) (triple l.handle (rx_of asks) (l.cid asks)) true ∷ c)

-- it gives the rule on channels, for both directions
pub asked_channels : {C : Container} (R : Recording C) (l : Link) → Asked R l → (t : Direction) → Channel R l t
asked_channels R l q t = before q.n (q.quiet t) (rw q.are (go q.asks t))
  where
    go : (s t : Direction) →
        admitted (q.a ++ request (triple l.handle (rx_of s) (l.cid s)) 3 ∷ (q.b ++ response (triple l.handle (rx_of (other s)) (l.cid (other s))) (triple l.handle (rx_of s) (l.cid s)) true ∷ q.c))
        (triple l.handle (rx_of t) (l.cid t)) ≡ true
    go Rx Rx = (admits_both q.a q.b q.c (triple l.handle (rx_of Rx) (l.cid Rx)) (triple l.handle (rx_of Tx) (l.cid Tx))).0
    go Rx Tx = (admits_both q.a q.b q.c (triple l.handle (rx_of Rx) (l.cid Rx)) (triple l.handle (rx_of Tx) (l.cid Tx))).1
    go Tx Rx = (admits_both q.a q.b q.c (triple l.handle (rx_of Tx) (l.cid Tx)) (triple l.handle (rx_of Rx) (l.cid Rx))).1
    go Tx Tx = (admits_both q.a q.b q.c (triple l.handle (rx_of Tx) (l.cid Tx)) (triple l.handle (rx_of Rx) (l.cid Rx))).0

-- ---- tried in the file or any cut of it

-- a front of the records is a cut
left_front : {C : Container} → Lawful C → (h : List ℕ) (at : ℕ) (f g : List Record) → All (WholeRecord C h) (f ++ g) → left_from at (at + length (flat (rows f))) (f ++ g) ≡ f
unfolding left_from
left_front L h at [] [] all_nil = refl
left_front L h at [] (r ∷ g) (all_cons w ws) =
    rw (lt-leb (at + length r.bytes) (at + 0) (omega (arith, whole_some L h r w))) (left_none (at + length r.bytes) (at + 0) g (omega (arith, whole_some L h r w)))
left_front L h at (r ∷ f) g (all_cons w ws) =
    let e : at + length (flat (rows (r ∷ f))) ≡ at + length r.bytes + length (flat (rows f)) = omega (arith, length-append r.bytes (flat (rows f))) in
    rw (e, le-leb (at + length r.bytes) (at + length r.bytes + length (flat (rows f))) (omega arith), left_front L h (at + length r.bytes) f g ws)

pub front_cut : {C : Container} → Lawful C → (R : Recording C) (f g : List Record) → R.records ≡ f ++ g → All (WholeRecord C R.header) R.records → records_left R (C.head + length (flat (rows f))) ≡ f
unfolding records_left
front_cut {C} L R f g e w = rw e (left_front L R.header C.head f g (rw e at w))

-- some records in front complete the PDUs up to one of them: a record completes at most one
pub record UpTo (read : List ℕ → Option Packet) (m : Key → Option (List ℕ)) (rs : List Record) (a : List Pdu) (p : Pdu) : Type 0 where
  pub front : List Record
  pub back : List Record
  pub whole : rs ≡ front ++ back
  pub are : run reassembly m (packets read (rows front)) ≡ a ++ (p ∷ [])

completed_cases : {G : Type 0} (o : Option (List ℕ)) (x : Packet) → (completed o x ≡ [] → G) → ((q : Pdu) → completed o x ≡ q ∷ [] → G) → G
unfolding completed
completed_cases none x f g = f refl
completed_cases (some b) x f g = split_b (is_complete b) (λ e. g (pdu_of b x) (rw e)) (λ e. f (rw e))

module _ (read : List ℕ → Option Packet) where
  pub up_to : (m : Key → Option (List ℕ)) (rs : List Record) (a : List Pdu) (p : Pdu) (b : List Pdu) → run reassembly m (packets read (rows rs)) ≡ a ++ p ∷ b → UpTo read m rs a p
  unfolding run packets
  up_to m [] [] p b e = absurd (nil≢cons e)
  up_to m [] (x ∷ a) p b e = absurd (nil≢cons e)
  up_to m (r ∷ rs) a p b e = by_packet (read r.bytes) refl (λ m' a' e'. up_to m' rs a' p b e')
    where
      Next : Type 0
      Next = (m' : Key → Option (List ℕ)) (a' : List Pdu) → run reassembly m' (packets read (rows rs)) ≡ a' ++ p ∷ b → UpTo read m' rs a' p

      one : (x : Packet) (q : Pdu) → read r.bytes ≡ some x → completed (joined (m (packet_key x)) x) x ≡ q ∷ [] → Next → (a : List Pdu) → q ∷ run reassembly (step reassembly m x) (packets read (rows rs)) ≡ a ++ p ∷ b → UpTo read m (r ∷ rs) a p
      one x q k z ih [] e = let h : q ≡ p = head-eq_of_cons-eq e in record { front = r ∷ []; back = rs; whole = refl; are = rw (k, z, h) }
      one x q k z ih (c ∷ a) e =
          let h : q ≡ c = head-eq_of_cons-eq e in
          let u : UpTo read (step reassembly m x) rs a p = ih (step reassembly m x) a (tail-eq_of_cons-eq e) in
          record { front = r ∷ u.front; back = u.back; whole = ap (λ (l : List Record). r ∷ l) u.whole; are = rw (k, z, u.are, h) }

      by_packet : (k : Option Packet) → read r.bytes ≡ k → Next → UpTo read m (r ∷ rs) a p
      by_packet none k ih =
          let u : UpTo read m rs a p = ih m a (rw k at e) in
          record { front = r ∷ u.front; back = u.back; whole = ap (λ (l : List Record). r ∷ l) u.whole; are = rw k u.are }
      by_packet (some x) k ih =
          completed_cases (joined (m (packet_key x)) x) x
          (λ z.
          let u : UpTo read (step reassembly m x) rs a p = ih (step reassembly m x) a (rw (k, z) at e) in
          record { front = r ∷ u.front; back = u.back; whole = ap (λ (l : List Record). r ∷ l) u.whole; are = rw (k, z) u.are })
          (λ q z. one x q k z ih a (rw (k, z) at e))

module _ {C : Container} (R : Recording C) (a : List Pdu) (p : Pdu) where
  -- admitted in the whole file; or its CID is at least 0x40 and no PDU up to and with this one names it
  unfoldable pub ever_tried : Bool
  ever_tried = admitted (signals (pdus_in R R.records)) (channel_of p) || (leb 0x40 p.cid && not (named (signals (a ++ (p ∷ []))) (channel_of p)))

  -- a cut that has the PDU, after the PDUs a, has it tried
  pub record TriedSome : Type 0 where
    pub n : ℕ
    pub rest : List Pdu
    pub there : pdus_in R (records_left R n) ≡ a ++ p ∷ rest
    pub tried : is_tried (signals (pdus_in R (records_left R n))) p ≡ true

  pub tried_ever : TriedSome → ever_tried ≡ true
  unfolding ever_tried is_tried
  tried_ever t =
      let l : List Pdu = pdus_in R (records_left R t.n) in
      split_b (admitted (signals l) (channel_of p))
      (λ e. rw (admitted_front (channel_of p) (pdus_front R (records_front R t.n)) e))
      (λ e.
      let h : leb 0x40 p.cid && not (named (signals l) (channel_of p)) ≡ true = rw e at t.tried in
      let f : Front (a ++ (p ∷ [])) l = record { back = t.rest; whole = t.there ∙ sym (append_assoc a (p ∷ []) t.rest) } in
      split_b (leb 0x40 p.cid)
      (λ c. split_b (named (signals l) (channel_of p))
      (λ d. no_way (rw (c, d) at h) refl)
      (λ d. rw (c, named_front (channel_of p) f d) (or_true (admitted (signals (pdus_in R R.records)) (channel_of p)))))
      (λ c. no_way (rw c at h) refl))

  pub ever_tried_law : Lawful C → (b : List Pdu) → length R.header ≡ C.head → All (WholeRecord C R.header) R.records → pdus_in R R.records ≡ a ++ p ∷ b → ever_tried ≡ true → TriedSome
  unfolding ever_tried pdus_in pdus
  ever_tried_law L b l w e t =
      split_b (admitted (signals (pdus_in R R.records)) (channel_of p))
      (λ d.
      record { n = length (file R); rest = b; there = rw (records_all R l) e; tried = rw (records_all R l) (tried_admitted (signals (pdus_in R R.records)) p d) })
      (λ d. split_b (leb 0x40 p.cid)
      (λ c. split_b (named (signals (a ++ (p ∷ []))) (channel_of p))
      (λ q. no_way (rw (d, c, q) at t) refl)
      (λ q.
      let u : UpTo (C.packet R.header) nothing_open R.records a p = up_to (C.packet R.header) nothing_open R.records a p b e in
      let k : records_left R (C.head + length (flat (rows u.front))) ≡ u.front = front_cut L R u.front u.back u.whole w in
      let z : pdus_in R (records_left R (C.head + length (flat (rows u.front)))) ≡ a ++ (p ∷ []) = rw k u.are in
      record { n = C.head + length (flat (rows u.front)); rest = []; there = z; tried = rw z (tried_unnamed (signals (a ++ (p ∷ []))) p (leb-true 0x40 p.cid c) q) }))
      (λ c. no_way (rw (d, c) at t) refl))
