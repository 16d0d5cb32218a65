-- Each channel rule tries a data PDU of an honest recording in every cut that has it. Only this file knows what a rule says of channels.
use Prim.Native.Nat.{ℕ, ◌≤◌}
use mathlib.Core.Path.{◌≡◌, refl, sym, ◌∙◌}
use mathlib.Core.Logic.{◌≢◌}
use mathlib.Core.Bool.{Bool, true, false}
use mathlib.Core.List.{List, [], ◌∷◌, ◌++◌, append_assoc, cons≢nil}
use native.Mathlib.Omega.{arith}
use borrow.Author.Tests.{ne_eqb, le-leb}
use Rattle.laws.proofs.Choice.{split_b, no_way, split≤}
use Rattle.laws.specs.Lists.{All}
use Rattle.laws.specs.Keys.{Key}
use Rattle.laws.proofs.Keys.{eq_eq_k}
use Rattle.laws.specs.Keyed.{of}
use Rattle.items.specs.declared.Direction.{Direction}
use Rattle.items.specs.Items.{rx_of}
use Rattle.container.specs.Container.{Container}
use Rattle.l2cap.specs.Pdus.{Pdu}
use Rattle.channels.specs.Signals.{Signal, triple, signals}
use Rattle.channels.specs.Channels.{any, names, named, admits, admitted_after, admitted, channel_of, is_tried, asks_session}
use Rattle.channels.specs.Core.{holds}
use Rattle.channels.specs.Tried.{ChannelRule, source, core, tried_by}
use Rattle.rfcomm.specs.Pieces.{Judging}
use Rattle.cut.specs.Recording.{LinkOf, last, RecordingOf, Framing}
use Rattle.cut.specs.Left.{records_left, sent_in, Data, data_key, link_key, data_of, data_left}
use Rattle.cut.specs.Honest.{pdus_in, MarkedPdu, pdus_of, nothing_open, marked_pdus, DataPdu, Fragments, Channel, before, unnamed, Open, held, unheard, AtData, Channels, source_channels, core_channels, Honest}
use Rattle.cut.proofs.TwoParts.{Front, of_append, all_at}
use Rattle.cut.proofs.CutRecords.{records_front, records_grow}
use Rattle.cut.proofs.DataPdus.{sent_append, data_append, marked_front, pdus_front, data_in, data_in_append, cut_data}

signals_append : (a b : List Pdu) → signals (a ++ b) ≡ signals a ++ signals b
unfolding signals
signals_append [] b = refl
signals_append (p ∷ a) b = rw (signals_append a b, append_assoc)

any_front : {A : Type 0} (f : A → Bool) (a b : List A) → any f a ≡ true → any f (a ++ b) ≡ true
unfolding any
any_front f [] b h = no_way h refl
any_front f (x ∷ a) b h = split_b (f x) (λ e. rw e) (λ e. rw e (any_front f a b (rw e at h)))

after_front : (earlier a b : List Signal) (t : Key) → admitted_after earlier a t ≡ true → admitted_after earlier (a ++ b) t ≡ true
unfolding admitted_after
after_front earlier [] b t h = no_way h refl
after_front earlier (s ∷ a) b t h = split_b (admits earlier t s) (λ e. rw e) (λ e. rw e (after_front (s ∷ earlier) a b t (rw e at h)))

-- what a front of PDUs names and admits
pub named_front : {a b : List Pdu} (t : Key) → Front a b → named (signals b) t ≡ false → named (signals a) t ≡ false
unfolding named
named_front {a} {b} t f h =
    split_b (any (names t) (signals a))
    (λ e. no_way (any_front (names t) (signals a) (signals f.back) e) (rw (f.whole, signals_append a f.back) at h))
    (λ e. e)

pub admitted_front : {a b : List Pdu} (t : Key) → Front a b → admitted (signals a) t ≡ true → admitted (signals b) t ≡ true
unfolding admitted
admitted_front {a} {b} t f h = rw (f.whole, signals_append a f.back) (after_front [] (signals a) (signals f.back) t h)

-- ---- tried

pub tried_admitted : (ss : List Signal) (p : Pdu) → admitted ss (channel_of p) ≡ true → is_tried ss p ≡ true
unfolding is_tried
tried_admitted ss p h = rw h

pub tried_unnamed : (ss : List Signal) (p : Pdu) → 0x40 ≤ p.cid → named ss (channel_of p) ≡ false → is_tried ss p ≡ true
unfolding is_tried
tried_unnamed ss p c h = split_b (admitted ss (channel_of p)) (λ e. rw e) (λ e. rw (e, le-leb 0x40 p.cid c, h))

pub asks_not : (p : Pdu) → p.cid ≢ 1 → asks_session p ≡ false
unfolding asks_session
asks_not p n = rw (ne_eqb p.cid 1 n)

-- Bluetooth Core's rule
pub tried_held : (up_to all : List Pdu) (p : Pdu) → holds up_to (channel_of p) ≡ true → tried_by core up_to all p ≡ true
unfolding tried_by
tried_held up_to all p h = rw h

pub tried_unheard : (up_to all : List Pdu) (p : Pdu) → 0x40 ≤ p.cid → named (signals all) (channel_of p) ≡ false → tried_by core up_to all p ≡ true
unfolding tried_by
tried_unheard up_to all p c h = split_b (holds up_to (channel_of p)) (λ e. rw e) (λ e. rw (e, le-leb 0x40 p.cid c, h))

-- ---- a data PDU is tried in every cut that has it

-- All that the theorem asks of a channel rule: in every cut, each data PDU is tried at its place.
abbrev pub Tries : {C : Container} {S : Framing} → ChannelRule → RecordingOf C S → Type 0
Tries rule R =
    (n : ℕ) (a : List MarkedPdu) (p : Pdu) (i : List ℕ) (b : List MarkedPdu) → marked_pdus (sent_in R (records_left R n)) ≡ a ++ record { pdu = p; mark = last i } ∷ b → DataPdu R p i →
    tried_by rule (pdus_of a ++ (p ∷ [])) (pdus_in R (records_left R n)) p ≡ true

-- a shorter cut leaves a front of the data PDUs
data_front : {C : Container} {S : Framing} (R : RecordingOf C S) (m n : ℕ) → m ≤ n → Front (data_left R m) (data_left R n)
unfolding data_left
data_front {C} R m n h =
    let f : Front (records_left R m) (records_left R n) = records_grow R m n h in
    record {
      back = data_of (sent_in R f.back);
      whole = rw (f.whole, sent_append (C.packet R.header) (records_left R m) f.back) (data_append (sent_in R (records_left R m)) (sent_in R f.back));
    }

two : {a b a' b' : ℕ} → a ≡ a' → b ≡ b' → a ∷ b ∷ [] ≡ a' ∷ b' ∷ []
two p q = rw (p, q)

three : {a b c a' b' c' : ℕ} → a ≡ a' → b ≡ b' → c ≡ c' → triple a b c ≡ triple a' b' c'
three p q r = rw (p, q, r)

not_nil : (xs : List Data) (y : Data) (ys : List Data) → xs ++ y ∷ ys ≢ []
not_nil [] y ys e = cons≢nil e
not_nil (x ∷ xs) y ys e = cons≢nil e

nonempty_front : (k : Key) {xs ys : List Data} → Front xs ys → of data_key k ys ≡ [] → of data_key k xs ≡ []
nonempty_front k {xs} {ys} f e = nil_front (of data_key k xs) (of data_key k f.back) (rw (f.whole, of_append data_key k xs f.back) at e)
  where
    nil_front : (a b : List Data) → a ++ b ≡ [] → a ≡ []
    nil_front [] b q = refl
    nil_front (x ∷ a) b q = absurd (cons≢nil q)

module _ {C : Container} {S : Framing} (R : RecordingOf C S) (dynamic : All (λ (l : LinkOf S). (t : Direction) → 0x40 ≤ l.cid t) R.links) where
  cid_least : (p : Pdu) (i : List ℕ) (o : DataPdu R p i) → 0x40 ≤ p.cid
  cid_least p i o = rw o.channel (all_at o.listed dynamic o.direction)

  -- what nothing in the file names, nothing in a cut does
  unnamed_cut : (n : ℕ) (t : Key) → named (signals (pdus_in R R.records)) t ≡ false → named (signals (pdus_in R (records_left R n))) t ≡ false
  unnamed_cut n t u = named_front t (pdus_front R (records_front R n)) u

  -- the source's: what is admitted before a cut's data stays admitted
  source_tries : Fragments R nothing_open (sent_in R R.records) → All (λ (l : LinkOf S). (t : Direction) → Channel R l t) R.links → Tries source R
  unfolding tried_by data_in of
  source_tries fs cs n a p i b e o = go (all_at o.listed cs o.direction)
    where
      l : LinkOf S
      l = o.link

      t : Direction
      t = o.direction

      same_channel : triple l.handle (rx_of t) (l.cid t) ≡ channel_of p
      same_channel = three (sym o.handle) (sym o.way) (sym o.channel)

      same_key : link_key l t ≡ p.link ∷ p.rx ∷ []
      same_key = two (sym o.handle) (sym o.way)

      x : Data
      x = record { link = p.link; rx = p.rx; time = p.time; information = i }

      -- the PDU is one of the cut's data PDUs
      data_are : data_left R n ≡ data_in a ++ x ∷ data_in b
      data_are = sym (cut_data R n fs) ∙ rw e (data_in_append a (record { pdu = p; mark = last i } ∷ b))

      here : of data_key (p.link ∷ p.rx ∷ []) (data_left R n) ≢ []
      here q =
          let y : of data_key (p.link ∷ p.rx ∷ []) (data_in a) ++ of data_key (p.link ∷ p.rx ∷ []) (x ∷ data_in b) ≡ [] = rw (data_are, of_append data_key (p.link ∷ p.rx ∷ []) (data_in a) (x ∷ data_in b)) at q in
          not_nil (of data_key (p.link ∷ p.rx ∷ []) (data_in a)) x (of data_key (p.link ∷ p.rx ∷ []) (data_in b)) (rw (eq_eq_k (p.link ∷ p.rx ∷ []) (p.link ∷ p.rx ∷ []) refl) at y)

      go : Channel R l t → is_tried (signals (pdus_in R (records_left R n))) p ≡ true
      go (unnamed u) = tried_unnamed (signals (pdus_in R (records_left R n))) p (cid_least p i o) (unnamed_cut n (channel_of p) (rw same_channel at u))
      go (before m z w) =
          split≤ n m
          (λ h. absurd (here (nonempty_front (p.link ∷ p.rx ∷ []) (data_front R n m h) (rw same_key at z))))
          (λ h. tried_admitted (signals (pdus_in R (records_left R n))) p (admitted_front (channel_of p) (pdus_front R (records_grow R m n (omega arith))) (rw same_channel at w)))

  -- Bluetooth Core's: what holds at a PDU is the same in every cut that has the PDU
  core_tries : AtData R (Open R) → Tries core R
  core_tries cs n a p i b e o =
      let f : Front (marked_pdus (sent_in R (records_left R n))) (marked_pdus (sent_in R R.records)) = marked_front R (records_front R n) in
      go (cs a p i (b ++ f.back) (f.whole ∙ rw e (append_assoc a (record { pdu = p; mark = last i } ∷ b) f.back)))
    where
      go : Open R (pdus_of a ++ (p ∷ [])) p → tried_by core (pdus_of a ++ (p ∷ [])) (pdus_in R (records_left R n)) p ≡ true
      go (held h) = tried_held (pdus_of a ++ (p ∷ [])) (pdus_in R (records_left R n)) p h
      go (unheard u) = tried_unheard (pdus_of a ++ (p ∷ [])) (pdus_in R (records_left R n)) p (cid_least p i o) (unnamed_cut n (channel_of p) u)

  tries_by : (rule : ChannelRule) → Fragments R nothing_open (sent_in R R.records) → Channels R rule → Tries rule R
  tries_by source fs (source_channels cs) = source_tries fs cs
  tries_by core fs (core_channels cs) = core_tries cs

pub honest_tries : {C : Container} {S : Framing} (by : Judging) (R : RecordingOf C S) → Honest by R → Tries by.rule R
honest_tries by R H = tries_by R H.dynamic by.rule H.fragments H.channels
