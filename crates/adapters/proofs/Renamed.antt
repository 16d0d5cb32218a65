-- Links renamed one to one: import gives the same. Every key of the import has the link first, and no answer has a link in it.
use Prim.Native.Nat.{ℕ}
use mathlib.Core.Path.{◌≡◌, refl, sym, ap, ◌∙◌, fun_ext}
use mathlib.Core.Bool.{Bool, false, cond, ◌&&◌}
use mathlib.Core.List.{List, [], ◌∷◌, ◌++◌, map, map-append}
use mathlib.Core.Option.{Option, none, some}
use lib.ListN.{length}
use lib.Dec.{leb, ltb, eqb}
use borrow.Author.Tests.{eq-eqb, ne_eqb}
use Rattle.laws.proofs.Choice.{split_b, split≡}
use Rattle.laws.specs.Keys.{Key, eq_k}
use Rattle.laws.specs.Keyed.{Machine, step, run, after}
use Rattle.laws.specs.Count.{mem, nub, count}
use Rattle.laws.specs.Totals.{total}
use Rattle.laws.proofs.Totals.{total_map, total_same}
use Rattle.laws.specs.Numbers.{le16}
use Rattle.container.specs.Packets.{Packet}
use Rattle.container.specs.Container.{Container, tail_offset, packets_in}
use Rattle.l2cap.specs.Pdus.{Pdu, joined, is_complete, pdu_of, completed, reassembly, pdus}
use Rattle.channels.specs.Signals.{commands, code, body, Signal, request, response, signal_of, signals_in, pdu_signals, signals}
use Rattle.channels.specs.Channels.{any, names, named, asks_for, admits, admitted_after, admitted, channel_of, is_tried, asks_session}
use Rattle.channels.specs.Core.{CoreSignal, connects, succeeds, disconnects, core_signal_of, core_signals_in, pdu_core_signals, core_signals}
use Rattle.channels.specs.Core.{Event, latest, both_hold, events_of, events_after, events, holds_after, holds}
use Rattle.channels.specs.Tried.{ChannelRule, source, core, tried_by}
use Rattle.rfcomm.specs.Pieces.{Kind, asks, opens, carries, wrong, passed, Judging, kind_by, Judged, judged_from, judged_by, kinds, wrong_on}
use Rattle.rfcomm.specs.Pieces.{Counts, Piece, piece_of, brought, counting, no_counts, pieces}
use Rattle.spans.specs.Scan.{rest_of}
use Rattle.spans.specs.Spans.{scanner, emptied, spans, unfinished, on_dlci}
use Rattle.spans.specs.Account.{dropped_of, cleared_of, weighing, in_spans, dropped, cleared, left, account_of}
use Rattle.outcome.specs.Import.{Options, on_channel, first, has_frame, chosen, listed, file_pieces, file_wrong, read}
use Rattle.adapters.specs.Links.{relinked}

module _ (ρ : ℕ → ℕ) (one : (x y : ℕ) → ρ x ≡ ρ y → x ≡ y) where
  -- ---- keys

  unfoldable pub keyed : Key → Key
  keyed [] = []
  keyed (l ∷ k) = ρ l ∷ k

  eqb_same : (x y : ℕ) → eqb (ρ x) (ρ y) ≡ eqb x y
  eqb_same x y =
      split≡ x y
      (λ e. rw (eq-eqb (ρ x) (ρ y) (ap ρ e), eq-eqb x y e))
      (λ n. rw (ne_eqb (ρ x) (ρ y) (λ q. n (one x y q)), ne_eqb x y n))

  eq_k_same : (a b : Key) → eq_k (keyed a) (keyed b) ≡ eq_k a b
  unfolding eq_k keyed
  eq_k_same [] [] = refl
  eq_k_same [] (y ∷ ys) = refl
  eq_k_same (x ∷ xs) [] = refl
  eq_k_same (x ∷ xs) (y ∷ ys) = rw (eqb_same x y)

  -- ---- keyed machines

  -- f renames an input, G the outputs
  pub record Renames {X Y : Type 0} (M : Machine X Y) (f : X → X) (G : List Y → List Y) : Type 0 where
    pub key : (x : X) → M.key (f x) ≡ keyed (M.key x)
    pub next : (s : M.S) (x : X) → M.next s (f x) ≡ M.next s x
    pub out : (s : M.S) (x : X) → M.out s (f x) ≡ G (M.out s x)
    pub empty : G [] ≡ []
    pub joins : (a b : List Y) → G (a ++ b) ≡ G a ++ G b

  module _ {X Y : Type 0} (M : Machine X Y) (f : X → X) (G : List Y → List Y) (R : Renames M f G) where
    step_renamed :
        (m n : Key → M.S) → ((k : Key) → n (keyed k) ≡ m k) → (x : X) (k : Key) →
        step M n (f x) (keyed k) ≡ step M m x k
    step_renamed m n same x k = rw (R.key x, eq_k_same k (M.key x), same (M.key x), same k, R.next (m (M.key x)) x)

    run_renamed :
        (m n : Key → M.S) → ((k : Key) → n (keyed k) ≡ m k) → (xs : List X) →
        run M n (map f xs) ≡ G (run M m xs)
    unfolding run
    run_renamed m n same [] = sym R.empty
    run_renamed m n same (x ∷ xs) =
        let o : M.out (n (M.key (f x))) (f x) ≡ G (M.out (m (M.key x)) x) = rw (R.key x, same (M.key x)) (R.out (m (M.key x)) x) in
        rw (o, run_renamed (step M m x) (step M n (f x)) (step_renamed m n same x) xs)
        (sym (R.joins (M.out (m (M.key x)) x) (run M (step M m x) xs)))

    after_renamed :
        (m n : Key → M.S) → ((k : Key) → n (keyed k) ≡ m k) → (xs : List X) (k : Key) →
        after M n (map f xs) (keyed k) ≡ after M m xs k
    unfolding after
    after_renamed m n same [] k = same k
    after_renamed m n same (x ∷ xs) k = after_renamed (step M m x) (step M n (f x)) (step_renamed m n same x) xs k

  -- step and output do not look at what f renames
  pub record Blind {X Y : Type 0} (M : Machine X Y) (f : X → X) : Type 0 where
    pub key : (x : X) → M.key (f x) ≡ keyed (M.key x)
    pub next : (s : M.S) (x : X) → M.next s (f x) ≡ M.next s x
    pub out : (s : M.S) (x : X) → M.out s (f x) ≡ M.out s x

  -- Such a machine, begun in one state at every key, puts out the same, and each key's state is the same.
  module _ {X Y : Type 0} (M : Machine X Y) (f : X → X) (B : Blind M f) (s : M.S) where
    blind : Renames M f (λ ys. ys)
    blind = record { key = B.key; next = B.next; out = B.out; empty = refl; joins = λ a b. refl }

    pub outputs_same : (xs : List X) → run M (λ k. s) (map f xs) ≡ run M (λ k. s) xs
    outputs_same xs = run_renamed M f (λ ys. ys) blind (λ k. s) (λ k. s) (λ k. refl) xs

    pub states_same : (xs : List X) (k : Key) → after M (λ j. s) (map f xs) (keyed k) ≡ after M (λ j. s) xs k
    states_same xs k = after_renamed M f (λ ys. ys) blind (λ j. s) (λ j. s) (λ j. refl) xs k

  -- ---- different keys

  mem_same : (k : Key) (ks : List Key) → mem (keyed k) (map keyed ks) ≡ mem k ks
  unfolding mem
  mem_same k [] = refl
  mem_same k (j ∷ ks) = rw (eq_k_same k j, mem_same k ks)

  nub_same : (ks : List Key) → nub (map keyed ks) ≡ map keyed (nub ks)
  unfolding nub
  nub_same [] = refl
  nub_same (k ∷ ks) = split_b (mem k ks) (λ e. rw (mem_same k ks, e) (nub_same ks)) (λ e. rw (mem_same k ks, e, nub_same ks))

  count_same : (p q : Key → Bool) → ((k : Key) → p (keyed k) ≡ q k) → (ks : List Key) → count p (map keyed ks) ≡ count q ks
  unfolding count
  count_same p q h [] = refl
  count_same p q h (k ∷ ks) = rw (h k, count_same p q h ks)

  -- a count over the different keys of a list, and a sum
  pub nub_count : (p q : Key → Bool) → ((k : Key) → p (keyed k) ≡ q k) → (ks : List Key) → count p (nub (map keyed ks)) ≡ count q (nub ks)
  nub_count p q h ks = rw (nub_same ks) (count_same p q h (nub ks))

  pub nub_total : (f g : Key → ℕ) → ((k : Key) → f (keyed k) ≡ g k) → (ks : List Key) → total f (nub (map keyed ks)) ≡ total g (nub ks)
  nub_total f g h ks = rw (nub_same ks) (total_map f keyed (nub ks) ∙ total_same (λ k. f (keyed k)) g h (nub ks))

  -- ---- PDUs

  abbrev pub packet : Packet → Packet
  packet a = relinked ρ a

  abbrev pub pdu : Pdu → Pdu
  pdu p = record { link = ρ p.link; rx = p.rx; time = p.time; cid = p.cid; payload = p.payload }

  joined_same : (s : Option (List ℕ)) (a : Packet) → joined s (packet a) ≡ joined s a
  unfolding joined
  joined_same none a = refl
  joined_same (some b) a = refl

  completed_same : (o : Option (List ℕ)) (a : Packet) → completed o (packet a) ≡ map pdu (completed o a)
  unfolding completed pdu_of
  completed_same none a = refl
  completed_same (some b) a = split_b (is_complete b) (λ e. rw e) (λ e. rw e)

  reassembling : Renames reassembly packet (map pdu)
  unfolding keyed
  reassembling = record {
    key = λ a. refl;
    next = λ s a. rw (joined_same s a);
    out = λ s a. rw (joined_same s a) (completed_same (joined s a) a);
    empty = refl;
    joins = map-append pdu;
  }

  pub pdus_renamed : (ps : List Packet) → pdus (map packet ps) ≡ map pdu (pdus ps)
  unfolding pdus
  pdus_renamed ps = run_renamed reassembly packet (map pdu) reassembling (λ k. none) (λ k. none) (λ k. refl) ps

  -- ---- signals

  unfoldable pub signal : Signal → Signal
  signal (request k psm) = request (keyed k) psm
  signal (response k asked ok) = response (keyed k) (keyed asked) ok

  signal_of_law : (l rx : ℕ) (c : List ℕ) → signal_of (ρ l) rx c ≡ map signal (signal_of l rx c)
  unfolding signal_of signal keyed
  signal_of_law l rx c =
      split_b (leb 4 (length (body c)))
      (λ a. split_b (eqb (code c) 0x02) (λ b. rw (a, b)) (λ b. split_b (eqb (code c) 0x03) (λ d. rw (a, b, d)) (λ d. rw (a, b, d))))
      (λ a. rw a)

  signals_in_law : (l rx : ℕ) (cs : List (List ℕ)) → signals_in (ρ l) rx cs ≡ map signal (signals_in l rx cs)
  unfolding signals_in
  signals_in_law l rx [] = refl
  signals_in_law l rx (c ∷ cs) = rw (signal_of_law l rx c, signals_in_law l rx cs, map-append signal (signal_of l rx c) (signals_in l rx cs))

  pdu_signals_law : (p : Pdu) → pdu_signals (pdu p) ≡ map signal (pdu_signals p)
  unfolding pdu_signals
  pdu_signals_law p = split_b (eqb p.cid 1) (λ e. rw e (signals_in_law p.link p.rx (commands p.payload))) (λ e. rw e)

  signals_same : (ps : List Pdu) → signals (map pdu ps) ≡ map signal (signals ps)
  unfolding signals
  signals_same [] = refl
  signals_same (p ∷ ps) = rw (pdu_signals_law p, signals_same ps, map-append signal (pdu_signals p) (signals ps))

  any_same : {A : Type 0} (g : A → A) (p q : A → Bool) → ((x : A) → p (g x) ≡ q x) → (xs : List A) → any p (map g xs) ≡ any q xs
  unfolding any
  any_same g p q h [] = refl
  any_same g p q h (x ∷ xs) = rw (h x, any_same g p q h xs)

  names_same : (t : Key) (s : Signal) → names (keyed t) (signal s) ≡ names t s
  unfolding names signal
  names_same t (request k psm) = eq_k_same t k
  names_same t (response k asked ok) = eq_k_same t k

  named_same : (ss : List Signal) (t : Key) → named (map signal ss) (keyed t) ≡ named ss t
  unfolding named
  named_same ss t = any_same signal (names (keyed t)) (names t) (names_same t) ss

  asks_for_law : (t : Key) (s : Signal) → asks_for (keyed t) (signal s) ≡ asks_for t s
  unfolding asks_for signal
  asks_for_law t (request k psm) = rw (eq_k_same t k)
  asks_for_law t (response k asked ok) = refl

  admits_same : (earlier : List Signal) (t : Key) (s : Signal) → admits (map signal earlier) (keyed t) (signal s) ≡ admits earlier t s
  unfolding admits signal
  admits_same earlier t (request k psm) = rw (eq_k_same t k)
  admits_same earlier t (response k asked ok) = rw (eq_k_same t k, any_same signal (asks_for (keyed asked)) (asks_for asked) (asks_for_law asked) earlier)

  admitted_after_law : (earlier ss : List Signal) (t : Key) → admitted_after (map signal earlier) (map signal ss) (keyed t) ≡ admitted_after earlier ss t
  unfolding admitted_after
  admitted_after_law earlier [] t = refl
  admitted_after_law earlier (s ∷ ss) t = rw (admits_same earlier t s, admitted_after_law (s ∷ earlier) ss t)

  tried_same : (ss : List Signal) (p : Pdu) → is_tried (map signal ss) (pdu p) ≡ is_tried ss p
  unfolding is_tried admitted keyed
  tried_same ss p = rw (admitted_after_law [] ss (channel_of p), named_same ss (channel_of p))

  -- ---- by Bluetooth Core's rule

  unfoldable pub core_signal : CoreSignal → CoreSignal
  core_signal (connects k psm asker) = connects (keyed k) psm (keyed asker)
  core_signal (succeeds k destination) = succeeds (keyed k) (keyed destination)
  core_signal (disconnects destination other) = disconnects (keyed destination) (keyed other)

  core_of : (l rx : ℕ) (c : List ℕ) → core_signal_of (ρ l) rx c ≡ map core_signal (core_signal_of l rx c)
  unfolding core_signal_of core_signal keyed
  core_of l rx c =
      split_b (leb 4 (length (body c)))
      (λ a. split_b (eqb (code c) 0x02) (λ b. rw (a, b))
      (λ b. split_b (eqb (code c) 0x03 && (leb 6 (length (body c)) && eqb (le16 (body c) 4) 0)) (λ d. rw (a, b, d))
      (λ d. split_b (eqb (code c) 0x07) (λ e. rw (a, b, d, e)) (λ e. rw (a, b, d, e)))))
      (λ a. rw a)

  core_in : (l rx : ℕ) (cs : List (List ℕ)) → core_signals_in (ρ l) rx cs ≡ map core_signal (core_signals_in l rx cs)
  unfolding core_signals_in
  core_in l rx [] = refl
  core_in l rx (c ∷ cs) = rw (core_of l rx c, core_in l rx cs, map-append core_signal (core_signal_of l rx c) (core_signals_in l rx cs))

  core_pdu : (p : Pdu) → pdu_core_signals (pdu p) ≡ map core_signal (pdu_core_signals p)
  unfolding pdu_core_signals
  core_pdu p = split_b (eqb p.cid 1) (λ e. rw e (core_in p.link p.rx (commands p.payload))) (λ e. rw e)

  core_same : (ps : List Pdu) → core_signals (map pdu ps) ≡ map core_signal (core_signals ps)
  unfolding core_signals
  core_same [] = refl
  core_same (p ∷ ps) = rw (core_pdu p, core_same ps, map-append core_signal (pdu_core_signals p) (core_signals ps))

  unfoldable pub maybe : Option Key → Option Key
  maybe none = none
  maybe (some k) = some (keyed k)

  abbrev pub event : Event → Event
  event e = record { channel = keyed e.channel; holding = e.holding }

  latest_same : (k : Key) (earlier : List CoreSignal) → latest (keyed k) (map core_signal earlier) ≡ maybe (latest k earlier)
  unfolding latest core_signal maybe
  latest_same k [] = refl
  latest_same k (connects j psm asker ∷ earlier) =
      split_b (eq_k k j)
      (λ e. split_b (eqb psm 3) (λ q. rw (eq_k_same k j, e, q)) (λ q. rw (eq_k_same k j, e, q)))
      (λ e. rw (eq_k_same k j, e) (latest_same k earlier))
  latest_same k (succeeds j destination ∷ earlier) = latest_same k earlier
  latest_same k (disconnects destination other ∷ earlier) = latest_same k earlier

  both_hold_law : (o : Option Key) (k : Key) → both_hold (maybe o) (keyed k) ≡ map event (both_hold o k)
  unfolding both_hold maybe
  both_hold_law none k = refl
  both_hold_law (some j) k = refl

  events_of_law : (earlier : List CoreSignal) (s : CoreSignal) → events_of (map core_signal earlier) (core_signal s) ≡ map event (events_of earlier s)
  unfolding events_of core_signal
  events_of_law earlier (connects k psm asker) = refl
  events_of_law earlier (succeeds k destination) = rw (latest_same k earlier) (both_hold_law (latest k earlier) destination)
  events_of_law earlier (disconnects destination other) = refl

  events_after_law : (earlier ss : List CoreSignal) → events_after (map core_signal earlier) (map core_signal ss) ≡ map event (events_after earlier ss)
  unfolding events_after
  events_after_law earlier [] = refl
  events_after_law earlier (s ∷ ss) =
      rw (events_of_law earlier s, events_after_law (s ∷ earlier) ss, map-append event (events_of earlier s) (events_after (s ∷ earlier) ss))

  holds_after_law : (held : Bool) (es : List Event) (t : Key) → holds_after held (map event es) (keyed t) ≡ holds_after held es t
  unfolding holds_after
  holds_after_law held [] t = refl
  holds_after_law held (e ∷ es) t =
      let q : cond (eq_k (keyed t) (keyed e.channel)) e.holding held ≡ cond (eq_k t e.channel) e.holding held = rw (eq_k_same t e.channel) in
      ap (λ (b : Bool). holds_after b (map event es) (keyed t)) q ∙ holds_after_law (cond (eq_k t e.channel) e.holding held) es t

  holds_same : (ps : List Pdu) (t : Key) → holds (map pdu ps) (keyed t) ≡ holds ps t
  unfolding holds events
  holds_same ps t = rw (core_same ps, events_after_law [] (core_signals ps)) (holds_after_law false (events_after [] (core_signals ps)) t)

  -- ---- judged

  tried_by_law : (rule : ChannelRule) (up_to all : List Pdu) (p : Pdu) → tried_by rule (map pdu up_to) (map pdu all) (pdu p) ≡ tried_by rule up_to all p
  unfolding tried_by keyed
  tried_by_law source up_to all p = rw (signals_same all) (tried_same (signals all) p)
  tried_by_law core up_to all p = rw (signals_same all, holds_same up_to (channel_of p), named_same (signals all) (channel_of p))

  asks_same : (p : Pdu) → asks_session (pdu p) ≡ asks_session p
  unfolding asks_session
  asks_same p = refl

  kind_same : (by : Judging) (up_to all : List Pdu) (p : Pdu) → kind_by by (map pdu up_to) (map pdu all) (pdu p) ≡ kind_by by up_to all p
  unfolding kind_by
  kind_same by up_to all p = rw (asks_same p, tried_by_law by.rule up_to all p)

  abbrev pub judgement : Judged → Judged
  judgement j = record { pdu = pdu j.pdu; kind = j.kind }

  judged_from_law :
      (by : Judging) (all before ps : List Pdu) →
      judged_from by (map pdu all) (map pdu before) (map pdu ps) ≡ map judgement (judged_from by all before ps)
  unfolding judged_from
  judged_from_law by all before [] = refl
  judged_from_law by all before (p ∷ ps) =
      let e : map pdu before ++ (pdu p ∷ []) ≡ map pdu (before ++ (p ∷ [])) = sym (map-append pdu before (p ∷ [])) in
      rw (e, kind_same by (before ++ (p ∷ [])) all p, judged_from_law by all (before ++ (p ∷ [])) ps)

  pub judged_renamed : (by : Judging) (ps : List Packet) → judged_by by (pdus (map packet ps)) ≡ map judgement (judged_by by (pdus ps))
  unfolding judged_by
  judged_renamed by ps = rw (pdus_renamed ps) (judged_from_law by (pdus ps) [] (pdus ps))

  -- ---- frames with a wrong FCS

  kinds_same : (js : List Judged) → kinds (map judgement js) ≡ kinds js
  kinds_same [] = refl
  kinds_same (j ∷ js) = rw (kinds_same js)

  pub wrongs_renamed :
      (by : Judging) (ps : List Packet) (d : ℕ) →
      wrong_on d (kinds (judged_by by (pdus (map packet ps)))) ≡ wrong_on d (kinds (judged_by by (pdus ps)))
  wrongs_renamed by ps d = rw (judged_renamed by ps, kinds_same (judged_by by (pdus ps)))

  -- ---- pieces

  abbrev pub piece : Piece → Piece
  piece p = record { dlci = p.dlci; key = keyed p.key; rx = p.rx; time = p.time; bytes = p.bytes }

  brought_same : (c : Counts) (p : Pdu) (k : Kind) → brought c (pdu p) k ≡ map piece (brought c p k)
  unfolding brought piece_of keyed
  brought_same c p asks = refl
  brought_same c p (opens e) = refl
  brought_same c p (carries e i) = refl
  brought_same c p (wrong e) = refl
  brought_same c p passed = refl

  counts : Renames counting judgement (map piece)
  unfolding keyed
  counts = record {
    key = λ j. refl;
    next = λ c j. refl;
    out = λ c j. brought_same c j.pdu j.kind;
    empty = refl;
    joins = map-append piece;
  }

  pub pieces_renamed :
      (by : Judging) (ps : List Packet) →
      pieces (judged_by by (pdus (map packet ps))) ≡ map piece (pieces (judged_by by (pdus ps)))
  unfolding pieces
  pieces_renamed by ps =
      rw (judged_renamed by ps)
      (run_renamed counting judgement (map piece) counts no_counts no_counts (λ k. refl) (judged_by by (pdus ps)))

  -- ---- spans

  scans : Blind scanner piece
  scans = record { key = λ p. refl; next = λ b p. refl; out = λ b p. refl }

  spans_same : (ps : List Piece) → spans (map piece ps) ≡ spans ps
  unfolding spans
  spans_same ps = outputs_same scanner piece scans [] ps

  on_dlci_law : (d : ℕ) (ps : List Piece) → on_dlci d (map piece ps) ≡ map piece (on_dlci d ps)
  unfolding on_dlci
  on_dlci_law d [] = refl
  on_dlci_law d (p ∷ ps) = split_b (eqb p.dlci d) (λ e. rw (e, on_dlci_law d ps)) (λ e. rw e (on_dlci_law d ps))

  keys_same : (ps : List Piece) → map (λ (p : Piece). p.key) (map piece ps) ≡ map keyed (map (λ (p : Piece). p.key) ps)
  keys_same [] = refl
  keys_same (p ∷ ps) = rw (keys_same ps)

  unfinished_same : (ps : List Piece) → unfinished (map piece ps) ≡ unfinished ps
  unfolding unfinished
  unfinished_same ps =
      rw (keys_same ps)
      (nub_count (λ k. ltb 0 (length (after scanner emptied (map piece ps) k))) (λ k. ltb 0 (length (after scanner emptied ps k)))
      (λ k. rw (states_same scanner piece scans [] ps k)) (map (λ (p : Piece). p.key) ps))

  -- ---- where bytes went

  weighs : (f : List ℕ → ℕ) → Blind (weighing f) piece
  weighs f = record { key = λ p. refl; next = λ b p. refl; out = λ b p. refl }

  weighed_same : (f : List ℕ → ℕ) (ps : List Piece) → total (λ n. n) (run (weighing f) emptied (map piece ps)) ≡ total (λ n. n) (run (weighing f) emptied ps)
  weighed_same f ps = ap (total (λ n. n)) (outputs_same (weighing f) piece (weighs f) [] ps)

  in_spans_law : (ps : List Piece) → in_spans (map piece ps) ≡ in_spans ps
  unfolding in_spans
  in_spans_law ps = rw (spans_same ps)

  dropped_same : (ps : List Piece) → dropped (map piece ps) ≡ dropped ps
  unfolding dropped
  dropped_same ps = weighed_same dropped_of ps

  cleared_same : (ps : List Piece) → cleared (map piece ps) ≡ cleared ps
  unfolding cleared
  cleared_same ps = weighed_same (λ b. cleared_of (rest_of b)) ps

  left_same : (ps : List Piece) → left (map piece ps) ≡ left ps
  unfolding left
  left_same ps =
      rw (keys_same ps)
      (nub_total (λ k. length (after scanner emptied (map piece ps) k)) (λ k. length (after scanner emptied ps k))
      (λ k. ap length (states_same scanner piece scans [] ps k)) (map (λ (p : Piece). p.key) ps))

  -- in spans, dropped, cleared, left
  pub account_same : (ps : List Piece) → account_of (map piece ps) ≡ account_of ps
  account_same ps = rw (in_spans_law ps, dropped_same ps, cleared_same ps, left_same ps)

  -- ---- import

  has_frame_law : (ps : List Piece) (d : ℕ) → has_frame (map piece ps) d ≡ has_frame ps d
  unfolding has_frame
  has_frame_law ps d = rw (on_dlci_law d ps, spans_same (on_dlci d ps))

  dlcis_same : (ps : List Piece) → map (λ (p : Piece). p.dlci) (map piece ps) ≡ map (λ (p : Piece). p.dlci) ps
  dlcis_same [] = refl
  dlcis_same (p ∷ ps) = rw (dlcis_same ps)

  first_same : (f g : ℕ → Bool) → ((d : ℕ) → f d ≡ g d) → (ds : List ℕ) → first f ds ≡ first g ds
  unfolding first
  first_same f g h [] = refl
  first_same f g h (d ∷ ds) = rw (h d, first_same f g h ds)

  chosen_same : (channel : Option ℕ) (ps : List Piece) → chosen channel (map piece ps) ≡ chosen channel ps
  unfolding chosen
  chosen_same channel ps =
      rw (dlcis_same ps)
      (first_same (λ d. on_channel channel d && has_frame (map piece ps) d) (λ d. on_channel channel d && has_frame ps d)
      (λ d. rw (has_frame_law ps d)) (map (λ (p : Piece). p.dlci) ps))

  listed_same : (ps : List Piece) (wrongs : ℕ → ℕ) (tail : ℕ) (o : Option ℕ) → listed (map piece ps) wrongs tail o ≡ listed ps wrongs tail o
  unfolding listed
  listed_same ps wrongs tail none = refl
  listed_same ps wrongs tail (some d) = rw (on_dlci_law d ps, spans_same (on_dlci d ps), unfinished_same (on_dlci d ps), account_same (on_dlci d ps))

  -- What is found in a file whose packets are another's with their links renamed one to one: by either channel rule, FCS checked or not, in whichever containers.
  pub read_renamed :
      (C D : Container) (f g : List ℕ) (o : Options) →
      packets_in D g ≡ map (relinked ρ) (packets_in C f) → tail_offset D g ≡ tail_offset C f → read D g o ≡ read C f o
  unfolding read file_pieces
  read_renamed C D f g o e t =
      let ps : List Piece = pieces (judged_by o.judging (pdus (packets_in C f))) in
      let q : pieces (judged_by o.judging (pdus (packets_in D g))) ≡ map piece ps = rw e (pieces_renamed o.judging (packets_in C f)) in
      let w : file_wrong D o.judging g ≡ file_wrong C o.judging f = fun_ext (λ d. rw e (wrongs_renamed o.judging (packets_in C f) d)) in
      rw (q, w, t, chosen_same o.channel ps) (listed_same ps (file_wrong C o.judging f) (tail_offset C f) (chosen o.channel ps))
