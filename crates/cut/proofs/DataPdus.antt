-- Along an honest trace reassembly gives exactly the data PDUs, and what is free beside them.
use Prim.Native.Nat.{ℕ, ◌+◌}
use mathlib.Core.Path.{◌≡◌, refl, sym, ap, ◌∙◌}
use mathlib.Core.Bool.{true}
use mathlib.Core.List.{List, [], ◌∷◌, ◌++◌, map, Memᴰ, append-nil}
use mathlib.Core.Option.{Option, none, some}
use native.Mathlib.Omega.{arith}
use lib.ListN.{length}
use borrow.Author.Tests.{le-leb}
use Rattle.laws.specs.Lists.{All, all_nil, all_cons}
use Rattle.laws.specs.Numbers.{le16}
use Rattle.laws.specs.Keys.{Key}
use Rattle.laws.proofs.Keys.{split_k, eq_eq_k, ne_eq_k}
use Rattle.laws.specs.Keyed.{put, step, run, after}
use Rattle.laws.proofs.Keyed.{run_append}
use Rattle.items.specs.declared.Direction.{Direction}
use Rattle.container.specs.Container.{Container}
use Rattle.container.specs.Packets.{Packet, or_none, packets}
use Rattle.l2cap.specs.Pdus.{Pdu, joined, is_complete, still_open, pdu_of, completed, packet_key, reassembly, pdus}
use Rattle.cut.specs.Recording.{LinkOf, Mark, free, part, last, Record, RecordingOf, rows, Framing}
use Rattle.cut.specs.Left.{records_left, Sent, or_passed, sent, sent_in, Data, data_key, link_key, if_last, data_of, data_left}
use Rattle.cut.specs.Honest.{pdus_in, MarkedPdu, pdus_of, marking, nothing_open, marked_pdus, Joins, first, further, Fragments, stop, other, more, end}
use Rattle.cut.proofs.TwoParts.{Front, map_append}
use Rattle.cut.proofs.CutRecords.{records_front}

-- ---- in two parts

or_passed_append : (o : Option Packet) (k : Mark) (xs ys : List Sent) → or_passed o k (xs ++ ys) ≡ or_passed o k xs ++ ys
or_passed_append none k xs ys = refl
or_passed_append (some p) k xs ys = refl

pub sent_append : (read : List ℕ → Option Packet) (xs ys : List Record) → sent read (xs ++ ys) ≡ sent read xs ++ sent read ys
unfolding sent
sent_append read [] ys = refl
sent_append read (r ∷ xs) ys = rw (sent_append read xs ys) (or_passed_append (read r.bytes) r.mark (sent read xs) (sent read ys))

if_last_append : (p : Packet) (k : Mark) (xs ys : List Data) → if_last p k (xs ++ ys) ≡ if_last p k xs ++ ys
if_last_append p free xs ys = refl
if_last_append p part xs ys = refl
if_last_append p (last i) xs ys = refl

pub data_append : (xs ys : List Sent) → data_of (xs ++ ys) ≡ data_of xs ++ data_of ys
unfolding data_of
data_append [] ys = refl
data_append (x ∷ xs) ys = rw (data_append xs ys) (if_last_append x.packet x.mark (data_of xs) (data_of ys))

-- a front of a trace is a trace
pub fragments_front : {C : Container} {S : Framing} {R : RecordingOf C S} {σ : Key → Option (List ℕ)} (xs ys : List Sent) → Fragments R σ (xs ++ ys) → Fragments R σ xs
fragments_front [] ys t = stop
fragments_front (x ∷ xs) ys (other e t) = other e (fragments_front xs ys t)
fragments_front {C = C} {S = S} {R = R} {σ = σ} (x ∷ xs) ys (more {b = b} g n t) = more g n (fragments_front {σ = put σ (packet_key x.packet) (some b)} xs ys t)
fragments_front (x ∷ xs) ys (end g w o t) = end g w o (fragments_front xs ys t)

-- ---- marks do not matter to reassembly

packets_of : List Sent → List Packet
packets_of xs = map (λ x. x.packet) xs

pdus_marked : (k : Mark) (ps : List Pdu) (qs : List MarkedPdu) → pdus_of (map (λ p. record { pdu = p; mark = k }) ps ++ qs) ≡ ps ++ pdus_of qs
pdus_marked k [] qs = refl
pdus_marked k (p ∷ ps) qs = rw (pdus_marked k ps qs)

unmarked : (m : Key → Option (List ℕ)) (xs : List Sent) → pdus_of (run marking m xs) ≡ run reassembly m (packets_of xs)
unfolding run packets_of
unmarked m [] = refl
unmarked m (x ∷ xs) = rw (pdus_marked x.mark (completed (joined (m (packet_key x.packet)) x.packet) x.packet) (run marking (step marking m x) xs), unmarked (step marking m x) xs)

or_none_packets : (o : Option Packet) (k : Mark) (xs : List Sent) → or_none o (packets_of xs) ≡ packets_of (or_passed o k xs)
unfolding packets_of
or_none_packets none k xs = refl
or_none_packets (some p) k xs = refl

sent_packets : (read : List ℕ → Option Packet) (rs : List Record) → packets read (rows rs) ≡ packets_of (sent read rs)
unfolding packets sent packets_of
sent_packets read [] = refl
sent_packets read (r ∷ rs) = rw (sent_packets read rs) (or_none_packets (read r.bytes) r.mark (sent read rs))

pub pdus_in_law : {C : Container} {S : Framing} (R : RecordingOf C S) (rs : List Record) → pdus_in R rs ≡ pdus_of (marked_pdus (sent_in R rs))
unfolding pdus_in pdus marked_pdus
pdus_in_law {C} R rs = rw (sent_packets (C.packet R.header) rs, unmarked nothing_open (sent (C.packet R.header) rs))

-- the PDUs of a front are a front, with marks and without
pub marked_append : (xs ys : List Sent) → marked_pdus (xs ++ ys) ≡ marked_pdus xs ++ run marking (after marking nothing_open xs) ys
unfolding marked_pdus
marked_append xs ys = run_append marking nothing_open xs ys

pub marked_front : {C : Container} {S : Framing} (R : RecordingOf C S) {rs ss : List Record} → Front rs ss → Front (marked_pdus (sent_in R rs)) (marked_pdus (sent_in R ss))
marked_front {C} R {rs} {ss} f = record {
  back = run marking (after marking nothing_open (sent_in R rs)) (sent_in R f.back);
  whole = rw (f.whole, sent_append (C.packet R.header) rs f.back) (marked_append (sent_in R rs) (sent_in R f.back));
}

pub pdus_front : {C : Container} {S : Framing} (R : RecordingOf C S) {rs ss : List Record} → Front rs ss → Front (pdus_in R rs) (pdus_in R ss)
pdus_front R {rs} {ss} f =
    let g : Front (marked_pdus (sent_in R rs)) (marked_pdus (sent_in R ss)) = marked_front R f in
    record { back = pdus_of g.back; whole = rw (pdus_in_law R ss, pdus_in_law R rs, g.whole) (map_append (λ q. q.pdu) (marked_pdus (sent_in R rs)) g.back) }

-- the PDUs that one packet more completes
abbrev pub marking_out : List Sent → Sent → List Pdu
marking_out a x = completed (joined (after marking nothing_open a (packet_key x.packet)) x.packet) x.packet

pub pdus_more : (a : List Sent) (x : Sent) → pdus_of (marked_pdus (a ++ (x ∷ []))) ≡ pdus_of (marked_pdus a) ++ marking_out a x
unfolding run
pdus_more a x =
    let m : Key → Option (List ℕ) = after marking nothing_open a in
    let ps : List Pdu = completed (joined (m (packet_key x.packet)) x.packet) x.packet in
    rw (marked_append a (x ∷ []), map_append (λ q. q.pdu) (marked_pdus a) (map (λ p. record { pdu = p; mark = x.mark }) ps ++ []), pdus_marked x.mark ps [], append-nil ps)

-- ---- the data PDUs

abbrev pub if_data : Pdu → Mark → List Data → List Data
if_data p free xs = xs
if_data p part xs = xs
if_data p (last i) xs = record { link = p.link; rx = p.rx; time = p.time; information = i } ∷ xs

-- as reassembly gives them
unfoldable pub data_in : List MarkedPdu → List Data
data_in [] = []
data_in (q ∷ qs) = if_data q.pdu q.mark (data_in qs)

-- what is under way is what is open
abbrev pub Under : Option (List ℕ) → Option (List ℕ) → Type 0
Under m s = (b : List ℕ) → s ≡ some b → m ≡ some b

none≢some : {G : Type 0} {b : List ℕ} → ◌≡◌ {A = Option (List ℕ)} none (some b) → G
none≢some e = let z : ◌≡◌ {A = ℕ} 0 1 = cc in absurd (omega arith)

pub under_none : (k : Key) → Under (nothing_open k) (nothing_open k)
under_none k b e = e

-- a fragment joins what is open
pub joins_open : (m s : Option (List ℕ)) {p : Packet} {b : List ℕ} → Under m s → Joins p s b → joined m p ≡ some b
unfolding joined
joins_open none none v (first t l) = rw t
joins_open (some c) none v (first t l) = rw t
joins_open m (some c) v (further t l) = rw (v c refl, t)

pub whole_complete : (b : List ℕ) → 4 + le16 b 0 ≡ length b → is_complete b ≡ true
unfolding is_complete
whole_complete b w = le-leb (4 + le16 b 0) (length b) (omega arith)

module _ (m σ : Key → Option (List ℕ)) (k : Key) (v : Option (List ℕ)) (u : (j : Key) → Under (m j) (σ j)) where
  pub under_put : (j : Key) → Under (put m k v j) (put σ k v j)
  under_put j = split_k j k (λ e. rw (eq_eq_k j k e) (λ b q. q)) (λ e. rw (ne_eq_k j k e) (u j))

  pub under_free : σ k ≡ none → (j : Key) → Under (put m k v j) (σ j)
  under_free e j =
      split_k j k
      (λ q b n. none≢some (sym (ap (λ (x : Key). σ x) q ∙ e) ∙ n))
      (λ q. rw (ne_eq_k j k q) (u j))

free_data : (ps : List Pdu) (qs : List MarkedPdu) → data_in (map (λ p. record { pdu = p; mark = free }) ps ++ qs) ≡ data_in qs
unfolding data_in
free_data [] qs = refl
free_data (p ∷ ps) qs = free_data ps qs

-- those that come out are those that the trace carries
pub trace_data : {C : Container} {S : Framing} {R : RecordingOf C S} (m : Key → Option (List ℕ)) {σ : Key → Option (List ℕ)} {xs : List Sent} → ((k : Key) → Under (m k) (σ k)) → Fragments R σ xs → data_in (run marking m xs) ≡ data_of xs
unfolding data_in data_of run completed still_open pdu_of
trace_data m u stop = refl
trace_data m {σ} u (other {p = p} {xs = xs} e t) =
    rw (free_data (completed (joined (m (packet_key p)) p) p) (run marking (step marking m (record { packet = p; mark = free })) xs))
    (trace_data (step marking m (record { packet = p; mark = free })) (under_free m σ (packet_key p) (still_open (joined (m (packet_key p)) p)) u e) t)
trace_data m {σ} u (more {p = p} {xs = xs} {b = b} g n t) =
    rw (joins_open (m (packet_key p)) (σ (packet_key p)) (u (packet_key p)) g, n)
    (trace_data (put m (packet_key p) (some b)) (under_put m σ (packet_key p) (some b) u) t)
trace_data m {σ} u (end {p = p} {xs = xs} {b = b} {i = i} g w o t) =
    rw (joins_open (m (packet_key p)) (σ (packet_key p)) (u (packet_key p)) g, whole_complete b w)
    (ap (λ (l : List Data). record { link = p.link; rx = p.rx; time = p.time; information = i } ∷ l)
    (trace_data (put m (packet_key p) none) (under_put m σ (packet_key p) none u) t))

pub data_in_append : (xs ys : List MarkedPdu) → data_in (xs ++ ys) ≡ data_in xs ++ data_in ys
unfolding data_in
data_in_append [] ys = refl
data_in_append (q ∷ xs) ys = rw (data_in_append xs ys) (if_data_append q.pdu q.mark (data_in xs) (data_in ys))
  where
    if_data_append : (p : Pdu) (k : Mark) (a b : List Data) → if_data p k (a ++ b) ≡ if_data p k a ++ b
    if_data_append p free a b = refl
    if_data_append p part a b = refl
    if_data_append p (last i) a b = refl

-- ---- the trace of a cut

module _ {C : Container} {S : Framing} (R : RecordingOf C S) (n : ℕ) (fs : Fragments R nothing_open (sent_in R R.records)) where
  pub cut_trace : Fragments R nothing_open (sent_in R (records_left R n))
  cut_trace =
      let f : Front (records_left R n) R.records = records_front R n in
      let s : sent_in R R.records ≡ sent_in R (records_left R n) ++ sent_in R f.back = ap (sent_in R) f.whole ∙ sent_append (C.packet R.header) (records_left R n) f.back in
      fragments_front (sent_in R (records_left R n)) (sent_in R f.back) (rw s at fs)

  pub cut_data : data_in (marked_pdus (sent_in R (records_left R n))) ≡ data_left R n
  unfolding marked_pdus data_left
  cut_data = trace_data nothing_open under_none cut_trace

-- each is of a link direction
pub record OnLink {S : Framing} (ls : List (LinkOf S)) (x : Data) : Type 0 where
  pub link : LinkOf S
  pub direction : Direction
  pub listed : Memᴰ link ls
  pub is : data_key x ≡ link_key link direction

pub trace_links : {C : Container} {S : Framing} {R : RecordingOf C S} {σ : Key → Option (List ℕ)} {xs : List Sent} → Fragments R σ xs → All (OnLink R.links) (data_of xs)
unfolding data_of pdu_of
trace_links stop = all_nil
trace_links (other e t) = trace_links t
trace_links (more g n t) = trace_links t
trace_links (end {p = p} {i = i} g w o t) = all_cons {x = record { link = p.link; rx = p.rx; time = p.time; information = i }} (record { link = o.link; direction = o.direction; listed = o.listed; is = (let a : p.link ≡ o.link.handle = o.handle in let b : p.rx ≡ _ = o.way in rw (a, b)) }) (trace_links t)
