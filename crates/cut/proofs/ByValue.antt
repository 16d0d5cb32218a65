-- By the source's rule, and with FCS unchecked, a PDU's place does not matter: the rules on judged PDUs read as they do by its value and the signals of the records.
use Prim.Native.Nat.{ℕ, zero, suc, ◌*◌, ◌/◌, ◌≤◌}
use mathlib.Core.Path.{◌≡◌, refl, sym, ◌∙◌}
use mathlib.Core.Bool.{true, false, cond}
use mathlib.Core.List.{List, [], ◌∷◌, ◌++◌, map}
use mathlib.Core.Option.{Option, some}
use lib.ListN.{length, drop}
use Rattle.laws.proofs.Choice.{split_b, no_way}
use Rattle.laws.specs.Lists.{flat, All, all_nil, all_cons}
use Rattle.laws.specs.Answers.{Answer, Meets}
use Rattle.laws.specs.Keys.{Key}
use Rattle.laws.specs.Keyed.{step, run}
use Rattle.items.specs.declared.Direction.{Direction}
use Rattle.container.specs.Container.{Container, Lawful}
use Rattle.l2cap.specs.Pdus.{Pdu}
use Rattle.channels.specs.Signals.{signals}
use Rattle.channels.specs.Tried.{source, tried_by}
use Rattle.rfcomm.specs.Pieces.{Kind, Judging, unchecked, kind_by, kind_of, judged_from}
use Rattle.outcome.specs.Import.{Tail, tolerant, by_source, imported}
use Rattle.cut.specs.Recording.{Framing, LinkOf, free, Record, RecordingOf, Recording, file, cut}
use Rattle.cut.specs.Left.{records_left, Sent, sent_in, link_key, information_of, data_of, wires}
use Rattle.cut.specs.Honest.{pdus_in, MarkedPdu, marking, nothing_open, marked_pdus, JudgedPdu, with_marks, is_data_of, to_data, judged_in, after_data, adds, carries_on, Fragments, Different, Channel, Channels, source_channels, Beginning, Honest}
use Rattle.cut.specs.Claim.{list_left, AsLeft}
use Rattle.cut.proofs.JudgedLists.{marked_of, judged_at, in_at, in_marked}
use Rattle.cut.proofs.Theorem.{cut_claim}

-- what a PDU is by the signals of some records
unfoldable pub kind_in : {C : Container} {S : Framing} → RecordingOf C S → List Record → Pdu → Kind
kind_in R rs p = kind_of false (signals (pdus_in R rs)) p

-- the PDUs that records after the one with a handle's first data fragment complete, from what is open before
unfoldable pub later_pdus : ℕ → (Key → Option (List ℕ)) → List Sent → List MarkedPdu
later_pdus h m [] = []
later_pdus h m (x ∷ xs) = cond (is_data_of h x.packet x.mark) (run marking (step marking m x) xs) (later_pdus h (step marking m x) xs)

-- honest, with the last two rules by value
pub record HonestByValue {C : Container} {S : Framing} (R : RecordingOf C S) : Type 0 where
  pub header : (length R.header ≡ C.head) × (C.is_file R.header ≡ true) × (C.is_taken (C.link_type R.header) ≡ true)
  pub whole : All (λ r. C.size R.header r.bytes ≡ length r.bytes) R.records
  pub small : length (file R) ≤ 1048576
  pub handles : Different (map (λ l. l.handle) R.links)
  pub dlci : (1 ≤ R.d) × (R.d ≤ 63)
  pub dynamic : All (λ l. (t : Direction) → 0x40 ≤ l.cid t) R.links
  pub channels : All (λ l. (t : Direction) → Channel R l t) R.links
  pub fragments : Fragments R nothing_open (sent_in R R.records)
  pub information : All (λ l. (t : Direction) → information_of (link_key l t) (data_of (sent_in R R.records)) ≡ flat (wires l t) ++ l.partial t) R.links
  pub sizes : All (λ l. (t : Direction) → All S.Allowed (l.frames t)) R.links
  pub beginnings : All (λ l. (t : Direction) → Beginning S (l.partial t)) R.links
  pub settled : (n h : ℕ) → All (λ q. q.pdu.link ≡ h → adds R.d (kind_in R (records_left R n) q.pdu) ≡ false) (later_pdus h nothing_open (sent_in R (records_left R n)))
  pub alone : (n : ℕ) → All (λ q. q.mark ≡ free → carries_on R.d (kind_in R (records_left R n) q.pdu) ≡ false) (marked_pdus (sent_in R (records_left R n)))

-- ---- the same lists

drop_map : {A B : Type 0} (f : A → B) (k : ℕ) (l : List A) → drop k (map f l) ≡ map f (drop k l)
drop_map f zero l = refl
drop_map f (suc k) [] = refl
drop_map f (suc k) (x ∷ l) = drop_map f k l

drop_seam : {A : Type 0} (o a b : List A) → drop (length (o ++ a)) (o ++ b) ≡ drop (length a) b
drop_seam [] a b = refl
drop_seam (x ∷ o) a b = drop_seam o a b

later_is : (h : ℕ) (m : Key → Option (List ℕ)) (xs : List Sent) → drop (length (run marking m (to_data h xs))) (run marking m xs) ≡ later_pdus h m xs
unfolding run to_data later_pdus
later_is h m [] = refl
later_is h m (x ∷ xs) =
    let o : List MarkedPdu = marking.out (m (marking.key x)) x in
    split_b (is_data_of h x.packet x.mark)
    (λ e. rw e (drop_seam o [] (run marking (step marking m x) xs)))
    (λ e. rw e (drop_seam o (run marking (step marking m x) (to_data h xs)) (run marking (step marking m x) xs) ∙ later_is h (step marking m x) xs))

module _ {C : Container} {S : Framing} (R : RecordingOf C S) (rs : List Record) where
  abbrev valued : MarkedPdu → JudgedPdu
  valued q = record { pdu = q.pdu; kind = kind_in R rs q.pdu; mark = q.mark }

  at_value : (ps : List Pdu) (qs : List MarkedPdu) → judged_at (unchecked source) (pdus_in R rs) ps qs ≡ map valued qs
  unfolding with_marks judged_from kind_by tried_by kind_in kind_of
  at_value ps [] = refl
  at_value ps (q ∷ qs) = rw (at_value (ps ++ (q.pdu ∷ [])) qs)

  pub in_value : judged_in (unchecked source) R rs ≡ map valued (marked_pdus (sent_in R rs))
  in_value = in_at (unchecked source) R rs ∙ at_value [] (marked_pdus (sent_in R rs))

  pub after_value : (h : ℕ) → after_data (unchecked source) R rs h ≡ map valued (later_pdus h nothing_open (sent_in R rs))
  unfolding after_data marked_pdus
  after_value h = rw (in_value, drop_map valued (length (marked_pdus (to_data h (sent_in R rs)))) (marked_pdus (sent_in R rs)), later_is h nothing_open (sent_in R rs))

all_mapped : {A B : Type 0} {P : B → Type 0} (f : A → B) {l : List A} → All (λ (x : A). P (f x)) l → All P (map f l)
all_mapped f all_nil = all_nil
all_mapped f (all_cons p ps) = all_cons p (all_mapped f ps)

unmapped : {A B : Type 0} {P : B → Type 0} (f : A → B) (l : List A) → All P (map f l) → All (λ (x : A). P (f x)) l
unmapped f [] w = all_nil
unmapped f (x ∷ l) (all_cons p ps) = all_cons p (unmapped f l ps)

-- by any rule the PDUs after a handle's first data fragment are these
pub after_marked : {C : Container} {S : Framing} (by : Judging) (R : RecordingOf C S) (rs : List Record) (h : ℕ) → marked_of (after_data by R rs h) ≡ later_pdus h nothing_open (sent_in R rs)
unfolding after_data marked_pdus
after_marked by R rs h =
    let k : ℕ = length (marked_pdus (to_data h (sent_in R rs))) in
    sym (drop_map (λ j. record { pdu = j.pdu; mark = j.mark }) k (judged_in by R rs)) ∙ rw (in_marked by R rs) (later_is h nothing_open (sent_in R rs))

-- ---- the same rules, and the same claim

module _ {C : Container} {S : Framing} (R : RecordingOf C S) where
  pub by_value : HonestByValue R → Honest (unchecked source) R
  by_value H = record {
    header = H.header;
    whole = H.whole;
    small = H.small;
    handles = H.handles;
    dlci = H.dlci;
    dynamic = H.dynamic;
    channels = source_channels H.channels;
    fragments = H.fragments;
    checks = λ e. no_way e refl;
    information = H.information;
    sizes = H.sizes;
    beginnings = H.beginnings;
    settled = λ n h. rw (after_value R (records_left R n) h) (all_mapped (valued R (records_left R n)) (H.settled n h));
    alone = λ n. rw (in_value R (records_left R n)) (all_mapped (valued R (records_left R n)) (H.alone n));
  }

of_source : {C : Container} {S : Framing} {R : RecordingOf C S} → Channels R source → All (λ (l : LinkOf S). (t : Direction) → Channel R l t) R.links
of_source (source_channels cs) = cs

pub to_value : {C : Container} {S : Framing} (R : RecordingOf C S) → Honest (unchecked source) R → HonestByValue R
to_value R H = record {
  header = H.header;
  whole = H.whole;
  small = H.small;
  handles = H.handles;
  dlci = H.dlci;
  dynamic = H.dynamic;
  channels = of_source H.channels;
  fragments = H.fragments;
  information = H.information;
  sizes = H.sizes;
  beginnings = H.beginnings;
  settled = λ n h. unmapped (valued R (records_left R n)) (later_pdus h nothing_open (sent_in R (records_left R n))) (rw (after_value R (records_left R n) h) at (H.settled n h));
  alone = λ n. unmapped (valued R (records_left R n)) (marked_pdus (sent_in R (records_left R n))) (rw (in_value R (records_left R n)) at (H.alone n));
}

pub claim_by_value :
    {C : Container} → Lawful C → (lent : List ℕ) (work : ℕ) (channel : Option ℕ) (tail : Tail) (out : List ℕ) (a : Answer) (out' : List ℕ) → Meets (imported C lent work (by_source channel tail)) out a out' →
    (R : Recording C) → HonestByValue R → (n : ℕ) → C.head ≤ n → n ≤ length (file R) →
    lent ≡ cut R n → channel ≡ some (R.d / 2) → tail ≡ tolerant → 8 * n ≤ work → length (list_left R n) ≤ length out →
    AsLeft (unchecked source) R n out a out'
claim_by_value L lent work channel tail out a out' m R H = cut_claim L lent work (by_source channel tail) out a out' m R (by_value R H)
