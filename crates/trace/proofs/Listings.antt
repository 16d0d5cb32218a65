-- The loop that lists the records, and where a record stands that starts at an offset of the list.
use Rattle.std.specs.Prelude.{Option, Some, None, Result, Ok, Err}
use Prim.Native.Nat.{ℕ, zero, suc, ◌+◌, ◌-◌, ◌<◌, ◌≤◌}
use mathlib.Core.Path.{◌≡◌, refl, sym, ap, ◌∙◌}
use mathlib.Core.List.{List, [], ◌∷◌}
use native.Mathlib.Omega.{arith}
use native.Mathlib.Numerals.{add-one}
use lib.ListN.{length, get_or, set, take, drop, length-drop, length-set}
use lib.Seq.{sets, length-take-le, drop-drop}
use borrow.Author.Tests.{le-leb, lt-leb}
use Rattle.laws.proofs.Choice.{split_b}
use Rattle.laws.specs.Answers.{accepted}
use Rattle.container.specs.Container as container
use Rattle.trace.specs.Formats.{container_of, format_of, file_head, size_by, records_from, records_by, tail_by}
use Rattle.trace.specs.Headers.{told_refusal, headed, HeaderIs}
use Rattle.trace.proofs.Formats.{head_least, file_head_most, head_of, records_of, tail_of_law}
use Rattle.trace.proofs.Headers.{header_as}
use Rattle.trace.specs.Walk.{RecordAt}
use Rattle.trace.proofs.Walk.{records_eq, flat_step}
use Rattle.trace.specs.Reader.{Starts}
use Rattle.trace.proofs.ReaderLaws.{whole_fits, whole_list}
use Rattle.trace.specs.Finding.{Reads}
use Rattle.trace.proofs.Finding.{reads_same, found_here, found_told, found_end, found_none, none_end}
use Rattle.trace.specs.Listing.{listing, starts_from, starts_of, if_accepted, Lists}
use Rattle.trace.specs.declared.Container.{Container}
use Rattle.trace.specs.declared.Format.{Format}
use Rattle.trace.specs.declared.Refusal.{Refusal}
use Rattle.trace.specs.declared.Refusal.TheVariants.{FileLong, WorkShort, NotBtsnoop, Datalink, NotPcap, LinkType, Truncated}
use Rattle.trace.specs.declared.Trace.{Trace}
use Rattle.trace.specs.declared.Walked.{Walked}
use Rattle.trace.specs.declared.record.Record.{Record}
use Rattle.trace.specs.declared.reader.Reader.{Reader}
use Rattle.trace.specs.Listings.{Listing, WalkedTo}

pub listing_start : (t : Trace) (d : List ℕ) (q : Reader) → Starts t q → Listing t d d q 0
listing_start t d q s =
    let g = t.format in
    record { trace = s.trace; least = omega arith; most = rw s.at (omega (arith, file_head_most g)); long = refl; number = rw s.at (omega arith); tail = rw s.at; done = rw s.at }

module _ (t : Trace) (d₀ d : List ℕ) (q : Reader) (count : ℕ) (l : Listing t d₀ d q count) where
  module _ (x : Option Record) (z : Reader) (h : Reads q x z) where
    module _ (r : Record) (e : x ≡ Some r) where
      told : RecordAt t.format t.file.now q.at r.end
      told = found_told t q l.trace x z h r e

      pub listing_turn : (d' : List ℕ) → d' ≡ set d count r.at → Listing t d₀ d' z (count + 1)
      unfolding starts_from
      listing_turn d' s =
          let a : r.at ≡ q.at = (found_here t q l.trace x z h r e).starts in
          let o : z.at ≡ r.end = found_end t q l.trace x z h r e in
          let m : q.at + length (take (r.end - q.at) (drop q.at t.file.now)) ≡ r.end =
          (let k : length (take (r.end - q.at) (drop q.at t.file.now)) ≡ r.end - q.at = length-take-le (r.end - q.at) (drop q.at t.file.now) (simp length-drop (omega (arith, told.most))) in omega (arith, told.least)) in
          record {
            trace = reads_same t q l.trace x z h;
            least = omega (arith, head_least t.format, l.least, told.least, o);
            most = omega (arith, told.most, o);
            long = rw s (length-set d count r.at) ∙ l.long;
            number = rw o (let k : count + suc (length (records_from t.format t.file.now r.end)) ≡ length (records_by t.format t.file.now) = rw told.list at l.number in omega arith);
            tail = rw o (sym (flat_step t.format t.file.now q.at r.end told) ∙ l.tail);
            done = rw (o, s, a, add-one) (rw (told.list, m) at l.done);
          }

    pub ended : x ≡ None → WalkedTo t.format t.file.now d₀ d (record { count = count; tail = z.at })
    unfolding starts_from
    ended n =
        let r : records_from t.format t.file.now q.at ≡ [] = found_none t q l.trace x z h n in
        record {
          count = (let k : count + 0 ≡ length (records_by t.format t.file.now) = rw r at l.number in omega arith);
          tail = rw (none_end t q l.trace x z h n) (let k : q.at + 0 ≡ tail_by t.format t.file.now = rw r at l.tail in omega arith);
          starts = rw r at l.done;
        }

-- ---- the answers

pub lists_long : (b : Container) (f d : List ℕ) → 1048576 < length f → Lists b f d (Err FileLong) d
unfolding listing starts_of
lists_long b f d h = record { answers = rw (lt-leb (length f) 1048576 h); writes = rw (lt-leb (length f) 1048576 h) }

-- nothing is listed after a refusal
none_listed : (r : Refusal) (l d : List ℕ) → d ≡ sets d 0 (if_accepted (told_refusal r) l)
none_listed FileLong l d = refl
none_listed WorkShort l d = refl
none_listed NotBtsnoop l d = refl
none_listed (Datalink n) l d = refl
none_listed NotPcap l d = refl
none_listed (LinkType n) l d = refl
none_listed (Truncated at) l d = refl

module _ (b : Container) (f d : List ℕ) (h : length f ≤ 1048576) (x : Result Format Refusal) (m : HeaderIs b f x) where
  pub lists_refused : (r : Refusal) → x ≡ Err r → Lists b f d (Err r) d
  unfolding listing starts_of
  lists_refused r q =
      let k = header_as b f x (Err r) m q in
      let o : listing (container_of b) f ≡ told_refusal r = rw (le-leb (length f) 1048576 h) (sym (k (accepted (length (container.records (container_of b) f) ∷ container.tail_offset (container_of b) f ∷ [])))) in
      record { answers = sym o; writes = rw o (none_listed r (starts_from (container_of b).head (container.records (container_of b) f)) d) }

  pub lists_all : (g : Format) → x ≡ Ok g → (e : List ℕ) (r : Walked) → WalkedTo g f d e r → Lists b f d (Ok r) e
  unfolding listing starts_of headed
  lists_all g q e r w =
      let k = header_as b f x (Ok g) m q in
      let n : r.count ≡ length (container.records (container_of b) f) = w.count ∙ rw (k.2, records_of b f) in
      let t : r.tail ≡ container.tail_offset (container_of b) f = w.tail ∙ rw (k.2, tail_of_law b f) in
      let o : listing (container_of b) f ≡ accepted (length (container.records (container_of b) f) ∷ container.tail_offset (container_of b) f ∷ []) = rw (le-leb (length f) 1048576 h, k.0, k.1) in
      record { answers = rw (n, t) (sym o); writes = w.starts ∙ rw (o, k.2, ← head_of b f, ← records_of b f) }

-- ---- each start is where that record stands in the file

abbrev first : List (List ℕ) → List ℕ
first [] = []
first (x ∷ xs) = x

abbrev rest : List (List ℕ) → List (List ℕ)
rest [] = []
rest (x ∷ xs) = xs

-- the record and what follows it
split_whole : (g : Format) (f : List ℕ) (at : ℕ) (r : List ℕ) (rs : List (List ℕ)) → r ∷ rs ≡ records_from g f at → (take (length r) (drop at f) ≡ r) × (rs ≡ records_from g f (at + length r))
split_whole g f at r rs e = split_b (container.is_whole (size_by g) (drop at f))
    (λ w.
    let l : r ∷ rs ≡ take (size_by g (drop at f)) (drop at f) ∷ container.records_in (size_by g) (drop (size_by g (drop at f)) (drop at f)) = e ∙ whole_list g f at w in
    let a : r ≡ take (size_by g (drop at f)) (drop at f) = ap first l in
    let n : length r ≡ size_by g (drop at f) = ap length a ∙ length-take-le (size_by g (drop at f)) (drop at f) (whole_fits g f at w) in
    (rw n (sym a), ap rest l ∙ rw (drop-drop (size_by g (drop at f)) at f, ← n)))
    (λ w.
    let l : r ∷ rs ≡ [] = e ∙ records_eq g (drop at f) ∙ rw w in
    let z : suc (length rs) ≡ 0 = ap length l in
    absurd (omega arith))

stands_from : (g : Format) (f : List ℕ) (at : ℕ) (rs : List (List ℕ)) → rs ≡ records_from g f at → (i : ℕ) → i < length rs → take (length (get_or rs i [])) (drop (get_or (starts_from at rs) i 0) f) ≡ get_or rs i []
unfolding starts_from
stands_from g f at [] e i h = absurd (omega arith)
stands_from g f at (r ∷ rs) e zero h = (split_whole g f at r rs e).0
stands_from g f at (r ∷ rs) e (suc i) h = stands_from g f (at + length r) rs (split_whole g f at r rs e).1 i (omega arith)

pub record_stands : (b : Container) (f : List ℕ) (i : ℕ) → i < length (container.records (container_of b) f) → take (length (get_or (container.records (container_of b) f) i [])) (drop (get_or (starts_from (container_of b).head (container.records (container_of b) f)) i 0) f) ≡ get_or (container.records (container_of b) f) i []
record_stands b f i h = rw (← records_of b f, ← head_of b f) (stands_from (format_of b f) f (file_head (format_of b f)) (records_by (format_of b f) f) refl i (rw (records_of b f) h))

-- as many starts as records
pub starts_length : (at : ℕ) (rs : List (List ℕ)) → length (starts_from at rs) ≡ length rs
unfolding starts_from
starts_length at [] = refl
starts_length at (r ∷ rs) = ap suc (starts_length (at + length r) rs)
