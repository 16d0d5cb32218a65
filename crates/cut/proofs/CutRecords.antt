-- The first bytes of whole records parse to the records that end within them; and these are a front of all records.
use Prim.Native.Nat.{ℕ, ◌+◌, ◌-◌, ◌≤◌, ◌<◌}
use mathlib.Core.Path.{◌≡◌, refl, ap}
use mathlib.Core.List.{List, [], ◌∷◌, ◌++◌}
use native.Mathlib.Omega.{arith}
use lib.ListN.{length, take, drop, length-append}
use lib.Seq.{take-nil, take-append-le, drop_at}
use borrow.Author.Tests.{le-leb, lt-leb}
use Rattle.laws.proofs.Choice.{split≤}
use Rattle.laws.specs.Lists.{flat, All, all_nil, all_cons}
use Rattle.container.specs.Container.{Container, records_in, Lawful}
use Rattle.container.proofs.Records.{IsRecord, record_least, no_records, first_record, cut_record}
use Rattle.cut.specs.Recording.{Record, RecordingOf, rows, file, cut, Framing}
use Rattle.cut.specs.Left.{left_from, records_left}
use Rattle.cut.proofs.TwoParts.{Front, take_past}

-- a record of a file with this header
abbrev pub WholeRecord : (C : Container) → List ℕ → Record → Type 0
WholeRecord C h r = IsRecord (C.size h) r.bytes

-- nothing ends within n once the offset is past it
pub left_none : (at n : ℕ) (rs : List Record) → n < at → left_from at n rs ≡ []
unfolding left_from
left_none at n [] h = refl
left_none at n (r ∷ rs) h = rw (lt-leb (at + length r.bytes) n (omega arith)) (left_none (at + length r.bytes) n rs (omega arith))

module _ {C : Container} (L : Lawful C) (h : List ℕ) where
  -- a whole record is not empty
  pub whole_some : (r : Record) → WholeRecord C h r → 0 < length r.bytes
  whole_some r w = omega (arith, record_least C L h r.bytes w)

  left_in : (at m : ℕ) {rs : List Record} → All (WholeRecord C h) rs → records_in (C.size h) (take m (flat (rows rs))) ≡ rows (left_from at (at + m) rs)
  unfolding left_from
  left_in at m all_nil = rw (take-nil m, no_records C L h)
  left_in at m (all_cons {x = r} {xs = rs} w ws) =
      let b : List ℕ = r.bytes in
      split≤ (length b) m
      (λ g.
      let e : at + m ≡ at + length b + (m - length b) = omega arith in
      rw (take_past m b (flat (rows rs)) g, first_record C L h b (take (m - length b) (flat (rows rs))) w, le-leb (at + length b) (at + m) (omega arith), left_in (at + length b) (m - length b) ws, e))
      (λ g.
      rw (take-append-le m b (flat (rows rs)) (omega arith), cut_record C L h m b w g, lt-leb (at + length b) (at + m) (omega arith), left_none (at + length b) (at + m) rs (omega arith)))

-- ---- fronts

left_front : (at n : ℕ) (rs : List Record) → Front (left_from at n rs) rs
unfolding left_from
left_front at n [] = record { back = []; whole = refl }
left_front at n (r ∷ rs) =
    let f : Front (left_from (at + length r.bytes) n rs) rs = left_front (at + length r.bytes) n rs in
    split≤ (at + length r.bytes) n
    (λ h. rw (le-leb (at + length r.bytes) n h) (record { back = f.back; whole = ap (λ (l : List Record). r ∷ l) f.whole }))
    (λ h. rw (lt-leb (at + length r.bytes) n h, left_none (at + length r.bytes) n rs h) (record { back = r ∷ rs; whole = refl }))

left_grows : (at m n : ℕ) (rs : List Record) → m ≤ n → Front (left_from at m rs) (left_from at n rs)
unfolding left_from
left_grows at m n [] g = record { back = []; whole = refl }
left_grows at m n (r ∷ rs) g =
    let f : Front (left_from (at + length r.bytes) m rs) (left_from (at + length r.bytes) n rs) = left_grows (at + length r.bytes) m n rs g in
    split≤ (at + length r.bytes) m
    (λ h. rw (le-leb (at + length r.bytes) m h, le-leb (at + length r.bytes) n (omega arith)) (record { back = f.back; whole = ap (λ (l : List Record). r ∷ l) f.whole }))
    (λ h. rw (lt-leb (at + length r.bytes) m h, left_none (at + length r.bytes) m rs h) (record { back = left_from at n (r ∷ rs); whole = refl }))

left_all : (at n : ℕ) (rs : List Record) → at + length (flat (rows rs)) ≤ n → left_from at n rs ≡ rs
unfolding left_from
left_all at n [] h = refl
left_all at n (r ∷ rs) h =
    let g : length (flat (rows (r ∷ rs))) ≡ length r.bytes + length (flat (rows rs)) = length-append r.bytes (flat (rows rs)) in
    rw (le-leb (at + length r.bytes) n (omega arith), left_all (at + length r.bytes) n rs (omega arith))

module _ {C : Container} {S : Framing} (R : RecordingOf C S) where
  -- the records left are a front of all records, and of the records that a longer cut leaves
  pub records_front : (n : ℕ) → Front (records_left R n) R.records
  unfolding records_left
  records_front n = left_front C.head n R.records

  pub records_grow : (m n : ℕ) → m ≤ n → Front (records_left R m) (records_left R n)
  unfolding records_left
  records_grow m n h = left_grows C.head m n R.records h

  -- the whole file is a cut
  pub records_all : length R.header ≡ C.head → records_left R (length (file R)) ≡ R.records
  unfolding records_left file
  records_all h = left_all C.head (length (R.header ++ flat (rows R.records))) R.records (simp length-append (omega arith))

  -- the records of a cut are the records left
  pub cut_records : Lawful C → (n : ℕ) → length R.header ≡ C.head → C.head ≤ n → All (WholeRecord C R.header) R.records → records_in (C.size R.header) (drop C.head (cut R n)) ≡ rows (records_left R n)
  unfolding records_left cut file
  cut_records L n e h w =
      let f : List ℕ = flat (rows R.records) in
      let k : C.head + (n - C.head) ≡ n = omega arith in
      let p : drop C.head (take n (R.header ++ f)) ≡ take (n - C.head) f = rw (take_past n R.header f (omega arith), drop_at R.header (take (n - length R.header) f) C.head e, e) in
      rw (p, left_in L R.header C.head (n - C.head) w, k)
