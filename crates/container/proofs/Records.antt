-- The records of bytes: the first and those of what is left; and bytes that are whole records, one after another.
use Prim.Native.Nat.{ℕ, ◌<◌, ◌≤◌}
use mathlib.Core.Path.{◌≡◌, sym, ap, ◌∙◌}
use mathlib.Core.Bool.{false, cond}
use mathlib.Core.List.{List, [], ◌∷◌, ◌++◌}
use native.Mathlib.Omega.{arith}
use lib.ListN.{length, take, drop, length-append, take-append-drop}
use lib.Seq.{length-take-le, take-append_seam, drop-append_seam}
use borrow.Author.Tests.{le-leb, lt-leb}
use Rattle.laws.proofs.Choice.{split≤}
use Rattle.laws.proofs.Chop.{chop_eq}
use Rattle.laws.specs.Lists.{flat, All, all_nil, all_cons}
use Rattle.container.specs.Packets.{packets}
use Rattle.container.specs.Container.{Container, is_whole, records_in, records, tail_offset, packets_in, Lawful}

module _ (size : List ℕ → ℕ) (some_size : (b : List ℕ) → 0 < size b) where
  none_whole : is_whole size [] ≡ false
  unfolding is_whole
  none_whole = lt-leb (size []) 0 (some_size [])

  -- the first record and those of what is left
  pub records_eq : (b : List ℕ) → records_in size b ≡ cond (is_whole size b) (take (size b) b ∷ records_in size (drop (size b) b)) []
  unfolding records_in
  records_eq b = chop_eq (is_whole size) size none_whole some_size b

-- a record by itself: it says its own length
abbrev pub IsRecord : (List ℕ → ℕ) → List ℕ → Type 0
IsRecord size r = size r ≡ length r

module _ (C : Container) (L : Lawful C) (f : List ℕ) where
  pub size_some : (b : List ℕ) → 0 < C.size f b
  size_some b = omega (arith, L.least f b)

  pub record_least : (r : List ℕ) → IsRecord (C.size f) r → 16 ≤ length r
  record_least r e = omega (arith, L.least f r)

  -- the size is seen in a front of 16 bytes
  pub size_take : (m : ℕ) (r : List ℕ) → 16 ≤ m → m ≤ length r → C.size f (take m r) ≡ C.size f r
  size_take m r h g =
      let e : length (take m r) ≡ m = length-take-le m r g in
      sym (L.size_front f (take m r) (drop m r) (omega arith)) ∙ ap (λ (l : List ℕ). C.size f l) (take-append-drop m r)

  pub no_records : records_in (C.size f) [] ≡ []
  no_records = records_eq (C.size f) size_some [] ∙ rw (none_whole (C.size f) size_some)

  -- a record is the first of the records that begin with it
  pub first_record : (r x : List ℕ) → IsRecord (C.size f) r → records_in (C.size f) (r ++ x) ≡ r ∷ records_in (C.size f) x
  unfolding is_whole
  first_record r x e =
      let s : C.size f (r ++ x) ≡ length r = L.size_front f r x (record_least r e) ∙ e in
      rw (records_eq (C.size f) size_some (r ++ x), s, le-leb (length r) (length (r ++ x)) (simp length-append (omega arith)), take-append_seam r x, drop-append_seam r x)

  -- a record that is cut is none
  pub cut_record : (m : ℕ) (r : List ℕ) → IsRecord (C.size f) r → m < length r → records_in (C.size f) (take m r) ≡ []
  unfolding is_whole
  cut_record m r e h =
      let l : length (take m r) ≡ m = length-take-le m r (omega arith) in
      let s : m < C.size f (take m r) = split≤ 16 m (λ g. rw (size_take m r g (omega arith), e) h) (λ g. omega (arith, L.least f (take m r))) in
      rw (records_eq (C.size f) size_some (take m r), l, lt-leb (C.size f (take m r)) m s)

  -- whole records, one after another, are the records of their bytes
  pub whole_records : {rs : List (List ℕ)} → All (IsRecord (C.size f)) rs → records_in (C.size f) (flat rs) ≡ rs
  whole_records all_nil = no_records
  whole_records (all_cons {x = r} {xs = rs} e es) = rw (first_record r (flat rs) e, whole_records es)

-- ---- a file that is a header and whole records

module _ (C : Container) (L : Lawful C) (h : List ℕ) (e : length h ≡ C.head) (rs : List (List ℕ)) (w : All (IsRecord (C.size h)) rs) where
  pub records_written : records C (h ++ flat rs) ≡ rs
  unfolding records
  records_written = rw (L.sizes_front h (flat rs) e, ← e, drop-append_seam h (flat rs)) (whole_records C L h w)

  pub packets_written : packets_in C (h ++ flat rs) ≡ packets (C.packet h) rs
  unfolding packets_in
  packets_written = rw (L.packets_front h (flat rs) e, records_written)

  pub tail_written : tail_offset C (h ++ flat rs) ≡ length (h ++ flat rs)
  unfolding tail_offset
  tail_written = rw (records_written, ← e) (sym (length-append h (flat rs)))
