-- The scan of a part behind what is held.
use Prim.Native.Nat.{ℕ, zero, suc, ◌+◌, ◌-◌, ◌<◌, ◌≤◌}
use mathlib.Core.Path.{◌≡◌, refl, sym, ap, ◌∙◌}
use mathlib.Core.Bool.{Bool, true, false, cond}
use mathlib.Core.List.{List, [], ◌∷◌, ◌++◌}
use native.Mathlib.Omega.{arith}
use lib.ListN.{length, take, drop, length-append, length-drop}
use lib.Seq.{length-take-le}
use lib.Dec.{eqb}
use lib.Pointwise.{pointwise}
use denote.Ref.{Bor}
use Rattle.std.specs.Prelude.{Option, None, Some, MatchOption}
use Rattle.std.specs.Option.{unwrap_or}
use Rattle.std.specs.Bool.{Decides}
use Rattle.std.proofs.lemmas.Slice.Eq.{strip_suffix_is}
use mir.Val.{bool_byte}
use borrow.Author.Tests.{eqb-true, eq-eqb, ne_eqb, lt-ltb, le-ltb}
use Rattle.laws.proofs.Choice.{split_b}
use Rattle.laws.proofs.Lists.{drop_end}
use Rattle.mdr.specs.Frame.{unpacks_of}
use Rattle.spans.specs.Scan.{begun, end, ended, spans_n, rest_n, spans_of, rest_of}
use Rattle.search.specs.Seek.{seek}
use Rattle.search.proofs.Searching.{seek_le}
use Rattle.spans.proofs.Scanning.{shorter, rest_more}
use Rattle.spans.specs.Bytewise.{Quiet}
use Rattle.spans.proofs.Bytewise.{no_end, no_start_law, closes_first}
use Rattle.spans.specs.Parts.{bit, tally_one, tally_all, CountedIs}
use Rattle.search.specs.Steps.{Sought}
use Rattle.spans.specs.Scans.{ScanPre, Begins, AddedIs, FirstPre, FirstIs, FromPre, OpenPre, OpenIs, ScannedIs}
use Rattle.spans.specs.declared.Tally.{Tally}
use Rattle.spans.specs.declared.Counted.{Counted}
use Rattle.spans.specs.declared.First.{First}

nil : (b : List ℕ) → length b ≡ 0 → b ≡ []
nil [] e = refl
nil (x ∷ b) e = absurd (omega arith)

-- ---- the first 3C

-- an x at the end is the first, or another is
seek_last : (x : ℕ) (l : List ℕ) → seek x (l ++ (x ∷ [])) ≡ seek x l
unfolding seek
seek_last x [] = rw (eq-eqb x x refl)
seek_last x (y ∷ l) = rw (seek_last x l)

same_bytes : (a b : ℕ) → Decides (eqb a b) (a ≡ b)
same_bytes a b = (eqb-true a b, eq-eqb a b)

abbrev pub Stripped : List ℕ → List ℕ → Option (Bor (List ℕ)) → Type 0
Stripped l p o = MatchOption o (pointwise eqb (drop (length l - length p) l) p ≡ false) (λ x. (pointwise eqb (drop (length l - length p) l) p ≡ true) × (x.now ≡ take (length l - length p) l) × (length x.now + length p ≡ length l))

module _ (s : Bor (List ℕ)) (p : List ℕ) (e : p ≡ 0x3C ∷ []) where
  pub first_before_last : (o : Option (Bor (List ℕ))) → Stripped s.now p o → (u : Bor (List ℕ)) → u ≡ unwrap_or o s → (r : ℕ) → Sought u.now 0x3C r → r ≡ seek 0x3C s.now
  first_before_last None m u eu r k = rw eu at k.at
  first_before_last (Some x) m u eu r k = (rw eu at k.at) ∙ sym (seek_last 0x3C x.now) ∙ ap (seek 0x3C) (rw e at (sym (strip_suffix_is same_bytes s.now p (Some x) m)))

-- ---- one span more

bit_from : (b : Bool) → bool_byte b ≡ bit b
bit_from true = refl
bit_from false = refl

module _ (x : List ℕ) (t : Tally) where
  pub one_first : t.frames ≡ 0 → (b : Bool) → b ≡ unpacks_of x → (r : ℕ) → r ≡ bool_byte b → record { count = t.count + 1; bytes = t.bytes + 14 + length x; frames = r } ≡ tally_one t x
  unfolding tally_one
  one_first e b eb r er = rw (eq-eqb t.frames 0 e, er, bit_from b, eb)

  pub one_known : (t.frames ≡ 0 → ⊥) → record { count = t.count + 1; bytes = t.bytes + 14 + length x; frames = t.frames } ≡ tally_one t x
  unfolding tally_one
  one_known e = rw (ne_eqb t.frames 0 e)

module _ (x : List ℕ) (h : ℕ) (t : Tally) where
  pub added_known : 0 < t.frames → AddedIs x h t (record { count = t.count + 1; bytes = t.bytes + 14 + h + length x; frames = t.frames })
  unfolding tally_one
  added_known e = record {
    is = λ b l. (let k : t.bytes + 14 + length (b ++ x) ≡ t.bytes + 14 + h + length x = omega (arith, length-append b x) in rw (k, ne_eqb t.frames 0 (λ z. omega arith)));
  }

-- ---- the first span

zeros : ℕ → List ℕ
zeros zero = []
zeros (suc n) = 0 ∷ zeros n

long_zeros : (n : ℕ) → length (zeros n) ≡ n
unfolding zeros
long_zeros zero = refl
long_zeros (suc n) = ap suc (long_zeros n)

module _ (x : List ℕ) (h : ℕ) (t : Tally) (e : ℕ) (q : FirstPre x h t e) where
  closing : ended x ≡ true
  closing = lt-ltb (seek 0x3C x) (length x) (omega (arith, q.at, q.high))

  taken : length (take (e + 1) x) ≡ e + 1
  taken = length-take-le (e + 1) x (omega (arith, q.high))

  module _ (g : Bool) (s : Begins x h g) where
    first_is : g ≡ true → (r : Tally) → AddedIs (take (e + 1) x) h t r → FirstIs x h t (record { tally = r; skip = e + 1 })
    unfolding tally_all tally_one
    first_is z r a =
        let k : e + 1 ≡ end x = omega (arith, q.at) in
        record {
          within = omega (arith, q.high);
          all = λ b u l. ap (tally_all t) (closes_first b x u closing (λ y. s.yes z (sym l ∙ y))).0 ∙ rw (a.is b l, k);
          left = λ b u l. (closes_first b x u closing (λ y. s.yes z (sym l ∙ y))).1 ∙ rw k;
          fewer = rw (a.is (zeros h) (long_zeros h)) (omega (arith, q.pre.room.fewer));
          bytes = rw (a.is (zeros h) (long_zeros h)) (omega (arith, q.high, taken, long_zeros h, length-append (zeros h) (take (e + 1) x)));
        }

    pub first_counted : g ≡ true → (r : Tally) → AddedIs (take (e + 1 - 0) x) h t r → FirstIs x h t (record { tally = r; skip = e + 1 })
    first_counted z r a = let y : e + 1 - 0 ≡ e + 1 = omega arith in first_is z r (rw y at a)

    pub first_none : g ≡ false → FirstIs x h t (record { tally = t; skip = 0 })
    first_none z = record {
      within = omega arith;
      all = λ b u l. rw (nil b (l ∙ s.no z));
      left = λ b u l. rw (nil b (l ∙ s.no z));
      fewer = q.pre.room.fewer;
      bytes = omega arith;
    }

-- ---- from a place on

pub from_none : (x : List ℕ) (skip : ℕ) (t : Tally) → FromPre x skip t → skip ≡ length x → CountedIs (drop skip x) t (record { tally = t; rest = 0 })
unfolding spans_of spans_n rest_of rest_n seek tally_all
from_none x skip t q e = rw (drop_end x skip (omega arith)) (record { all = refl; left = refl; fewer = q.room.fewer; bytes = omega arith; most = omega arith })

-- ---- a part with no 3C

-- nor has what follows the first 3E
drop_none : (x : List ℕ) (m : ℕ) → seek 0x3C x ≡ length x → seek 0x3C (drop m x) ≡ length (drop m x)
unfolding seek
drop_none [] zero e = refl
drop_none [] (suc m) e = refl
drop_none (y ∷ x) zero e = e
drop_none (y ∷ x) (suc m) e = drop_none x m (less (eqb y 0x3C) e) where
  less : (t : Bool) → cond t 0 (suc (seek 0x3C x)) ≡ suc (length x) → seek 0x3C x ≡ length x
  less true z = absurd (omega arith)
  less false z = omega arith

module _ (x : List ℕ) (z : seek 0x3C x ≡ length x) where
  unended : ended x ≡ false
  unended = le-ltb (seek 0x3C x) (length x) (omega arith)

  unbegun : ended (begun x) ≡ false
  unbegun = le-ltb (seek 0x3C (begun x)) (length (begun x)) (omega (arith, drop_none x (seek 0x3E x) z))

  pub silent : (b : List ℕ) → Quiet b → spans_of (b ++ x) ≡ []
  silent [] u = (no_start_law x unbegun).0
  silent (a ∷ b) u = (no_end (a ∷ b) x (omega arith) u unended).0

  -- behind something held all is held
  pub silent_rest : (b : List ℕ) → Quiet b → 0 < length b → rest_of (b ++ x) ≡ b ++ x
  silent_rest b u h = (no_end b x h u unended).1

left_le : (n : ℕ) (b : List ℕ) → length (rest_n n b) ≤ length b
unfolding rest_n
left_le zero b = omega arith
left_le (suc n) b =
    split_b (ended (begun b))
    (λ t. rw t (omega (arith, left_le n (drop (end (begun b)) (begun b)), shorter b t)))
    (λ t. rw t (omega (arith, length-drop (seek 0x3E b) b)))

pub rest_le : (b : List ℕ) → length (rest_of b) ≤ length b
unfolding rest_of
rest_le b = left_le (suc (length b)) b

-- if all of a part is left, nothing was taken
pub all_left : (b : List ℕ) → length (rest_of b) ≡ length b → spans_of b ≡ []
all_left b e =
    split_b (ended (begun b))
    (λ t. absurd (omega (arith, rw (rest_more b t) at e, rest_le (drop (end (begun b)) (begun b)), shorter b t)))
    (λ t. (no_start_law b t).0)

module _ (x : List ℕ) (h : ℕ) (q : OpenPre x h) where
  pub open_held : 0 < h → OpenIs x h (h + length x)
  open_held g = record { is = λ b u l. rw (silent_rest x q.none b u (omega arith)) (omega (arith, length-append b x)) }

  pub open_self : h ≤ 0 → (s : ℕ) → Sought x 0x3E s → OpenIs x h (length x - s)
  open_self g s o = record {
    is = λ b u l. rw (nil b (omega arith), (no_start_law x (unbegun x q.none)).1) (omega (arith, o.at, length-drop (seek 0x3E x) x));
  }

-- ---- the scan

module _ (x : List ℕ) (h : ℕ) (t : Tally) (q : ScanPre x h t) (e : ℕ) (ee : e ≡ seek 0x3C x) where
  pub scan_open : e ≡ length x → OpenPre x h
  scan_open z = record { none = sym ee ∙ z; small = omega (arith, q.room.bytes) }

  pub scanned_open : e ≡ length x → (r : ℕ) → OpenIs x h r → ScannedIs x h t (record { tally = t; end = e; rest = r })
  unfolding tally_all
  scanned_open z r o = record {
    end = ee;
    all = λ b u l. rw (silent x (sym ee ∙ z) b u);
    left = o.is;
    fewer = q.room.fewer;
    bytes = omega arith;
  }

  pub scan_first : (e ≡ length x → ⊥) → FirstPre x h t e
  scan_first n = record { pre = q; at = ee; high = omega (arith, seek_le 0x3C x) }

  module _ (f : First) (g : FirstIs x h t f) where
    pub scanned : (c : Counted) → CountedIs (drop f.skip x) f.tally c → ScannedIs x h t (record { tally = c.tally; end = e; rest = c.rest })
    scanned c k = record {
      end = ee;
      all = λ b u l. k.all ∙ sym (g.all b u l);
      left = λ b u l. k.left ∙ ap length (sym (g.left b u l));
      fewer = k.fewer;
      bytes = omega (arith, k.bytes, g.bytes, length-drop f.skip x);
    }
