-- Signs counted record by record stand for the places where they show.
use Prim.Native.Nat.{ℕ, ◌+◌, ◌-◌, ◌<◌, ◌≤◌}
use mathlib.Core.Path.{◌≡◌, refl, sym, ◌∙◌}
use mathlib.Core.Bool.{Bool}
use mathlib.Core.List.{List, [], ◌∷◌, ◌++◌, append_assoc, append-nil}
use native.Mathlib.Omega.{arith}
use lib.ListN.{length}
use lib.Dec.{ltb}
use borrow.Author.Tests.{eq-eqb, ne_eqb, ltb-true, ltb-false}
use Rattle.laws.proofs.Choice.{split_b}
use Rattle.trace.specs.declared.Format.{Format}
use Rattle.signs.specs.Places.{Placed, where_is, records_at}
use Rattle.signs.specs.Recorded.{is_short, is_zeros, is_skipped, drops, dropped, dropped_at}
use Rattle.signs.specs.Gaps.{first_of, record_gaps}
use Rattle.signs.specs.Counting.{Counted, noted}
use Rattle.signs.proofs.Counting.{counted_none, counted_one}
use Rattle.signs.specs.declared.Gap.{Gap}
use Rattle.recorded.specs.Looking.{recorded_of, noted_if, noted_rise, looked, looked_all, unseen}
use Rattle.recorded.specs.declared.Seen.{Seen}

-- ---- a sign that a record shows or not

module _ (g : Format) (shows : List ℕ → Bool) (part : Seen → Gap) (step : (s : Seen) (at : ℕ) (r : List ℕ) → part (looked g s at r) ≡ noted_if (shows r) (part s) at) where
  pub all_counted : (s : Seen) (ats : List ℕ) (rs : List (Placed (List ℕ))) → Counted ats (part s) → Counted (ats ++ where_is shows rs) (part (looked_all g s rs))
  unfolding where_is looked_all noted_if
  all_counted s ats [] c = rw append-nil c
  all_counted s ats (r ∷ rs) c = split_b (shows r.is)
      (λ q.
      let m : part (looked g s r.at r.is) ≡ noted (part s) 1 r.at = step s r.at r.is ∙ rw q in
      let z : Counted ((ats ++ (r.at ∷ [])) ++ where_is shows rs) (part (looked_all g (looked g s r.at r.is) rs)) =
      all_counted (looked g s r.at r.is) (ats ++ (r.at ∷ [])) rs (rw m (counted_one (part s) ats r.at c)) in
      rw q (rw append_assoc at z))
      (λ q.
      let m : part (looked g s r.at r.is) ≡ part s = step s r.at r.is ∙ rw q in
      rw q (all_counted (looked g s r.at r.is) ats rs (rw m c)))

-- ---- the recorder's drops

-- so many, and the places where their count rose
record Dropped (n : ℕ) (ats : List ℕ) (g : Gap) : Type 0 where
  pub many : g.many ≡ n
  pub first : g.first ≡ first_of ats
  pub none : n ≡ 0 → length ats ≡ 0
  pub some : length ats ≡ 0 → n ≡ 0

dropped_rise : (n by at : ℕ) (ats : List ℕ) (g : Gap) → 0 < by → Dropped n ats g → Dropped (n + by) (ats ++ (at ∷ [])) (noted g by at)
unfolding first_of noted
dropped_rise n by at [] g h d =
    let z : g.many ≡ 0 = d.many ∙ d.some refl in
    record { many = rw d.many; first = rw (eq-eqb g.many 0 z); none = λ e. absurd (omega arith); some = λ e. absurd (omega arith) }
dropped_rise n by at (x ∷ xs) g h d =
    let z : g.many ≡ 0 → ⊥ = λ e. omega (arith, d.none (sym d.many ∙ e)) in
    record { many = rw d.many; first = rw (ne_eqb g.many 0 z) d.first; none = λ e. absurd (omega arith); some = λ e. absurd (omega arith) }

all_dropped :
    (g : Format) (s : Seen) (n : ℕ) (ats : List ℕ) (rs : List (Placed (List ℕ))) → Dropped n ats s.signs.dropped →
    Dropped (n + dropped g s.last rs) (ats ++ dropped_at g s.last rs) (looked_all g s rs).signs.dropped
unfolding dropped dropped_at looked_all looked noted_rise
all_dropped g s n ats [] d = let z : n + 0 ≡ n = omega arith in rw (z, append-nil) d
all_dropped g s n ats (r ∷ rs) d = split_b (ltb s.last (drops g r.is))
    (λ q.
    let h : s.last < drops g r.is = ltb-true s.last (drops g r.is) q in
    let m : (looked g s r.at r.is).signs.dropped ≡ noted s.signs.dropped (drops g r.is - s.last) r.at = rw q in
    let z : Dropped (n + (drops g r.is - s.last) + dropped g (drops g r.is) rs) ((ats ++ (r.at ∷ [])) ++ dropped_at g (drops g r.is) rs) (looked_all g (looked g s r.at r.is) rs).signs.dropped =
    all_dropped g (looked g s r.at r.is) (n + (drops g r.is - s.last)) (ats ++ (r.at ∷ [])) rs
    (rw m (dropped_rise n (drops g r.is - s.last) r.at ats s.signs.dropped (omega arith) d)) in
    let k : n + (drops g r.is - s.last) + dropped g (drops g r.is) rs ≡ n + ((drops g r.is - s.last) + dropped g (drops g r.is) rs) = omega arith in
    rw q (rw (append_assoc, k) at z))
    (λ q.
    let h : drops g r.is ≤ s.last = ltb-false s.last (drops g r.is) q in
    let m : (looked g s r.at r.is).signs.dropped ≡ s.signs.dropped = rw q in
    let z : Dropped (n + dropped g (drops g r.is) rs) (ats ++ dropped_at g (drops g r.is) rs) (looked_all g (looked g s r.at r.is) rs).signs.dropped =
    all_dropped g (looked g s r.at r.is) n ats rs (rw m d) in
    let k : (drops g r.is - s.last) + dropped g (drops g r.is) rs ≡ dropped g (drops g r.is) rs = omega arith in
    rw (q, k) z)

-- ---- all four

pub all_gaps : (g : Format) (f : List ℕ) → recorded_of (looked_all g unseen (records_at g f)).signs ≡ record_gaps g f
unfolding record_gaps looked first_of
all_gaps g f =
    let rs : List (Placed (List ℕ)) = records_at g f in
    let e : Seen = looked_all g unseen rs in
    let a : Counted (where_is (is_short g) rs) e.signs.short = all_counted g (is_short g) (λ s. s.signs.short) (λ s at r. refl) unseen [] rs counted_none in
    let b : Dropped (0 + dropped g 0 rs) (dropped_at g 0 rs) e.signs.dropped =
    all_dropped g unseen 0 [] rs (record { many = refl; first = refl; none = λ z. refl; some = λ z. refl }) in
    let c : Counted (where_is (is_skipped g) rs) e.signs.skipped = all_counted g (is_skipped g) (λ s. s.signs.skipped) (λ s at r. refl) unseen [] rs counted_none in
    let d : Counted (where_is is_zeros rs) e.signs.zeros = all_counted g is_zeros (λ s. s.signs.zeros) (λ s at r. refl) unseen [] rs counted_none in
    let z : 0 + dropped g 0 rs ≡ dropped g 0 rs = omega arith in
    rw (a.many, a.first, b.many, b.first, c.many, c.first, d.many, d.first, z)
