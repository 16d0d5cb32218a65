-- Laws of the rule on one buffer: its equations without a number of repetitions, the search for a byte, the next span from a place on.
use Prim.Native.Nat.{ℕ, ◌-◌, ◌<◌, zero, suc}
use mathlib.Core.Path.{◌≡◌}
use mathlib.Core.Bool.{true, false}
use mathlib.Core.List.{List, [], ◌∷◌}
use native.Mathlib.Omega.{arith}
use lib.ListN.{length, drop, length-drop, take}
use borrow.Author.Tests.{ltb-true}
use Rattle.search.specs.Seek.{seek}
use Rattle.spans.specs.Scan.{begun, end, ended, spans_n, rest_n, spans_of, rest_of}
use Rattle.laws.proofs.Choice.{split_b}

-- ---- the equations

pub shorter : (b : List ℕ) → ended (begun b) ≡ true → length (drop (end (begun b)) (begun b)) < length b
shorter b e =
    let h : seek 0x3C (begun b) < length (begun b) = ltb-true (seek 0x3C (begun b)) (length (begun b)) e in
    let k : length (begun b) ≡ length b - seek 0x3E b = length-drop (seek 0x3E b) b in
    let m : length (drop (end (begun b)) (begun b)) ≡ length (begun b) - end (begun b) = length-drop (end (begun b)) (begun b) in
    omega arith

spans_fuel : (n m : ℕ) (b : List ℕ) → length b < n → length b < m → spans_n n b ≡ spans_n m b
unfolding spans_n
spans_fuel zero m b h g = absurd (omega arith)
spans_fuel (suc n) zero b h g = absurd (omega arith)
spans_fuel (suc n) (suc m) b h g =
    split_b (ended (begun b))
    (λ e. let s = shorter b e in rw (e, spans_fuel n m (drop (end (begun b)) (begun b)) (omega arith) (omega arith)))
    (λ e. rw e)

rest_fuel : (n m : ℕ) (b : List ℕ) → length b < n → length b < m → rest_n n b ≡ rest_n m b
unfolding rest_n
rest_fuel zero m b h g = absurd (omega arith)
rest_fuel (suc n) zero b h g = absurd (omega arith)
rest_fuel (suc n) (suc m) b h g =
    split_b (ended (begun b))
    (λ e. let s = shorter b e in rw (e, rest_fuel n m (drop (end (begun b)) (begun b)) (omega arith) (omega arith)))
    (λ e. rw e)

pub spans_more : (b : List ℕ) → ended (begun b) ≡ true → spans_of b ≡ take (end (begun b)) (begun b) ∷ spans_of (drop (end (begun b)) (begun b))
unfolding spans_of spans_n
spans_more b e = let s = shorter b e in rw (e, spans_fuel (length b) (suc (length (drop (end (begun b)) (begun b)))) (drop (end (begun b)) (begun b)) s (omega arith))

pub spans_none : (b : List ℕ) → ended (begun b) ≡ false → spans_of b ≡ []
unfolding spans_of spans_n
spans_none b e = rw e

pub rest_more : (b : List ℕ) → ended (begun b) ≡ true → rest_of b ≡ rest_of (drop (end (begun b)) (begun b))
unfolding rest_of rest_n
rest_more b e = let s = shorter b e in rw (e, rest_fuel (length b) (suc (length (drop (end (begun b)) (begun b)))) (drop (end (begun b)) (begun b)) s (omega arith))

pub rest_none : (b : List ℕ) → ended (begun b) ≡ false → rest_of b ≡ begun b
unfolding rest_of rest_n
rest_none b e = rw e
