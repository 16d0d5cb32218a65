-- What stores leave in work.
use Prim.Native.Nat.{ℕ, suc, ◌+◌, ◌-◌, ◌<◌, ◌≤◌}
use mathlib.Core.Path.{◌≡◌, refl, sym, ap, ◌∙◌}
use mathlib.Core.List.{List, [], ◌∷◌, ◌++◌, append_assoc}
use native.Mathlib.Omega.{arith}
use lib.ListN.{length, set, take, drop, length-drop}
use lib.Seq.{sets, sets-eq, drop_at, drop-drop, take_at, length-take-le}

-- what was stored at a place is there
pub part_sets : (w v j : List ℕ) (a e n : ℕ) → v ≡ sets w a j → n ≡ length j → e ≡ a + n → a + n ≤ length w → take (e - a) (drop a v) ≡ j
part_sets w v j a e n ev en ee h =
    let z : e - a ≡ length j = omega arith in
    let s : v ≡ take a w ++ (j ++ drop (a + length j) w) = ev ∙ sets-eq j w a (omega arith) ∙ append_assoc (take a w) j (drop (a + length j) w) in
    rw (z, s, drop_at (take a w) (j ++ drop (a + length j) w) a (length-take-le a w (omega arith))) (take_at j (drop (a + length j) w) (length j) refl)

-- a store from a place on is a store at the start of what lies from there on
pub sets_drop : (w : List ℕ) (a : ℕ) (x : List ℕ) → a + length x ≤ length w → take a w ++ sets (drop a w) 0 x ≡ sets w a x
sets_drop w a x h =
    let z : 0 + length x ≡ length x = omega arith in
    let s : sets (drop a w) 0 x ≡ x ++ drop (length x) (drop a w) = rw z at (sets-eq x (drop a w) 0 (omega (arith, length-drop a w))) in
    rw (s, drop-drop (length x) a w) (sym (sets-eq x w a h ∙ append_assoc (take a w) x (drop (a + length x) w)))
