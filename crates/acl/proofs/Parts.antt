-- Numbers after a place of a list, and parts of a part, read in the list.
use Prim.Native.Nat.{ℕ, zero, suc, ◌+◌, ◌-◌, ◌≤◌}
use mathlib.Core.Path.{◌≡◌, sym, ap, ◌∙◌}
use mathlib.Core.List.{List, [], ◌∷◌}
use native.Mathlib.Omega.{arith}
use lib.ListN.{take, drop}
use lib.Seq.{get_or-drop, drop-drop, take-nil}
use Rattle.laws.specs.Numbers.{le32, be32, be64}
use Rattle.words.proofs.Front.{part_take}

-- what follows a place
module _ (f : List ℕ) (at : ℕ) where
  pub be32_drop : (i : ℕ) → be32 (drop at f) i ≡ be32 f (at + i)
  unfolding be32
  be32_drop i =
      let a : at + (i + 1) ≡ at + i + 1 = omega arith in
      let b : at + (i + 2) ≡ at + i + 2 = omega arith in
      let c : at + (i + 3) ≡ at + i + 3 = omega arith in
      rw (get_or-drop at f i 0, get_or-drop at f (i + 1) 0, get_or-drop at f (i + 2) 0, get_or-drop at f (i + 3) 0, a, b, c)

  pub le32_drop : (i : ℕ) → le32 (drop at f) i ≡ le32 f (at + i)
  unfolding le32
  le32_drop i =
      let a : at + (i + 1) ≡ at + i + 1 = omega arith in
      let b : at + (i + 2) ≡ at + i + 2 = omega arith in
      let c : at + (i + 3) ≡ at + i + 3 = omega arith in
      rw (get_or-drop at f i 0, get_or-drop at f (i + 1) 0, get_or-drop at f (i + 2) 0, get_or-drop at f (i + 3) 0, a, b, c)

  pub be64_drop : (i : ℕ) → be64 (drop at f) i ≡ be64 f (at + i)
  unfolding be64
  be64_drop i =
      let a : at + (i + 4) ≡ at + i + 4 = omega arith in
      rw (be32_drop i, be32_drop (i + 4), a)

drop_take : (n k : ℕ) (l : List ℕ) → n ≤ k → drop n (take k l) ≡ take (k - n) (drop n l)
drop_take zero k l h = let z : k - 0 ≡ k = omega arith in rw z
drop_take (suc n) zero l h = absurd (omega arith)
drop_take (suc n) (suc k) [] h = sym (take-nil (suc k - suc n))
drop_take (suc n) (suc k) (x ∷ l) h = let z : suc k - suc n ≡ k - n = omega arith in rw z (drop_take n k l (omega arith))

-- a part of a part
pub drop_part : (f : List ℕ) (at k n : ℕ) → n ≤ k → drop n (take k (drop at f)) ≡ take (k - n) (drop (at + n) f)
drop_part f at k n h = drop_take n k (drop at f) h ∙ ap (take (k - n)) (drop-drop n at f)

pub part_part : (f : List ℕ) (at k a n : ℕ) → a + n ≤ k → take n (drop a (take k (drop at f))) ≡ take n (drop (at + a) f)
part_part f at k a n h = sym (part_take a n k (drop at f) h) ∙ ap (take n) (drop-drop a at f)
