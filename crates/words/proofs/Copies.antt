-- Laws of specs/Copies.
use mathlib.Core.Path.{◌≡◌, refl}
use mathlib.Core.List.{List, [], ◌∷◌}
use Prim.Native.Nat.{ℕ, zero, suc, ◌+◌, ◌-◌, ◌/◌, ◌%◌, ◌<◌, ◌≤◌}
use native.Mathlib.Omega.{arith}
use lib.ListN.{length, get_or, set, drop}
use Rattle.laws.specs.Numbers.{le}
use Rattle.laws.proofs.Lists.{drop_step, drop_end}
use Rattle.laws.specs.Stores.{Writes, Emitting}
use Rattle.laws.proofs.Stores.{emit_start, emit_turn, emit_end}
use Rattle.words.specs.Copies.{Numbering}

-- one store of a loop that writes
pub emit_one : (out₀ : List ℕ) (at₀ : ℕ) (all out : List ℕ) (at b : ℕ) (rest rest' : List ℕ) → Emitting out₀ at₀ all out at rest → rest ≡ b ∷ rest' → Emitting out₀ at₀ all (set out at b) (at + 1) rest'
emit_one out₀ at₀ all out at b rest rest' s e = emit_turn out₀ at₀ all out at rest s (b ∷ []) rest' (at + 1) (set out at b) e (record { next = refl; writes = refl })

-- a slice, byte by byte
module _ (src out₀ : List ℕ) (at : ℕ) (out : List ℕ) (i : ℕ) (s : Emitting out₀ at src out (at + i) (drop i src)) where
  pub few_turn : i < length src → Emitting out₀ at src (set out (at + i) (get_or src i 0)) (at + (i + 1)) (drop (i + 1) src)
  few_turn h =
      let n : at + i + 1 ≡ at + (i + 1) = omega arith in
      rw n at (emit_one out₀ at src out (at + i) (get_or src i 0) (drop i src) (drop (i + 1) src) s (drop_step src i h))

  pub few_end : length src ≤ i → i ≤ length src → Writes out₀ at src (at + length src) out
  few_end h g =
      let z : i ≡ length src = omega arith in
      rw z at (emit_end out₀ at src out (at + i) (drop i src) s (drop_end src i h))

pub numbering_start : (v width : ℕ) (out : List ℕ) (at : ℕ) → Numbering v width out at out (at + 0) v
numbering_start v width out at =
    let y : at + 0 ≡ at = omega arith in
    let z : at + width - at ≡ width = omega arith in
    rw y (record { within = omega arith; emits = rw z (emit_start out at (le width v)) })

le_step : (k v : ℕ) → 0 < k → le k v ≡ v % 256 ∷ le (k - 1) (v / 256)
le_step zero v h = absurd (omega arith)
le_step (suc k) v h = let z : suc k - 1 ≡ k = omega arith in rw z

module _ (v width : ℕ) (out₀ : List ℕ) (at₀ : ℕ) (out : List ℕ) (at rest : ℕ) (c : Numbering v width out₀ at₀ out at rest) where
  turn : at < at₀ + width → Numbering v width out₀ at₀ (set out at (rest % 256)) (at + 1) (rest / 256)
  turn h =
      let z : at₀ + width - at - 1 ≡ at₀ + width - (at + 1) = omega arith in
      record {
        within = omega arith;
        emits = rw (← z) (emit_one out₀ at₀ (le width v) out at (rest % 256) (le (at₀ + width - at) rest) (le (at₀ + width - at - 1) (rest / 256)) c.emits (le_step (at₀ + width - at) rest (omega arith)));
      }

  pub numbering_end : at₀ + width ≤ at → Writes out₀ at₀ (le width v) (at₀ + width) out
  numbering_end h =
      let z : at₀ + width - at ≡ 0 = omega arith in
      let e : at ≡ at₀ + width = omega (arith, c.within) in
      rw e at (emit_end out₀ at₀ (le width v) out at (le (at₀ + width - at) rest) c.emits (rw z))

-- the i-th byte
pub numbering_turn : (v width : ℕ) (out₀ : List ℕ) (at₀ : ℕ) (out : List ℕ) (i rest : ℕ) → Numbering v width out₀ at₀ out (at₀ + i) rest
    → i < width → Numbering v width out₀ at₀ (set out (at₀ + i) (rest % 256)) (at₀ + (i + 1)) (rest / 256)
numbering_turn v width out₀ at₀ out i rest c h =
    let k : at₀ + (i + 1) ≡ at₀ + i + 1 = omega arith in
    rw k (turn v width out₀ at₀ out (at₀ + i) rest c (omega arith))
