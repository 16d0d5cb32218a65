-- A walk is no longer than a key has bits: after 64 turns it has met the key's own row or has ended.
use mathlib.Core.Path.{◌≡◌, refl, sym}
use mathlib.Core.List.{List}
use mathlib.Core.Logic.{∥∥₁_elim}
use Prim.Native.Nat.{ℕ, zero, suc, ◌+◌, ◌-◌, ◌*◌, ◌/◌, ◌%◌, ◌<◌, ◌≤◌}
use native.Mathlib.Nat.{ℕ_set}
use native.Mathlib.Omega.{arith}
use Rattle.laws.proofs.Choice.{split≤}
use Rattle.tree.specs.Paths.{rest_at}
use Rattle.tree.specs.Tree.{mix_of, key_at, links_in, root_in, path_to, Indexed, Seeking}
use Rattle.tree.specs.declared.Tree.{Tree}
use Rattle.tree.proofs.Paths.{one_way}
use Rattle.tree.proofs.Index.{root_low, path_below}

-- ---- numbers and their bits

twos : ℕ → ℕ
twos zero = 1
twos (suc d) = 2 * twos d

rest_below : (a d c : ℕ) → a < twos d * c → rest_at a d < c
unfolding twos rest_at
rest_below a zero c h = omega arith
rest_below a (suc d) c h = let l : rest_at a d < 2 * c = rest_below a d (2 * c) (omega arith) in omega arith

same_bits : (a b d : ℕ) → rest_at a d ≡ rest_at b d → ((e : ℕ) → e < d → rest_at a e % 2 ≡ rest_at b e % 2) → a ≡ b
unfolding rest_at
same_bits a b zero z h = z
same_bits a b (suc d) z h = same_bits a b d (omega (arith, z, h d (omega arith))) (λ e l. h e (omega arith))

low_le : (a b : ℕ) → a ≤ b → a / 65536 ≤ b / 65536
low_le a b h = omega arith

high_le : (a b : ℕ) → a ≤ b → a / 536870912 ≤ b / 536870912
high_le a b h = omega arith

sum_less : (a b c d e f : ℕ) → a < b → c ≤ d → e ≤ f → a + c + e < b + d + f
sum_less a b c d e f p q r = omega arith

-- numbers under 2^63 come to different numbers under 2^64
mix_below : (a : ℕ) → a < 9223372036854775808 → mix_of a < 18446744073709551616
unfolding mix_of
mix_below a h = omega arith

mix_less : (a b : ℕ) → b < 9223372036854775808 → a < b → mix_of a < mix_of b
unfolding mix_of
mix_less a b l h =
    let p : a % 9223372036854775808 ≡ a = omega arith in
    let q : b % 9223372036854775808 ≡ b = omega arith in
    rw (p, q) (sum_less a b (a / 65536) (b / 65536) (a / 536870912) (b / 536870912) h (low_le a b (omega arith)) (high_le a b (omega arith)))

mix_same : (a b : ℕ) → a < 9223372036854775808 → b < 9223372036854775808 → mix_of a ≡ mix_of b → a ≡ b
mix_same a b h l e =
    split≤ a b
    (λ c. split≤ b a (λ d. omega arith) (λ d. absurd (omega (arith, e, mix_less a b l d))))
    (λ c. absurd (omega (arith, e, mix_less b a h c)))

bits_same : (a b : ℕ) → a < 9223372036854775808 → b < 9223372036854775808 → ((e : ℕ) → e < 64 → rest_at (mix_of a) e % 2 ≡ rest_at (mix_of b) e % 2) → a ≡ b
unfolding twos
bits_same a b h l s =
    let p : rest_at (mix_of a) 64 < 1 = rest_below (mix_of a) 64 1 (omega (arith, mix_below a h)) in
    let q : rest_at (mix_of b) 64 < 1 = rest_below (mix_of b) 64 1 (omega (arith, mix_below b l)) in
    mix_same a b h l (same_bits (mix_of a) (mix_of b) 64 (omega arith) s)

-- ---- the walk

module _ (w : List ℕ) (x : Tree) (n : ℕ) (s : Indexed w x n) (keys : (i : ℕ) → i < n → key_at w x i < 9223372036854775808)
    (k : ℕ) (small : k < 9223372036854775808) where
  -- a row that 64 turns or more lead to has the key
  pub far_row : (d i : ℕ) → 64 ≤ d → i < n → path_to w x k d ≡ suc i → key_at w x i ≡ k
  far_row d i far l h = ∥∥₁_elim (s.path i l) (ℕ_set (key_at w x i) k) (λ m. sym (bits_same k (key_at w x i) small (keys i l) (λ e b. (way m.0 m.1).1.1 e (omega arith)))) where
    way : (c : ℕ) → path_to w x (key_at w x i) c ≡ suc i →
        (d ≡ c) × ((root_in x k ≡ root_in x (key_at w x i)) × ((e : ℕ) → e < d → rest_at (mix_of k) e % 2 ≡ rest_at (mix_of (key_at w x i)) e % 2))
    way c g = one_way w x.links (links_in x) n s.slots s.apart (omega arith) (root_in x k) (root_in x (key_at w x i)) (rest_at (mix_of k)) (rest_at (mix_of (key_at w x i)))
        (omega arith) (root_low w x n k s) (omega arith) (root_low w x n (key_at w x i) s) d c i h g

  -- the loop of place, wherever it has come to, is at most 64 turns from the root
  pub few_turns : (at rest : ℕ) (q : Seeking w (record { at = x; count = n }) k at rest) → q.depth ≤ 64
  few_turns at rest q = split≤ q.depth 64 (λ h. h) (λ h. absurd (far h (path_to w x k (q.depth - 1)) refl)) where
    far : 64 < q.depth → (v : ℕ) → path_to w x k (q.depth - 1) ≡ v → ⊥
    far h zero e = omega (arith, e, q.met (q.depth - 1) (omega arith))
    far h (suc i) e = q.others (q.depth - 1) i (omega arith) e (far_row (q.depth - 1) i (omega arith) few e) where
      few : i < n
      few = omega (arith, e, path_below w x n s k (q.depth - 1))
