-- Different keys part after a bounded number of turns: they are in different trees, or one of their first 87 bits is not the same.
use mathlib.Core.Path.{◌≡◌, refl, sym, ap, ◌∙◌}
use mathlib.Core.List.{[], ◌∷◌}
use Prim.Native.Nat.{ℕ, zero, suc, ◌+◌, ◌*◌, ◌/◌, ◌%◌, ◌<◌, ◌≤◌}
use native.Mathlib.Omega.{arith}
use Rattle.laws.specs.Keys.{Key}
use Rattle.classes.specs.Bits.{mix_of, pair_of, first_of, second_of, turn_of, roots_of, bits_of}
use Rattle.classes.proofs.Bits.{turn_used, turn_on, roots_case}

twice : ℕ → ℕ
twice zero = 1
twice (suc n) = 2 * twice n

twice_some : (n : ℕ) → 0 < twice n
unfolding twice
twice_some zero = omega arith
twice_some (suc n) = omega (arith, twice_some n)

-- d turns of a key, from a number on
turned : Key → ℕ → ℕ → ℕ
turned k r zero = r
turned k r (suc d) = turn_of k (turned k r d)

turned_first : (k : Key) (r d : ℕ) → turned k r (suc d) ≡ turned k (turn_of k r) d
unfolding turned
turned_first k r zero = refl
turned_first k r (suc d) = ap (turn_of k) (turned_first k r d)

bits_turned : (m : ℕ) (k : Key) (n d : ℕ) → bits_of m k (n + d) ≡ turned k (bits_of m k n) d
unfolding turned bits_of
bits_turned m k n zero = let z : n + 0 ≡ n = omega arith in rw z
bits_turned m k n (suc d) = let z : n + suc d ≡ suc (n + d) = omega arith in rw z (ap (turn_of k) (bits_turned m k n d))

-- a number with its highest bit, the mark, above n others
record Marked (n a : ℕ) : Type 0 where
  least : twice n ≤ a
  most : a < 2 * twice n

module _ (k : Key) (n a : ℕ) (h : Marked (suc (suc n)) a) where
  half : Marked (suc n) (a / 2)
  unfolding twice
  half = record { least = omega (arith, h.least); most = omega (arith, h.most) }

  onward : turn_of k a ≡ a / 2
  unfolding twice
  onward = sym (turn_on k a (λ e. omega (arith, e, twice_some n, h.least)))

-- n turns use the bits up
used : (k : Key) (n a : ℕ) → Marked (suc n) a → turned k a (suc n) ≡ second_of k
unfolding turned twice
used k zero a h = sym (turn_used k a (omega (arith, h.least, h.most)) (second_of k) refl)
used k (suc n) a h = turned_first k a (suc n) ∙ ap (λ x. turned k x (suc n)) (onward k n a h) ∙ used k n (a / 2) (half k n a h)

-- and say which number it was
same_bits : (k l : Key) (n a b : ℕ) → Marked (suc n) a → Marked (suc n) b → ((d : ℕ) → d < suc n → turned k a d % 2 ≡ turned l b d % 2) → a ≡ b
unfolding turned twice
same_bits k l zero a b h g e = omega (arith, h.least, h.most, g.least, g.most, e 0 (omega arith))
same_bits k l (suc n) a b h g e = let high : a / 2 ≡ b / 2 = same_bits k l n (a / 2) (b / 2) (half k n a h) (half l n b g) bit in omega (arith, low, high) where
  low : a % 2 ≡ b % 2
  low = e 0 (omega arith)

  bit : (d : ℕ) → d < suc n → turned k (a / 2) d % 2 ≡ turned l (b / 2) d % 2
  bit d r =
      let p : turned k a (suc d) ≡ turned k (a / 2) d = turned_first k a d ∙ rw (onward k n a h) in
      let q : turned l b (suc d) ≡ turned l (b / 2) d = turned_first l b d ∙ rw (onward l n b g) in
      ap (λ (x : ℕ). x % 2) (sym p) ∙ e (suc d) (omega arith) ∙ ap (λ (x : ℕ). x % 2) q

same_rest : (s x y : ℕ) → x < 16777216 → y < 16777216 → 16777216 + (s + x) % 16777216 ≡ 16777216 + (s + y) % 16777216 → x ≡ y
same_rest s x y p q e = omega arith

same_sum : (s c a g e : ℕ) → c < 65536 → a < 64 → g < 65536 → e < 64 → 16777216 + (s + c + 106039 * a) % 16777216 ≡ 16777216 + (s + g + 106039 * e) % 16777216 → c + 106039 * a ≡ g + 106039 * e
same_sum s c a g e h i j k z =
    let x : s + c + 106039 * a ≡ s + (c + 106039 * a) = omega arith in
    let y : s + g + 106039 * e ≡ s + (g + 106039 * e) = omega arith in
    same_rest s (c + 106039 * a) (g + 106039 * e) (omega arith) (omega arith) (rw (x, y) at z)

-- a key as pieces have it: DLCI, side, CID and counts
pub record Ranged (dlci side cid counts : ℕ) : Type 0 where
  pub dlcis : dlci < 64
  pub sides : side < 1073741824
  pub cids : cid < 65536
  pub many : counts < 4294967296

mix_least : (a b c d : ℕ) → 16777216 ≤ mix_of a b c d
unfolding mix_of
mix_least a b c d = omega arith

mix_most : (a b c d : ℕ) → mix_of a b c d < 33554432
unfolding mix_of
mix_most a b c d = omega arith

pair_marked : (b d : ℕ) → d < 4294967296 → Marked 63 (pair_of b d)
unfolding twice pair_of
pair_marked b d h = record { least = omega arith; most = omega arith }

-- the trees are so many that what is left of a first number is marked too
record Halved (m e : ℕ) : Type 0 where
  few : e < 24
  marked : (x : ℕ) → 16777216 ≤ x → x < 33554432 → Marked (suc e) (x / m)
  whole : (x y : ℕ) → x % m ≡ y % m → x / m ≡ y / m → x ≡ y

module _ (a b c d e f g h : ℕ) (p : Ranged a b c d) (q : Ranged e f g h) where
  same_pair : pair_of b d ≡ pair_of f h → (b ≡ f) × (d ≡ h)
  unfolding pair_of
  same_pair z = (omega (arith, z, p.sides, p.many, q.sides, q.many), omega (arith, z, p.sides, p.many, q.sides, q.many))

  same_mix : b ≡ f → d ≡ h → mix_of a b c d ≡ mix_of e f g h → (a ≡ e) × (c ≡ g)
  unfolding mix_of
  same_mix x y z =
      let v : c + 106039 * a ≡ g + 106039 * e = same_sum _ c a g e p.cids p.dlcis q.cids q.dlcis (rw (x, y) at z) in
      (omega (arith, v, p.cids, q.cids), omega (arith, v, p.cids, q.cids))

  module _ (m t : ℕ) (o : Halved m t) (same : mix_of a b c d % m ≡ mix_of e f g h % m) (bit : (n : ℕ) → n < 87 → bits_of m (a ∷ b ∷ c ∷ d ∷ []) n % 2 ≡ bits_of m (e ∷ f ∷ g ∷ h ∷ []) n % 2) where
    k_marked : Marked (suc t) (mix_of a b c d / m)
    k_marked = o.marked (mix_of a b c d) (mix_least a b c d) (mix_most a b c d)

    l_marked : Marked (suc t) (mix_of e f g h / m)
    l_marked = o.marked (mix_of e f g h) (mix_least e f g h) (mix_most e f g h)

    early : (n : ℕ) → n < suc t → turned (a ∷ b ∷ c ∷ d ∷ []) (mix_of a b c d / m) n % 2 ≡ turned (e ∷ f ∷ g ∷ h ∷ []) (mix_of e f g h / m) n % 2
    unfolding first_of bits_of
    early n r =
        let z : 0 + n ≡ n = omega arith in
        let x : bits_of m (a ∷ b ∷ c ∷ d ∷ []) n ≡ turned (a ∷ b ∷ c ∷ d ∷ []) (mix_of a b c d / m) n = rw z at (bits_turned m (a ∷ b ∷ c ∷ d ∷ []) 0 n) in
        let y : bits_of m (e ∷ f ∷ g ∷ h ∷ []) n ≡ turned (e ∷ f ∷ g ∷ h ∷ []) (mix_of e f g h / m) n = rw z at (bits_turned m (e ∷ f ∷ g ∷ h ∷ []) 0 n) in
        rw (← x, ← y) (bit n (omega (arith, o.few)))

    k_second : bits_of m (a ∷ b ∷ c ∷ d ∷ []) (0 + suc t) ≡ pair_of b d
    unfolding first_of second_of bits_of
    k_second = bits_turned m (a ∷ b ∷ c ∷ d ∷ []) 0 (suc t) ∙ used (a ∷ b ∷ c ∷ d ∷ []) t (mix_of a b c d / m) k_marked

    l_second : bits_of m (e ∷ f ∷ g ∷ h ∷ []) (0 + suc t) ≡ pair_of f h
    unfolding first_of second_of bits_of
    l_second = bits_turned m (e ∷ f ∷ g ∷ h ∷ []) 0 (suc t) ∙ used (e ∷ f ∷ g ∷ h ∷ []) t (mix_of e f g h / m) l_marked

    late : (n : ℕ) → n < 63 → turned (a ∷ b ∷ c ∷ d ∷ []) (pair_of b d) n % 2 ≡ turned (e ∷ f ∷ g ∷ h ∷ []) (pair_of f h) n % 2
    late n r =
        let x : bits_of m (a ∷ b ∷ c ∷ d ∷ []) (0 + suc t + n) ≡ turned (a ∷ b ∷ c ∷ d ∷ []) (pair_of b d) n = bits_turned m (a ∷ b ∷ c ∷ d ∷ []) (0 + suc t) n ∙ rw k_second in
        let y : bits_of m (e ∷ f ∷ g ∷ h ∷ []) (0 + suc t + n) ≡ turned (e ∷ f ∷ g ∷ h ∷ []) (pair_of f h) n = bits_turned m (e ∷ f ∷ g ∷ h ∷ []) (0 + suc t) n ∙ rw l_second in
        rw (← x, ← y) (bit (0 + suc t + n) (omega (arith, o.few)))

    same_key : ◌≡◌ {A = Key} (a ∷ b ∷ c ∷ d ∷ []) (e ∷ f ∷ g ∷ h ∷ [])
    same_key =
        let x : mix_of a b c d / m ≡ mix_of e f g h / m = same_bits (a ∷ b ∷ c ∷ d ∷ []) (e ∷ f ∷ g ∷ h ∷ []) t _ _ k_marked l_marked early in
        let y : pair_of b d ≡ pair_of f h = same_bits (a ∷ b ∷ c ∷ d ∷ []) (e ∷ f ∷ g ∷ h ∷ []) 62 _ _ (pair_marked b d p.many) (pair_marked f h q.many) late in
        let s : (b ≡ f) × (d ≡ h) = same_pair y in
        let r : (a ≡ e) × (c ≡ g) = same_mix s.0 s.1 (o.whole _ _ same x) in
        rw (r.0, s.0, r.1, s.1)

-- trees of n rows
halved_1 : Halved 1 23
unfolding twice
halved_1 = record { few = omega arith; marked = λ x l h. record { least = omega arith; most = omega arith }; whole = λ x y e f. omega arith }

halved_256 : Halved 256 15
unfolding twice
halved_256 = record { few = omega arith; marked = λ x l h. record { least = omega arith; most = omega arith }; whole = λ x y e f. omega arith }

halved_4096 : Halved 4096 11
unfolding twice
halved_4096 = record { few = omega arith; marked = λ x l h. record { least = omega arith; most = omega arith }; whole = λ x y e f. omega arith }

halved_65536 : Halved 65536 7
unfolding twice
halved_65536 = record { few = omega arith; marked = λ x l h. record { least = omega arith; most = omega arith }; whole = λ x y e f. omega arith }

-- two keys are the same that have the same tree and the same first 87 bits
pub keys_part : (n a b c d e f g h : ℕ) → Ranged a b c d → Ranged e f g h → first_of (a ∷ b ∷ c ∷ d ∷ []) % roots_of n ≡ first_of (e ∷ f ∷ g ∷ h ∷ []) % roots_of n → ((j : ℕ) → j < 87 → bits_of (roots_of n) (a ∷ b ∷ c ∷ d ∷ []) j % 2 ≡ bits_of (roots_of n) (e ∷ f ∷ g ∷ h ∷ []) j % 2) → ◌≡◌ {A = Key} (a ∷ b ∷ c ∷ d ∷ []) (e ∷ f ∷ g ∷ h ∷ [])
unfolding first_of
keys_part n a b c d e f g h p q =
    roots_case n (λ (m : ℕ). mix_of a b c d % m ≡ mix_of e f g h % m → ((j : ℕ) → j < 87 → bits_of m (a ∷ b ∷ c ∷ d ∷ []) j % 2 ≡ bits_of m (e ∷ f ∷ g ∷ h ∷ []) j % 2) → ◌≡◌ {A = Key} (a ∷ b ∷ c ∷ d ∷ []) (e ∷ f ∷ g ∷ h ∷ []))
    (λ l. same_key a b c d e f g h p q 1 23 halved_1)
    (λ l. same_key a b c d e f g h p q 256 15 halved_256)
    (λ l. same_key a b c d e f g h p q 4096 11 halved_4096)
    (λ l. same_key a b c d e f g h p q 65536 7 halved_65536)
