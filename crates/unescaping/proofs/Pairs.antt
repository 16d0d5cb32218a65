-- Escaped bytes by pairs: a 3D and what follows it as one number, sixteen at once.
use Rattle.std.proofs.Common.{◌≡◌, ℕ, zero, suc, ◌+◌, ◌*◌, ◌/◌, ◌<◌, ◌≤◌, Bool, true, eqb, ◌||◌, List, [], ◌∷◌, ◌++◌, length, get_or, drop, set, refl, ap, ◌∙◌, append-nil, arith, eq-eqb, ne_eqb}
use lib.Seq.{sets-eq}
use Rattle.laws.proofs.Choice.{split≡, no_way}
use Rattle.laws.proofs.Lists.{drop_step, drop_end}
use Rattle.laws.specs.Stores.{Writes, Emitting}
use Rattle.laws.proofs.Stores.{emit_start, emit_turn, emit_end}
use Rattle.mdr.specs.Escape.{within, escapee, unescape}
use Rattle.mdr.proofs.Escaping.{within_range}
use Rattle.unescaping.specs.Pairs.{PairIs, Pair, PairIf, Paired, halves}
use Rattle.unescaping.proofs.Unescaping.{pushes}

-- ---- one pair

pair_of : (w e : ℕ) → w ≡ 0x3D + 256 * e → escapee e ≡ true → Pair w
pair_of w e p q = let k : w / 256 ≡ e = omega arith in record { low = omega arith; high = rw k q }

pub pair_if : (w : ℕ) → PairIf w (eqb w 0x2C3D || eqb w 0x2D3D || eqb w 0x2E3D)
unfolding within
pair_if w =
    split≡ w 0x2C3D
    (λ e. record { is = λ r. pair_of w 0x2C (omega arith) refl })
    (λ m.
    split≡ w 0x2D3D
    (λ e. record { is = λ r. pair_of w 0x2D (omega arith) refl })
    (λ n.
    split≡ w 0x2E3D
    (λ e. record { is = λ r. pair_of w 0x2E (omega arith) refl })
    (λ k. record { is = λ r. no_way (rw (ne_eqb w 0x2C3D m, ne_eqb w 0x2D3D n, ne_eqb w 0x2E3D k) at r) refl })))

module _ (w : ℕ) (p : Pair w) where
  pub pair_room : w + 4035 < 65536
  pair_room = omega (arith, p.low, within_range 0x2C 0x2E (w / 256) p.high)

  pub pair_fits : (w + 4035) / 256 < 256
  pair_fits = omega (arith, p.low, within_range 0x2C 0x2E (w / 256) p.high)

  pub pair_value : (w + 4035) / 256 ≡ w / 256 + 0x10
  pair_value = omega (arith, p.low, within_range 0x2C 0x2E (w / 256) p.high)

-- ---- sixteen are tested

pub record Pairing (l : List ℕ) (all : Bool) (i : ℕ) : Type 0 where
  pub first : all ≡ true → (k : ℕ) → k < i → get_or l (2 * k) 0 ≡ 0x3D
  pub second : all ≡ true → (k : ℕ) → k < i → escapee (get_or l (2 * k + 1) 0) ≡ true

pub pair_here : (l : List ℕ) (i w : ℕ) → PairIs l i w → Paired l → i < 16 → Pair w
pair_here l i w p v h = record { low = p.low ∙ v.first i h; high = rw p.high (v.second i h) }

-- ---- the bytes that they stand for

pub halves_length : (l : List ℕ) (n : ℕ) → length l ≡ 2 * n → length (halves l) ≡ n
unfolding halves
halves_length [] n e = omega arith
halves_length (a ∷ []) n e = absurd (omega arith)
halves_length (a ∷ b ∷ l) zero e = absurd (omega arith)
halves_length (a ∷ b ∷ l) (suc n) e = let ih = halves_length l n (omega arith) in omega arith

unescape_some : (n : ℕ) (a b : List ℕ) → length a ≡ 2 * n → ((k : ℕ) → k < n → get_or a (2 * k) 0 ≡ 0x3D)
    → ((k : ℕ) → k < n → escapee (get_or a (2 * k + 1) 0) ≡ true) → unescape (a ++ b) ≡ pushes (halves a) (unescape b)
unfolding halves
unescape_some zero [] b e p q = refl
unescape_some zero (x ∷ a) b e p q = absurd (omega arith)
unescape_some (suc n) [] b e p q = absurd (omega arith)
unescape_some (suc n) (x ∷ []) b e p q = absurd (omega arith)
unescape_some (suc n) (x ∷ y ∷ a) b e p q =
    let s : x ≡ 0x3D = p 0 (omega arith) in
    let t : escapee y ≡ true = q 0 (omega arith) in
    let j : (k : ℕ) → 2 * suc k ≡ suc (suc (2 * k)) = λ k. omega arith in
    let i : (k : ℕ) → 2 * suc k + 1 ≡ suc (suc (2 * k + 1)) = λ k. omega arith in
    let ih = unescape_some n a b (omega arith) (λ k h. rw (j k) at (p (suc k) (omega arith))) (λ k h. rw (i k) at (q (suc k) (omega arith))) in
    rw (eq-eqb x 0x3D s, t, ih)

pub unescape_pairs : (a b : List ℕ) → length a ≡ 32 → Paired a → unescape (a ++ b) ≡ pushes (halves a) (unescape b)
unescape_pairs a b e v = unescape_some 16 a b e v.first v.second

halves_step : (l : List ℕ) (i : ℕ) → 2 * i + 1 < length l → halves (drop (2 * i) l) ≡ (get_or l (2 * i + 1) 0 + 0x10) ∷ halves (drop (2 * (i + 1)) l)
unfolding halves
halves_step l i h =
    let k : 2 * i + 1 + 1 ≡ 2 * (i + 1) = omega arith in
    ap halves (drop_step l (2 * i) (omega arith)) ∙ rw (drop_step l (2 * i + 1) h, k)

pub record Unpairing (part block₀ block : List ℕ) (i : ℕ) : Type 0 where
  pub few : i ≤ 16
  pub emits : Emitting block₀ 0 (halves part) block i (halves (drop (2 * i) part))

pub unpair_start : (part block : List ℕ) → Unpairing part block block 0
unpair_start part block = record { few = omega arith; emits = emit_start block 0 (halves part) }

module _ (part block₀ block : List ℕ) (i : ℕ) (s : Unpairing part block₀ block i) (m : length part ≡ 32) where
  pub unpair_turn : i < 16 → (w : ℕ) → PairIs part i w → (x : ℕ) → x ≡ w / 256 + 0x10 → Unpairing part block₀ (set block i x) (i + 1)
  unpair_turn h w p x e =
      let v : Writes block i (x ∷ []) (i + 1) (set block i x) = record { next = refl; writes = refl } in
      let q : x ≡ get_or part (2 * i + 1) 0 + 0x10 = e ∙ rw p.high in record {
        few = omega arith;
        emits = emit_turn block₀ 0 (halves part) block i (halves (drop (2 * i) part)) s.emits (x ∷ []) (halves (drop (2 * (i + 1)) part)) (i + 1) (set block i x) (halves_step part i (omega arith) ∙ rw q) v;
      }

  pub unpair_end : 16 ≤ i → length block₀ ≡ 16 → (out : List ℕ) (at r : ℕ) (out' : List ℕ) → Writes out at block r out' → Writes out at (halves part) r out'
  unfolding halves
  unpair_end h n out at r out' w =
      let v : Writes block₀ 0 (halves part) i block = emit_end block₀ 0 (halves part) block i (halves (drop (2 * i) part)) s.emits (rw (drop_end part (2 * i) (omega arith))) in
      let x : block ≡ halves part = v.writes ∙ sets-eq (halves part) block₀ 0 (omega (arith, v.next, s.few)) ∙ rw (drop_end block₀ (0 + length (halves part)) (omega (arith, v.next))) (append-nil (halves part)) in
      rw x at w
