-- Bytes that all are escaped: each escaped form as one number, sixteen at once.
use Rattle.std.proofs.Common.{◌≡◌, ℕ, zero, suc, ◌+◌, ◌-◌, ◌*◌, ◌/◌, ◌%◌, ◌<◌, ◌≤◌, true, List, [], ◌∷◌, length, get_or, drop, set, refl, ap, ◌∙◌, append-nil, add-one, arith, length-set}
use lib.Seq.{sets-eq}
use Rattle.std.specs.Int.{to_le_bytes, w16}
use Rattle.laws.proofs.Choice.{split_b}
use Rattle.laws.proofs.Lists.{drop_step, drop_end}
use Rattle.laws.specs.Stores.{Writes, Emitting}
use Rattle.laws.proofs.Stores.{writes_long, emit_start, emit_turn, emit_end}
use Rattle.mdr.specs.Escape.{special, escape}
use Rattle.mdr.specs.Escaping.{count_in}
use Rattle.mdr.proofs.Escaping.{within_range, count_most, escape_length}
use Rattle.packing.specs.Escapes.{twins, parted}

-- a count of all bytes is one of each
full_both : (b : ℕ) (bs : List ℕ) → count_in 0x3C 0x3E (b ∷ bs) ≡ length (b ∷ bs) → (special b ≡ true) × (count_in 0x3C 0x3E bs ≡ length bs)
full_both b bs e =
    let m = count_most 0x3C 0x3E bs in
    split_b (special b)
    (λ t. let f : 1 + count_in 0x3C 0x3E bs ≡ suc (length bs) = rw t at e in (t, omega arith))
    (λ t. let f : 0 + count_in 0x3C 0x3E bs ≡ suc (length bs) = rw t at e in absurd (omega arith))

full_at : (l : List ℕ) (i : ℕ) → count_in 0x3C 0x3E l ≡ length l → i < length l → 0x10 ≤ get_or l i 0
full_at [] i e h = absurd (omega arith)
full_at (b ∷ bs) zero e h = let r = within_range 0x3C 0x3E b (full_both b bs e).0 in omega arith
full_at (b ∷ bs) (suc i) e h = full_at bs i (full_both b bs e).1 (omega arith)

pub full_least : (l : List ℕ) (i : ℕ) → count_in 0x3C 0x3E l ≡ length l → length l ≡ 16 → i < 16 → 0x10 ≤ get_or l i 0
full_least l i e n h = full_at l i e (omega arith)

parted_twins : (l : List ℕ) → count_in 0x3C 0x3E l ≡ length l → parted (twins l) ≡ escape l
unfolding parted twins
parted_twins [] e = refl
parted_twins (b ∷ bs) e =
    let f = full_both b bs e in
    let x : (0x3D + 256 * (b - 0x10)) % 256 ≡ 0x3D = omega arith in
    let y : (0x3D + 256 * (b - 0x10)) / 256 ≡ b - 0x10 = omega arith in
    rw (x, y, f.0, parted_twins bs f.1)

twins_length : (l : List ℕ) → length (twins l) ≡ length l
unfolding twins
twins_length [] = refl
twins_length (b ∷ bs) = let ih = twins_length bs in omega arith

pub record Twinning (part pairs₀ pairs : List ℕ) (i : ℕ) : Type 0 where
  pub few : i ≤ 16
  pub emits : Emitting pairs₀ 0 (twins part) pairs i (twins (drop i part))

pub twin_start : (part pairs : List ℕ) → Twinning part pairs pairs 0
twin_start part pairs = record { few = omega arith; emits = emit_start pairs 0 (twins part) }

module _ (part pairs₀ pairs : List ℕ) (i : ℕ) (s : Twinning part pairs₀ pairs i) (m : length part ≡ 16) where
  pub twin_turn : i < 16 → (w : ℕ) → w ≡ 0x3D + 256 * (get_or part i 0 - 0x10) → Twinning part pairs₀ (set pairs i w) (i + 1)
  unfolding twins
  twin_turn h w j =
      let v : Writes pairs i (w ∷ []) (i + 1) (set pairs i w) = record { next = refl; writes = refl } in record {
        few = omega arith;
        emits = emit_turn pairs₀ 0 (twins part) pairs i (twins (drop i part)) s.emits (w ∷ []) (twins (drop (i + 1) part)) (i + 1) (set pairs i w) (ap twins (drop_step part i (omega arith)) ∙ rw j) v;
      }

  pub twin_end : 16 ≤ i → length pairs₀ ≡ 16 → pairs ≡ twins part
  unfolding twins
  twin_end h n =
      let v : Writes pairs₀ 0 (twins part) i pairs = emit_end pairs₀ 0 (twins part) pairs i (twins (drop i part)) s.emits (rw (drop_end part i (omega arith))) in
      v.writes ∙ sets-eq (twins part) pairs₀ 0 (omega (arith, v.next, s.few)) ∙ rw (drop_end pairs₀ (0 + length (twins part)) (omega (arith, v.next))) (append-nil (twins part))

pub record Parting (pairs out₀ : List ℕ) (from : ℕ) (out : List ℕ) (at i : ℕ) : Type 0 where
  pub few : i ≤ length pairs
  pub place : at ≡ «from» + 2 * i
  pub long : length out ≡ length out₀
  pub emits : Emitting out₀ «from» (parted pairs) out at (parted (drop i pairs))

pub part_start : (pairs out : List ℕ) (at : ℕ) → Parting pairs out at out at 0
part_start pairs out at = record { few = omega arith; place = omega arith; long = refl; emits = emit_start out at (parted pairs) }

module _ (pairs out₀ : List ℕ) (from : ℕ) (out : List ℕ) (at i : ℕ) (s : Parting pairs out₀ «from» out at i) where
  pub part_turn : i < length pairs → (x y : ℕ) → x ≡ get_or pairs i 0 % 256 → y ≡ get_or pairs i 0 / 256
      → Parting pairs out₀ «from» (set (set out at x) (at + 1) y) (at + 2) (i + 1)
  unfolding parted
  part_turn h x y p q =
      let v : Writes out at (x ∷ y ∷ []) (at + 2) (set (set out at x) (at + 1) y) = record { next = refl; writes = rw add-one } in record {
        few = omega arith;
        place = omega (arith, s.place);
        long = writes_long out at (x ∷ y ∷ []) (at + 2) (set (set out at x) (at + 1) y) v ∙ s.long;
        emits = emit_turn out₀ «from» (parted pairs) out at (parted (drop i pairs)) s.emits (x ∷ y ∷ []) (parted (drop (i + 1) pairs)) (at + 2) (set (set out at x) (at + 1) y) (ap parted (drop_step pairs i h) ∙ rw (p, q)) v;
      }

  pub part_second : i < length pairs → «from» + 2 * length pairs ≤ length out₀ → (x : ℕ) → at + 1 < length (set out at x)
  part_second h l x = omega (arith, s.place, s.long, length-set out at x)

  pub part_end : length pairs ≤ i → Writes out₀ «from» (parted pairs) at out
  unfolding parted
  part_end h = emit_end out₀ «from» (parted pairs) out at (parted (drop i pairs)) s.emits (rw (drop_end pairs i h))

-- the bytes of a number, the lowest first
pub low_high : (w : ℕ) (l : List ℕ) → l ≡ to_le_bytes w16 w → w < 65536 → (get_or l 0 0 ≡ w % 256) × (get_or l 1 0 ≡ w / 256)
low_high w l e h = (rw e refl, rw e (omega arith))

-- ---- a block of them

module _ (part : List ℕ) (at : ℕ) (out : List ℕ) (n : length part ≡ 16) (f : count_in 0x3C 0x3E part ≡ length part) where
  pub twins_room : (pairs : List ℕ) → pairs ≡ twins part → at + length (escape part) ≤ length out → at + 2 * length pairs ≤ length out
  twins_room pairs e h = omega (arith, escape_length part, ap length e, twins_length part)

  pub twins_wrote : (pairs : List ℕ) → pairs ≡ twins part → (r : ℕ) (out' : List ℕ) → Writes out at (parted pairs) r out' → Writes out at (escape part) r out'
  twins_wrote pairs e r out' w = rw (← (parted_twins part f)) (rw e at w)
