-- A name written part by part.
use mathlib.Core.Path.{◌≡◌, ap}
use mathlib.Core.List.{List}
use Rattle.std.proofs.Common.{max}
use Prim.Native.Nat.{ℕ, ◌+◌}
use native.Mathlib.Omega.{arith}
use lib.ListN.{length}
use Rattle.laws.specs.Stores.{Writes}
use Rattle.laws.proofs.Stores.{writes_then}
use Rattle.mdr.specs.Types.{type_of}
use Rattle.commands.specs.Text.{ascii}
use Rattle.commands.specs.Labels.{type_name, command_name}
use Rattle.names.specs.Digits.{decimal, decimal6, hex2, DigitCount}
use Rattle.names.proofs.Digits.{length_six}
use Rattle.names.specs.Names.{way_name, frame_name, name_len}
use Rattle.names.specs.Parts.{head_of, part_of, type_part, seq_part, command_part, NameLen}
use Rattle.names.proofs.Parts.{name_parts}
use Rattle.commands.specs.Numbers.{name_at, Spot}
use Rattle.mdr.specs.declared.DataType.{DataType}
use Rattle.letters.specs.Run.{NameLong}
use Rattle.mdr.specs.declared.Frame.{Frame}

module _ (d₀ : List ℕ) (at : ℕ) where
  pub head_written : (ms counter rx : ℕ) (a b c d e r : ℕ) (d₁ d₂ d₃ d₄ d₅ d₆ : List ℕ) → Writes d₀ at (ascii "mdr-packet-") a d₁ → Writes d₁ a (decimal ms) b d₂ → Writes d₂ b (ascii "-") c d₃ → Writes d₃ c (decimal6 counter) d d₄ → Writes d₄ d (ascii "-") e d₅ → Writes d₅ e (way_name rx) r d₆ → Writes d₀ at (head_of ms counter rx) r d₆
  unfolding head_of
  head_written ms counter rx a b c d e r d₁ d₂ d₃ d₄ d₅ d₆ p q s t u v =
      writes_then d₀ at _ e d₅ (way_name rx) r d₆
      (writes_then d₀ at _ d d₄ (ascii "-") e d₅
      (writes_then d₀ at _ c d₃ (decimal6 counter) d d₄
      (writes_then d₀ at _ b d₂ (ascii "-") c d₃
      (writes_then d₀ at (ascii "mdr-packet-") a d₁ (decimal ms) b d₂ p q) s) t) u) v

  pub part_written : (label name : List ℕ) (x a b c r : ℕ) (d₁ d₂ d₃ d₄ : List ℕ) → Writes d₀ at label a d₁ → Writes d₁ a name b d₂ → Writes d₂ b (ascii "-") c d₃ → Writes d₃ c (hex2 x) r d₄ → Writes d₀ at (part_of label name x) r d₄
  unfolding part_of
  part_written label name x a b c r d₁ d₂ d₃ d₄ p q s t =
      writes_then d₀ at _ c d₃ (hex2 x) r d₄
      (writes_then d₀ at _ b d₂ (ascii "-") c d₃
      (writes_then d₀ at label a d₁ name b d₂ p q) s) t

  pub type_written : (kind i : ℕ) (t : DataType) (r : ℕ) (e : List ℕ) → t ≡ type_of kind → Spot i (type_name t) → Writes d₀ at (part_of (ascii ".type-") (name_at i) kind) r e → Writes d₀ at (type_part kind) r e
  unfolding type_part
  type_written kind i t r e p s w = rw (← p, ← s.is) w

  pub command_written : (f : Frame) (i r : ℕ) (e : List ℕ) → Spot i (command_name f) → Writes d₀ at (part_of (ascii ".cmd-") (name_at i) f.first) r e → Writes d₀ at (command_part f) r e
  unfolding command_part
  command_written f i r e s w = rw (← s.is) w

  pub name_written : (ms counter rx : ℕ) (f : Frame) (a b c d r : ℕ) (d₁ d₂ d₃ d₄ d₅ : List ℕ) → Writes d₀ at (head_of ms counter rx) a d₁ → Writes d₁ a (type_part f.kind) b d₂ → Writes d₂ b (seq_part f.seq) c d₃ → Writes d₃ c (command_part f) d d₄ → Writes d₄ d (ascii ".bin") r d₅ → Writes d₀ at (frame_name ms counter rx f) r d₅
  name_written ms counter rx f a b c d r d₁ d₂ d₃ d₄ d₅ p q s t u =
      rw (name_parts ms counter rx f)
      (writes_then d₀ at _ d d₄ (ascii ".bin") r d₅
      (writes_then d₀ at _ c d₃ (command_part f) d d₄
      (writes_then d₀ at _ b d₂ (seq_part f.seq) c d₃
      (writes_then d₀ at (head_of ms counter rx) a d₁ (type_part f.kind) b d₂ p q) s) t) u)

-- ---- its length

type_long : (kind i : ℕ) (t : DataType) → t ≡ type_of kind → Spot i (type_name t) → length (name_at i) ≡ length (type_name (type_of kind))
type_long kind i t p s = rw (← p, ← s.is)

pub name_length : (ms counter : ℕ) (f : Frame) (t : DataType) (i j k m z x y : ℕ) → t ≡ type_of f.kind → Spot i (type_name t) → Spot j (command_name f) → DigitCount counter k → DigitCount ms m → z ≡ max k 6 → NameLong i x → NameLong j y → NameLen ms counter f (43 + m + z + x + y)
unfolding name_len
name_length ms counter f t i j k m z x y p s u c d q v w = record {
  is = omega (arith, type_long f.kind i t p s, ap length u.is, length_six counter, v.is, w.is);
  small = omega (arith, v.small, w.small);
}
