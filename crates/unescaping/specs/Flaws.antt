-- Where escaping is first broken, and what a first look at an escaped part tells.
use Rattle.std.specs.Prelude.{◌≡◌, ℕ, ◌+◌, ◌-◌, ◌%◌, ◌≤◌, Bool, true, false, cond, List, [], ◌∷◌, length, take, drop, ◌==◌, Result, Ok, Err}
use Rattle.mdr.specs.Sum.{total}
use Rattle.mdr.specs.Escape.{escapee}
use Rattle.mdr.specs.Escaping.{count_in}
use Rattle.mdr.specs.declared.UnpackError.{UnpackError}
use Rattle.mdr.specs.declared.UnpackError.TheVariants.{TrailingSentry, BadEscapee}
use Rattle.unescaping.specs.declared.Scanned.{Scanned}

abbrev pub sentries : List ℕ → ℕ
sentries s = count_in 0x3D 0x3D s

-- an escaped part with room for a body, its bytes' sum, and how many of them are 3D
pub record Measured (s : List ℕ) (sum hits : ℕ) : Type 0 where
  pub long : 7 ≤ length s
  pub summed : sum ≡ total s % 256
  pub found : hits ≡ sentries s

-- a 3D that is not followed by 2C, 2D or 2E
unfoldable pub is_breach : ℕ → ℕ → Bool
is_breach b e = cond (b == 0x3D) (cond (escapee e) false true) false

-- how many such there are before the last byte
abbrev pub breaches_after : ℕ → List ℕ → ℕ
breaches_after b [] = 0
breaches_after b (e ∷ es) = cond (is_breach b e) 1 0 + breaches_after e es

abbrev pub breaches : List ℕ → ℕ
breaches [] = 0
breaches (b ∷ bs) = breaches_after b bs

-- the first of them: what follows it, or that nothing does
abbrev pub flaw_next : List ℕ → Result Unit UnpackError → Result Unit UnpackError
flaw_next [] f = Err TrailingSentry
flaw_next (e ∷ es) f = cond (escapee e) f (Err (BadEscapee e))

unfoldable pub flaw_of : List ℕ → Result Unit UnpackError
flaw_of [] = Ok tt
flaw_of (b ∷ bs) = cond (b == 0x3D) (flaw_next bs (flaw_of bs)) (flaw_of bs)

-- a part, and how many of its bytes but the last are 3D
pub record FrontPart (l : List ℕ) (hits : ℕ) : Type 0 where
  pub some : 1 ≤ length l
  pub few : length l ≤ 256
  pub found : hits ≡ sentries (take (length l - 1) l)

pub record KeptIf (l : List ℕ) (kept : Bool) : Type 0 where
  pub none : kept ≡ true → breaches l ≡ 0
  pub some : kept ≡ false → 1 ≤ breaches l

-- a last part, and how many of its bytes are 3D
pub record LastPart (l : List ℕ) (hits : ℕ) : Type 0 where
  pub some : 1 ≤ length l
  pub few : length l ≤ 192
  pub found : hits ≡ sentries l

pub record SoundIf (l : List ℕ) (sound : Bool) : Type 0 where
  pub is : sound ≡ true → flaw_of l ≡ Ok tt

-- what is left of a list
pub record EndOf (s rest : List ℕ) : Type 0 where
  pub few : length rest ≤ length s
  pub is : rest ≡ drop (length s - length rest) s

pub record ScannedIs (s : List ℕ) (r : Scanned) : Type 0 where
  pub part : EndOf s r.rest.now
  pub clean : flaw_of r.rest.now ≡ flaw_of s
  pub counts : flaw_of s ≡ Ok tt → Measured s r.sum r.hits
