-- The wire of a frame: it unpacks to the frame, holds 3E only first and 3C only last, and has a known length.
use Rattle.std.specs.Prelude.{ℕ, ◌≡◌, List, [], ◌∷◌, ◌++◌}
use Rattle.laws.specs.Lists.{All}
use Rattle.mdr.specs.Escape.{escape}
use Rattle.mdr.specs.Frame.{body_of}
use Rattle.mdr.specs.Escaping.{Quiet}

-- ---- the wire

-- a wire is 3E, then bytes of which none is 3C or 3E, then 3C
pub record Framed (w inner : List ℕ) : Type 0 where
  pub is : w ≡ 0x3E ∷ (inner ++ (0x3C ∷ []))
  pub quiet : All Quiet inner

unfoldable pub inner_of : ℕ → ℕ → List ℕ → List ℕ
inner_of t q p = escape (body_of t q p)
