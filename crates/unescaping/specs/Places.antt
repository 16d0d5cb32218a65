-- The bytes that an escaped part stands for.
use Rattle.std.specs.Prelude.{◌≡◌, ℕ, ◌≤◌, List, [], ◌∷◌, length, take, drop}
use Rattle.std.proofs.lemmas.List.Edits.{sets}
use Rattle.laws.specs.Answers.{Outcome, gives, refuses}
use Rattle.mdr.specs.Escape.{unescape}
use Rattle.unescaping.specs.declared.Got.{Got}

-- the unescaped bytes of an escaped part; none where it is refused
abbrev pub bytes_of : Outcome → List ℕ
bytes_of (gives vs bs) = bs
bytes_of (refuses n vs) = []

unfoldable pub ahead : List ℕ → List ℕ
ahead s = bytes_of (unescape s)

-- every 3D is followed by 2C, 2D or 2E
pub record Sound (s : List ℕ) : Type 0 where
  pub is : unescape s ≡ gives [] (ahead s)

-- the byte at a place, and the place after it
pub record GotIs (s : List ℕ) (i : ℕ) (g : Got) : Type 0 where
  pub on : i ≤ g.next
  pub within : g.next ≤ length s
  pub step : ahead (drop i s) ≡ g.byte ∷ ahead (drop g.next s)

-- the first k unescaped bytes are stored at a place, and r bytes stand for them
pub record Filled (s d : List ℕ) (at k r : ℕ) (e : List ℕ) : Type 0 where
  pub within : r ≤ length s
  pub rest : ahead (drop r s) ≡ drop k (ahead s)
  pub writes : e ≡ sets d at (take k (ahead s))
