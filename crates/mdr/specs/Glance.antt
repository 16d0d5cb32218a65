-- What the answer of a look at a wire says of the wire.
use Rattle.std.specs.Prelude.{ℕ, ◌≡◌, List, [], ◌∷◌, get_or}
use Rattle.laws.specs.Answers.{Outcome, gives}

-- a frame of that type, sequence number and payload length, whose payload starts with b
pub record Seen (o : Outcome) (t q n b : ℕ) : Type 0 where
  pub payload : List ℕ
  pub given : o ≡ gives (t ∷ q ∷ n ∷ []) payload
  pub first : b ≡ get_or payload 0 0
