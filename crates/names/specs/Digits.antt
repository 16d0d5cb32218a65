-- Numbers as text: decimal, decimal with at least six digits, two hexadecimal digits.
use Rattle.std.specs.Prelude.{◌≡◌, cond, List, [], ◌∷◌, ◌++◌, ℕ, zero, suc, ◌+◌, ◌-◌, ◌/◌, ◌%◌, ◌≤◌, ltb, length, replicate}

-- ---- hexadecimal

-- the digit of a number below 16, in lower case
unfoldable pub hex_digit : ℕ → ℕ
hex_digit n = cond (ltb n 10) (48 + n) (87 + n)

unfoldable pub hex2 : ℕ → List ℕ
hex2 b = hex_digit (b / 16) ∷ hex_digit (b % 16) ∷ []

-- ---- decimal

-- the digits of a number, with at most so many after the first
unfoldable pub digits : ℕ → ℕ → List ℕ
digits zero n = (48 + n) ∷ []
digits (suc k) n = let more = digits k (n / 10) ++ ((48 + n % 10) ∷ []) in cond (ltb n 10) ((48 + n) ∷ []) more

unfoldable pub decimal : ℕ → List ℕ
decimal n = digits n n

-- with zeros before it to six digits
unfoldable pub decimal6 : ℕ → List ℕ
decimal6 n = replicate (6 - length (decimal n)) 48 ++ decimal n

-- how many digits a 64-bit number has
pub record DigitCount (n k : ℕ) : Type 0 where
  pub is : k ≡ length (decimal n)
  pub some : 1 ≤ k
  pub few : k ≤ 20
