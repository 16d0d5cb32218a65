-- The rule on one buffer is a scan byte by byte, for a buffer that is empty or begins with 3E and holds no 3C. All buffers are such.
use Rattle.std.specs.Prelude.{ℕ, ◌≡◌, cond, List, [], ◌∷◌, ◌++◌, map, eqb}
use Rattle.laws.specs.Keys.{Key}
use Rattle.laws.specs.Keyed.{Machine}
use Rattle.items.specs.Items.{Span}
use Rattle.rfcomm.specs.Pieces.{Piece}
use Rattle.spans.specs.Scan.{capped}

-- ---- the scan: what one byte, and what a list of bytes, makes of what is held, and the spans it completes

unfoldable pub feed : List ℕ → ℕ → List ℕ
feed [] x = cond (eqb x 0x3E) (x ∷ []) []
feed (a ∷ h) x = cond (eqb x 0x3C) [] (a ∷ (h ++ (x ∷ [])))

unfoldable pub emit : List ℕ → ℕ → List (List ℕ)
emit [] x = []
emit (a ∷ h) x = cond (eqb x 0x3C) ((a ∷ (h ++ (x ∷ []))) ∷ []) []

unfoldable pub held : List ℕ → List ℕ → List ℕ
held h [] = h
held h (x ∷ xs) = held (feed h x) xs

unfoldable pub emitted : List ℕ → List ℕ → List (List ℕ)
emitted h [] = []
emitted h (x ∷ xs) = emit h x ++ emitted (feed h x) xs

abbrev pub by_bytes : Machine Piece Span
by_bytes = record {
  S = List ℕ;
  key = λ p. p.key;
  next = λ b p. capped (held b p.bytes);
  out = λ b p. map (λ w. record { rx = p.rx; time = p.time; wire = w }) (emitted b p.bytes);
}

-- ---- quiet: scanned anew it gives nothing and stays

pub record Quiet (b : List ℕ) : Type 0 where
  pub stays : held [] b ≡ b
  pub silent : emitted [] b ≡ []

-- ---- the two machines

-- every buffer is quiet
pub record AllQuiet (m : Key → List ℕ) : Type 0 where
  pub at : (k : Key) → Quiet (m k)
