-- The limit of a buffer: of bytes that begin with 3E and hold no 3C exactly 65,536 stay, one more clears it. For every buffer and every piece.
use Prim.Native.Nat.{ℕ, ◌<◌, ◌≤◌}
use mathlib.Core.Path.{◌≡◌, ap, ◌∙◌}
use mathlib.Core.Logic.{◌≢◌}
use mathlib.Core.List.{List, [], ◌∷◌, ◌++◌, append_assoc, append-nil}
use native.Mathlib.Omega.{arith}
use lib.ListN.{length}
use borrow.Author.Tests.{ne_eqb, le-leb, lt-leb}
use Rattle.laws.specs.Lists.{All, all_nil, all_cons}
use Rattle.rfcomm.specs.Pieces.{Piece}
use Rattle.spans.specs.Scan.{rest_of, capped}
use Rattle.spans.specs.Spans.{scanner}
use Rattle.spans.specs.Bytewise.{feed, held}
use Rattle.spans.proofs.Bytewise.{rest_is}

pub within_stays : (b : List ℕ) → length b ≤ 65536 → capped b ≡ b
unfolding capped
within_stays b h = rw (le-leb (length b) 65536 h)

pub over_clears : (b : List ℕ) → 65536 < length b → capped b ≡ []
unfolding capped
over_clears b h = rw (lt-leb (length b) 65536 h)

-- bytes without 3C are all held behind a 3E
without_end : (a : ℕ) (h c : List ℕ) → All (λ x. x ≢ 0x3C) c → held (a ∷ h) c ≡ a ∷ (h ++ c)
unfolding held feed
without_end a h [] all_nil = rw append-nil
without_end a h (x ∷ c) (all_cons n r) = rw (ne_eqb x 0x3C n) (without_end a (h ++ (x ∷ [])) c r ∙ rw append_assoc)

-- what a buffer holds and what a piece brings, together a 3E and bytes without 3C
module _ (b : List ℕ) (p : Piece) (c : List ℕ) (begins : b ++ p.bytes ≡ 0x3E ∷ c) (unended : All (λ x. x ≢ 0x3C) c) where
  all_left : rest_of (b ++ p.bytes) ≡ 0x3E ∷ c
  unfolding held feed
  all_left = ap rest_of begins ∙ rest_is (0x3E ∷ c) ∙ without_end 0x3E [] c unended

  pub exactly_stays : length (0x3E ∷ c) ≡ 65536 → scanner.next b p ≡ 0x3E ∷ c
  exactly_stays h = ap capped all_left ∙ within_stays (0x3E ∷ c) (omega arith)

  pub one_more_clears : length (0x3E ∷ c) ≡ 65537 → scanner.next b p ≡ []
  one_more_clears h = ap capped all_left ∙ over_clears (0x3E ∷ c) (omega arith)
