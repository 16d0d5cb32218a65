-- Storing a part through a block.
use Rattle.std.proofs.Common.{◌≡◌, ℕ, ◌+◌, List, length, ◌∙◌, append-nil, arith}
use lib.Seq.{sets-eq}
use Rattle.laws.proofs.Lists.{drop_end}
use Rattle.laws.specs.Stores.{Writes}

-- through a block of the same length
pub copy_through : (part d e : List ℕ) (r : ℕ) (out : List ℕ) (at q : ℕ) (out' : List ℕ) → length part ≡ 16 → length d ≡ 16 → Writes d 0 part r e → Writes out at e q out' → Writes out at part q out'
copy_through part d e r out at q out' n m v w =
    let x : e ≡ part = v.writes ∙ sets-eq part d 0 (omega arith) ∙ rw (drop_end d (0 + length part) (omega arith)) (append-nil part) in
    rw x at w
