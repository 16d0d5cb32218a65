use native.Mathlib.Omega.{arith}
use Rattle.words.proofs.Fields.{other_first, last_four}
use Rattle.words.proofs.same_short.Goals as goal

pub returns-then-get_le32 : goal.returns-then-get_le32
returns-then-get_le32 c =
    last_four _ _ (λ k. omega (arith, c.type_inv.a k)) (λ k. omega (arith, c.type_inv.b k)) c.requires.0 c.requires.1 c.requires.2 _ _ c.get_le32.ensures c.get_le32-2.ensures
    c.if-get_le32.true _ _ _ (omega (arith, c.requires.1)) c.get_le32-then-get_le32.ensures c.get_le32-then-get_le32-2.ensures

pub returns-else-get_le32 : goal.returns-else-get_le32
returns-else-get_le32 c =
    other_first _ _ (λ k. omega (arith, c.type_inv.a k)) (λ k. omega (arith, c.type_inv.b k)) c.requires.0 c.requires.1 c.requires.2 _ _ c.get_le32.ensures c.get_le32-2.ensures
    c.if-get_le32.false
