use Rattle.classes.proofs.Bits.{other_counts, other_side, other_cid, same_dlci}
use Rattle.classes.proofs.View.has_key.Goals.{then-get32-key, else-get32-key, then-get32-key-2, else-get32-key-2}
use Rattle.laws.proofs.Choice.{no_way}
use borrow.Author.Tests.{eqb-true}
use mathlib.Core.Path.{sym, ◌∙◌}
use Rattle.classes.proofs.View.has_key.Goals as goal

pub returns-then-get32-key-3 : goal.returns-then-get32-key-3
returns-then-get32-key-3 c =
    elim c.if-get32-key-2.branch [
      | then-get32-key-2 w ↦ elim c.if-get32-key.branch [
        | then-get32-key u ↦ same_dlci _ c.args.self.rows c.args.i c.args.key _ _ _ _ c.get32.ensures u.if-get32-key.true u.get32-then-get32-key.ensures (sym u.value-is ∙ w.if-get32-key-2.true) w.get32-then-get32-key-2.ensures (sym w.value-is ∙ c.if-get32-key-3.true) c.get32-then-get32-key-3.ensures
        | else-get32-key u ↦ absurd (u.if-get32-key.false (eqb-true _ _ (sym u.value-is ∙ w.if-get32-key-2.true)))
      ]
      | else-get32-key-2 w ↦ no_way c.if-get32-key-3.true (w.value-is ∙ w.if-get32-key-2.false)
    ]

pub returns-else-get32-key-3 : goal.returns-else-get32-key-3
returns-else-get32-key-3 c =
    c.if-get32-key-3.false ∙ sym (elim c.if-get32-key-2.branch [
      | then-get32-key-2 w ↦ other_cid _ c.args.self.rows c.args.i c.args.key _ w.get32-then-get32-key-2.ensures (sym w.value-is ∙ c.if-get32-key-3.false)
      | else-get32-key-2 w ↦ elim c.if-get32-key.branch [
        | then-get32-key u ↦ other_side _ c.args.self.rows c.args.i c.args.key _ u.get32-then-get32-key.ensures (sym u.value-is ∙ w.if-get32-key-2.false)
        | else-get32-key u ↦ other_counts _ c.args.self.rows c.args.i c.args.key _ c.get32.ensures u.if-get32-key.false
      ]
    ])
