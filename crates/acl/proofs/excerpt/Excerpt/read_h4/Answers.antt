use mathlib.Core.Path.{refl, ◌∙◌, ap}
use mathlib.Core.Bool.{not}
use Rattle.acl.proofs.Reading.{first_is, h4_other, h4_acl, h4_some}
use Rattle.acl.proofs.excerpt.Excerpt.read_h4.Goals as goal

pub returns-then-ne : goal.returns-then-ne
returns-then-ne c = h4_other c.args.self c.args.rx _ (c.ne.ensures ∙ ap not (first_is _ _ c.first.ensures.value _ refl)) c.if-ne.true

pub after-requires : goal.after-requires
after-requires c = h4_some c.args.self c.args.rx _ (c.ne.ensures ∙ ap not (first_is _ _ c.first.ensures.value _ refl)) c.if-ne.false

pub returns : goal.returns
returns c = h4_acl c.args.self c.args.rx _ (c.ne.ensures ∙ ap not (first_is _ _ c.first.ensures.value _ refl)) c.if-ne.false _ c.after.ensures _ c.read_fragment.ensures
