use Rattle.words.proofs.Fields.{field_there, field_missing}
use native.Mathlib.Omega.{arith}
use Rattle.words.proofs.field16.Goals as goal
use Rattle.words.proofs.field16.Goals.{then-n-lt2-via-then-n-lt2, then-n-lt2-via-else-n-lt2+then-n-at}

pub returns-then-n-lt2 : goal.returns-then-n-lt2
returns-then-n-lt2 c =
    elim c.then-n-lt2.branch [
      | then-n-lt2-via-then-n-lt2 w ↦ field_missing _ _ (omega arith)
      | then-n-lt2-via-else-n-lt2+then-n-at w ↦ field_missing _ _ (omega arith)
    ]

pub returns : goal.returns
returns c = field_there _ _ _ (omega arith) c.get_le16.ensures
