-- What a `?` hands up where it ends a function.
use Rattle.std.proofs.Common.{◌≡◌, ◌∙◌, ap, Result, Err, IsErrAnd}
use Rattle.std.proofs.lemmas.Result.{err_from_is_err_and}

-- the refusal, where the conversion says which it is
pub handed_up : {T E : Type 0} → {e : E} → (r : Result T E) → IsErrAnd r (λ y. y ≡ e) → r ≡ Err e
handed_up r h = let p = err_from_is_err_and r h in p.1 ∙ ap Err p.2
