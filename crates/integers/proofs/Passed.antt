-- What `?` hands up: the refusal that came.
use mathlib.Core.Path.{◌∙◌, ◌≡◌, ap}
use Rattle.std.specs.Prelude.{Err, IsErrAnd, Result}
use Rattle.std.proofs.lemmas.Result.{err_from_is_err_and}

pub handed_up : {A E : Type 0} {e : E} (r : Result A E) → IsErrAnd r (λ x. x ≡ e) → r ≡ Err e
handed_up r h = let p = err_from_is_err_and r h in p.1 ∙ ap Err p.2
