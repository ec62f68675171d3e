-- A fault that `?` hands on: a fact of it is one of the result.
use Rattle.std.proofs.Common.{◌≡◌, Result, Ok, Err, IfErr, subst, sym}
use Rattle.std.specs.Result.{IsErrAnd}

pub err_so : {T E : Type 0} (P : E → Type 0) (r : Result T E) (f : E) → IsErrAnd r (λ x. x ≡ f) → P f → IfErr r P
err_so P (Ok t) f is h = tt
err_so P (Err x) f is h = subst P (sym is) h
