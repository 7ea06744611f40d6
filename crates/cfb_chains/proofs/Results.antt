-- Refusals that are handed on.
use Rattle.std.proofs.Common.{◌≡◌, Result, Ok, Err, IfErr, subst, sym}
use Rattle.std.specs.Result.{IsErrAnd}

pub refused_with : {X E : Type 0} (r : Result X E) (e : E) (P : E → Type 0) → IsErrAnd r (λ x. x ≡ e) → P e → IfErr r P
refused_with (Ok x) e P h p = absurd h
refused_with (Err x) e P h p = subst P (sym h) p
