-- An error that is handed on.
use Rattle.std.proofs.Common.{◌≡◌, sym, subst}
use Rattle.std.specs.Prelude.{Result, Err, IfErr}

pub err_kept : {A E : Type 0} (r : Result A E) (e f : E) (P : E → Type 0) → r ≡ Err f → f ≡ e → P e → IfErr r P
err_kept r e f P is same p = subst (λ q. IfErr q P) (sym is) (subst P (sym same) p)
