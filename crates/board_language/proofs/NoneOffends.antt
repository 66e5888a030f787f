-- Where none of several kinds offends, none at any place does.
use Rattle.std.proofs.Common.{◌≡◌, ◌∙◌, ℕ, zero, suc, List, [], ◌∷◌, get_or, refl, sym, Option, None, Some}
use Rattle.std.specs.Option.{option_or}
use Rattle.std.proofs.lemmas.Option.{none-some}
use Rattle.board_language.specs.declared.offence.OffenceKind.{OffenceKind}
use Rattle.board_language.specs.Offences.{first_kind}

none_or : (a b : Option OffenceKind) → option_or a b ≡ None → (a ≡ None) × (b ≡ None)
none_or None b e = (refl, e)
none_or (Some k) b e = absurd (none-some k (sym e))

pub none_at : (n : ℕ) (kinds : List (Option OffenceKind)) → first_kind kinds ≡ None → get_or kinds n None ≡ None
none_at n [] e = refl
none_at zero (k ∷ ks) e = (none_or k (first_kind ks) e).0
none_at (suc n) (k ∷ ks) e = none_at n ks (none_or k (first_kind ks) e).1

-- a kind that stands at a place offends, or one before it
pub some_at : {X : Type 0} (n : ℕ) (kinds : List (Option OffenceKind)) (kind : OffenceKind) → get_or kinds n None ≡ Some kind → first_kind kinds ≡ None → X
some_at n kinds kind here e = absurd (none-some kind (sym (none_at n kinds e) ∙ here))
