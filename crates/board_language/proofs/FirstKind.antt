-- The first of the kinds of offences.
use Rattle.std.proofs.Common.{◌≡◌, ℕ, ◌+◌, ◌<◌, ◌≤◌, true, false, List, length, drop, get_or, refl, sym, ap, ◌∙◌, Option, Some, None, is_some}
use Rattle.std.specs.Option.{option_or}
use Rattle.std.proofs.lemmas.Bool.{false≢true}
use Rattle.board_language.specs.declared.offence.OffenceKind.{OffenceKind}
use Rattle.board_language.specs.Offences.{first_kind}
use Rattle.board_text.proofs.Walks.{drop_here, drop_past, get_same}

kind_split : (xs : List (Option OffenceKind)) (k : ℕ) → k < length xs → first_kind (drop k xs) ≡ option_or (get_or xs k None) (first_kind (drop (k + 1) xs))
kind_split xs k l = ap first_kind (drop_here xs k (get_or xs k None) l (λ d. get_same xs k None d l))

pub kind_here : (xs : List (Option OffenceKind)) (k : ℕ) (all : Option OffenceKind) → k < length xs → is_some (get_or xs k None) ≡ true → first_kind (drop k xs) ≡ all → get_or xs k None ≡ all
kind_here xs k all l some h = by_cases (get_or xs k None) some ∙ sym (kind_split xs k l) ∙ h
  where
    by_cases : (o : Option OffenceKind) → is_some o ≡ true → o ≡ option_or o (first_kind (drop (k + 1) xs))
    by_cases None e = absurd (false≢true e)
    by_cases (Some f) e = refl

pub kind_next : (xs : List (Option OffenceKind)) (k : ℕ) (all : Option OffenceKind) → k < length xs → is_some (get_or xs k None) ≡ false → first_kind (drop k xs) ≡ all → first_kind (drop (k + 1) xs) ≡ all
kind_next xs k all l none h = by_cases (get_or xs k None) none ∙ sym (kind_split xs k l) ∙ h
  where
    by_cases : (o : Option OffenceKind) → is_some o ≡ false → first_kind (drop (k + 1) xs) ≡ option_or o (first_kind (drop (k + 1) xs))
    by_cases None e = refl
    by_cases (Some f) e = absurd (false≢true (sym e))

pub kind_none : (xs : List (Option OffenceKind)) (k : ℕ) (all : Option OffenceKind) → length xs ≤ k → first_kind (drop k xs) ≡ all → None ≡ all
kind_none xs k all l h = sym (ap first_kind (drop_past xs k l)) ∙ h
