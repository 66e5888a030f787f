-- The first fault of several items.
use Rattle.std.proofs.Common.{◌≡◌, ℕ, ◌+◌, ◌<◌, ◌≤◌, true, false, List, length, map, drop, get_or, refl, sym, ap, ◌∙◌, Option, Some, None, is_some}
use Rattle.std.specs.Option.{option_or}
use Rattle.std.proofs.lemmas.Bool.{false≢true}
use Rattle.grid_num.specs.declared.read.NumFault.{NumFault}
use Rattle.board_text.specs.Numbers.{first_of}
use Rattle.board_text.proofs.Walks.{drop_here, drop_past}

split : {V : Type 0} (f : V → Option NumFault) (xs : List V) (k : ℕ) (x : V) → k < length xs → ((d : V) → x ≡ get_or xs k d) → first_of (map f (drop k xs)) ≡ option_or (f x) (first_of (map f (drop (k + 1) xs)))
split f xs k x l e = ap (λ ys. first_of (map f ys)) (drop_here xs k x l e)

pub first_here : {V : Type 0} (f : V → Option NumFault) (xs : List V) (k : ℕ) (x : V) (fault all : Option NumFault) → k < length xs → ((d : V) → x ≡ get_or xs k d) → fault ≡ f x → is_some fault ≡ true
    → first_of (map f (drop k xs)) ≡ all → fault ≡ all
first_here f xs k x fault all l e g some h = by_cases fault some ∙ ap (λ o. option_or o (first_of (map f (drop (k + 1) xs)))) g ∙ sym (split f xs k x l e) ∙ h
  where
    by_cases : (o : Option NumFault) → is_some o ≡ true → o ≡ option_or o (first_of (map f (drop (k + 1) xs)))
    by_cases None s = absurd (false≢true s)
    by_cases (Some y) s = refl

pub first_next : {V : Type 0} (f : V → Option NumFault) (xs : List V) (k : ℕ) (x : V) (fault all : Option NumFault) → k < length xs → ((d : V) → x ≡ get_or xs k d) → fault ≡ f x → is_some fault ≡ false
    → first_of (map f (drop k xs)) ≡ all → first_of (map f (drop (k + 1) xs)) ≡ all
first_next f xs k x fault all l e g none h = by_cases fault none ∙ ap (λ o. option_or o (first_of (map f (drop (k + 1) xs)))) g ∙ sym (split f xs k x l e) ∙ h
  where
    by_cases : (o : Option NumFault) → is_some o ≡ false → first_of (map f (drop (k + 1) xs)) ≡ option_or o (first_of (map f (drop (k + 1) xs)))
    by_cases None s = refl
    by_cases (Some y) s = absurd (false≢true (sym s))

pub first_none : {V : Type 0} (f : V → Option NumFault) (xs : List V) (k : ℕ) (all : Option NumFault) → length xs ≤ k → first_of (map f (drop k xs)) ≡ all → None ≡ all
first_none f xs k all l h = sym (ap (λ ys. first_of (map f ys)) (drop_past xs k l)) ∙ h
