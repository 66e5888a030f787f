-- The first word that says how pads are joined.
use Rattle.std.proofs.Common.{◌≡◌, ℕ, ◌+◌, ◌<◌, List, length, map, drop, get_or, sym, ap, ◌∙◌, Some, None}
use Rattle.std.specs.Prelude.{unwrap_or}
use Rattle.board_language.specs.declared.Join.{Join}
use Rattle.board_language.specs.Zones.{first_join, join_by_word}
use Rattle.board_text.proofs.Walks.{drop_here}

split : {V : Type 0} (f : V → List ℕ) (xs : List V) (k : ℕ) (x : V) → k < length xs → ((d : V) → x ≡ get_or xs k d)
    → first_join (map f (drop k xs)) ≡ unwrap_or (join_by_word (f x)) (first_join (map f (drop (k + 1) xs)))
split f xs k x l e = ap (λ ys. first_join (map f ys)) (drop_here xs k x l e)

pub joined : {V : Type 0} (f : V → List ℕ) (xs : List V) (k : ℕ) (x : V) (join all : Join) → k < length xs → ((d : V) → x ≡ get_or xs k d) → Some join ≡ join_by_word (f x)
    → first_join (map f (drop k xs)) ≡ all → join ≡ all
joined f xs k x join all l e s h = ap (λ o. unwrap_or o (first_join (map f (drop (k + 1) xs)))) s ∙ sym (split f xs k x l e) ∙ h

pub passed : {V : Type 0} (f : V → List ℕ) (xs : List V) (k : ℕ) (x : V) (all : Join) → k < length xs → ((d : V) → x ≡ get_or xs k d) → None ≡ join_by_word (f x)
    → first_join (map f (drop k xs)) ≡ all → first_join (map f (drop (k + 1) xs)) ≡ all
passed f xs k x all l e s h = ap (λ o. unwrap_or o (first_join (map f (drop (k + 1) xs)))) s ∙ sym (split f xs k x l e) ∙ h
