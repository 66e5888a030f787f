-- Walking over names: those that are kept, and what each of them means.
use Rattle.std.proofs.Common.{◌≡◌, ℕ, ◌+◌, ◌<◌, ◌≤◌, Bool, true, false, List, [], ◌∷◌, ◌++◌, length, map, drop, filter, flat_map, get_or, refl, sym, ap, ◌∙◌, append_assoc, append-nil}
use Rattle.std.proofs.lemmas.List.{map-append}
use Rattle.board_text.proofs.Walks.{drop_here, drop_past}

filter_yes : {W : Type 0} (p : W → Bool) (x : W) (xs : List W) → p x ≡ true → filter p (x ∷ xs) ≡ x ∷ filter p xs
filter_yes p x xs e = rw e refl

filter_no : {W : Type 0} (p : W → Bool) (x : W) (xs : List W) → p x ≡ false → filter p (x ∷ xs) ≡ filter p xs
filter_no p x xs e = rw e refl

pub keeps : {V W : Type 0} (p : W → Bool) (f : V → W) (xs done : List V) (all : List W) (k : ℕ) (x t : V) → k < length xs → ((d : V) → x ≡ get_or xs k d) → f t ≡ f x → p (f x) ≡ true
    → map f done ++ filter p (map f (drop k xs)) ≡ all → map f (done ++ t ∷ []) ++ filter p (map f (drop (k + 1) xs)) ≡ all
keeps p f xs done all k x t l e same passes h =
    ap (λ ys. ys ++ filter p (map f (drop (k + 1) xs))) (map-append f done (t ∷ []))
    ∙ append_assoc (map f done) (f t ∷ []) (filter p (map f (drop (k + 1) xs)))
    ∙ ap (λ w. map f done ++ w ∷ filter p (map f (drop (k + 1) xs))) same
    ∙ ap (λ ys. map f done ++ ys) (sym (ap (λ ys. filter p (map f ys)) (drop_here xs k x l e) ∙ filter_yes p (f x) (map f (drop (k + 1) xs)) passes)) ∙ h

pub leaves : {V W : Type 0} (p : W → Bool) (f : V → W) (xs done : List V) (all : List W) (k : ℕ) (x : V) → k < length xs → ((d : V) → x ≡ get_or xs k d) → p (f x) ≡ false
    → map f done ++ filter p (map f (drop k xs)) ≡ all → map f done ++ filter p (map f (drop (k + 1) xs)) ≡ all
leaves p f xs done all k x l e fails h =
    ap (λ ys. map f done ++ ys) (sym (ap (λ ys. filter p (map f ys)) (drop_here xs k x l e) ∙ filter_no p (f x) (map f (drop (k + 1) xs)) fails)) ∙ h

pub kept : {V W : Type 0} (p : W → Bool) (f : V → W) (xs done : List V) (all : List W) (k : ℕ) → length xs ≤ k → map f done ++ filter p (map f (drop k xs)) ≡ all → map f done ≡ all
kept p f xs done all k l h = sym (append-nil (map f done)) ∙ ap (λ ys. map f done ++ filter p (map f ys)) (sym (drop_past xs k l)) ∙ h

pub means : {V W : Type 0} (g : W → List W) (f : V → W) (xs done more : List V) (all : List W) (k : ℕ) (x : V) → k < length xs → ((d : V) → x ≡ get_or xs k d) → map f more ≡ g (f x)
    → map f done ++ flat_map g (map f (drop k xs)) ≡ all → map f (done ++ more) ++ flat_map g (map f (drop (k + 1) xs)) ≡ all
means g f xs done more all k x l e same h =
    ap (λ ys. ys ++ flat_map g (map f (drop (k + 1) xs))) (map-append f done more)
    ∙ append_assoc (map f done) (map f more) (flat_map g (map f (drop (k + 1) xs)))
    ∙ ap (λ w. map f done ++ (w ++ flat_map g (map f (drop (k + 1) xs)))) same
    ∙ ap (λ ys. map f done ++ ys) (sym (ap (λ ys. flat_map g (map f ys)) (drop_here xs k x l e))) ∙ h

pub meant : {V W : Type 0} (g : W → List W) (f : V → W) (xs done : List V) (all : List W) (k : ℕ) → length xs ≤ k → map f done ++ flat_map g (map f (drop k xs)) ≡ all → map f done ≡ all
meant g f xs done all k l h = sym (append-nil (map f done)) ∙ ap (λ ys. map f done ++ flat_map g (map f ys)) (sym (drop_past xs k l)) ∙ h
