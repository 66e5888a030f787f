-- The values of a list are written one after another.
use Rattle.std.proofs.Common.{◌≡◌, ◌∙◌, ap, sym, ℕ, suc, ◌+◌, ◌≤◌, ◌<◌, List, [], ◌∷◌, ◌++◌, map, drop, length, get_or, append_assoc, add-one}
use Rattle.std.proofs.Math.Seq.{drop-cons}
use Rattle.std.proofs.lemmas.List.{drop_all}
use Rattle.edit_language.specs.Splices.{values_text, list_text}

-- what is still to be written
abbrev pub rest_text : {X : Type 0} → (X → List ℕ) → ℕ → List X → List ℕ
rest_text f k xs = values_text (map f (drop k xs)) ++ 41 ∷ []

pub begun : {X : Type 0} (f : X → List ℕ) (xs : List X) (name out : List ℕ) → out ≡ 40 ∷ (name ++ []) → out ++ rest_text f 0 xs ≡ list_text name (map f xs)
unfolding list_text
begun f xs name out e = ap (λ k. k ++ rest_text f 0 xs) e ∙ ap (λ k. 40 ∷ k) (append_assoc name [] (rest_text f 0 xs))

one_value : (out value more : List ℕ) → ((out ++ 32 ∷ []) ++ value) ++ more ≡ out ++ (32 ∷ (value ++ more))
one_value out value more = append_assoc (out ++ 32 ∷ []) value more ∙ append_assoc out (32 ∷ []) (value ++ more)

values_cons : (value : List ℕ) (values : List (List ℕ)) → values_text (value ∷ values) ++ 41 ∷ [] ≡ 32 ∷ (value ++ (values_text values ++ 41 ∷ []))
unfolding values_text
values_cons value values = ap (λ k. 32 ∷ k) (append_assoc value (values_text values) (41 ∷ []))

pub written : {X : Type 0} (f : X → List ℕ) (xs : List X) (k : ℕ) (x : X) (out push new : List ℕ) → k < length xs → x ≡ get_or xs k x
    → push ≡ out ++ 32 ∷ [] → new ≡ push ++ f x → new ++ rest_text f (k + 1) xs ≡ out ++ rest_text f k xs
written f xs k x out push new l e p n =
    ap (λ m. new ++ rest_text f m xs) (add-one k)
    ∙ ap (λ m. m ++ rest_text f (suc k) xs) (n ∙ ap (λ m. m ++ f x) p)
    ∙ one_value out (f x) (rest_text f (suc k) xs)
    ∙ ap (λ m. out ++ m) (sym (values_cons (f x) (map f (drop (suc k) xs))))
    ∙ ap (λ m. out ++ (values_text (map f m) ++ 41 ∷ [])) (ap (λ y. y ∷ drop (suc k) xs) e ∙ sym (drop-cons xs k x l))

pub ended : {X : Type 0} (f : X → List ℕ) (xs : List X) (k : ℕ) (out new all : List ℕ) → length xs ≤ k → new ≡ out ++ 41 ∷ [] → out ++ rest_text f k xs ≡ all → new ≡ all
unfolding values_text
ended f xs k out new all l n e = n ∙ ap (λ m. out ++ (values_text (map f m) ++ 41 ∷ [])) (sym (drop_all k xs l)) ∙ e
