-- One layer after another.
use Rattle.std.proofs.Common.{◌≡◌, sym, ◌∙◌, ap, subst, refl, ℕ, suc, ◌+◌, Bool, true, false, cond, List, [], ◌∷◌, ◌++◌, append_assoc, arith}
use Rattle.std.specs.List.{flat_map}
use Rattle.std.proofs.lemmas.List.{append-nil}
use Rattle.board_language.specs.Copper.{has_layer}
use Rattle.fill_rules.specs.Tasks.{layers_below}

flat_append : {A : Type 0} (f : A → List ℕ) (xs ys : List A) → flat_map f (xs ++ ys) ≡ flat_map f xs ++ flat_map f ys
flat_append f [] ys = refl
flat_append f (x ∷ xs) ys = ap (λ (zs : List ℕ). f x ++ zs) (flat_append f xs ys) ∙ sym (append_assoc (f x) (flat_map f xs) (flat_map f ys))

flat_one : (f : ℕ → List ℕ) (l : ℕ) (wanted : Bool) → flat_map f (cond wanted (l ∷ []) []) ≡ cond wanted (f l) []
flat_one f l true = append-nil (f l)
flat_one f l false = refl

-- the layers below the next one
pub layer_more : (f : ℕ → List ℕ) (layers l : ℕ) → flat_map f (layers_below layers (l + 1)) ≡ flat_map f (layers_below layers l) ++ cond (has_layer layers l) (f l) []
layer_more f layers l =
    subst (λ (n : ℕ). flat_map f (layers_below layers n) ≡ flat_map f (layers_below layers l) ++ cond (has_layer layers l) (f l) []) (next l)
    (flat_append f (layers_below layers l) (cond (has_layer layers l) (l ∷ []) []) ∙ ap (λ (zs : List ℕ). flat_map f (layers_below layers l) ++ zs) (flat_one f l (has_layer layers l)))
  where
    next : (l : ℕ) → suc l ≡ l + 1
    next l = omega arith
