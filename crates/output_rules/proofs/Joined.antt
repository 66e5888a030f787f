-- Bytes that are added one after another.
use Rattle.std.proofs.Common.{◌≡◌, ◌∙◌, ap, sym, ℕ, suc, ◌+◌, ◌<◌, List, ◌∷◌, ◌++◌, length, drop, get_or, append_assoc, drop-cons, add-one}
use Rattle.std.proofs.lemmas.List.{get_or_default}

pub added2 : (o a b x y : List ℕ) → x ≡ o ++ a → y ≡ x ++ b → y ≡ o ++ (a ++ b)
added2 o a b x y p q = q ∙ ap (λ t. t ++ b) p ∙ append_assoc o a b

pub added3 : (o a b c x y z : List ℕ) → x ≡ o ++ a → y ≡ x ++ b → z ≡ y ++ c → z ≡ o ++ (a ++ (b ++ c))
added3 o a b c x y z p q r = added2 o a (b ++ c) x z p (added2 x b c y z q r)

pub added4 : (o a b c d x y z u : List ℕ) → x ≡ o ++ a → y ≡ x ++ b → z ≡ y ++ c → u ≡ z ++ d → u ≡ o ++ (a ++ (b ++ (c ++ d)))
added4 o a b c d x y z u p q r s = added2 o a (b ++ (c ++ d)) x u p (added3 x b c d y z u q r s)

pub added5 : (o a b c d e x y z u v : List ℕ) → x ≡ o ++ a → y ≡ x ++ b → z ≡ y ++ c → u ≡ z ++ d → v ≡ u ++ e → v ≡ o ++ (a ++ (b ++ (c ++ (d ++ e))))
added5 o a b c d e x y z u v p q r s t = added2 o a (b ++ (c ++ (d ++ e))) x v p (added4 x b c d e y z u v q r s t)

pub added6 : (o a b c d e f x y z u v w : List ℕ) → x ≡ o ++ a → y ≡ x ++ b → z ≡ y ++ c → u ≡ z ++ d → v ≡ u ++ e → w ≡ v ++ f
    → w ≡ o ++ (a ++ (b ++ (c ++ (d ++ (e ++ f)))))
added6 o a b c d e f x y z u v w p q r s t l = added2 o a (b ++ (c ++ (d ++ (e ++ f)))) x w p (added5 x b c d e f y z u v w q r s t l)

pub added8 : (o a b c d e f g h x y z u v w k l : List ℕ) → x ≡ o ++ a → y ≡ x ++ b → z ≡ y ++ c → u ≡ z ++ d → v ≡ u ++ e → w ≡ v ++ f → k ≡ w ++ g → l ≡ k ++ h
    → l ≡ o ++ (a ++ (b ++ (c ++ (d ++ (e ++ (f ++ (g ++ h)))))))
added8 o a b c d e f g h x y z u v w k l p q r s t m n i =
    added3 o a b (c ++ (d ++ (e ++ (f ++ (g ++ h))))) x y l p q (added6 y c d e f g h z u v w k l r s t m n i)

-- One more item is added: what was added, and what the items that are left add, stays the same.
pub added_item : {X : Type 0} (all_of : List X → List ℕ) (one_of : X → List ℕ) → ((x : X) (ys : List X) → all_of (x ∷ ys) ≡ one_of x ++ all_of ys)
    → (xs : List X) (i : ℕ) (x : X) (out new all : List ℕ) → i < length xs → x ≡ get_or xs i x → new ≡ out ++ one_of x
    → out ++ all_of (drop i xs) ≡ all → new ++ all_of (drop (i + 1) xs) ≡ all
added_item all_of one_of step xs i x out new all within is e h =
    let split : drop i xs ≡ x ∷ drop (suc i) xs = drop-cons xs i x within ∙ ap (λ y. y ∷ drop (suc i) xs) (sym is) in
    let next : drop (i + 1) xs ≡ drop (suc i) xs = ap (λ k. drop k xs) (add-one i) in
    ap (λ t. t ++ all_of (drop (i + 1) xs)) e ∙ append_assoc out (one_of x) (all_of (drop (i + 1) xs))
    ∙ ap (λ t. out ++ (one_of x ++ all_of t)) next
    ∙ ap (λ t. out ++ t) (sym (ap all_of split ∙ step x (drop (suc i) xs))) ∙ h

-- what stands at a place that a list has doesn't hang on the spare value
pub found_item : {X : Type 0} (xs : List X) (i : ℕ) (d : X) → i < length xs → get_or xs i d ≡ get_or xs i (get_or xs i d)
found_item xs i d within = get_or_default xs i d (get_or xs i d) within
