-- Bytes that are added one after another.
use Rattle.std.proofs.Common.{◌≡◌, ◌∙◌, ap, ℕ, List, ◌++◌, append_assoc}

pub added2 : (o a b x y : List ℕ) → x ≡ o ++ a → y ≡ x ++ b → y ≡ o ++ (a ++ b)
added2 o a b x y p q = q ∙ ap (λ t. t ++ b) p ∙ append_assoc o a b

pub added3 : (o a b c x y z : List ℕ) → x ≡ o ++ a → y ≡ x ++ b → z ≡ y ++ c → z ≡ o ++ (a ++ (b ++ c))
added3 o a b c x y z p q r = added2 o a (b ++ c) x z p (added2 x b c y z q r)

pub added6 : (o a b c d e f x y z u v w : List ℕ) → x ≡ o ++ a → y ≡ x ++ b → z ≡ y ++ c → u ≡ z ++ d → v ≡ u ++ e → w ≡ v ++ f
    → w ≡ o ++ (a ++ (b ++ (c ++ (d ++ (e ++ f)))))
added6 o a b c d e f x y z u v w p q r s t l = added3 o a b (c ++ (d ++ (e ++ f))) x y w p q (added2 y c (d ++ (e ++ f)) z w r (added3 z d e f u v w s t l))
