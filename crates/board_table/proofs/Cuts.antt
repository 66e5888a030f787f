-- A text is cut at places that ascend.
use Rattle.std.proofs.Common.{◌≡◌, ℕ, ◌+◌, ◌-◌, ◌≤◌, List, ◌++◌, take, drop, sym, ◌∙◌, ap, arith, take-add, append_assoc}

pub cut_at : (xs : List ℕ) (a b : ℕ) → a ≤ b → take b xs ≡ take a xs ++ take (b - a) (drop a xs)
cut_at xs a b le =
    let e : b ≡ a + (b - a) = omega (arith, le) in
    ap (λ n. take n xs) e ∙ take-add a (b - a) xs

-- what stands before a place, and two pieces behind it, are what stands before the last place
pub cut_twice : (xs : List ℕ) (a b c : ℕ) → a ≤ b → b ≤ c → take a xs ++ (take (b - a) (drop a xs) ++ take (c - b) (drop b xs)) ≡ take c xs
cut_twice xs a b c ab bc =
    sym (append_assoc (take a xs) (take (b - a) (drop a xs)) (take (c - b) (drop b xs)))
    ∙ ap (λ ys. ys ++ take (c - b) (drop b xs)) (sym (cut_at xs a b ab))
    ∙ sym (cut_at xs b c bc)
