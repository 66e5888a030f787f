-- How many of a list stand before the first that passes.
use Rattle.std.proofs.Common.{◌≡◌, ℕ, ◌+◌, ◌<◌, ◌≤◌, Bool, true, false, cond, List, [], ◌∷◌, length, map, drop, get_or, refl, ap, ◌∙◌, arith}
use Rattle.std.specs.List.{prefix_len}
use Rattle.board_text.proofs.Walks.{drop_here, drop_past}

prefix_map : {V W : Type 0} (p : W → Bool) (f : V → W) (xs : List V) → prefix_len p (map f xs) ≡ prefix_len (λ x. p (f x)) xs
prefix_map p f [] = refl
prefix_map p f (x ∷ xs) = ap (λ n. cond (p (f x)) (1 + n) 0) (prefix_map p f xs)

split : {V : Type 0} (p : V → Bool) (xs : List V) (k : ℕ) (x : V) → k < length xs → ((d : V) → x ≡ get_or xs k d) → prefix_len p (drop k xs) ≡ cond (p x) (1 + prefix_len p (drop (k + 1) xs)) 0
split p xs k x l e = ap (prefix_len p) (drop_here xs k x l e)

pub stops : {V W : Type 0} (p : W → Bool) (f : V → W) (xs : List V) (k : ℕ) (x : V) → k < length xs → ((d : V) → x ≡ get_or xs k d) → p (f x) ≡ false
    → k + prefix_len (λ v. p (f v)) (drop k xs) ≡ prefix_len (λ v. p (f v)) xs → k ≡ prefix_len p (map f xs)
stops p f xs k x l e fails h =
    let z : prefix_len (λ v. p (f v)) (drop k xs) ≡ 0 = split (λ v. p (f v)) xs k x l e ∙ ap (λ b. cond b (1 + prefix_len (λ v. p (f v)) (drop (k + 1) xs)) 0) fails in
    omega (arith, h, z, prefix_map p f xs)

pub goes_on : {V W : Type 0} (p : W → Bool) (f : V → W) (xs : List V) (k : ℕ) (x : V) → k < length xs → ((d : V) → x ≡ get_or xs k d) → p (f x) ≡ true
    → k + prefix_len (λ v. p (f v)) (drop k xs) ≡ prefix_len (λ v. p (f v)) xs → (k + 1) + prefix_len (λ v. p (f v)) (drop (k + 1) xs) ≡ prefix_len (λ v. p (f v)) xs
goes_on p f xs k x l e yes' h =
    let s : prefix_len (λ v. p (f v)) (drop k xs) ≡ 1 + prefix_len (λ v. p (f v)) (drop (k + 1) xs) =
    split (λ v. p (f v)) xs k x l e ∙ ap (λ b. cond b (1 + prefix_len (λ v. p (f v)) (drop (k + 1) xs)) 0) yes' in
    omega (arith, h, s)

pub ends : {V W : Type 0} (p : W → Bool) (f : V → W) (xs : List V) (k : ℕ) → length xs ≤ k → k + prefix_len (λ v. p (f v)) (drop k xs) ≡ prefix_len (λ v. p (f v)) xs → k ≡ prefix_len p (map f xs)
ends p f xs k l h =
    let z : prefix_len (λ v. p (f v)) (drop k xs) ≡ 0 = ap (prefix_len (λ v. p (f v))) (drop_past xs k l) in
    omega (arith, h, z, prefix_map p f xs)
