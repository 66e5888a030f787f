-- A number that is read digit by digit, where all above a most one count as one.
use Rattle.std.proofs.Common.{◌≡◌, ℕ, ◌+◌, ◌-◌, ◌*◌, ◌<◌, List, [], ◌∷◌, ◌++◌, length, get_or, drop, refl, sym, ap, ◌∙◌, arith, min}
use Rattle.std.proofs.lemmas.List.{at_drop_more}
use Rattle.grid_num.specs.Spelling.{number_after}

pub capped_alike : (most m n : ℕ) (ds : List ℕ) → min most m ≡ min most n → min most (number_after m ds) ≡ min most (number_after n ds)
capped_alike most m n [] e = e
capped_alike most m n (d ∷ ds) e = capped_alike most (10 * m + (d - 48)) (10 * n + (d - 48)) ds (omega (arith, e))

pub capped_more : (most sum before : ℕ) (ds : List ℕ) (i : ℕ) → i < length ds → min most (number_after sum (drop i ds)) ≡ min most (number_after before ds)
    → min most (number_after (min (10 * sum + (get_or ds i 0 - 48)) most) (drop (i + 1) ds)) ≡ min most (number_after before ds)
capped_more most sum before ds i h e =
    capped_alike most _ _ (drop (i + 1) ds) (omega arith) ∙ ap (λ n. min most n) (sym (at_drop_more (number_after sum) ds i 0 h)) ∙ e

pub number_append : (n : ℕ) (xs ys : List ℕ) → number_after n (xs ++ ys) ≡ number_after (number_after n xs) ys
number_append n [] ys = refl
number_append n (x ∷ xs) ys = number_append (10 * n + (x - 48)) xs ys
