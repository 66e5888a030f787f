use Rattle.std.proofs.Common.{◌≡◌, ℕ, ◌-◌, ◌↔◌, List, IsTrue, All, length, take, drop, min, arith, ◌∙◌, ap, subst}
use Rattle.std.proofs.lemmas.List.{take_rest, drop_min}
use Rattle.grid_num.proofs.read.is_whole_nm.Goals as goal

rest_is : (xs : List ℕ) (n : ℕ) → n ≡ min (length xs) 6 → take (length xs - n) (drop n xs) ≡ drop 6 xs
rest_is xs n e =
    let m : n ≡ min 6 (length xs) = omega (arith, e) in
    take_rest xs n ∙ ap (λ k. drop k xs) m ∙ drop_min 6 xs

pub returns : goal.returns
returns c = subst (λ (xs : List ℕ). IsTrue c.are_zeros.result ↔ All (λ digit. digit ≡ 48) xs) (rest_is c.args.fraction.now c.min.result c.min.ensures) c.are_zeros.ensures
