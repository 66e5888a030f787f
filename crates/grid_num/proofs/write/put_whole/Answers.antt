use Rattle.std.proofs.Common.{◌≡◌, ◌∙◌, ◌++◌, ◌∷◌, [], ◌+◌, ◌/◌, ◌%◌, ◌⊎◌, ◌<◌, ◌≤◌, inl, inr, arith}
use Rattle.grid_num.proofs.Decimals.{put_digits}
use Rattle.grid_num.proofs.write.put_whole.Goals as goal
use Rattle.grid_num.proofs.write.put_whole.Goals.{then-n-ge100, else-n-ge100, then-n-ge10, else-n-ge10}

pub returns-clause-text : goal.returns-clause-text
returns-clause-text c =
    let n = c.args.n in
    let first : ((100 ≤ n) × (c.if-n-ge100.into ≡ c.args.into.now ++ (48 + n / 100) ∷ [])) ⊎ ((n < 100) × (c.if-n-ge100.into ≡ c.args.into.now)) =
    elim c.if-n-ge100.branch [ then-n-ge100 w ↦ inl (omega arith, w.into-is ∙ w.put_digit.ensures) | else-n-ge100 w ↦ inr (omega arith, w.into-is) ] in
    let second : ((10 ≤ n) × (c.if-n-ge10.into ≡ c.if-n-ge100.into ++ (48 + n / 10 % 10) ∷ [])) ⊎ ((n < 10) × (c.if-n-ge10.into ≡ c.if-n-ge100.into)) =
    elim c.if-n-ge10.branch [ then-n-ge10 w ↦ inl (omega arith, w.into-is ∙ w.put_digit-then-n-ge10.ensures) | else-n-ge10 w ↦ inr (omega arith, w.into-is) ] in
    c.put_digit-2.ensures ∙ put_digits n c.args.into.now c.if-n-ge100.into c.if-n-ge10.into c.requires.small first second
