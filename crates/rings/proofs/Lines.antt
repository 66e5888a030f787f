-- Edges as stretches of lines: each direction has its lines, and along a line one gets on.
use Rattle.std.proofs.Common.{◌≡◌, refl, sym, ◌∙◌, ℕ, zero, suc, ◌<◌, inl, inr, arith, Bool, true, false}
use Rattle.std.specs.Prelude.{ℤ, neg_ℤ, ◌+ℤ◌, ◌-ℤ◌, ◌<ℤ◌, ◌≤ℤ◌, int_lt, nat_eq, nat_lt, ◌%◌, if◌then◌else◌}
use Rattle.std.proofs.lemmas.Int.{ints, by_lt_z}
use Rattle.grid_num.specs.declared.Point.{Point}
use Rattle.plane.specs.Covering.{Edge}
use Rattle.plane.specs.Edges.{IsOctilinear, IsOnWay, IsStraight}
use Rattle.plane.proofs.Counts.{less_true, less_false}
use Rattle.rings.specs.Turning.{direction}

-- which of the lines of direction d the corner is on
unfoldable pub line : ℕ → Point → ℤ
line d q =
    if nat_eq (d % 4) 0
    then q.y
    else (if nat_eq (d % 4) 1 then q.x +ℤ q.y else (if nat_eq (d % 4) 2 then q.x else q.x -ℤ q.y))

-- how far on it is
unfoldable pub along : ℕ → Point → ℤ
along d q =
    if nat_lt d 2
    then q.x
    else (if nat_lt d 4 then neg_ℤ q.y else (if nat_lt d 5 then neg_ℤ q.x else q.y))

-- the edge goes along a line, by some length
pub record GoesOn (d : ℕ) (e : Edge) : Type 0 where
  pub line : line d e.finish ≡ line d e.start
  pub on : along d e.start <ℤ along d e.finish

pub lines_at : (e : Edge) → IsOctilinear e → (e.start.x ≡ e.finish.x → e.start.y ≡ e.finish.y → ⊥) → GoesOn (direction e) e
unfolding IsOctilinear direction line along
lines_at e o l =
    by_lt_z {P = GoesOn (direction e) e} e.start.x e.finish.x
    (λ a. let a' = less_true e.start.x e.finish.x a in
    rw a' (by_lt_z {P = GoesOn (if int_lt e.finish.y e.start.y then 1 else (if int_lt e.start.y e.finish.y then 7 else 0)) e} e.finish.y e.start.y
    (λ c. let c' = less_true e.finish.y e.start.y c in rw c' (record { line = omega (arith, ints, o, a, c); on = omega (arith, ints, o, a, c) }))
    (λ c. let c' = less_false e.finish.y e.start.y c in rw c' (by_lt_z {P = GoesOn (if int_lt e.start.y e.finish.y then 7 else 0) e} e.start.y e.finish.y
    (λ d. let d' = less_true e.start.y e.finish.y d in rw d' (record { line = omega (arith, ints, o, a, d); on = omega (arith, ints, o, a, d) }))
    (λ d. let d' = less_false e.start.y e.finish.y d in rw d' (record { line = omega (arith, ints, o, a, c, d); on = omega (arith, ints, o, a, c, d) }))))))
    (λ b0. let a' = less_false e.start.x e.finish.x b0 in
    rw a' (by_lt_z {P = GoesOn (if int_lt e.finish.x e.start.x then (if int_lt e.finish.y e.start.y then 3 else (if int_lt e.start.y e.finish.y then 5 else 4)) else (if int_lt e.finish.y e.start.y then 2 else 6)) e} e.finish.x e.start.x
    (λ b. let b' = less_true e.finish.x e.start.x b in
    rw b' (by_lt_z {P = GoesOn (if int_lt e.finish.y e.start.y then 3 else (if int_lt e.start.y e.finish.y then 5 else 4)) e} e.finish.y e.start.y
    (λ c. let c' = less_true e.finish.y e.start.y c in rw c' (record { line = omega (arith, ints, o, b, c); on = omega (arith, ints, o, b, c) }))
    (λ c. let c' = less_false e.finish.y e.start.y c in rw c' (by_lt_z {P = GoesOn (if int_lt e.start.y e.finish.y then 5 else 4) e} e.start.y e.finish.y
    (λ d. let d' = less_true e.start.y e.finish.y d in rw d' (record { line = omega (arith, ints, o, b, d); on = omega (arith, ints, o, b, d) }))
    (λ d. let d' = less_false e.start.y e.finish.y d in rw d' (record { line = omega (arith, ints, o, b, c, d); on = omega (arith, ints, o, b, c, d) }))))))
    (λ b. let b' = less_false e.finish.x e.start.x b in
    rw b' (by_lt_z {P = GoesOn (if int_lt e.finish.y e.start.y then 2 else 6) e} e.finish.y e.start.y
    (λ c. let c' = less_true e.finish.y e.start.y c in rw c' (record { line = omega (arith, ints, b0, b); on = omega (arith, ints, c) }))
    (λ c. let c' = less_false e.finish.y e.start.y c in rw c' (by_lt_z {P = GoesOn 6 e} e.start.y e.finish.y
    (λ d. record { line = omega (arith, ints, b0, b); on = d })
    (λ d. absurd (l (omega (arith, ints, b0, b)) (omega (arith, ints, c, d))))))))))

-- ---- the direction of a stretch of a line
dir : Bool → Bool → Bool → Bool → ℕ
dir a b c d = if a then (if c then 1 else (if d then 7 else 0)) else (if b then (if c then 3 else (if d then 5 else 4)) else (if c then 2 else 6))

dir_by : (e : Edge) (a b c d : Bool) → int_lt e.start.x e.finish.x ≡ a → int_lt e.finish.x e.start.x ≡ b → int_lt e.finish.y e.start.y ≡ c → int_lt e.start.y e.finish.y ≡ d
    → direction e ≡ dir a b c d
unfolding direction dir
dir_by e a b c d p q r s = rw p (rw q (rw r (rw s refl)))

pub direction_is : (d : ℕ) → d < 8 → (e : Edge) → GoesOn d e → direction e ≡ d
unfolding line along dir
direction_is zero h e g = let l = g.line in let o = g.on in
    dir_by e true false false false (less_true e.start.x e.finish.x o) (less_false e.finish.x e.start.x (omega (arith, ints, o))) (less_false e.finish.y e.start.y (omega (arith, ints, l))) (less_false e.start.y e.finish.y (omega (arith, ints, l)))
direction_is (suc zero) h e g = let l = g.line in let o = g.on in
    dir_by e true false true false (less_true e.start.x e.finish.x o) (less_false e.finish.x e.start.x (omega (arith, ints, o))) (less_true e.finish.y e.start.y (omega (arith, ints, l, o))) (less_false e.start.y e.finish.y (omega (arith, ints, l, o)))
direction_is (suc (suc zero)) h e g = let l = g.line in let o = g.on in
    dir_by e false false true false (less_false e.start.x e.finish.x (omega (arith, ints, l))) (less_false e.finish.x e.start.x (omega (arith, ints, l))) (less_true e.finish.y e.start.y (omega (arith, ints, o))) (less_false e.start.y e.finish.y (omega (arith, ints, o)))
direction_is (suc (suc (suc zero))) h e g = let l = g.line in let o = g.on in
    dir_by e false true true false (less_false e.start.x e.finish.x (omega (arith, ints, l, o))) (less_true e.finish.x e.start.x (omega (arith, ints, l, o))) (less_true e.finish.y e.start.y (omega (arith, ints, o))) (less_false e.start.y e.finish.y (omega (arith, ints, o)))
direction_is (suc (suc (suc (suc zero)))) h e g = let l = g.line in let o = g.on in
    dir_by e false true false false (less_false e.start.x e.finish.x (omega (arith, ints, o))) (less_true e.finish.x e.start.x (omega (arith, ints, o))) (less_false e.finish.y e.start.y (omega (arith, ints, l))) (less_false e.start.y e.finish.y (omega (arith, ints, l)))
direction_is (suc (suc (suc (suc (suc zero))))) h e g = let l = g.line in let o = g.on in
    dir_by e false true false true (less_false e.start.x e.finish.x (omega (arith, ints, l, o))) (less_true e.finish.x e.start.x (omega (arith, ints, l, o))) (less_false e.finish.y e.start.y (omega (arith, ints, o))) (less_true e.start.y e.finish.y o)
direction_is (suc (suc (suc (suc (suc (suc zero)))))) h e g = let l = g.line in let o = g.on in
    dir_by e false false false true (less_false e.start.x e.finish.x (omega (arith, ints, l))) (less_false e.finish.x e.start.x (omega (arith, ints, l))) (less_false e.finish.y e.start.y (omega (arith, ints, o))) (less_true e.start.y e.finish.y o)
direction_is (suc (suc (suc (suc (suc (suc (suc zero))))))) h e g = let l = g.line in let o = g.on in
    dir_by e true false false true (less_true e.start.x e.finish.x (omega (arith, ints, l, o))) (less_false e.finish.x e.start.x (omega (arith, ints, l, o))) (less_false e.finish.y e.start.y (omega (arith, ints, o))) (less_true e.start.y e.finish.y o)
direction_is (suc (suc (suc (suc (suc (suc (suc (suc d)))))))) h e g = absurd (omega (arith, h))

-- ---- a stretch of a line is level, upright or slanted
octilinear_at : (d : ℕ) → d < 8 → (e : Edge) → GoesOn d e → IsOctilinear e
unfolding line IsOctilinear
octilinear_at zero h e g = inl (sym g.line)
octilinear_at (suc zero) h e g = let l = g.line in inr (inr (inr (omega (arith, ints, l))))
octilinear_at (suc (suc zero)) h e g = inr (inl (sym g.line))
octilinear_at (suc (suc (suc zero))) h e g = let l = g.line in inr (inr (inl (omega (arith, ints, l))))
octilinear_at (suc (suc (suc (suc zero)))) h e g = inl (sym g.line)
octilinear_at (suc (suc (suc (suc (suc zero))))) h e g = let l = g.line in inr (inr (inr (omega (arith, ints, l))))
octilinear_at (suc (suc (suc (suc (suc (suc zero)))))) h e g = inr (inl (sym g.line))
octilinear_at (suc (suc (suc (suc (suc (suc (suc zero))))))) h e g = let l = g.line in inr (inr (inl (omega (arith, ints, l))))
octilinear_at (suc (suc (suc (suc (suc (suc (suc (suc d)))))))) h e g = absurd (omega (arith, h))

-- an edge has some length, in its direction
abbrev pub IsGood : Edge → Type 0
IsGood e = GoesOn (direction e) e

pub direction_low : (e : Edge) → direction e < 8
unfolding direction
direction_low e = at (int_lt e.start.x e.finish.x) (int_lt e.finish.x e.start.x) (int_lt e.finish.y e.start.y) (int_lt e.start.y e.finish.y)
  where
    at : (a b c d : Bool) → (if a then (if c then 1 else (if d then 7 else 0)) else (if b then (if c then 3 else (if d then 5 else 4)) else (if c then 2 else 6))) < 8
    at true b true d = omega arith
    at true b false true = omega arith
    at true b false false = omega arith
    at false true true d = omega arith
    at false true false true = omega arith
    at false true false false = omega arith
    at false false true d = omega arith
    at false false false d = omega arith

pub good_octilinear : (e : Edge) → IsGood e → IsOctilinear e
good_octilinear e g = octilinear_at (direction e) (direction_low e) e g

-- ---- corners along one line
pub straight_at : (d : ℕ) → d < 8 → (a b c : Point) → line d b ≡ line d a → line d c ≡ line d a → along d a ≤ℤ along d b → along d b ≤ℤ along d c → IsStraight a b c
unfolding line along IsStraight IsOnWay
straight_at zero h a b c k l m n = inr (inr (sym k, k ∙ sym l, inl (m, n)))
straight_at (suc zero) h a b c k l m n = inr (inl (omega (arith, ints, k, l, m, n), omega (arith, ints, k, l, m, n), inr (inr (omega (arith, ints, k, l), omega (arith, ints, k, l)))))
straight_at (suc (suc zero)) h a b c k l m n = inr (inl (omega (arith, ints, m, n), omega (arith, ints, m, n), inl (l ∙ sym k, k)))
straight_at (suc (suc (suc zero))) h a b c k l m n = inr (inl (omega (arith, ints, m, n), omega (arith, ints, m, n), inr (inl (omega (arith, ints, k, l), omega (arith, ints, k, l)))))
straight_at (suc (suc (suc (suc zero)))) h a b c k l m n = inr (inr (sym k, k ∙ sym l, inr (omega (arith, ints, n), omega (arith, ints, m))))
straight_at (suc (suc (suc (suc (suc zero))))) h a b c k l m n = inl (m, n, inr (inr (omega (arith, ints, k, l), omega (arith, ints, k, l))))
straight_at (suc (suc (suc (suc (suc (suc zero)))))) h a b c k l m n = inl (m, n, inl (sym k, k ∙ sym l))
straight_at (suc (suc (suc (suc (suc (suc (suc zero))))))) h a b c k l m n = inl (m, n, inr (inl (omega (arith, ints, k, l), omega (arith, ints, k, l))))
straight_at (suc (suc (suc (suc (suc (suc (suc (suc d)))))))) h a b c k l m n = absurd (omega (arith, h))
