-- Two lines are within reach exactly where they cross, or an end of one is within reach of the other.
use Rattle.std.proofs.Common.{◌≡◌, refl, ℕ, zero, suc, ◌⊎◌, inl, inr, ⊎_elim, arith, ap, sym, ◌∙◌}
use Rattle.std.specs.Prelude.{ℤ, pos, negsuc, neg_ℤ, ◌+ℤ◌, ◌-ℤ◌, ◌*ℤ◌, ◌<ℤ◌}
use Rattle.std.proofs.lemmas.Int.{ints, by_lt_z}
use lib.IntN.{*ℤ_comm, zero-*ℤ}
use Rattle.touching.specs.Inner.Decision.{inner, cross, IsSquare, AreLinesCrossing}
use Rattle.touching.proofs.Ring.{assoc, times_diff, times_sum}
use Rattle.touching.proofs.Short.{square_is, natural, as_short}
use Rattle.touching.proofs.LineEnds.{AreNear, EndNear}
use Rattle.touching.proofs.LineWalk.{run}
use Rattle.grid_num.proofs.Products.{mul_add, mul_sub, mul_neg}

swap : (a b c : ℤ) → (a *ℤ b) *ℤ c ≡ (a *ℤ c) *ℤ b
swap a b c = assoc a b c ∙ ap (λ (z : ℤ). a *ℤ z) (*ℤ_comm b c) ∙ sym (assoc a c b)

turn : (a b c : ℤ) → (a *ℤ b) *ℤ c ≡ (b *ℤ c) *ℤ a
turn a b c = assoc a b c ∙ *ℤ_comm a (b *ℤ c)

flip : (a b c : ℤ) → (a *ℤ b) *ℤ c ≡ (c *ℤ b) *ℤ a
flip a b c = turn a b c ∙ ap (λ (z : ℤ). z *ℤ a) (*ℤ_comm b c)

-- at the lines' common point nothing is left
pub cramer_x : (wx wy vx vy yx yy : ℤ) → (cross vx vy yx yy *ℤ wx +ℤ cross yx yy wx wy *ℤ vx -ℤ cross vx vy wx wy *ℤ yx) ≡ pos 0
cramer_x wx wy vx vy yx yy =
    omega (
      arith,
      ints,
      times_diff (vx *ℤ yy) (vy *ℤ yx) wx,
      times_diff (yx *ℤ wy) (yy *ℤ wx) vx,
      times_diff (vx *ℤ wy) (vy *ℤ wx) yx,
      turn vx yy wx,
      swap vy yx wx,
      flip yx wy vx,
    )

pub cramer_y : (wx wy vx vy yx yy : ℤ) → (cross vx vy yx yy *ℤ wy +ℤ cross yx yy wx wy *ℤ vy -ℤ cross vx vy wx wy *ℤ yy) ≡ pos 0
cramer_y wx wy vx vy yx yy =
    omega (
      arith,
      ints,
      times_diff (vx *ℤ yy) (vy *ℤ yx) wy,
      times_diff (yx *ℤ wy) (yy *ℤ wx) vy,
      times_diff (vx *ℤ wy) (vy *ℤ wx) yy,
      swap vx yy wy,
      turn vy yx wy,
      flip yy wx vy,
    )

anti : (ax ay bx by : ℤ) → cross ax ay bx by ≡ neg_ℤ (cross bx by ax ay)
anti ax ay bx by = omega (arith, ints, *ℤ_comm ax by, *ℤ_comm ay bx)

neg_times : (a b : ℤ) → neg_ℤ a *ℤ b ≡ neg_ℤ (a *ℤ b)
neg_times a b = omega (arith, ints, times_diff (pos 0) a b, ap (λ (z : ℤ). z *ℤ b) (minus_zero a), zero-*ℤ b)
  where
    minus_zero : (a : ℤ) → neg_ℤ a ≡ pos 0 -ℤ a
    minus_zero a = omega (arith, ints)

-- parallel segments move together
parallel_x : (vx vy yx yy : ℤ) → cross vx vy yx yy ≡ pos 0 → (inner yx yy yx yy *ℤ vx -ℤ inner vx vy yx yy *ℤ yx) ≡ pos 0
parallel_x vx vy yx yy e =
    omega (
      arith,
      ints,
      times_sum (yx *ℤ yx) (yy *ℤ yy) vx,
      times_sum (vx *ℤ yx) (vy *ℤ yy) yx,
      flip yx yx vx,
      turn vy yy yx,
      turn yy yy vx,
      flip yy yx vy,
      swap yy vx yy,
      swap yy yx vy,
      ap (λ (z : ℤ). z *ℤ yy) e,
      times_diff (vx *ℤ yy) (vy *ℤ yx) yy,
      zero-*ℤ yy,
      flip vx yy yy,
      flip vy yx yy,
      swap yy yy vx,
      turn vy yx yy,
      swap yx yy vy,
      swap vx yy yy,
    )

parallel_y : (vx vy yx yy : ℤ) → cross vx vy yx yy ≡ pos 0 → (inner yx yy yx yy *ℤ vy -ℤ inner vx vy yx yy *ℤ yy) ≡ pos 0
parallel_y vx vy yx yy e =
    omega (
      arith,
      ints,
      times_sum (yx *ℤ yx) (yy *ℤ yy) vy,
      times_sum (vx *ℤ yx) (vy *ℤ yy) yy,
      flip yy yy vy,
      flip yx yx vy,
      swap vx yx yy,
      ap (λ (z : ℤ). z *ℤ yx) e,
      times_diff (vx *ℤ yy) (vy *ℤ yx) yx,
      zero-*ℤ yx,
    )

pub no_square : (a b : ℤ) → inner a b a b ≡ pos 0 → (a ≡ pos 0) × (b ≡ pos 0)
no_square a b e = (zero_of a (omega (arith, ints, (square_is a).1, (square_is b).1)), zero_of b (omega (arith, ints, (square_is a).1, (square_is b).1)))
  where
    zero_of : (a : ℤ) → a *ℤ a ≡ pos 0 → a ≡ pos 0
    zero_of (pos zero) e = refl
    zero_of (pos (suc a)) e = omega (arith, ints)
    zero_of (negsuc a) e = omega (arith, ints)

pub anti_times : (ax ay bx by z : ℤ) → cross ax ay bx by *ℤ z ≡ neg_ℤ (cross bx by ax ay *ℤ z)
anti_times ax ay bx by z = ap (λ (c : ℤ). c *ℤ z) (anti ax ay bx by) ∙ neg_times (cross bx by ax ay) z

-- segments within reach cross, or an end of one is within reach of the other
pub segments : (r : ℕ) (wx wy vx vy yx yy : ℤ) → AreNear r wx wy vx vy yx yy → AreLinesCrossing wx wy vx vy yx yy ⊎ EndNear r wx wy vx vy yx yy
unfolding AreLinesCrossing
segments r wx wy vx vy yx yy h =
    by_lt_z {P = AreLinesCrossing wx wy vx vy yx yy ⊎ EndNear r wx wy vx vy yx yy} (pos 0) (cross vx vy yx yy)
    (λ up. rising up)
    (λ no. by_lt_z {P = AreLinesCrossing wx wy vx vy yx yy ⊎ EndNear r wx wy vx vy yx yy} (cross vx vy yx yy) (pos 0)
    (λ down. falling down)
    (λ on. inr (level (omega (arith, ints)))))
  where
    rising : pos 0 <ℤ cross vx vy yx yy → AreLinesCrossing wx wy vx vy yx yy ⊎ EndNear r wx wy vx vy yx yy
    rising up =
        let n = natural (cross vx vy yx yy) (omega (arith, ints)) in
        ⊎_elim {C = AreLinesCrossing wx wy vx vy yx yy ⊎ EndNear r wx wy vx vy yx yy} (λ z. inl (inl z)) (λ z. inr z)
        (run r wx wy vx vy yx yy h (cross vx vy yx yy) (cross yx yy wx wy) (cross vx vy wx wy) n.0 n.1
        (cramer_x wx wy vx vy yx yy) (cramer_y wx wy vx vy yx yy) (λ a b c. omega (arith, ints)))

    falling : cross vx vy yx yy <ℤ pos 0 → AreLinesCrossing wx wy vx vy yx yy ⊎ EndNear r wx wy vx vy yx yy
    falling down =
        let up : pos 0 <ℤ cross yx yy vx vy = omega (arith, ints, anti vx vy yx yy) in
        let n = natural (cross yx yy vx vy) (omega (arith, ints)) in
        ⊎_elim {C = AreLinesCrossing wx wy vx vy yx yy ⊎ EndNear r wx wy vx vy yx yy} (λ z. inl (inr z)) (λ z. inr z)
        (run r wx wy vx vy yx yy h (cross yx yy vx vy) (cross wx wy yx yy) (cross wx wy vx vy) n.0 n.1
        (omega (arith, ints, cramer_x wx wy vx vy yx yy, anti_times yx yy vx vy wx, anti_times wx wy yx yy vx, anti_times wx wy vx vy yx))
        (omega (arith, ints, cramer_y wx wy vx vy yx yy, anti_times yx yy vx vy wy, anti_times wx wy yx yy vy, anti_times wx wy vx vy yy))
        (λ a b c. omega (arith, ints)))

    flat : (t k : ℤ) → (t *ℤ vx -ℤ k *ℤ yx) ≡ pos 0 → (t *ℤ vy -ℤ k *ℤ yy) ≡ pos 0 → (t ≡ pos 0 → k ≡ pos 0 → ⊥) → EndNear r wx wy vx vy yx yy
    flat t k ex ey some =
        ⊎_elim {C = EndNear r wx wy vx vy yx yy} (λ (z : IsSquare (pos 0) t k). absurd (omega (arith, ints, z.some))) (λ z. z)
        (run r wx wy vx vy yx yy h (pos 0) t k 0 refl (omega (arith, ints, zero-*ℤ wx)) (omega (arith, ints, zero-*ℤ wy)) (λ a. some))

    level : cross vx vy yx yy ≡ pos 0 → EndNear r wx wy vx vy yx yy
    level e =
        by_lt_z {P = EndNear r wx wy vx vy yx yy} (pos 0) (inner yx yy yx yy)
        (λ long. flat (inner yx yy yx yy) (inner vx vy yx yy) (parallel_x vx vy yx yy e) (parallel_y vx vy yx yy e) (λ a b. omega (arith, ints)))
        (λ short.
        let z = no_square yx yy (omega (arith, ints, (square_is yx).1, (square_is yy).1)) in
        flat (pos 0) (pos 1) (omega (arith, ints, z.0, zero-*ℤ vx)) (omega (arith, ints, z.1, zero-*ℤ vy)) (λ a b. omega (arith, ints)))

pub end_near : (r : ℕ) (wx wy vx vy yx yy : ℤ) → EndNear r wx wy vx vy yx yy → AreNear r wx wy vx vy yx yy
unfolding EndNear
end_near r wx wy vx vy yx yy (inl (inl h)) = record {
  n = h.n;
  m = 0;
  l = h.j;
  some = h.some;
  on_first = omega arith;
  on_second = h.inside;
  close = as_short r h.n _ _ _ _ (omega (arith, ints)) (omega (arith, ints)) h.close;
}
end_near r wx wy vx vy yx yy (inl (inr h)) = record {
  n = h.n;
  m = h.n;
  l = h.j;
  some = h.some;
  on_first = omega arith;
  on_second = h.inside;
  close = as_short r h.n _ _ _ _ (omega (arith, ints, mul_add h.n wx vx)) (omega (arith, ints, mul_add h.n wy vy)) h.close;
}
end_near r wx wy vx vy yx yy (inr (inl h)) = record {
  n = h.n;
  m = h.j;
  l = 0;
  some = h.some;
  on_first = h.inside;
  on_second = omega arith;
  close = as_short r h.n _ _ _ _ (omega (arith, ints, mul_neg h.j vx)) (omega (arith, ints, mul_neg h.j vy)) h.close;
}
end_near r wx wy vx vy yx yy (inr (inr h)) = record {
  n = h.n;
  m = h.j;
  l = h.n;
  some = h.some;
  on_first = h.inside;
  on_second = omega arith;
  close = as_short r h.n _ _ _ _ (omega (arith, ints, mul_neg h.j vx, mul_sub h.n wx yx)) (omega (arith, ints, mul_neg h.j vy, mul_sub h.n wy yy)) h.close;
}

met : (r : ℕ) (wx wy vx vy yx yy s t u : ℤ) → IsSquare s t u → (s *ℤ wx +ℤ t *ℤ vx -ℤ u *ℤ yx) ≡ pos 0
    → (s *ℤ wy +ℤ t *ℤ vy -ℤ u *ℤ yy) ≡ pos 0 → AreNear r wx wy vx vy yx yy
met r wx wy vx vy yx yy (pos s) (pos t) (pos u) h ex ey = record {
  n = s;
  m = t;
  l = u;
  some = omega (arith, ints, h.some);
  on_first = omega (arith, ints, h.t_high);
  on_second = omega (arith, ints, h.u_high);
  close = as_short r s (pos 0) (pos 0) _ _ ex ey (omega (arith, ints));
}
met r wx wy vx vy yx yy (negsuc s) t u h ex ey = absurd (omega (arith, ints, h.some))
met r wx wy vx vy yx yy (pos s) (negsuc t) u h ex ey = absurd (omega (arith, ints, h.t_low))
met r wx wy vx vy yx yy (pos s) (pos t) (negsuc u) h ex ey = absurd (omega (arith, ints, h.u_low))

pub crosses_near : (r : ℕ) (wx wy vx vy yx yy : ℤ) → AreLinesCrossing wx wy vx vy yx yy → AreNear r wx wy vx vy yx yy
unfolding AreLinesCrossing
crosses_near r wx wy vx vy yx yy (inl h) = met r wx wy vx vy yx yy _ _ _ h (cramer_x wx wy vx vy yx yy) (cramer_y wx wy vx vy yx yy)
crosses_near r wx wy vx vy yx yy (inr h) =
    met r wx wy vx vy yx yy _ _ _ h
    (omega (arith, ints, cramer_x wx wy vx vy yx yy, anti_times yx yy vx vy wx, anti_times wx wy yx yy vx, anti_times wx wy vx vy yx))
    (omega (arith, ints, cramer_y wx wy vx vy yx yy, anti_times yx yy vx vy wy, anti_times wx wy yx yy vy, anti_times wx wy vx vy yy))
