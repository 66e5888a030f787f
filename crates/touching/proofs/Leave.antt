-- The straight way out of an area leaves it on one of its bounds.
use Rattle.std.proofs.Common.{◌≡◌, refl, ℕ, zero, suc, ◌+◌, ◌≤◌, ◌*◌, ◌⊎◌, inl, inr, ⊎_elim, arith, subst}
use Rattle.std.specs.Prelude.{ℤ, pos, ◌+ℤ◌, ◌-ℤ◌, ◌*ℤ◌, ◌≤ℤ◌, List, [], ◌∷◌}
use Rattle.std.proofs.lemmas.Int.{ints}
use Rattle.touching.proofs.Ring.{blend}
use Rattle.touching.proofs.Walk.{Slack, mean, Starts, Keeps, Hits, walk}
use Rattle.plane.specs.Plane.{PlanePoint, Bounds, In}
use Rattle.grid_num.proofs.Products.{mul_add, mul_sub, mul_le_back}
use lib.IntN.{zero-*ℤ}

-- one of the bounds is attained at the point
unfoldable pub OnBound : Bounds → PlanePoint → Type 0
OnBound b p =
    (p.x ≡ pos p.scale *ℤ b.x0)
    ⊎ ((p.x ≡ pos p.scale *ℤ b.x1)
    ⊎ ((p.y ≡ pos p.scale *ℤ b.y0)
    ⊎ ((p.y ≡ pos p.scale *ℤ b.y1)
    ⊎ (((p.x +ℤ p.y) ≡ pos p.scale *ℤ b.s0)
    ⊎ (((p.x +ℤ p.y) ≡ pos p.scale *ℤ b.s1)
    ⊎ (((p.x -ℤ p.y) ≡ pos p.scale *ℤ b.d0)
    ⊎ ((p.x -ℤ p.y) ≡ pos p.scale *ℤ b.d1)))))))

-- the straight way from p to q leaves the octagon at a point that is u parts p and v parts q
pub record Leaves (b : Bounds) (p q : PlanePoint) : Type 0 where
  pub u : ℕ
  pub v : ℕ
  pub some : 1 ≤ u
  pub at : PlanePoint
  pub scale : at.scale ≡ u * p.scale + v * q.scale
  pub x : at.x ≡ pos u *ℤ p.x +ℤ pos v *ℤ q.x
  pub y : at.y ≡ pos u *ℤ p.y +ℤ pos v *ℤ q.y
  pub inside : In b at
  pub on : OnBound b at

low : (k j : ℕ) (a b c : ℤ) → Slack
low k j a b c = record { start = a -ℤ pos k *ℤ c; target = b -ℤ pos j *ℤ c }

high : (k j : ℕ) (a b c : ℤ) → Slack
high k j a b c = record { start = pos k *ℤ c -ℤ a; target = pos j *ℤ c -ℤ b }

low_is : (u v k j : ℕ) (a b c : ℤ) → mean u v (low k j a b c) ≡ (pos u *ℤ a +ℤ pos v *ℤ b) -ℤ pos (u * k + v * j) *ℤ c
unfolding low
low_is u v k j a b c = omega (arith, ints, mul_sub u a (pos k *ℤ c), mul_sub v b (pos j *ℤ c), blend u v (pos k) (pos j) c)

high_is : (u v k j : ℕ) (a b c : ℤ) → mean u v (high k j a b c) ≡ pos (u * k + v * j) *ℤ c -ℤ (pos u *ℤ a +ℤ pos v *ℤ b)
unfolding high
high_is u v k j a b c = omega (arith, ints, mul_sub u (pos k *ℤ c) a, mul_sub v (pos j *ℤ c) b, blend u v (pos k) (pos j) c)

module _ (o : Bounds) (p q : PlanePoint) where
  slacks : List Slack
  slacks =
      low p.scale q.scale p.x q.x o.x0
      ∷ (high p.scale q.scale p.x q.x o.x1
      ∷ (low p.scale q.scale p.y q.y o.y0
      ∷ (high p.scale q.scale p.y q.y o.y1
      ∷ (low p.scale q.scale (p.x +ℤ p.y) (q.x +ℤ q.y) o.s0
      ∷ (high p.scale q.scale (p.x +ℤ p.y) (q.x +ℤ q.y) o.s1
      ∷ (low p.scale q.scale (p.x -ℤ p.y) (q.x -ℤ q.y) o.d0
      ∷ (high p.scale q.scale (p.x -ℤ p.y) (q.x -ℤ q.y) o.d1
      ∷ [])))))))

  starts : In o p → Starts slacks
  unfolding Starts slacks low high
  starts h = (
    omega (arith, ints, h.x_low),
    (
      omega (arith, ints, h.x_high),
      (
        omega (arith, ints, h.y_low),
        (
          omega (arith, ints, h.y_high),
          (omega (arith, ints, h.s_low), (omega (arith, ints, h.s_high), (omega (arith, ints, h.d_low), (omega (arith, ints, h.d_high), tt)))),
        ),
      ),
    ),
  )

  -- the mean of two points
  blended : (u v : ℕ) → 1 ≤ u + v → PlanePoint
  blended u v one = record {
    x = pos u *ℤ p.x +ℤ pos v *ℤ q.x;
    y = pos u *ℤ p.y +ℤ pos v *ℤ q.y;
    scale = u * p.scale + v * q.scale;
    positive = positive u v p.scale q.scale one p.positive q.positive;
  }
    where
      positive : (u v k j : ℕ) → 1 ≤ u + v → 1 ≤ k → 1 ≤ j → 1 ≤ u * k + v * j
      positive u v zero j one a b = omega arith
      positive u v (suc k) zero one a b = omega arith
      positive u v (suc k) (suc j) one a b = omega arith

  kept : (u v : ℕ) (one : 1 ≤ u + v) → Keeps u v slacks → In o (blended u v one)
  unfolding Keeps slacks blended
  kept u v one h =
      let k = p.scale in
      let j = q.scale in
      let s = sum_is u v in
      let d = diff_is u v in
      record {
        x_low = omega (arith, ints, h.0, low_is u v k j p.x q.x o.x0);
        x_high = omega (arith, ints, h.1.0, high_is u v k j p.x q.x o.x1);
        y_low = omega (arith, ints, h.1.1.0, low_is u v k j p.y q.y o.y0);
        y_high = omega (arith, ints, h.1.1.1.0, high_is u v k j p.y q.y o.y1);
        s_low = omega (arith, ints, h.1.1.1.1.0, s, low_is u v k j (p.x +ℤ p.y) (q.x +ℤ q.y) o.s0);
        s_high = omega (arith, ints, h.1.1.1.1.1.0, s, high_is u v k j (p.x +ℤ p.y) (q.x +ℤ q.y) o.s1);
        d_low = omega (arith, ints, h.1.1.1.1.1.1.0, d, low_is u v k j (p.x -ℤ p.y) (q.x -ℤ q.y) o.d0);
        d_high = omega (arith, ints, h.1.1.1.1.1.1.1.0, d, high_is u v k j (p.x -ℤ p.y) (q.x -ℤ q.y) o.d1);
      }
    where
      sum_is : (u v : ℕ) → (pos u *ℤ (p.x +ℤ p.y) +ℤ pos v *ℤ (q.x +ℤ q.y)) ≡ ((pos u *ℤ p.x +ℤ pos v *ℤ q.x) +ℤ (pos u *ℤ p.y +ℤ pos v *ℤ q.y))
      sum_is u v = omega (arith, ints, mul_add u p.x p.y, mul_add v q.x q.y)

      diff_is : (u v : ℕ) → (pos u *ℤ (p.x -ℤ p.y) +ℤ pos v *ℤ (q.x -ℤ q.y)) ≡ ((pos u *ℤ p.x +ℤ pos v *ℤ q.x) -ℤ (pos u *ℤ p.y +ℤ pos v *ℤ q.y))
      diff_is u v = omega (arith, ints, mul_sub u p.x p.y, mul_sub v q.x q.y)

  on : (u v : ℕ) (one : 1 ≤ u + v) → Hits u v slacks → OnBound o (blended u v one)
  unfolding Hits slacks blended OnBound
  on u v one (inl h) = inl (omega (arith, ints, h, low_is u v p.scale q.scale p.x q.x o.x0))
  on u v one (inr (inl h)) = inr (inl (omega (arith, ints, h, high_is u v p.scale q.scale p.x q.x o.x1)))
  on u v one (inr (inr (inl h))) = inr (inr (inl (omega (arith, ints, h, low_is u v p.scale q.scale p.y q.y o.y0))))
  on u v one (inr (inr (inr (inl h)))) = inr (inr (inr (inl (omega (arith, ints, h, high_is u v p.scale q.scale p.y q.y o.y1)))))
  on u v one (inr (inr (inr (inr (inl h))))) = inr (inr (inr (inr (inl
      (omega (arith, ints, h, low_is u v p.scale q.scale (p.x +ℤ p.y) (q.x +ℤ q.y) o.s0, mul_add u p.x p.y, mul_add v q.x q.y))))))
  on u v one (inr (inr (inr (inr (inr (inl h)))))) = inr (inr (inr (inr (inr (inl
      (omega (arith, ints, h, high_is u v p.scale q.scale (p.x +ℤ p.y) (q.x +ℤ q.y) o.s1, mul_add u p.x p.y, mul_add v q.x q.y)))))))
  on u v one (inr (inr (inr (inr (inr (inr (inl h))))))) = inr (inr (inr (inr (inr (inr (inl
      (omega (arith, ints, h, low_is u v p.scale q.scale (p.x -ℤ p.y) (q.x -ℤ q.y) o.d0, mul_sub u p.x p.y, mul_sub v q.x q.y))))))))
  on u v one (inr (inr (inr (inr (inr (inr (inr (inl h)))))))) = inr (inr (inr (inr (inr (inr (inr
      (omega (arith, ints, h, high_is u v p.scale q.scale (p.x -ℤ p.y) (q.x -ℤ q.y) o.d1, mul_sub u p.x p.y, mul_sub v q.x q.y))))))))
  on u v one (inr (inr (inr (inr (inr (inr (inr (inr h)))))))) = absurd h

  -- v parts of q alone are q
  back : (v : ℕ) → 1 ≤ v → Keeps 0 v slacks → In o q
  unfolding Keeps slacks low high
  back v one h = record {
    x_low = less v _ _ ((low p.scale q.scale p.x q.x o.x0).start) one h.0;
    x_high = less v _ _ ((high p.scale q.scale p.x q.x o.x1).start) one h.1.0;
    y_low = less v _ _ ((low p.scale q.scale p.y q.y o.y0).start) one h.1.1.0;
    y_high = less v _ _ ((high p.scale q.scale p.y q.y o.y1).start) one h.1.1.1.0;
    s_low = less v _ _ ((low p.scale q.scale (p.x +ℤ p.y) (q.x +ℤ q.y) o.s0).start) one h.1.1.1.1.0;
    s_high = less v _ _ ((high p.scale q.scale (p.x +ℤ p.y) (q.x +ℤ q.y) o.s1).start) one h.1.1.1.1.1.0;
    d_low = less v _ _ ((low p.scale q.scale (p.x -ℤ p.y) (q.x -ℤ q.y) o.d0).start) one h.1.1.1.1.1.1.0;
    d_high = less v _ _ ((high p.scale q.scale (p.x -ℤ p.y) (q.x -ℤ q.y) o.d1).start) one h.1.1.1.1.1.1.1.0;
  }
    where
      less : (v : ℕ) (a b c : ℤ) → 1 ≤ v → pos 0 ≤ℤ (pos 0 *ℤ c +ℤ pos v *ℤ (b -ℤ a)) → a ≤ℤ b
      less v a b c one h =
          let k : pos 0 ≤ℤ (b -ℤ a) = mul_le_back v (pos 0) (b -ℤ a) one (omega (arith, ints, h, zero-*ℤ c)) in
          omega (arith, ints)

  pub leave : In o p → In o q ⊎ Leaves o p q
  unfolding blended
  leave h =
      let e = walk slacks (starts h) in
      ⊎_elim {C = In o q ⊎ Leaves o p q}
      (λ z. inl (back e.v (omega (arith, e.some, z)) (subst (λ (u : ℕ). Keeps u e.v slacks) z e.keeps)))
      (λ m. inr (record {
        u = e.u;
        v = e.v;
        some = m.0;
        at = blended e.u e.v e.some;
        scale = refl;
        x = refl;
        y = refl;
        inside = kept e.u e.v e.some e.keeps;
        on = on e.u e.v e.some m.1;
      }))
      e.ends
