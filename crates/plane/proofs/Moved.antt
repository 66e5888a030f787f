-- Grid points in octagons, octagons that are moved, and rectangles.
use Rattle.std.proofs.Common.{◌≡◌, ℕ, ◌*◌, subst, sym, arith}
use Rattle.std.specs.Prelude.{ℤ, pos, ◌+ℤ◌, ◌-ℤ◌, ◌*ℤ◌}
use Rattle.std.proofs.lemmas.Int.{ints}
use Rattle.plane.specs.Plane.{Bounds, Within, StrictlyWithin, times, IsTight, minus, moved}
use Rattle.plane.specs.Laws.{GridLaw, StrictGridLaw, MovedLaw, StrictMovedLaw, BoxLaw, TightBoxLaw}
use Rattle.grid_num.proofs.Products.{mul_add, mul_sub}
use Rattle.plane.proofs.Equal.{equal}

times_one : (k : ℕ) → k ≡ k * 1
times_one k = omega arith

-- ---- grid points
once : (b : Bounds) → times 1 b ≡ b
once b = equal _ _ (record {
  x0 = omega (arith, ints);
  x1 = omega (arith, ints);
  y0 = omega (arith, ints);
  y1 = omega (arith, ints);
  s0 = omega (arith, ints);
  s1 = omega (arith, ints);
  d0 = omega (arith, ints);
  d1 = omega (arith, ints);
})

pub grid_law : GridLaw
grid_law b x y = (λ w. subst (λ c. Within c x y) (once b) w, λ w. subst (λ c. Within c x y) (sym (once b)) w)

pub strict_grid_law : StrictGridLaw
strict_grid_law b x y =
    (λ w. subst (λ c. StrictlyWithin c x y) (once b) w, λ w. subst (λ c. StrictlyWithin c x y) (sym (once b)) w)

-- ---- moved, at one scale
moved_back : (k : ℕ) (b : Bounds) (x y u v : ℤ) → Within (times k (moved b x y)) u v
    → Within (times k b) (pos 1 *ℤ u -ℤ pos k *ℤ x) (pos 1 *ℤ v -ℤ pos k *ℤ y)
moved_back k b x y u v w = record {
  x_low = omega (arith, ints, mul_add k b.x0 x, w.x_low);
  x_high = omega (arith, ints, mul_add k b.x1 x, w.x_high);
  y_low = omega (arith, ints, mul_add k b.y0 y, w.y_low);
  y_high = omega (arith, ints, mul_add k b.y1 y, w.y_high);
  s_low = omega (arith, ints, mul_add k b.s0 (x +ℤ y), mul_add k x y, w.s_low);
  s_high = omega (arith, ints, mul_add k b.s1 (x +ℤ y), mul_add k x y, w.s_high);
  d_low = omega (arith, ints, mul_add k b.d0 (x -ℤ y), mul_sub k x y, w.d_low);
  d_high = omega (arith, ints, mul_add k b.d1 (x -ℤ y), mul_sub k x y, w.d_high);
}

moved_there : (k : ℕ) (b : Bounds) (x y u v : ℤ) → Within (times k b) (pos 1 *ℤ u -ℤ pos k *ℤ x) (pos 1 *ℤ v -ℤ pos k *ℤ y)
    → Within (times k (moved b x y)) u v
moved_there k b x y u v w = record {
  x_low = omega (arith, ints, mul_add k b.x0 x, w.x_low);
  x_high = omega (arith, ints, mul_add k b.x1 x, w.x_high);
  y_low = omega (arith, ints, mul_add k b.y0 y, w.y_low);
  y_high = omega (arith, ints, mul_add k b.y1 y, w.y_high);
  s_low = omega (arith, ints, mul_add k b.s0 (x +ℤ y), mul_add k x y, w.s_low);
  s_high = omega (arith, ints, mul_add k b.s1 (x +ℤ y), mul_add k x y, w.s_high);
  d_low = omega (arith, ints, mul_add k b.d0 (x -ℤ y), mul_sub k x y, w.d_low);
  d_high = omega (arith, ints, mul_add k b.d1 (x -ℤ y), mul_sub k x y, w.d_high);
}

strict_back : (k : ℕ) (b : Bounds) (x y u v : ℤ) → StrictlyWithin (times k (moved b x y)) u v
    → StrictlyWithin (times k b) (pos 1 *ℤ u -ℤ pos k *ℤ x) (pos 1 *ℤ v -ℤ pos k *ℤ y)
strict_back k b x y u v w = record {
  x_low = omega (arith, ints, mul_add k b.x0 x, w.x_low);
  x_high = omega (arith, ints, mul_add k b.x1 x, w.x_high);
  y_low = omega (arith, ints, mul_add k b.y0 y, w.y_low);
  y_high = omega (arith, ints, mul_add k b.y1 y, w.y_high);
  s_low = omega (arith, ints, mul_add k b.s0 (x +ℤ y), mul_add k x y, w.s_low);
  s_high = omega (arith, ints, mul_add k b.s1 (x +ℤ y), mul_add k x y, w.s_high);
  d_low = omega (arith, ints, mul_add k b.d0 (x -ℤ y), mul_sub k x y, w.d_low);
  d_high = omega (arith, ints, mul_add k b.d1 (x -ℤ y), mul_sub k x y, w.d_high);
}

strict_there : (k : ℕ) (b : Bounds) (x y u v : ℤ) → StrictlyWithin (times k b) (pos 1 *ℤ u -ℤ pos k *ℤ x) (pos 1 *ℤ v -ℤ pos k *ℤ y)
    → StrictlyWithin (times k (moved b x y)) u v
strict_there k b x y u v w = record {
  x_low = omega (arith, ints, mul_add k b.x0 x, w.x_low);
  x_high = omega (arith, ints, mul_add k b.x1 x, w.x_high);
  y_low = omega (arith, ints, mul_add k b.y0 y, w.y_low);
  y_high = omega (arith, ints, mul_add k b.y1 y, w.y_high);
  s_low = omega (arith, ints, mul_add k b.s0 (x +ℤ y), mul_add k x y, w.s_low);
  s_high = omega (arith, ints, mul_add k b.s1 (x +ℤ y), mul_add k x y, w.s_high);
  d_low = omega (arith, ints, mul_add k b.d0 (x -ℤ y), mul_sub k x y, w.d_low);
  d_high = omega (arith, ints, mul_add k b.d1 (x -ℤ y), mul_sub k x y, w.d_high);
}

-- ---- the difference with a grid point has the point's scale
pub moved_law : MovedLaw
unfolding minus
moved_law b x y p =
    let u = pos 1 *ℤ p.x -ℤ pos p.scale *ℤ x in
    let v = pos 1 *ℤ p.y -ℤ pos p.scale *ℤ y in
    let P : ℕ → Type 0 = λ n. Within (times n b) u v in
    (λ w. subst P (times_one p.scale) (moved_back p.scale b x y p.x p.y w), λ w. moved_there p.scale b x y p.x p.y (subst P (sym (times_one p.scale)) w))

pub strict_moved_law : StrictMovedLaw
unfolding minus
strict_moved_law b x y p =
    let u = pos 1 *ℤ p.x -ℤ pos p.scale *ℤ x in
    let v = pos 1 *ℤ p.y -ℤ pos p.scale *ℤ y in
    let P : ℕ → Type 0 = λ n. StrictlyWithin (times n b) u v in
    (λ w. subst P (times_one p.scale) (strict_back p.scale b x y p.x p.y w), λ w. strict_there p.scale b x y p.x p.y (subst P (sym (times_one p.scale)) w))

pub IsTight-moved : (b : Bounds) (x y : ℤ) → IsTight b → IsTight (moved b x y)
IsTight-moved b x y t = record {
  top_left = omega (arith, ints);
  top = omega (arith, ints);
  top_right = omega (arith, ints);
  right = omega (arith, ints);
  bottom_right = omega (arith, ints);
  bottom = omega (arith, ints);
  bottom_left = omega (arith, ints);
  left = omega (arith, ints);
}

-- ---- rectangles
pub box_law : BoxLaw
box_law x0 x1 y0 y1 p =
    let k = p.scale in (
      λ w. record { left = w.x_low; right = w.x_high; top = w.y_low; bottom = w.y_high },
      λ w. record {
        x_low = w.left;
        x_high = w.right;
        y_low = w.top;
        y_high = w.bottom;
        s_low = omega (arith, ints, mul_add k x0 y0, w.left, w.top);
        s_high = omega (arith, ints, mul_add k x1 y1, w.right, w.bottom);
        d_low = omega (arith, ints, mul_sub k x0 y1, w.left, w.bottom);
        d_high = omega (arith, ints, mul_sub k x1 y0, w.right, w.top);
      },
    )

pub tight_box_law : TightBoxLaw
tight_box_law x0 x1 y0 y1 h l = record {
  top_left = omega (arith, ints);
  top = omega (arith, ints);
  top_right = omega (arith, ints);
  right = omega (arith, ints);
  bottom_right = omega (arith, ints);
  bottom = omega (arith, ints);
  bottom_left = omega (arith, ints);
  left = omega (arith, ints);
}
