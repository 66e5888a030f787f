-- A tight octagon has points strictly inside where no two opposite sides lie on each other.
use Rattle.std.proofs.Common.{arith, lit≤}
use Rattle.std.specs.Prelude.{◌+ℤ◌, ◌-ℤ◌}
use Rattle.std.proofs.lemmas.Int.{ints}
use Rattle.plane.specs.Plane.{Bounds, IsTight}
use Rattle.grid_num.proofs.Products.{mul_lt_back}
use Rattle.plane.proofs.Tight.{top_left_x, top_right_y, bottom_right_x, bottom_left_y}
use Rattle.strips.specs.Strips.{HasInside, IsStout}
use Rattle.strips.specs.Laws.{InsideLaw}

pub stout : (b : Bounds) → HasInside b → IsStout b
unfolding HasInside
stout b h =
    let p = h.0 in
    let i = h.1 in
    let a0 = i.x_low in
    let a1 = i.x_high in
    let b0 = i.y_low in
    let b1 = i.y_high in
    let c0 = i.s_low in
    let c1 = i.s_high in
    let d0 = i.d_low in
    let d1 = i.d_high in
    record {
      x = mul_lt_back p.scale b.x0 b.x1 (omega (arith, ints, a0, a1));
      y = mul_lt_back p.scale b.y0 b.y1 (omega (arith, ints, b0, b1));
      s = mul_lt_back p.scale b.s0 b.s1 (omega (arith, ints, c0, c1));
      d = mul_lt_back p.scale b.d0 b.d1 (omega (arith, ints, d0, d1));
    }

-- the middle of four corners that are on all eight sides: each side has the others' weight against it
pub inside : (b : Bounds) → IsTight b → IsStout b → HasInside b
unfolding HasInside
inside b t k =
    let v = top_left_x b t in
    let w = top_right_y b t in
    let f = bottom_right_x b t in
    let g = bottom_left_y b t in
    let kx = k.x in
    let ky = k.y in
    let ks = k.s in
    let kd = k.d in
    let v0 = v.x_low in
    let v1 = v.x_high in
    let v2 = v.y_low in
    let v3 = v.y_high in
    let v6 = v.d_low in
    let v7 = v.d_high in
    let w0 = w.x_low in
    let w1 = w.x_high in
    let w4 = w.s_low in
    let w5 = w.s_high in
    let f2 = f.y_low in
    let f3 = f.y_high in
    let f6 = f.d_low in
    let f7 = f.d_high in
    let g0 = g.x_low in
    let g1 = g.x_high in
    let g4 = g.s_low in
    let g5 = g.s_high in (
      record {
        x = b.x0 +ℤ (b.d1 +ℤ b.y0) +ℤ b.x1 +ℤ (b.d0 +ℤ b.y1);
        y = (b.s0 -ℤ b.x0) +ℤ b.y0 +ℤ (b.s1 -ℤ b.x1) +ℤ b.y1;
        scale = 4;
        positive = lit≤ tt;
      },
      record {
        x_low = omega (arith, ints, kx, w0, g0);
        x_high = omega (arith, ints, kx, w1, g1);
        y_low = omega (arith, ints, ky, v2, f2);
        y_high = omega (arith, ints, ky, v3, f3);
        s_low = omega (arith, ints, ks, w4, g4);
        s_high = omega (arith, ints, ks, w5, g5);
        d_low = omega (arith, ints, kd, v6, f6);
        d_high = omega (arith, ints, kd, v7, f7);
      },
    )

pub inside_law : InsideLaw
inside_law b t = (λ h. stout b h, λ k. inside b t k)
