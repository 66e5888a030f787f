-- The least octagon round points.
use Rattle.std.proofs.Common.{◌≡◌, sym, subst, ◌⊎◌, inl, inr, ◌^◌, arith}
use Rattle.std.specs.Prelude.{ℤ, ◌+ℤ◌, ◌-ℤ◌}
use Rattle.std.specs.Int.{int_max, int_min}
use Rattle.std.proofs.lemmas.Int.{ints, clamps, by_lt_z}
use Rattle.plane.specs.Plane.{Bounds, PlanePoint, Within, In, IsTight, IsOct}
use Rattle.plane.specs.Narrow.{IsNearZero, Small}
use Rattle.plane.proofs.Equal.{equal}
use Rattle.grid_num.proofs.Products.{mul_le}
use Rattle.octagon.specs.Inner.Hull.{IsOctAt, IsLesser, IsGreater, IsWidened}
use Rattle.plane.proofs.Inside.{IsInside}
use Rattle.octagon.proofs.Plain.{code_read, code_add, code_sub, IsOct-IsSmall}

-- ---- one point
abbrev at_of : ℤ → ℤ → Bounds
at_of x y = record { x0 = x; x1 = x; y0 = y; y1 = y; s0 = x +ℤ y; s1 = x +ℤ y; d0 = x -ℤ y; d1 = x -ℤ y }

abbrev pub code_at : ℤ → ℤ → Bounds
code_at x y =
    record {
      x0 = code_read x;
      x1 = code_read x;
      y0 = code_read y;
      y1 = code_read y;
      s0 = code_add x y;
      s1 = code_add x y;
      d0 = code_sub x y;
      d1 = code_sub x y;
    }

near_read : (x : ℤ) → IsNearZero (2 ^ 40) x → code_read x ≡ x
near_read x h = omega (arith, ints)

near_add : (x y : ℤ) → IsNearZero (2 ^ 40) x → IsNearZero (2 ^ 40) y → code_add x y ≡ x +ℤ y
near_add x y h k = omega (arith, ints)

near_sub : (x y : ℤ) → IsNearZero (2 ^ 40) x → IsNearZero (2 ^ 40) y → code_sub x y ≡ x -ℤ y
near_sub x y h k = omega (arith, ints)

at_of-IsOct : (x y : ℤ) → IsNearZero (2 ^ 40) x → IsNearZero (2 ^ 40) y → IsOct (at_of x y)
at_of-IsOct x y h k = record {
  tight = record {
    top_left = omega (arith, ints);
    top = omega (arith, ints);
    top_right = omega (arith, ints);
    right = omega (arith, ints);
    bottom_right = omega (arith, ints);
    bottom = omega (arith, ints);
    bottom_left = omega (arith, ints);
    left = omega (arith, ints);
  };
  x_low = h.low;
  x_high = h.high;
  y_low = k.low;
  y_high = k.high;
}

pub code_at-IsOct : (x y : ℤ) → IsNearZero (2 ^ 40) x → IsNearZero (2 ^ 40) y → IsOct (code_at x y)
code_at-IsOct x y h k =
    let P : Bounds → Type 0 = λ z. IsOct z in
    subst P (sym (equal (code_at x y) (at_of x y) (record {
      x0 = near_read x h;
      x1 = near_read x h;
      y0 = near_read y k;
      y1 = near_read y k;
      s0 = near_add x y h k;
      s1 = near_add x y h k;
      d0 = near_sub x y h k;
      d1 = near_sub x y h k;
    })))
    (at_of-IsOct x y h k)

pub at_inside : (h b : Bounds) (x y : ℤ) → IsOctAt h x y → Within b x y → IsInside h b
at_inside h b x y e w = record {
  x0 = omega (arith, ints, e.x0, w.x_low);
  x1 = omega (arith, ints, e.x1, w.x_high);
  y0 = omega (arith, ints, e.y0, w.y_low);
  y1 = omega (arith, ints, e.y1, w.y_high);
  s0 = omega (arith, ints, e.s0, w.s_low);
  s1 = omega (arith, ints, e.s1, w.s_high);
  d0 = omega (arith, ints, e.d0, w.d_low);
  d1 = omega (arith, ints, e.d1, w.d_high);
}

-- ---- one point more
lesser_of : (a b m : ℤ) → m ≡ int_min a b → IsLesser a b m
lesser_of a b m e = record {
  first = omega (arith, ints, clamps);
  second = omega (arith, ints, clamps);
  is = by_lt_z {P = (m ≡ a) ⊎ (m ≡ b)} a b (λ l. inl (omega (arith, ints, clamps))) (λ l. inr (omega (arith, ints, clamps)));
}

greater_of : (a b m : ℤ) → m ≡ int_max a b → IsGreater a b m
greater_of a b m e = record {
  first = omega (arith, ints, clamps);
  second = omega (arith, ints, clamps);
  is = by_lt_z {P = (m ≡ a) ⊎ (m ≡ b)} a b (λ l. inr (omega (arith, ints, clamps))) (λ l. inl (omega (arith, ints, clamps)));
}

-- as the code computes it: a' and b' are a and b
lesser_read : (a b a' b' m : ℤ) → Small a → Small b → a' ≡ a → b' ≡ b → m ≡ int_min a' b' → IsLesser a b (code_read m)
lesser_read a b a' b' m h k ea eb e =
    let f : m ≡ int_min a b = rw (ea, eb) at e in
    let l = lesser_of a b m f in
    let s : code_read m ≡ m = either_read a b m h k l.is in
    let P : ℤ → Type 0 = λ z. IsLesser a b z in
    subst P (sym s) l
  where
    either_read : (a b m : ℤ) → Small a → Small b → ((m ≡ a) ⊎ (m ≡ b)) → code_read m ≡ m
    either_read a b m h k e = omega (arith, ints)

greater_read : (a b a' b' m : ℤ) → Small a → Small b → a' ≡ a → b' ≡ b → m ≡ int_max a' b' → IsGreater a b (code_read m)
greater_read a b a' b' m h k ea eb e =
    let f : m ≡ int_max a b = rw (ea, eb) at e in
    let l = greater_of a b m f in
    let s : code_read m ≡ m = either_read a b m h k l.is in
    let P : ℤ → Type 0 = λ z. IsGreater a b z in
    subst P (sym s) l
  where
    either_read : (a b m : ℤ) → Small a → Small b → ((m ≡ a) ⊎ (m ≡ b)) → code_read m ≡ m
    either_read a b m h k e = omega (arith, ints)

near_small : (x : ℤ) → IsNearZero (2 ^ 40) x → Small x
near_small x h = record { low = omega (arith, ints); high = omega (arith, ints) }

sum_small : (x y : ℤ) → IsNearZero (2 ^ 40) x → IsNearZero (2 ^ 40) y → Small (x +ℤ y)
sum_small x y h k = record { low = omega (arith, ints); high = omega (arith, ints) }

difference_small : (x y : ℤ) → IsNearZero (2 ^ 40) x → IsNearZero (2 ^ 40) y → Small (x -ℤ y)
difference_small x y h k = record { low = omega (arith, ints); high = omega (arith, ints) }

small_read : (a : ℤ) → Small a → code_read a ≡ a
small_read a h = omega (arith, ints)

abbrev pub code_widened : ℤ → ℤ → ℤ → ℤ → ℤ → ℤ → ℤ → ℤ → Bounds
code_widened x0 x1 y0 y1 s0 s1 d0 d1 =
    record {
      x0 = code_read x0;
      x1 = code_read x1;
      y0 = code_read y0;
      y1 = code_read y1;
      s0 = code_read s0;
      s1 = code_read s1;
      d0 = code_read d0;
      d1 = code_read d1;
    }

pub widened_of : (b : Bounds) (x y x0 x1 y0 y1 s0 s1 d0 d1 : ℤ) → IsOct b → IsNearZero (2 ^ 40) x → IsNearZero (2 ^ 40) y
    → x0 ≡ int_min (code_read b.x0) (code_read x) → x1 ≡ int_max (code_read b.x1) (code_read x)
    → y0 ≡ int_min (code_read b.y0) (code_read y) → y1 ≡ int_max (code_read b.y1) (code_read y)
    → s0 ≡ int_min (code_read b.s0) (code_add x y) → s1 ≡ int_max (code_read b.s1) (code_add x y)
    → d0 ≡ int_min (code_read b.d0) (code_sub x y) → d1 ≡ int_max (code_read b.d1) (code_sub x y)
    → IsWidened b x y (code_widened x0 x1 y0 y1 s0 s1 d0 d1)
widened_of b x y x0 x1 y0 y1 s0 s1 d0 d1 o h k e0 e1 e2 e3 e4 e5 e6 e7 =
    let m = IsOct-IsSmall b o in
    let hx = near_small x h in
    let hy = near_small y k in
    let hs = sum_small x y h k in
    let hd = difference_small x y h k in
    record {
      x0 = lesser_read b.x0 x _ _ x0 m.x0 hx (small_read b.x0 m.x0) (near_read x h) e0;
      x1 = greater_read b.x1 x _ _ x1 m.x1 hx (small_read b.x1 m.x1) (near_read x h) e1;
      y0 = lesser_read b.y0 y _ _ y0 m.y0 hy (small_read b.y0 m.y0) (near_read y k) e2;
      y1 = greater_read b.y1 y _ _ y1 m.y1 hy (small_read b.y1 m.y1) (near_read y k) e3;
      s0 = lesser_read b.s0 (x +ℤ y) _ _ s0 m.s0 hs (small_read b.s0 m.s0) (near_add x y h k) e4;
      s1 = greater_read b.s1 (x +ℤ y) _ _ s1 m.s1 hs (small_read b.s1 m.s1) (near_add x y h k) e5;
      d0 = lesser_read b.d0 (x -ℤ y) _ _ d0 m.d0 hd (small_read b.d0 m.d0) (near_sub x y h k) e6;
      d1 = greater_read b.d1 (x -ℤ y) _ _ d1 m.d1 hd (small_read b.d1 m.d1) (near_sub x y h k) e7;
    }

-- ---- it is an octagon
tight_of : (b r : Bounds) (x y : ℤ) → IsTight b → IsWidened b x y r → IsTight r
tight_of b r x y t w = record {
  top_left = omega (arith, ints, t.top_left, w.x0.first, w.x0.second, w.y0.first, w.y0.second, w.s0.is);
  top = omega (arith, ints, t.top, w.s0.first, w.s0.second, w.d1.first, w.d1.second, w.y0.is);
  top_right = omega (arith, ints, t.top_right, w.x1.first, w.x1.second, w.y0.first, w.y0.second, w.d1.is);
  right = omega (arith, ints, t.right, w.s1.first, w.s1.second, w.d1.first, w.d1.second, w.x1.is);
  bottom_right = omega (arith, ints, t.bottom_right, w.x1.first, w.x1.second, w.y1.first, w.y1.second, w.s1.is);
  bottom = omega (arith, ints, t.bottom, w.s1.first, w.s1.second, w.d0.first, w.d0.second, w.y1.is);
  bottom_left = omega (arith, ints, t.bottom_left, w.x0.first, w.x0.second, w.y1.first, w.y1.second, w.d0.is);
  left = omega (arith, ints, t.left, w.s0.first, w.s0.second, w.d0.first, w.d0.second, w.x0.is);
}

pub widened-IsOct : (b r : Bounds) (x y : ℤ) → IsOct b → IsNearZero (2 ^ 40) x → IsNearZero (2 ^ 40) y → IsWidened b x y r → IsOct r
widened-IsOct b r x y o h k w = record {
  tight = tight_of b r x y o.tight w;
  x_low = omega (arith, ints, o.x_low, h.low, w.x0.is);
  x_high = omega (arith, ints, o.x_high, h.high, w.x1.is);
  y_low = omega (arith, ints, o.y_low, k.low, w.y0.is);
  y_high = omega (arith, ints, o.y_high, k.high, w.y1.is);
}

-- ---- what it holds, and what holds it
pub widened_new : (b r : Bounds) (x y : ℤ) → IsWidened b x y r → Within r x y
widened_new b r x y w = record {
  x_low = w.x0.second;
  x_high = w.x1.second;
  y_low = w.y0.second;
  y_high = w.y1.second;
  s_low = w.s0.second;
  s_high = w.s1.second;
  d_low = w.d0.second;
  d_high = w.d1.second;
}

pub widened_old : (b r : Bounds) (x y u v : ℤ) → IsWidened b x y r → Within b u v → Within r u v
widened_old b r x y u v w h = record {
  x_low = omega (arith, ints, w.x0.first, h.x_low);
  x_high = omega (arith, ints, w.x1.first, h.x_high);
  y_low = omega (arith, ints, w.y0.first, h.y_low);
  y_high = omega (arith, ints, w.y1.first, h.y_high);
  s_low = omega (arith, ints, w.s0.first, h.s_low);
  s_high = omega (arith, ints, w.s1.first, h.s_high);
  d_low = omega (arith, ints, w.d0.first, h.d_low);
  d_high = omega (arith, ints, w.d1.first, h.d_high);
}

pub widened_inside : (b r c : Bounds) (x y : ℤ) → IsWidened b x y r → IsInside b c → Within c x y → IsInside r c
widened_inside b r c x y w i h = record {
  x0 = omega (arith, ints, w.x0.is, i.x0, h.x_low);
  x1 = omega (arith, ints, w.x1.is, i.x1, h.x_high);
  y0 = omega (arith, ints, w.y0.is, i.y0, h.y_low);
  y1 = omega (arith, ints, w.y1.is, i.y1, h.y_high);
  s0 = omega (arith, ints, w.s0.is, i.s0, h.s_low);
  s1 = omega (arith, ints, w.s1.is, i.s1, h.s_high);
  d0 = omega (arith, ints, w.d0.is, i.d0, h.d_low);
  d1 = omega (arith, ints, w.d1.is, i.d1, h.d_high);
}
