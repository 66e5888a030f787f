-- Walls lie as near as the outlines that they stand at.
use Rattle.std.proofs.Common.{◌≡◌, refl, sym, subst, ℕ, ◌+◌, ◌≤◌, ◌^◌, arith, List, ◌++◌, length, get_or}
use Rattle.std.specs.Prelude.{ℤ, pos, neg_ℤ}
use Rattle.std.specs.List.{All}
use Rattle.std.proofs.lemmas.Int.{ints}
use Rattle.std.proofs.lemmas.List.{get_or_default}
use Rattle.std.proofs.lemmas.List.Elements.{All-append, All-filter}
use Rattle.plane.specs.Plane.{PlanePoint, Bounds, Within, StrictlyWithin, In, IsOct, grid_point, box_of}
use Rattle.plane.specs.Narrow.{IsNearZero}
use Rattle.plane.specs.Covering.{Edge, Covers, edges_of}
use Rattle.grid_num.specs.declared.Point.{Point}
use Rattle.octagon.specs.Room.{IsAround}
use Rattle.octagon.proofs.Room.{points_reach}
use Rattle.hulls.specs.Cells.{around}
use Rattle.hulls.proofs.Around.{Holds, around_inside}
use Rattle.slabs.specs.Outside.{IsOutside, IsFrame, IsAtMost}
use Rattle.outline_slab.specs.Rules.{IsPointWithin, IsSimple}
use Rattle.outline_slab.specs.Cuts.{IsInSome, HaveJust}
use Rattle.centres.specs.Walls.{is_stout, stout_of}
use Rattle.fill_rules.proofs.Framed.{covers_in_frame}

-- the grid point lies within m of 0, in x and in y
abbrev IsNearBoth : ℕ → ℤ → ℤ → Type 0
IsNearBoth m x y = IsNearZero m x × IsNearZero m y

to_grid : (o : Bounds) (x y : ℤ) → Within o x y → In o (grid_point x y)
to_grid o x y h = record {
  x_low = omega (arith, ints, h.x_low);
  x_high = omega (arith, ints, h.x_high);
  y_low = omega (arith, ints, h.y_low);
  y_high = omega (arith, ints, h.y_high);
  s_low = omega (arith, ints, h.s_low);
  s_high = omega (arith, ints, h.s_high);
  d_low = omega (arith, ints, h.d_low);
  d_high = omega (arith, ints, h.d_high);
}

in_around : (m : ℕ) (f : Bounds) (x y : ℤ) → IsAround m f → In f (grid_point x y) → IsNearBoth m x y
in_around m f x y a i = (
  record { low = omega (arith, ints, a.x_low, i.x_low); high = omega (arith, ints, a.x_high, i.x_high) },
  record { low = omega (arith, ints, a.y_low, i.y_low); high = omega (arith, ints, a.y_high, i.y_high) },
)

-- ---- octagons of near points
pub just_room : (m : ℕ) (P : PlanePoint → Type 0) (octs : List Bounds) → All IsOct octs → HaveJust octs P → ((x y : ℤ) → P (grid_point x y) → IsNearBoth m x y)
    → All (IsAround m) octs
just_room m P octs o j f k d l =
    points_reach m (get_or octs k d) (o k d l).tight (λ x y w. f x y ((j (grid_point x y)).0 (at x y w)))
  where
    at : (x y : ℤ) → Within (get_or octs k d) x y → IsInSome octs (grid_point x y)
    at x y w = (k, get_or octs k d, l, get_or_default octs k (get_or octs k d) d l, to_grid (get_or octs k d) x y w)

pub outside_room : (m : ℕ) (es : List Edge) (frame : Bounds) (octs : List Bounds) → All IsOct octs → HaveJust octs (IsOutside es frame) → IsAround m frame → All (IsAround m) octs
unfolding IsOutside
outside_room m es frame octs o j a = just_room m (IsOutside es frame) octs o j (λ x y i. in_around m frame x y a i.0)

-- ---- and of what an outline covers
-- what is far enough to hold every place within m of 0, in x and in y
abbrev wide_box : ℕ → Bounds
wide_box m = box_of (neg_ℤ (pos m)) (pos m) (neg_ℤ (pos m)) (pos m)

corner_in : (m : ℕ) (p : Point) → IsPointWithin m p → Holds (wide_box m) p
corner_in m p h = record {
  x_low = omega (arith, ints, h.x.low);
  x_high = omega (arith, ints, h.x.high);
  y_low = omega (arith, ints, h.y.low);
  y_high = omega (arith, ints, h.y.high);
  s_low = omega (arith, ints, h.x.low, h.y.low);
  s_high = omega (arith, ints, h.x.high, h.y.high);
  d_low = omega (arith, ints, h.x.low, h.y.high);
  d_high = omega (arith, ints, h.x.high, h.y.low);
}

around_near : (m : ℕ) (cs : List Point) → 3 ≤ length cs → All (IsPointWithin m) cs → IsAround m (around cs)
around_near m cs three near =
    let inside = around_inside cs (wide_box m) (omega (arith, three)) (λ n d l. corner_in m _ (near n d l)) in
    record {
      x_low = omega (arith, ints, inside.x0);
      x_high = omega (arith, ints, inside.x1);
      y_low = omega (arith, ints, inside.y0);
      y_high = omega (arith, ints, inside.y1);
    }

farther : (m n : ℕ) (b : Bounds) → m ≤ n → IsAround m b → IsAround n b
farther m n b l a = record {
  x_low = omega (arith, ints, l, a.x_low);
  x_high = omega (arith, ints, l, a.x_high);
  y_low = omega (arith, ints, l, a.y_low);
  y_high = omega (arith, ints, l, a.y_high);
}

-- the least octagon round an outline's corners has room
pub around_room : (cs : List Point) → IsSimple cs → All (IsPointWithin 250000000) cs → IsAround (2 ^ 31) (around cs)
around_room cs simple near = farther 250000000 (2 ^ 31) (around cs) (omega arith) (around_near 250000000 cs simple.three near)

pub inside_room : (cs : List Point) (octs : List Bounds) → IsSimple cs → All (IsPointWithin 250000000) cs → All IsOct octs → HaveJust octs (Covers (edges_of cs))
    → All (IsAround (2 ^ 31)) octs
inside_room cs octs simple near o j =
    just_room (2 ^ 31) (Covers (edges_of cs)) octs o j
    (λ x y c. in_around (2 ^ 31) (around cs) x y (around_room cs simple near) (covers_in_frame cs (grid_point x y) c))

-- ---- the widest frame of a zone
strictly_in : (m n : ℕ) (p : Point) → m + 1 ≤ n → IsPointWithin m p → StrictlyWithin (wide_box n) p.x p.y
strictly_in m n p l h = record {
  x_low = omega (arith, ints, l, h.x.low);
  x_high = omega (arith, ints, l, h.x.high);
  y_low = omega (arith, ints, l, h.y.low);
  y_high = omega (arith, ints, l, h.y.high);
  s_low = omega (arith, ints, l, h.x.low, h.y.low);
  s_high = omega (arith, ints, l, h.x.high, h.y.high);
  d_low = omega (arith, ints, l, h.x.low, h.y.high);
  d_high = omega (arith, ints, l, h.x.high, h.y.low);
}

-- what lies in each frame of the corners has room
pub frame_room : (cs : List Point) (wide : Bounds) → All (IsPointWithin 250000000) cs → ((b : Bounds) → IsFrame cs b → IsAtMost wide b) → IsAround (2 ^ 31) wide
frame_room cs wide near least =
    let most = least (wide_box (2 ^ 31)) (record { box = refl; around = λ k d l. strictly_in 250000000 (2 ^ 31) (get_or cs k d) (omega arith) (near k d l) }) in
    record { x_low = most.left; x_high = most.right; y_low = most.top; y_high = most.bottom }

-- ---- walls
pub stout_room : (m : ℕ) (octs walls : List Bounds) → All (IsAround m) octs → walls ≡ stout_of octs → All (IsAround m) walls
stout_room m octs walls a e = subst (λ t. All (IsAround m) t) (sym e) (All-filter is_stout (IsAround m) octs a)

pub added_room : (m : ℕ) (walls octs more : List Bounds) → All (IsAround m) walls → All (IsAround m) octs → more ≡ walls ++ stout_of octs → All (IsAround m) more
added_room m walls octs more w a e =
    subst (λ t. All (IsAround m) t) (sym e) (All-append (IsAround m) walls (stout_of octs) w (All-filter is_stout (IsAround m) octs a))
