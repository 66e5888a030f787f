-- Places lie in the octagon of their cells.
use Rattle.std.proofs.Common.{ℕ, ◌≤◌, ◌<◌, arith, List, [], ◌∷◌, ◌++◌, get_or}
use Rattle.std.specs.Prelude.{ℤ, pos, ◌+ℤ◌, ◌-ℤ◌, ◌*ℤ◌, ◌≤ℤ◌}
use Rattle.std.specs.List.{All}
use Rattle.std.proofs.lemmas.List.Elements.{All-head, All-tail, All-cons, All-nil}
use Rattle.std.proofs.lemmas.Int.{ints}
use Rattle.grid_num.specs.declared.Point.{Point}
use Rattle.plane.specs.Plane.{Bounds, Within, times}
use Rattle.grid_num.proofs.Products.{mul_le, mul_add, mul_sub}
use Rattle.hulls.specs.Cells.{floor_of, ceil_of, points_round, points_round_all, around}
use Rattle.hulls.proofs.Rounding.{floor_low, ceil_law}
use Rattle.hulls.proofs.Around.{Holds, around_holds}

-- with n to the unit, the place is in the octagon
abbrev pub HoldsPlace : ℕ → Bounds → Point → Type 0
HoldsPlace n b p = Within (times n b) p.x p.y

pub ceil_high : (n : ℕ) (x : ℤ) → 1 ≤ n → x ≤ℤ (pos n *ℤ ceil_of n x)
ceil_high n x h = (ceil_law n x (ceil_of n x) h).0 (omega (arith, ints))

box_place : (n : ℕ) (b : Bounds) (x y lx hx ly hy : ℤ) → (pos n *ℤ lx) ≤ℤ x → x ≤ℤ (pos n *ℤ hx) → (pos n *ℤ ly) ≤ℤ y → y ≤ℤ (pos n *ℤ hy)
    → Within b lx ly → Within b hx ly → Within b lx hy → Within b hx hy → Within (times n b) x y
box_place n b x y lx hx ly hy a0 a1 b0 b1 nw ne sw se = record {
  x_low = omega (arith, ints, mul_le n b.x0 lx nw.x_low);
  x_high = omega (arith, ints, mul_le n hx b.x1 ne.x_high);
  y_low = omega (arith, ints, mul_le n b.y0 ly nw.y_low);
  y_high = omega (arith, ints, mul_le n hy b.y1 se.y_high);
  s_low = omega (arith, ints, mul_le n b.s0 (lx +ℤ ly) nw.s_low, mul_add n lx ly);
  s_high = omega (arith, ints, mul_le n (hx +ℤ hy) b.s1 se.s_high, mul_add n hx hy);
  d_low = omega (arith, ints, mul_le n b.d0 (lx -ℤ hy) sw.d_low, mul_sub n lx hy);
  d_high = omega (arith, ints, mul_le n (hx -ℤ ly) b.d1 ne.d_high, mul_sub n hx ly);
}

cell_place : (n : ℕ) (b : Bounds) (p : Point) → 1 ≤ n → All (Holds b) (points_round n p) → HoldsPlace n b p
unfolding points_round
cell_place n b p one h =
    let at : (k : ℕ) → k < 4 → Holds b (get_or (points_round n p) k p) = λ k l. h k p l in
    box_place n b p.x p.y (floor_of n p.x) (ceil_of n p.x) (floor_of n p.y) (ceil_of n p.y)
    (floor_low n p.x one) (ceil_high n p.x one) (floor_low n p.y one) (ceil_high n p.y one)
    (at 0 (omega arith)) (at 1 (omega arith)) (at 2 (omega arith)) (at 3 (omega arith))

all_front : {X : Type 0} (P : X → Type 0) (xs ys : List X) → All P (xs ++ ys) → All P xs
all_front P [] ys h = All-nil P
all_front P (x ∷ xs) ys h = All-cons P x xs (All-head P x (xs ++ ys) h) (all_front P xs ys (All-tail P x (xs ++ ys) h))

all_back : {X : Type 0} (P : X → Type 0) (xs ys : List X) → All P (xs ++ ys) → All P ys
all_back P [] ys h = h
all_back P (x ∷ xs) ys h = all_back P xs ys (All-tail P x (xs ++ ys) h)

cells_places : (n : ℕ) (b : Bounds) (ps : List Point) → 1 ≤ n → All (Holds b) (points_round_all n ps) → All (HoldsPlace n b) ps
unfolding points_round_all
cells_places n b [] one h = All-nil (HoldsPlace n b)
cells_places n b (p ∷ ps) one h =
    All-cons (HoldsPlace n b) p ps (cell_place n b p one (all_front (Holds b) (points_round n p) (points_round_all n ps) h))
    (cells_places n b ps one (all_back (Holds b) (points_round n p) (points_round_all n ps) h))

-- the octagon round the cells holds the places
pub around_places : (n : ℕ) (ps : List Point) → 1 ≤ n → All (HoldsPlace n (around (points_round_all n ps))) ps
around_places n ps one = cells_places n (around (points_round_all n ps)) ps one (around_holds (points_round_all n ps))
