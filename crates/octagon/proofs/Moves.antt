-- What the ball, a shift, the corners and the test of a point owe, over plain bounds.
use Rattle.std.proofs.Common.{◌≡◌, sym, subst, ℕ, ◌^◌, ◌≤◌, inl, inr, arith, w64, to_z, of_z, FitsSigned, List, [], ◌∷◌}
use Rattle.std.specs.Prelude.{ℤ, pos, ◌+ℤ◌, ◌-ℤ◌, ◌*ℤ◌, ◌≤ℤ◌, neg_ℤ, ◌↔◌, IsTrue, Bool}
use Rattle.std.proofs.lemmas.Int.{ints}
use Rattle.std.proofs.lemmas.Bool.{cases_lt}
use Rattle.grid_num.specs.declared.Point.{Point}
use Rattle.plane.specs.Plane.{Bounds, In, HasRoom, IsOct, PlanePoint, minus, moved, grid_point, ball_of}
use Rattle.grid_num.specs.Roots.{up2_of}
use Rattle.plane.specs.Covering.{Covers, edges_of}
use Rattle.plane.specs.Corners.{corners_of, without_repeats}
use Rattle.plane.proofs.Repeats.{exact_cover_law}
use Rattle.plane.proofs.Moved.{moved_law, IsTight-moved}
use Rattle.plane.proofs.Equal.{equal}
use Rattle.grid_num.proofs.Roots.{up2_le_double, lt_up2}
use Rattle.octagon.specs.Bounded.{IsNearZero, IsInReach}
use Rattle.octagon.proofs.Plain.{code_add, code_sub, code_read, plain_add, plain_sub, plain_read, Small, IsOct-IsSmall}

abbrev point : ℤ → ℤ → Point
point x y = record { x = x; y = y }

-- ---- the ball
le_up2 : (a : ℕ) → a ≤ up2_of a
le_up2 a = elim (cases_lt 0 a) [ inl l ↦ (let h = lt_up2 a l in omega arith) | inr l ↦ omega arith ]

pub IsOct-ball : (a : ℕ) → a ≤ 2 ^ 31 → IsOct (ball_of a)
unfolding ball_of
IsOct-ball a h =
    let low = le_up2 a in
    let high = up2_le_double a in
    record {
      tight =
          record {
            top_left = omega (arith, ints);
            top = omega (arith, ints);
            top_right = omega (arith, ints);
            right = omega (arith, ints);
            bottom_right = omega (arith, ints);
            bottom = omega (arith, ints);
            bottom_left = omega (arith, ints);
            left = omega (arith, ints);
          };
      x_low = omega (arith, ints);
      x_high = omega (arith, ints);
      y_low = omega (arith, ints);
      y_high = omega (arith, ints);
    }

abbrev code_neg : ℕ → ℤ
code_neg n = to_z w64 (of_z w64 (pos 0 -ℤ to_z w64 n))

abbrev pub code_ball : ℕ → ℕ → Bounds
code_ball a u =
    record {
      x0 = code_neg a;
      x1 = to_z w64 a;
      y0 = code_neg a;
      y1 = to_z w64 a;
      s0 = code_neg u;
      s1 = to_z w64 u;
      d0 = code_neg u;
      d1 = to_z w64 u;
    }

plain_neg : (n : ℕ) → n ≤ 2 ^ 33 → code_neg n ≡ neg_ℤ (pos n)
plain_neg n h = omega (arith, ints)

plain_pos : (n : ℕ) → n ≤ 2 ^ 33 → to_z w64 n ≡ pos n
plain_pos n h = omega (arith, ints)

code_ball-same : (a : ℕ) → a ≤ 2 ^ 31 → code_ball a (up2_of a) ≡ ball_of a
unfolding ball_of
code_ball-same a h =
    let u : up2_of a ≤ 2 ^ 33 = omega (arith, up2_le_double a) in
    let b : a ≤ 2 ^ 33 = omega arith in
    equal (code_ball a (up2_of a)) (ball_of a) (record {
      x0 = plain_neg a b;
      x1 = plain_pos a b;
      y0 = plain_neg a b;
      y1 = plain_pos a b;
      s0 = plain_neg (up2_of a) u;
      s1 = plain_pos (up2_of a) u;
      d0 = plain_neg (up2_of a) u;
      d1 = plain_pos (up2_of a) u;
    })

pub code_ball-is : (a u : ℕ) → u ≡ up2_of a → a ≤ 2 ^ 31 → code_ball a u ≡ ball_of a
code_ball-is a u e h = rw e (code_ball-same a h)

pub IsOct-code_ball : (a u : ℕ) → u ≡ up2_of a → a ≤ 2 ^ 31 → IsOct (code_ball a u)
IsOct-code_ball a u e h =
    let P : Bounds → Type 0 = λ z. IsOct z in
    subst P (sym (code_ball-is a u e h)) (IsOct-ball a h)

-- ---- a shift
abbrev pub code_shift : Bounds → ℤ → ℤ → Bounds
code_shift b x y =
    record {
      x0 = code_add b.x0 x;
      x1 = code_add b.x1 x;
      y0 = code_add b.y0 y;
      y1 = code_add b.y1 y;
      s0 = code_add b.s0 (code_read x +ℤ code_read y);
      s1 = code_add b.s1 (code_read x +ℤ code_read y);
      d0 = code_add b.d0 (code_read x -ℤ code_read y);
      d1 = code_add b.d1 (code_read x -ℤ code_read y);
    }

plain_one : (a x : ℤ) → Small a → IsNearZero (2 ^ 40) x → code_add a x ≡ a +ℤ x
plain_one a x h k = omega (arith, ints)

plain_sum : (a x y : ℤ) → Small a → IsNearZero (2 ^ 40) x → IsNearZero (2 ^ 40) y → code_add a (code_read x +ℤ code_read y) ≡ a +ℤ (x +ℤ y)
plain_sum a x y h k l = omega (arith, ints)

plain_difference : (a x y : ℤ) → Small a → IsNearZero (2 ^ 40) x → IsNearZero (2 ^ 40) y → code_add a (code_read x -ℤ code_read y) ≡ a +ℤ (x -ℤ y)
plain_difference a x y h k l = omega (arith, ints)

pub code_shift-is : (b : Bounds) (p : Point) → IsOct b → IsNearZero (2 ^ 40) p.x → IsNearZero (2 ^ 40) p.y → code_shift b p.x p.y ≡ moved b p.x p.y
code_shift-is b p o h k =
    let m = IsOct-IsSmall b o in
    equal (code_shift b p.x p.y) (moved b p.x p.y) (record {
      x0 = plain_one b.x0 p.x m.x0 h;
      x1 = plain_one b.x1 p.x m.x1 h;
      y0 = plain_one b.y0 p.y m.y0 k;
      y1 = plain_one b.y1 p.y m.y1 k;
      s0 = plain_sum b.s0 p.x p.y m.s0 h k;
      s1 = plain_sum b.s1 p.x p.y m.s1 h k;
      d0 = plain_difference b.d0 p.x p.y m.d0 h k;
      d1 = plain_difference b.d1 p.x p.y m.d1 h k;
    })

pub IsOct-shift : (b : Bounds) (p : Point) → IsOct b → IsInReach p → HasRoom (moved b p.x p.y) → IsOct (code_shift b p.x p.y)
IsOct-shift b p o h r =
    let P : Bounds → Type 0 = λ z. IsOct z in
    subst P (sym (code_shift-is b p o h.x h.y))
    (record { tight = IsTight-moved b p.x p.y o.tight; x_low = r.x_low; x_high = r.x_high; y_low = r.y_low; y_high = r.y_high })

pub In-shift : (b : Bounds) (p : Point) → IsOct b → IsInReach p → (q : PlanePoint) → In (code_shift b p.x p.y) q ↔ In b (minus q (grid_point p.x p.y))
In-shift b p o h q =
    let P : Bounds → Type 0 = λ z. In z q ↔ In b (minus q (grid_point p.x p.y)) in
    subst P (sym (code_shift-is b p o h.x h.y)) (moved_law b p.x p.y q)

pub fits_sum : (a x y : ℤ) → Small a → IsNearZero (2 ^ 40) x → IsNearZero (2 ^ 40) y → FitsSigned w64 (code_read a +ℤ code_read (code_read x +ℤ code_read y))
fits_sum a x y h k l = omega (arith, ints)

pub fits_difference : (a x y : ℤ) → Small a → IsNearZero (2 ^ 40) x → IsNearZero (2 ^ 40) y → FitsSigned w64 (code_read a +ℤ code_read (code_read x -ℤ code_read y))
fits_difference a x y h k l = omega (arith, ints)

-- ---- the corners
abbrev pub code_corners : Bounds → List Point
code_corners b =
    record { x = code_sub b.s0 b.y0; y = code_read b.y0 }
    ∷ record { x = code_add b.d1 b.y0; y = code_read b.y0 }
    ∷ record { x = code_read b.x1; y = code_sub b.x1 b.d1 }
    ∷ record { x = code_read b.x1; y = code_sub b.s1 b.x1 }
    ∷ record { x = code_sub b.s1 b.y1; y = code_read b.y1 }
    ∷ record { x = code_add b.d0 b.y1; y = code_read b.y1 }
    ∷ record { x = code_read b.x0; y = code_sub b.x0 b.d0 }
    ∷ record { x = code_read b.x0; y = code_sub b.s0 b.x0 }
    ∷ []

point_eq : (x y u v : ℤ) → x ≡ u → y ≡ v → point x y ≡ point u v
point_eq x y u v e f = cc

pub code_corners-is : (b : Bounds) → IsOct b → code_corners b ≡ corners_of b
code_corners-is b o =
    let m = IsOct-IsSmall b o in
    let c1 = point_eq _ _ _ _ (plain_sub b.s0 b.y0 m.s0 m.y0) (plain_read b.y0 m.y0) in
    let c2 = point_eq _ _ _ _ (plain_add b.d1 b.y0 m.d1 m.y0) (plain_read b.y0 m.y0) in
    let c3 = point_eq _ _ _ _ (plain_read b.x1 m.x1) (plain_sub b.x1 b.d1 m.x1 m.d1) in
    let c4 = point_eq _ _ _ _ (plain_read b.x1 m.x1) (plain_sub b.s1 b.x1 m.s1 m.x1) in
    let c5 = point_eq _ _ _ _ (plain_sub b.s1 b.y1 m.s1 m.y1) (plain_read b.y1 m.y1) in
    let c6 = point_eq _ _ _ _ (plain_add b.d0 b.y1 m.d0 m.y1) (plain_read b.y1 m.y1) in
    let c7 = point_eq _ _ _ _ (plain_read b.x0 m.x0) (plain_sub b.x0 b.d0 m.x0 m.d0) in
    let c8 = point_eq _ _ _ _ (plain_read b.x0 m.x0) (plain_sub b.s0 b.x0 m.s0 m.x0) in
    cc

pub corners_cover : (b : Bounds) → IsOct b → (p : PlanePoint) → Covers (edges_of (without_repeats (code_corners b))) p ↔ In b p
corners_cover b o p =
    let P : List Point → Type 0 = λ l. Covers (edges_of (without_repeats l)) p ↔ In b p in
    subst P (sym (code_corners-is b o)) (exact_cover_law b p o.tight)

-- ---- the test of a point
abbrev pub Between : Bool → ℤ → ℤ → ℤ → Type 0
Between t low high z = IsTrue t ↔ ((code_read low ≤ℤ code_read z) × (code_read z ≤ℤ code_read high))

between_plain : (t : Bool) (low high v z : ℤ) → Small low → Small high → code_read v ≡ z → Between t low high v → IsTrue t ↔ (((pos 1 *ℤ low) ≤ℤ z) × (z ≤ℤ (pos 1 *ℤ high)))
between_plain t low high v z h k e o = (
  λ i. let f = o.0 i in (omega (arith, ints, f.0), omega (arith, ints, f.1)),
  λ f. o.1 (omega (arith, ints, f.0), omega (arith, ints, f.1)),
)

read_near : (x : ℤ) → IsNearZero (2 ^ 40) x → code_read x ≡ x
read_near x h = omega (arith, ints)

read_sum : (x y : ℤ) → IsNearZero (2 ^ 40) x → IsNearZero (2 ^ 40) y → code_read (code_read x +ℤ code_read y) ≡ x +ℤ y
read_sum x y h k = omega (arith, ints)

read_difference : (x y : ℤ) → IsNearZero (2 ^ 40) x → IsNearZero (2 ^ 40) y → code_read (code_read x -ℤ code_read y) ≡ x -ℤ y
read_difference x y h k = omega (arith, ints)

pub holds_law : (b : Bounds) (u v : ℤ) (x y s d r : Bool) → IsOct b → IsNearZero (2 ^ 40) u → IsNearZero (2 ^ 40) v
    → Between x b.x0 b.x1 u → Between y b.y0 b.y1 v
    → Between s b.s0 b.s1 (code_read u +ℤ code_read v) → Between d b.d0 b.d1 (code_read u -ℤ code_read v)
    → (IsTrue r ↔ (IsTrue x × IsTrue y × IsTrue s × IsTrue d)) → IsTrue r ↔ In b (grid_point u v)
holds_law b u v x y s d r h nu nv ox oy os od o =
    let m = IsOct-IsSmall b h in
    let px = between_plain x b.x0 b.x1 u u m.x0 m.x1 (read_near u nu) ox in
    let py = between_plain y b.y0 b.y1 v v m.y0 m.y1 (read_near v nv) oy in
    let ps = between_plain s b.s0 b.s1 (code_read u +ℤ code_read v) (u +ℤ v) m.s0 m.s1 (read_sum u v nu nv) os in
    let pd = between_plain d b.d0 b.d1 (code_read u -ℤ code_read v) (u -ℤ v) m.d0 m.d1 (read_difference u v nu nv) od in (
      λ t.
          let a = o.0 t in
          let fx = px.0 a.0 in
          let fy = py.0 a.1 in
          let fs = ps.0 a.2 in
          let fd = pd.0 a.3 in
          record { x_low = fx.0; x_high = fx.1; y_low = fy.0; y_high = fy.1; s_low = fs.0; s_high = fs.1; d_low = fd.0; d_high = fd.1 },
      λ f. o.1 (px.1 (f.x_low, f.x_high), py.1 (f.y_low, f.y_high), ps.1 (f.s_low, f.s_high), pd.1 (f.d_low, f.d_high)),
    )
