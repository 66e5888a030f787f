-- The copper of each pad has the core of a pad, with the pad's centre in it.
use Rattle.std.proofs.Common.{refl, ℕ, ◌-◌, ◌<◌, ◌≤◌, inl, inr, ◌⊎◌, arith, Bool, true, false, List}
use Rattle.std.specs.Prelude.{◌+ℤ◌, if◌then◌else◌, codes}
use Rattle.std.proofs.lemmas.Int.{ints}
use Rattle.std.proofs.lemmas.Bool.{cases_lt}
use Rattle.plane.specs.Plane.{grid_point}
use Rattle.grid_num.specs.declared.Point.{Point}
use Rattle.sexpr_text.specs.Items.{Item}
use Rattle.touching.specs.Core.{InCore}
use Rattle.hulls.specs.Laws.{IsPad}
use Rattle.copper_shape.specs.Shapes.{Copper}
use Rattle.board_language.specs.Pads.{Size, is_shape, box_round, circle, rectangle, oval, rounded_by, corner_radius, ratio_in, shape_of}
use Rattle.board_text.specs.Items.{size_of}

pub record IsPadAt (at : Point) (c : Copper) : Type 0 where
  pub core : IsPad c.core
  pub centre : InCore c.core (grid_point (at.x +ℤ at.x) (at.y +ℤ at.y))

box_pad : (at : Point) (w h r : ℕ) → IsPadAt at (record { core = box_round at w h; radius = r })
unfolding IsPad InCore
box_pad at w h r =
    record {
      core = (refl, omega (arith, ints), omega (arith, ints));
      centre = record {
        x_low = omega (arith, ints);
        x_high = omega (arith, ints);
        y_low = omega (arith, ints);
        y_high = omega (arith, ints);
        s_low = omega (arith, ints);
        s_high = omega (arith, ints);
        d_low = omega (arith, ints);
        d_high = omega (arith, ints);
      };
    }

oval_pad : (at : Point) (s : Size) → IsPadAt at (oval at s)
unfolding IsPad InCore
oval_pad at s =
    record {
      core = by_side (cases_lt s.width s.height);
      centre = record { i = 1; j = 1; some = omega arith; x = omega (arith, ints); y = omega (arith, ints) };
    }
  where
    by_side : (s.width < s.height) ⊎ (s.height ≤ s.width) → IsPad (oval at s).core
    by_side (inl l) = inl (omega (arith, ints, l))
    by_side (inr l) = inr (omega (arith, ints, l))

pub shape_pad : (bytes : List ℕ) (pad : Item) (at : Point) (s : Size) → IsPadAt at (shape_of bytes pad at s)
unfolding shape_of
shape_pad bytes pad at s =
    by_tests (is_shape bytes (codes "circle") pad) (is_shape bytes (codes "oval") pad) (is_shape bytes (codes "roundrect") pad) (corner_radius (size_of (ratio_in bytes pad)) s)
  where
    by_tests : (a b d : Bool) (r : ℕ) → IsPadAt at (if a then circle at s else (if b then oval at s else (if d then rounded_by r at s else rectangle at s)))
    by_tests true b d r = box_pad at 0 0 s.width
    by_tests false true d r = oval_pad at s
    by_tests false false true r = box_pad at (s.width - r) (s.height - r) r
    by_tests false false false r = box_pad at s.width s.height 0
