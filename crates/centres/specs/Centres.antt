-- Where the brush may stand, in octagons and grid points. Its centre stays out of each wall grown by the brush, and
-- of each octagon that is kept away from, grown by the need and the brush. It may stand on the edge of these:
--        ___________
--       /   _____   \      w  a wall, or what is kept away from, grown by the need;
--      |   |  w  |   |        round it what the brush reaches
--       \__|_____|__/      c  a centre where the brush may stand: it lies along w
--             c
use Rattle.std.specs.Prelude.{◌⊎◌, ℕ, ◌++◌, List, ℤ, pos, ◌+ℤ◌, ◌-ℤ◌, Any, map}
use Rattle.std.specs.List.{All}
use Rattle.grid_num.specs.Roots.{up2_of}
use Rattle.plane.specs.Plane.{Bounds, StrictlyWithin, ball_of, sum_of}
use Rattle.board_language.specs.Board.{Board}
use Rattle.fill_rules.specs.Needs.{Need}
use Rattle.board_language.specs.Facts.{IsSoundBoard}
use Rattle.centres.specs.Walls.{AreWalls}
use Rattle.centres.specs.Needs.{IsRealNeed, LiesIn, frame_at, IsClearBy}

-- the bounds of the octagon, each moved in by as far as the brush of radius r reaches
abbrev pub shrunk : Bounds → ℕ → Bounds
shrunk o r =
    record {
      x0 = o.x0 +ℤ pos r;
      x1 = o.x1 -ℤ pos r;
      y0 = o.y0 +ℤ pos r;
      y1 = o.y1 -ℤ pos r;
      s0 = o.s0 +ℤ pos (up2_of r);
      s1 = o.s1 -ℤ pos (up2_of r);
      d0 = o.d0 +ℤ pos (up2_of r);
      d1 = o.d1 -ℤ pos (up2_of r);
    }

-- the wall, grown by the brush of radius r
abbrev pub grown_wall : ℕ → Bounds → Bounds
grown_wall r w = sum_of w (ball_of r)

-- the octagon that is kept away from, grown by the need and by the brush
abbrev pub grown_need : ℕ → Need → Bounds
grown_need r n = sum_of (sum_of n.oct (ball_of n.need)) (ball_of r)

-- a wall or a need bars the grid point as a centre of the brush of radius r
unfoldable pub IsBarredAt : ℕ → List Bounds → List Need → ℤ → ℤ → Type 0
IsBarredAt r walls needs x y =
    Any (λ w. StrictlyWithin (grown_wall r w) x y) walls
    ⊎ Any (λ n. StrictlyWithin (grown_need r n) x y) needs

-- all that is grown so, in one list
abbrev pub all_grown : ℕ → List Bounds → List Need → List Bounds
all_grown r walls needs = map (grown_wall r) walls ++ map (grown_need r) needs

-- What a program has at hand to tell where copper of the task of rank i may be: walls within a rectangle that has
-- the frame of the task, and the needs that bar.
pub record AreLimits (b : Board) (i : ℕ) (wide : Bounds) (walls : List Bounds) (bars : List Need) : Type 0 where
  pub sound : IsSoundBoard b
  pub walled : AreWalls b i wide walls
  pub framed : LiesIn (frame_at b i) wide
  pub clear : IsClearBy b i bars
  pub real : All IsRealNeed bars
