-- How far an octagon reaches to its eight sides.
use Rattle.std.specs.Prelude.{◌≡◌, ◌^◌, ℕ, ℤ, pos, neg_ℤ, ◌+ℤ◌, ◌-ℤ◌, ◌*ℤ◌, ◌≤ℤ◌}
use Rattle.plane.specs.Plane.{Bounds}
use Rattle.plane.specs.Narrow.{IsNearZero}
use Rattle.octagon.specs.Inner.Hull.{IsGreater}
use Rattle.stacks.specs.declared.reach.Reach.{Reach}

-- r is how far b reaches: its upper bounds, and its lower ones turned round
pub record IsOctReach (b : Bounds) (r : Reach) : Type 0 where
  pub right : r.right ≡ b.x1
  pub right_down : r.right_down ≡ b.s1
  pub down : r.down ≡ b.y1
  pub left_down : r.left_down ≡ neg_ℤ b.d0
  pub left : r.left ≡ neg_ℤ b.x0
  pub left_up : r.left_up ≡ neg_ℤ b.s0
  pub up : r.up ≡ neg_ℤ b.y0
  pub right_up : r.right_up ≡ b.d1

-- those to the right and left, up and down lie within 2 ^ 40, the others within 2 ^ 41
pub record IsSmallReach (r : Reach) : Type 0 where
  pub right : IsNearZero (2 ^ 40) r.right
  pub right_down : IsNearZero (2 ^ 41) r.right_down
  pub down : IsNearZero (2 ^ 40) r.down
  pub left_down : IsNearZero (2 ^ 41) r.left_down
  pub left : IsNearZero (2 ^ 40) r.left
  pub left_up : IsNearZero (2 ^ 41) r.left_up
  pub up : IsNearZero (2 ^ 40) r.up
  pub right_up : IsNearZero (2 ^ 41) r.right_up

-- turned by a quarter: what was below is on the right
abbrev pub turn : Reach → Reach
turn r =
    record {
      right = r.down;
      right_down = r.left_down;
      down = r.left;
      left_down = r.left_up;
      left = r.up;
      left_up = r.right_up;
      up = r.right;
      right_up = r.right_down;
    }

-- r reaches as far as the farther of p and q
pub record IsFarther (p q r : Reach) : Type 0 where
  pub right : IsGreater p.right q.right r.right
  pub right_down : IsGreater p.right_down q.right_down r.right_down
  pub down : IsGreater p.down q.down r.down
  pub left_down : IsGreater p.left_down q.left_down r.left_down
  pub left : IsGreater p.left q.left r.left
  pub left_up : IsGreater p.left_up q.left_up r.left_up
  pub up : IsGreater p.up q.up r.up
  pub right_up : IsGreater p.right_up q.right_up r.right_up

-- as the points of scale k see it
abbrev pub scaled : ℕ → Reach → Reach
scaled k r =
    record {
      right = pos k *ℤ r.right;
      right_down = pos k *ℤ r.right_down;
      down = pos k *ℤ r.down;
      left_down = pos k *ℤ r.left_down;
      left = pos k *ℤ r.left;
      left_up = pos k *ℤ r.left_up;
      up = pos k *ℤ r.up;
      right_up = pos k *ℤ r.right_up;
    }

-- x and y are no farther to any side
pub record IsWithinReach (r : Reach) (x y : ℤ) : Type 0 where
  pub right : x ≤ℤ r.right
  pub right_down : (x +ℤ y) ≤ℤ r.right_down
  pub down : y ≤ℤ r.down
  pub left_down : (y -ℤ x) ≤ℤ r.left_down
  pub left : neg_ℤ x ≤ℤ r.left
  pub left_up : neg_ℤ (x +ℤ y) ≤ℤ r.left_up
  pub up : neg_ℤ y ≤ℤ r.up
  pub right_up : (x -ℤ y) ≤ℤ r.right_up
