-- Tests by bounds: what lies within h and beyond a side of p lies within q.
use Rattle.std.specs.Prelude.{◌⊎◌, ℤ, pos, ◌+ℤ◌, ◌≤ℤ◌}
use Rattle.stacks.specs.declared.reach.Reach.{Reach}
use Rattle.stacks.specs.Inner.Reaches.{turn}

-- p reaches no farther than q, or what is beyond both is beyond h: it is farther than here + q to a side where h reaches far
abbrev pub Keeps : ℤ → ℤ → ℤ → ℤ → Type 0
Keeps own other far here = (own ≤ℤ other) ⊎ (far ≤ℤ (here +ℤ other))

-- what is beyond the right side of p lies within q
pub record IsBeyondRight (p q h : Reach) : Type 0 where
  pub right_down : p.right_down ≤ℤ q.right_down
  pub right_up : p.right_up ≤ℤ q.right_up
  pub down : Keeps p.down q.down h.right_down p.right
  pub up : Keeps p.up q.up h.right_up p.right
  pub left_down : Keeps p.left_down q.left_down h.down p.right
  pub left_up : Keeps p.left_up q.left_up h.up p.right
  pub left : pos 0 ≤ℤ (p.right +ℤ q.left)

-- or nothing of q is beyond it
abbrev pub IsRightFit : Reach → Reach → Reach → Type 0
IsRightFit p q h = (q.right ≤ℤ p.right) ⊎ IsBeyondRight p q h

-- what is beyond the lower right side of p lies within q
pub record IsBeyondRightDown (p q h : Reach) : Type 0 where
  pub right : p.right ≤ℤ q.right
  pub down : p.down ≤ℤ q.down
  pub left_down : Keeps p.left_down q.left_down (h.down +ℤ h.down) p.right_down
  pub right_up : Keeps p.right_up q.right_up (h.right +ℤ h.right) p.right_down
  pub left : Keeps p.left q.left h.down p.right_down
  pub up : Keeps p.up q.up h.right p.right_down
  pub left_up : pos 0 ≤ℤ (p.right_down +ℤ q.left_up)

-- or nothing of q is beyond it
abbrev pub IsRightDownFit : Reach → Reach → Reach → Type 0
IsRightDownFit p q h = (q.right_down ≤ℤ p.right_down) ⊎ IsBeyondRightDown p q h

-- so for both sides
pub record IsQuarterFit (p q h : Reach) : Type 0 where
  pub right : IsRightFit p q h
  pub right_down : IsRightDownFit p q h

-- and for all sides
pub record IsFit (p q h : Reach) : Type 0 where
  pub first : IsQuarterFit p q h
  pub second : IsQuarterFit (turn p) (turn q) (turn h)
  pub third : IsQuarterFit (turn (turn p)) (turn (turn q)) (turn (turn h))
  pub fourth : IsQuarterFit (turn (turn (turn p))) (turn (turn (turn q))) (turn (turn (turn h)))
