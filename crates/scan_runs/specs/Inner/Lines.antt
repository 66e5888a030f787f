-- Ends that move over n more rows, compared on all of these rows.
use Rattle.std.specs.Prelude.{◌≡◌, ◌⊎◌, ℕ, ◌≤◌, ℤ, pos, ◌+ℤ◌, ◌-ℤ◌, ◌≤ℤ◌}
use Rattle.plane.specs.Plane.{Bounds, Within}
use Rattle.grid_sets.specs.Rows.{IsOnRun}
use Rattle.grid_sets.specs.Bands.{reach, run_down}
use Rattle.grid_sets.specs.declared.End.{End}
use Rattle.grid_sets.specs.declared.Slant.{Slant}

-- on each row, e and g or more is no more than f
pub record AreEndsApart (n : ℕ) (g : ℤ) (e f : End) : Type 0 where
  pub each : (k : ℕ) → k ≤ n → (reach k e +ℤ g) ≤ℤ reach k f

-- on each row, m is the greater of the two
pub record IsGreaterEnd (n : ℕ) (e f m : End) : Type 0 where
  pub first : AreEndsApart n (pos 0) e m
  pub second : AreEndsApart n (pos 0) f m
  pub is : (m ≡ e) ⊎ (m ≡ f)

-- on each row from the top, the end is where the octagon begins, or ends
pub record IsLeftEnd (x0 s0 d0 top : ℤ) (n : ℕ) (e : End) : Type 0 where
  pub there : (k : ℕ) (x : ℤ) → k ≤ n → reach k e ≤ℤ x → (x0 ≤ℤ x) × (s0 ≤ℤ (x +ℤ (top +ℤ pos k))) × (d0 ≤ℤ (x -ℤ (top +ℤ pos k)))
  pub back : (k : ℕ) (x : ℤ) → k ≤ n → x0 ≤ℤ x → s0 ≤ℤ (x +ℤ (top +ℤ pos k)) → d0 ≤ℤ (x -ℤ (top +ℤ pos k)) → reach k e ≤ℤ x

-- on each row, e is the right end
pub record IsRightEnd (x1 s1 d1 top : ℤ) (n : ℕ) (e : End) : Type 0 where
  pub there : (k : ℕ) (x : ℤ) → k ≤ n → x ≤ℤ reach k e → (x ≤ℤ x1) × ((x +ℤ (top +ℤ pos k)) ≤ℤ s1) × ((x -ℤ (top +ℤ pos k)) ≤ℤ d1)
  pub back : (k : ℕ) (x : ℤ) → k ≤ n → x ≤ℤ x1 → (x +ℤ (top +ℤ pos k)) ≤ℤ s1 → (x -ℤ (top +ℤ pos k)) ≤ℤ d1 → x ≤ℤ reach k e

-- on each row the slant is exactly the octagon's run
pub record IsAlong (o : Bounds) (top : ℤ) (n : ℕ) (s : Slant) : Type 0 where
  pub filled : (k : ℕ) → k ≤ n → reach k s.from ≤ℤ reach k s.to
  pub there : (k : ℕ) (x : ℤ) → k ≤ n → IsOnRun (run_down k s) x → Within o x (top +ℤ pos k)
  pub back : (k : ℕ) (x : ℤ) → k ≤ n → Within o x (top +ℤ pos k) → IsOnRun (run_down k s) x

-- on each row the octagon has no point
pub record IsAbsent (o : Bounds) (top : ℤ) (n : ℕ) : Type 0 where
  pub each : (k : ℕ) (x : ℤ) → k ≤ n → Within o x (top +ℤ pos k) → ⊥
