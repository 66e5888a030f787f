-- The grid points of an octagon hang together by steps to neighbours.
--
-- From p towards q: along x or along y, whichever of the two is farther, and aslant where both are equally far. Then x, y,
-- x + y and x - y each stay between those of p and of q, so the step stays within any bounds that hold both.
use Rattle.std.proofs.Common.{◌≡◌, subst, ℕ, zero, suc, ◌+◌, ◌≤◌, ◌<◌, arith}
use Rattle.std.specs.Prelude.{ℤ, pos, neg_ℤ, ◌+ℤ◌, ◌-ℤ◌, ◌≤ℤ◌, ◌<ℤ◌}
use Rattle.std.specs.Int.RustNames.{unsigned_abs}
use Rattle.std.proofs.lemmas.Int.{ints, by_lt_z}
use Rattle.plane.specs.Plane.{Bounds, Within, IsMeeting, ball_of, moved, grid_point}
use Rattle.plane.specs.Narrow.{IsNearZero}
use Rattle.grid_num.specs.Roots.{up2_of}
use Rattle.grid_num.proofs.Roots.{lt_up2}
use Rattle.plane.proofs.Moved.{grid_law}
use Rattle.grid_num.specs.declared.Point.{Point}
use Rattle.classes.specs.Classes.{Reaches}
use Rattle.classes.proofs.Reaching.{reaches_self, reaches_step}
use Rattle.open_laws.specs.Open.{IsLinkedIn}
use Rattle.open_laws.specs.Laws.{CellLaw}

abbrev spot : ℤ → ℤ → Point
spot x y = record { x = x; y = y }

-- m is a neighbour of p in the octagon, and nearer to q
record IsNext (o : Bounds) (n : ℕ) (p q m : Point) : Type 0 where
  within : Within o m.x m.y
  step_x : IsNearZero 1 (m.x -ℤ p.x)
  step_y : IsNearZero 1 (m.y -ℤ p.y)
  left_x : IsNearZero n (q.x -ℤ m.x)
  left_y : IsNearZero n (q.y -ℤ m.y)

record IsLeft (n : ℕ) (p q : Point) : Type 0 where
  x : IsNearZero n (q.x -ℤ p.x)
  y : IsNearZero n (q.y -ℤ p.y)

more_more : (o : Bounds) (n : ℕ) (p q : Point) → Within o p.x p.y → Within o q.x q.y → IsLeft (suc n) p q → (q.y -ℤ p.y) <ℤ (q.x -ℤ p.x) → (p.y -ℤ q.y) <ℤ (q.x -ℤ p.x)
    → IsNext o n p q (spot (p.x +ℤ pos 1) (p.y))
more_more o n p q h k l a c = record {
  within = record {
    x_low = omega (arith, ints, h.x_low, k.x_low);
    x_high = omega (arith, ints, h.x_high, k.x_high);
    y_low = omega (arith, ints, h.y_low, k.y_low);
    y_high = omega (arith, ints, h.y_high, k.y_high);
    s_low = omega (arith, ints, h.s_low, k.s_low);
    s_high = omega (arith, ints, h.s_high, k.s_high);
    d_low = omega (arith, ints, h.d_low, k.d_low);
    d_high = omega (arith, ints, h.d_high, k.d_high);
  };
  step_x = record { low = omega (arith, ints); high = omega (arith, ints) };
  step_y = record { low = omega (arith, ints); high = omega (arith, ints) };
  left_x = record { low = omega (arith, ints, l.x, l.y); high = omega (arith, ints, l.x, l.y) };
  left_y = record { low = omega (arith, ints, l.x, l.y); high = omega (arith, ints, l.x, l.y) };
}

less_less : (o : Bounds) (n : ℕ) (p q : Point) → Within o p.x p.y → Within o q.x q.y → IsLeft (suc n) p q → (q.x -ℤ p.x) <ℤ (q.y -ℤ p.y) → (q.x -ℤ p.x) <ℤ (p.y -ℤ q.y)
    → IsNext o n p q (spot (p.x -ℤ pos 1) (p.y))
less_less o n p q h k l a c = record {
  within = record {
    x_low = omega (arith, ints, h.x_low, k.x_low);
    x_high = omega (arith, ints, h.x_high, k.x_high);
    y_low = omega (arith, ints, h.y_low, k.y_low);
    y_high = omega (arith, ints, h.y_high, k.y_high);
    s_low = omega (arith, ints, h.s_low, k.s_low);
    s_high = omega (arith, ints, h.s_high, k.s_high);
    d_low = omega (arith, ints, h.d_low, k.d_low);
    d_high = omega (arith, ints, h.d_high, k.d_high);
  };
  step_x = record { low = omega (arith, ints); high = omega (arith, ints) };
  step_y = record { low = omega (arith, ints); high = omega (arith, ints) };
  left_x = record { low = omega (arith, ints, l.x, l.y); high = omega (arith, ints, l.x, l.y) };
  left_y = record { low = omega (arith, ints, l.x, l.y); high = omega (arith, ints, l.x, l.y) };
}

less_more : (o : Bounds) (n : ℕ) (p q : Point) → Within o p.x p.y → Within o q.x q.y → IsLeft (suc n) p q → (q.x -ℤ p.x) <ℤ (q.y -ℤ p.y) → (p.y -ℤ q.y) <ℤ (q.x -ℤ p.x)
    → IsNext o n p q (spot (p.x) (p.y +ℤ pos 1))
less_more o n p q h k l a c = record {
  within = record {
    x_low = omega (arith, ints, h.x_low, k.x_low);
    x_high = omega (arith, ints, h.x_high, k.x_high);
    y_low = omega (arith, ints, h.y_low, k.y_low);
    y_high = omega (arith, ints, h.y_high, k.y_high);
    s_low = omega (arith, ints, h.s_low, k.s_low);
    s_high = omega (arith, ints, h.s_high, k.s_high);
    d_low = omega (arith, ints, h.d_low, k.d_low);
    d_high = omega (arith, ints, h.d_high, k.d_high);
  };
  step_x = record { low = omega (arith, ints); high = omega (arith, ints) };
  step_y = record { low = omega (arith, ints); high = omega (arith, ints) };
  left_x = record { low = omega (arith, ints, l.x, l.y); high = omega (arith, ints, l.x, l.y) };
  left_y = record { low = omega (arith, ints, l.x, l.y); high = omega (arith, ints, l.x, l.y) };
}

more_less : (o : Bounds) (n : ℕ) (p q : Point) → Within o p.x p.y → Within o q.x q.y → IsLeft (suc n) p q → (q.y -ℤ p.y) <ℤ (q.x -ℤ p.x) → (q.x -ℤ p.x) <ℤ (p.y -ℤ q.y)
    → IsNext o n p q (spot (p.x) (p.y -ℤ pos 1))
more_less o n p q h k l a c = record {
  within = record {
    x_low = omega (arith, ints, h.x_low, k.x_low);
    x_high = omega (arith, ints, h.x_high, k.x_high);
    y_low = omega (arith, ints, h.y_low, k.y_low);
    y_high = omega (arith, ints, h.y_high, k.y_high);
    s_low = omega (arith, ints, h.s_low, k.s_low);
    s_high = omega (arith, ints, h.s_high, k.s_high);
    d_low = omega (arith, ints, h.d_low, k.d_low);
    d_high = omega (arith, ints, h.d_high, k.d_high);
  };
  step_x = record { low = omega (arith, ints); high = omega (arith, ints) };
  step_y = record { low = omega (arith, ints); high = omega (arith, ints) };
  left_x = record { low = omega (arith, ints, l.x, l.y); high = omega (arith, ints, l.x, l.y) };
  left_y = record { low = omega (arith, ints, l.x, l.y); high = omega (arith, ints, l.x, l.y) };
}

same_more : (o : Bounds) (n : ℕ) (p q : Point) → Within o p.x p.y → Within o q.x q.y → IsLeft (suc n) p q → (q.x -ℤ p.x) ≡ (q.y -ℤ p.y) → (p.y -ℤ q.y) <ℤ (q.x -ℤ p.x)
    → IsNext o n p q (spot (p.x +ℤ pos 1) (p.y +ℤ pos 1))
same_more o n p q h k l a c = record {
  within = record {
    x_low = omega (arith, ints, h.x_low, k.x_low);
    x_high = omega (arith, ints, h.x_high, k.x_high);
    y_low = omega (arith, ints, h.y_low, k.y_low);
    y_high = omega (arith, ints, h.y_high, k.y_high);
    s_low = omega (arith, ints, h.s_low, k.s_low);
    s_high = omega (arith, ints, h.s_high, k.s_high);
    d_low = omega (arith, ints, h.d_low, k.d_low);
    d_high = omega (arith, ints, h.d_high, k.d_high);
  };
  step_x = record { low = omega (arith, ints); high = omega (arith, ints) };
  step_y = record { low = omega (arith, ints); high = omega (arith, ints) };
  left_x = record { low = omega (arith, ints, l.x, l.y); high = omega (arith, ints, l.x, l.y) };
  left_y = record { low = omega (arith, ints, l.x, l.y); high = omega (arith, ints, l.x, l.y) };
}

same_less : (o : Bounds) (n : ℕ) (p q : Point) → Within o p.x p.y → Within o q.x q.y → IsLeft (suc n) p q → (q.x -ℤ p.x) ≡ (q.y -ℤ p.y) → (q.x -ℤ p.x) <ℤ (p.y -ℤ q.y)
    → IsNext o n p q (spot (p.x -ℤ pos 1) (p.y -ℤ pos 1))
same_less o n p q h k l a c = record {
  within = record {
    x_low = omega (arith, ints, h.x_low, k.x_low);
    x_high = omega (arith, ints, h.x_high, k.x_high);
    y_low = omega (arith, ints, h.y_low, k.y_low);
    y_high = omega (arith, ints, h.y_high, k.y_high);
    s_low = omega (arith, ints, h.s_low, k.s_low);
    s_high = omega (arith, ints, h.s_high, k.s_high);
    d_low = omega (arith, ints, h.d_low, k.d_low);
    d_high = omega (arith, ints, h.d_high, k.d_high);
  };
  step_x = record { low = omega (arith, ints); high = omega (arith, ints) };
  step_y = record { low = omega (arith, ints); high = omega (arith, ints) };
  left_x = record { low = omega (arith, ints, l.x, l.y); high = omega (arith, ints, l.x, l.y) };
  left_y = record { low = omega (arith, ints, l.x, l.y); high = omega (arith, ints, l.x, l.y) };
}

more_same : (o : Bounds) (n : ℕ) (p q : Point) → Within o p.x p.y → Within o q.x q.y → IsLeft (suc n) p q → (q.y -ℤ p.y) <ℤ (q.x -ℤ p.x) → (q.x -ℤ p.x) ≡ (p.y -ℤ q.y)
    → IsNext o n p q (spot (p.x +ℤ pos 1) (p.y -ℤ pos 1))
more_same o n p q h k l a c = record {
  within = record {
    x_low = omega (arith, ints, h.x_low, k.x_low);
    x_high = omega (arith, ints, h.x_high, k.x_high);
    y_low = omega (arith, ints, h.y_low, k.y_low);
    y_high = omega (arith, ints, h.y_high, k.y_high);
    s_low = omega (arith, ints, h.s_low, k.s_low);
    s_high = omega (arith, ints, h.s_high, k.s_high);
    d_low = omega (arith, ints, h.d_low, k.d_low);
    d_high = omega (arith, ints, h.d_high, k.d_high);
  };
  step_x = record { low = omega (arith, ints); high = omega (arith, ints) };
  step_y = record { low = omega (arith, ints); high = omega (arith, ints) };
  left_x = record { low = omega (arith, ints, l.x, l.y); high = omega (arith, ints, l.x, l.y) };
  left_y = record { low = omega (arith, ints, l.x, l.y); high = omega (arith, ints, l.x, l.y) };
}

less_same : (o : Bounds) (n : ℕ) (p q : Point) → Within o p.x p.y → Within o q.x q.y → IsLeft (suc n) p q → (q.x -ℤ p.x) <ℤ (q.y -ℤ p.y) → (q.x -ℤ p.x) ≡ (p.y -ℤ q.y)
    → IsNext o n p q (spot (p.x -ℤ pos 1) (p.y +ℤ pos 1))
less_same o n p q h k l a c = record {
  within = record {
    x_low = omega (arith, ints, h.x_low, k.x_low);
    x_high = omega (arith, ints, h.x_high, k.x_high);
    y_low = omega (arith, ints, h.y_low, k.y_low);
    y_high = omega (arith, ints, h.y_high, k.y_high);
    s_low = omega (arith, ints, h.s_low, k.s_low);
    s_high = omega (arith, ints, h.s_high, k.s_high);
    d_low = omega (arith, ints, h.d_low, k.d_low);
    d_high = omega (arith, ints, h.d_high, k.d_high);
  };
  step_x = record { low = omega (arith, ints); high = omega (arith, ints) };
  step_y = record { low = omega (arith, ints); high = omega (arith, ints) };
  left_x = record { low = omega (arith, ints, l.x, l.y); high = omega (arith, ints, l.x, l.y) };
  left_y = record { low = omega (arith, ints, l.x, l.y); high = omega (arith, ints, l.x, l.y) };
}

same_same : (o : Bounds) (n : ℕ) (p q : Point) → Within o p.x p.y → Within o q.x q.y → IsLeft (suc n) p q → (q.x -ℤ p.x) ≡ (q.y -ℤ p.y) → (q.x -ℤ p.x) ≡ (p.y -ℤ q.y)
    → IsNext o n p q (spot (p.x) (p.y))
same_same o n p q h k l a c = record {
  within = record {
    x_low = omega (arith, ints, h.x_low, k.x_low);
    x_high = omega (arith, ints, h.x_high, k.x_high);
    y_low = omega (arith, ints, h.y_low, k.y_low);
    y_high = omega (arith, ints, h.y_high, k.y_high);
    s_low = omega (arith, ints, h.s_low, k.s_low);
    s_high = omega (arith, ints, h.s_high, k.s_high);
    d_low = omega (arith, ints, h.d_low, k.d_low);
    d_high = omega (arith, ints, h.d_high, k.d_high);
  };
  step_x = record { low = omega (arith, ints); high = omega (arith, ints) };
  step_y = record { low = omega (arith, ints); high = omega (arith, ints) };
  left_x = record { low = omega (arith, ints, l.x, l.y); high = omega (arith, ints, l.x, l.y) };
  left_y = record { low = omega (arith, ints, l.x, l.y); high = omega (arith, ints, l.x, l.y) };
}

level : (a c : ℤ) → c ≤ℤ a → a ≤ℤ c → a ≡ c
level a c h l = omega (arith, ints)

pick_more : (o : Bounds) (n : ℕ) (p q : Point) → Within o p.x p.y → Within o q.x q.y → IsLeft (suc n) p q → (q.y -ℤ p.y) <ℤ (q.x -ℤ p.x) → (m : Point) × IsNext o n p q m
pick_more o n p q h k l a =
    by_lt_z {P = (m : Point) × IsNext o n p q m} (q.x -ℤ p.x) (p.y -ℤ q.y)
    (λ d. ((spot (p.x) (p.y -ℤ pos 1)), more_less o n p q h k l a d))
    (λ d. by_lt_z {P = (m : Point) × IsNext o n p q m} (p.y -ℤ q.y) (q.x -ℤ p.x)
    (λ e. ((spot (p.x +ℤ pos 1) (p.y)), more_more o n p q h k l a e))
    (λ e. ((spot (p.x +ℤ pos 1) (p.y -ℤ pos 1)), more_same o n p q h k l a (level _ _ d e))))

pick_less : (o : Bounds) (n : ℕ) (p q : Point) → Within o p.x p.y → Within o q.x q.y → IsLeft (suc n) p q → (q.x -ℤ p.x) <ℤ (q.y -ℤ p.y) → (m : Point) × IsNext o n p q m
pick_less o n p q h k l a =
    by_lt_z {P = (m : Point) × IsNext o n p q m} (q.x -ℤ p.x) (p.y -ℤ q.y)
    (λ d. ((spot (p.x -ℤ pos 1) (p.y)), less_less o n p q h k l a d))
    (λ d. by_lt_z {P = (m : Point) × IsNext o n p q m} (p.y -ℤ q.y) (q.x -ℤ p.x)
    (λ e. ((spot (p.x) (p.y +ℤ pos 1)), less_more o n p q h k l a e))
    (λ e. ((spot (p.x -ℤ pos 1) (p.y +ℤ pos 1)), less_same o n p q h k l a (level _ _ d e))))

pick_same : (o : Bounds) (n : ℕ) (p q : Point) → Within o p.x p.y → Within o q.x q.y → IsLeft (suc n) p q → (q.x -ℤ p.x) ≡ (q.y -ℤ p.y) → (m : Point) × IsNext o n p q m
pick_same o n p q h k l a =
    by_lt_z {P = (m : Point) × IsNext o n p q m} (q.x -ℤ p.x) (p.y -ℤ q.y)
    (λ d. ((spot (p.x -ℤ pos 1) (p.y -ℤ pos 1)), same_less o n p q h k l a d))
    (λ d. by_lt_z {P = (m : Point) × IsNext o n p q m} (p.y -ℤ q.y) (q.x -ℤ p.x)
    (λ e. ((spot (p.x +ℤ pos 1) (p.y +ℤ pos 1)), same_more o n p q h k l a e))
    (λ e. ((spot (p.x) (p.y)), same_same o n p q h k l a (level _ _ d e))))

next : (o : Bounds) (n : ℕ) (p q : Point) → Within o p.x p.y → Within o q.x q.y → IsLeft (suc n) p q → (m : Point) × IsNext o n p q m
next o n p q h k l =
    by_lt_z {P = (m : Point) × IsNext o n p q m} (q.x -ℤ p.x) (q.y -ℤ p.y)
    (λ d. pick_less o n p q h k l d)
    (λ d. by_lt_z {P = (m : Point) × IsNext o n p q m} (q.y -ℤ p.y) (q.x -ℤ p.x)
    (λ e. pick_more o n p q h k l e)
    (λ e. pick_same o n p q h k l (level _ _ d e)))

-- ---- the brushes at neighbours meet
own : (b u : ℤ) (x y : ℤ) → pos 0 ≤ℤ b → pos 0 ≤ℤ u
    → Within (moved (record { x0 = neg_ℤ b; x1 = b; y0 = neg_ℤ b; y1 = b; s0 = neg_ℤ u; s1 = u; d0 = neg_ℤ u; d1 = u }) x y) x y
own b u x y h l = record {
  x_low = omega (arith, ints);
  x_high = omega (arith, ints);
  y_low = omega (arith, ints);
  y_high = omega (arith, ints);
  s_low = omega (arith, ints);
  s_high = omega (arith, ints);
  d_low = omega (arith, ints);
  d_high = omega (arith, ints);
}

beside : (b u : ℤ) (x y z w : ℤ) → pos 1 ≤ℤ b → pos 2 ≤ℤ u → IsNearZero 1 (z -ℤ x) → IsNearZero 1 (w -ℤ y)
    → Within (moved (record { x0 = neg_ℤ b; x1 = b; y0 = neg_ℤ b; y1 = b; s0 = neg_ℤ u; s1 = u; d0 = neg_ℤ u; d1 = u }) x y) z w
beside b u x y z w h l i j = record {
  x_low = omega (arith, ints, i.low, i.high);
  x_high = omega (arith, ints, i.low, i.high);
  y_low = omega (arith, ints, j.low, j.high);
  y_high = omega (arith, ints, j.low, j.high);
  s_low = omega (arith, ints, i.low, i.high, j.low, j.high);
  s_high = omega (arith, ints, i.low, i.high, j.low, j.high);
  d_low = omega (arith, ints, i.low, i.high, j.low, j.high);
  d_high = omega (arith, ints, i.low, i.high, j.low, j.high);
}

pub meet_beside : (b : ℕ) (p m : Point) → 1 ≤ b → IsNearZero 1 (m.x -ℤ p.x) → IsNearZero 1 (m.y -ℤ p.y)
    → IsMeeting (moved (ball_of b) p.x p.y) (moved (ball_of b) m.x m.y)
unfolding IsMeeting ball_of
meet_beside b p m one i j =
    let u : 2 ≤ up2_of b = two b (up2_of b) one (lt_up2 b one) in (
      grid_point m.x m.y,
      (grid_law _ m.x m.y).1 (beside (pos b) (pos (up2_of b)) p.x p.y m.x m.y (omega (arith, ints)) (omega (arith, ints)) i j),
      (grid_law _ m.x m.y).1 (own (pos b) (pos (up2_of b)) m.x m.y (omega (arith, ints)) (omega (arith, ints))),
    )
  where
    two : (b u : ℕ) → 1 ≤ b → b < u → 2 ≤ u
    two b u h l = omega arith

-- ---- the chain
no_more : (p q : Point) → IsLeft 0 p q → p ≡ q
no_more p q l =
    let x : p.x ≡ q.x = none p.x q.x l.x in
    let y : p.y ≡ q.y = none p.y q.y l.y in
    let e : spot p.x p.y ≡ spot q.x q.y = cc in
    e
  where
    none : (a c : ℤ) → IsNearZero 0 (c -ℤ a) → a ≡ c
    none a c h = omega (arith, ints, h.low, h.high)

linked : (n b : ℕ) (o : Bounds) (p q : Point) → 1 ≤ b → Within o p.x p.y → Within o q.x q.y → IsLeft n p q → Reaches (IsLinkedIn b o) p q
linked zero b o p q one h k l = subst (λ (m : Point). Reaches (IsLinkedIn b o) p m) (no_more p q l) (reaches_self (IsLinkedIn b o) p)
linked (suc n) b o p q one h k l =
    let t = next o n p q h k l in
    let m = t.0 in
    reaches_step (IsLinkedIn b o) p m q
    (record { first = h; second = t.1.within; meet = meet_beside b p m one t.1.step_x t.1.step_y })
    (linked n b o m q one t.1.within k (record { x = t.1.left_x; y = t.1.left_y }))

far : (p q : Point) → (n : ℕ) × IsLeft n p q
far p q = (
  unsigned_abs (q.x -ℤ p.x) + unsigned_abs (q.y -ℤ p.y),
  record {
    x = near (q.x -ℤ p.x) (unsigned_abs (q.y -ℤ p.y));
    y = near_too (q.y -ℤ p.y) (unsigned_abs (q.x -ℤ p.x));
  },
)
  where
    near : (z : ℤ) (m : ℕ) → IsNearZero (unsigned_abs z + m) z
    near z m = record { low = omega (arith, ints); high = omega (arith, ints) }

    near_too : (z : ℤ) (m : ℕ) → IsNearZero (m + unsigned_abs z) z
    near_too z m = record { low = omega (arith, ints); high = omega (arith, ints) }

pub cell_linked : CellLaw
cell_linked b o p q one h k = let f = far p q in linked f.0 b o p q one h k f.1
