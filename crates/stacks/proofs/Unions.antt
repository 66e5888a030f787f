-- The least octagon round two, and its points.
use Rattle.std.proofs.Common.{◌≡◌, refl, sym, subst, arith, inl, inr}
use Rattle.std.specs.Prelude.{◌↔◌, ℤ, neg_ℤ, Option, None, Some, IfSome}
use Rattle.std.proofs.lemmas.Int.{ints}
use Rattle.plane.specs.Plane.{Bounds, Within, IsTight, IsOct}
use Rattle.plane.specs.Narrow.{IsNearZero}
use Rattle.plane.proofs.Equal.{equal}
use Rattle.plane.proofs.Inside.{IsInside, inside_in}
use Rattle.plane.proofs.Tight.{same_points}
use Rattle.octagon.specs.Bounded.{AreInRange}
use Rattle.octagon.specs.Inner.Hull.{IsLesser, IsGreater}
use Rattle.stacks.specs.declared.reach.Reach.{Reach}
use Rattle.stacks.specs.Stacks.{IsHull, IsUnion}
use Rattle.stacks.specs.Inner.Reaches.{IsOctReach, IsSmallReach, IsFarther}
use Rattle.stacks.specs.Inner.Fits.{IsFit}
use Rattle.stacks.proofs.Plain.{read, negated, read_axis, read_diagonal, negated_axis, negated_diagonal}
use Rattle.stacks.proofs.Reached.{in_reached, reached_in}
use Rattle.stacks.proofs.Beyond.{fit_scaled}

-- ---- the bounds that reach so far
abbrev pub code_bounds : Reach → Bounds
code_bounds r =
    record {
      x0 = negated r.left;
      x1 = read r.right;
      y0 = negated r.up;
      y1 = read r.down;
      s0 = negated r.left_up;
      s1 = read r.right_down;
      d0 = negated r.left_down;
      d1 = read r.right_up;
    }

near_neg : {n : _} (z : ℤ) → IsNearZero n z → IsNearZero n (neg_ℤ z)
near_neg z h = record { low = omega (arith, ints, h.low, h.high); high = omega (arith, ints, h.low, h.high) }

near_by : {n : _} (a b : ℤ) → a ≡ b → IsNearZero n b → IsNearZero n a
near_by a b e h = rw (e) h

pub in_range : (r : Reach) → IsSmallReach r → AreInRange (code_bounds r)
in_range r s = record {
  x0 = near_by _ _ (negated_axis r.left s.left) (near_neg r.left s.left);
  x1 = near_by _ _ (read_axis r.right s.right) s.right;
  y0 = near_by _ _ (negated_axis r.up s.up) (near_neg r.up s.up);
  y1 = near_by _ _ (read_axis r.down s.down) s.down;
  s0 = near_by _ _ (negated_diagonal r.left_up s.left_up) (near_neg r.left_up s.left_up);
  s1 = near_by _ _ (read_diagonal r.right_down s.right_down) s.right_down;
  d0 = near_by _ _ (negated_diagonal r.left_down s.left_down) (near_neg r.left_down s.left_down);
  d1 = near_by _ _ (read_diagonal r.right_up s.right_up) s.right_up;
}

abbrev made : ℤ → ℤ → ℤ → ℤ → ℤ → ℤ → ℤ → ℤ → Bounds
made x0 x1 y0 y1 s0 s1 d0 d1 = record { x0 = x0; x1 = x1; y0 = y0; y1 = y1; s0 = s0; s1 = s1; d0 = d0; d1 = d1 }

turned_back : (a b c : ℤ) → a ≡ neg_ℤ b → b ≡ neg_ℤ c → a ≡ c
turned_back a b c e f = omega (arith, ints, e, f)

along : (a b c : ℤ) → a ≡ b → b ≡ c → a ≡ c
along a b c e f = omega (arith, ints, e, f)

code_is : (r : Reach) (b : Bounds) → IsSmallReach r → IsOctReach b r → code_bounds r ≡ b
code_is r b s e =
    let x0 = turned_back (negated r.left) r.left b.x0 (negated_axis r.left s.left) e.left in
    let x1 = along (read r.right) r.right b.x1 (read_axis r.right s.right) e.right in
    let y0 = turned_back (negated r.up) r.up b.y0 (negated_axis r.up s.up) e.up in
    let y1 = along (read r.down) r.down b.y1 (read_axis r.down s.down) e.down in
    let s0 = turned_back (negated r.left_up) r.left_up b.s0 (negated_diagonal r.left_up s.left_up) e.left_up in
    let s1 = along (read r.right_down) r.right_down b.s1 (read_diagonal r.right_down s.right_down) e.right_down in
    let d0 = turned_back (negated r.left_down) r.left_down b.d0 (negated_diagonal r.left_down s.left_down) e.left_down in
    let d1 = along (read r.right_up) r.right_up b.d1 (read_diagonal r.right_up s.right_up) e.right_up in
    equal (code_bounds r) b (record { x0 = x0; x1 = x1; y0 = y0; y1 = y1; s0 = s0; s1 = s1; d0 = d0; d1 = d1 })

-- the octagon of these bounds is the one that reaches so far
pub octagon_is : (r : Reach) (o : Option Bounds) → IsSmallReach r → IfSome o (λ h. (x y : ℤ) → Within h x y ↔ Within (code_bounds r) x y) → IfSome o (λ h. IsOct h)
    → IfSome o (λ h. (b : Bounds) → IsTight b → IsOctReach b r → h ≡ b)
octagon_is r None s p t = tt
octagon_is r (Some h) s p t =
    λ b u e. same_points h b t.tight u (subst (λ (z : Bounds). (x y : ℤ) → Within h x y ↔ Within z x y) (code_is r b s e) p)

-- ---- the hull
abbrev hull_of : Reach → Bounds
hull_of h = made (neg_ℤ h.left) h.right (neg_ℤ h.up) h.down (neg_ℤ h.left_up) h.right_down (neg_ℤ h.left_down) h.right_up

greater_of : (a b p q h : ℤ) → p ≡ a → q ≡ b → IsGreater p q h → IsGreater a b h
greater_of a b p q h e f g = subst (λ (z : ℤ). IsGreater z b h) e (subst (λ (z : ℤ). IsGreater p z h) f g)

lesser_of : (a b p q h : ℤ) → p ≡ neg_ℤ a → q ≡ neg_ℤ b → IsGreater p q h → IsLesser a b (neg_ℤ h)
lesser_of a b p q h e f g = record {
  first = omega (arith, ints, e, g.first);
  second = omega (arith, ints, f, g.second);
  is = elim g.is [
    | inl i ↦ inl (omega (arith, ints, i, e))
    | inr i ↦ inr (omega (arith, ints, i, f))
  ];
}

hull_is : (a b : Bounds) (p q h : Reach) → IsOctReach a p → IsOctReach b q → IsFarther p q h → IsHull a b (hull_of h)
hull_is a b p q h e f g = record {
  x0 = lesser_of a.x0 b.x0 p.left q.left h.left e.left f.left g.left;
  x1 = greater_of a.x1 b.x1 p.right q.right h.right e.right f.right g.right;
  y0 = lesser_of a.y0 b.y0 p.up q.up h.up e.up f.up g.up;
  y1 = greater_of a.y1 b.y1 p.down q.down h.down e.down f.down g.down;
  s0 = lesser_of a.s0 b.s0 p.left_up q.left_up h.left_up e.left_up f.left_up g.left_up;
  s1 = greater_of a.s1 b.s1 p.right_down q.right_down h.right_down e.right_down f.right_down g.right_down;
  d0 = lesser_of a.d0 b.d0 p.left_down q.left_down h.left_down e.left_down f.left_down g.left_down;
  d1 = greater_of a.d1 b.d1 p.right_up q.right_up h.right_up e.right_up f.right_up g.right_up;
}

hull_reach : (h : Reach) → IsOctReach (hull_of h) h
hull_reach h = record {
  right = refl;
  right_down = refl;
  down = refl;
  left_down = omega (arith, ints);
  left = omega (arith, ints);
  left_up = omega (arith, ints);
  up = omega (arith, ints);
  right_up = refl;
}

hull_tight : (a b h : Bounds) → IsTight a → IsTight b → IsHull a b h → IsTight h
hull_tight a b h t u w = record {
  top_left = omega (arith, ints, w.s0.is, w.x0.first, w.x0.second, w.y0.first, w.y0.second, t.top_left, u.top_left);
  top = omega (arith, ints, w.y0.is, w.s0.first, w.s0.second, w.d1.first, w.d1.second, t.top, u.top);
  top_right = omega (arith, ints, w.d1.is, w.x1.first, w.x1.second, w.y0.first, w.y0.second, t.top_right, u.top_right);
  right = omega (arith, ints, w.x1.is, w.s1.first, w.s1.second, w.d1.first, w.d1.second, t.right, u.right);
  bottom_right = omega (arith, ints, w.s1.is, w.x1.first, w.x1.second, w.y1.first, w.y1.second, t.bottom_right, u.bottom_right);
  bottom = omega (arith, ints, w.y1.is, w.s1.first, w.s1.second, w.d0.first, w.d0.second, t.bottom, u.bottom);
  bottom_left = omega (arith, ints, w.d0.is, w.x0.first, w.x0.second, w.y1.first, w.y1.second, t.bottom_left, u.bottom_left);
  left = omega (arith, ints, w.x0.is, w.s0.first, w.s0.second, w.d0.first, w.d0.second, t.left, u.left);
}

pub hull_first : (a b h : Bounds) → IsHull a b h → IsInside a h
hull_first a b h w = record { x0 = w.x0.first; x1 = w.x1.first; y0 = w.y0.first; y1 = w.y1.first; s0 = w.s0.first; s1 = w.s1.first; d0 = w.d0.first; d1 = w.d1.first }

pub hull_second : (a b h : Bounds) → IsHull a b h → IsInside b h
hull_second a b h w = record { x0 = w.x0.second; x1 = w.x1.second; y0 = w.y0.second; y1 = w.y1.second; s0 = w.s0.second; s1 = w.s1.second; d0 = w.d0.second; d1 = w.d1.second }

-- ---- its points
hull_union : (a b : Bounds) (p q h : Reach) → IsOctReach a p → IsOctReach b q → IsFarther p q h → IsFit p q h → IsUnion a b (hull_of h)
unfolding IsUnion
hull_union a b p q h e f g w z = (
  λ i. elim (fit_scaled z.scale p q h z.x z.y g w (in_reached (hull_of h) h z (hull_reach h) i)) [
    | inl r ↦ inl (reached_in a p z e r)
    | inr r ↦ inr (reached_in b q z f r)
  ],
  λ i. elim i [
    | inl j ↦ inside_in a (hull_of h) z (hull_first a b (hull_of h) (hull_is a b p q h e f g)) j
    | inr j ↦ inside_in b (hull_of h) z (hull_second a b (hull_of h) (hull_is a b p q h e f g)) j
  ],
)

pub joined : (a b : Bounds) (p q h : Reach) (o : Option Bounds) → IsOct a → IsOct b → IsOctReach a p → IsOctReach b q → IsFarther p q h → IsFit p q h
    → IfSome o (λ c. (d : Bounds) → IsTight d → IsOctReach d h → c ≡ d) → IfSome o (λ c. IsHull a b c) × IfSome o (λ c. IsUnion a b c)
joined a b p q h None s t e f g w m = (tt, tt)
joined a b p q h (Some c) s t e f g w m =
    let u = hull_is a b p q h e f g in
    let same : c ≡ hull_of h = m (hull_of h) (hull_tight a b (hull_of h) s.tight t.tight u) (hull_reach h) in
    (subst (λ (z : Bounds). IsHull a b z) (sym same) u, subst (λ (z : Bounds). IsUnion a b z) (sym same) (hull_union a b p q h e f g w))
