-- The lists and numbers of the rules, in words: needs, anchors and spokes.
use Rattle.std.proofs.Common.{◌≡◌, refl, ◌∙◌, ap, ℕ, ◌≤◌, ◌⊎◌, inl, inr, arith}
use Rattle.std.specs.Prelude.{◌↔◌, max, ℤ, pos, neg_ℤ, ◌+ℤ◌, ◌-ℤ◌, ◌*ℤ◌}
use Rattle.std.proofs.lemmas.Int.{ints}
use Rattle.std.proofs.lemmas.Bool.{cases_lt}
use Rattle.plane.specs.Plane.{PlanePoint, Bounds, In, box_of}
use Rattle.grid_num.proofs.Products.{mul_neg}
use Rattle.plane.proofs.Moved.{box_law}
use Rattle.fill_rules.specs.Needs.{units}
use Rattle.fill_rules.specs.InWords.{UnitsLaw, ItemNeedLaw, ZoneNeedLaw, IsGreatest, East, South, West, North, IsInSpoke, AreSpokes, SpokesLaw, GapLaw}

-- ---- needs
pub units_law : UnitsLaw
units_law n m = (λ h. omega (arith, h), λ h. omega (arith, h))

units_max : (a b : ℕ) → ((a ≤ b) × (max a b ≡ b)) ⊎ ((b ≤ a) × (max a b ≡ a))
units_max a b = elim (cases_lt b a) [ inl l ↦ inr (omega arith, omega arith) | inr g ↦ inl (omega arith, omega arith) ]

greatest : (a b c : ℕ) → IsGreatest (units (max (max a b) c)) (units a) (units b) (units c)
greatest a b c = elim (units_max a b) [
  | inl h ↦ elim (units_max (max a b) c) [
    | inl g ↦ record { first = omega (arith, h.0, h.1, g.0, g.1); second = omega (arith, h.0, h.1, g.0, g.1); third = omega (arith, h.0, h.1, g.0, g.1); one = inr (inr (ap units g.1)) }
    | inr g ↦ record { first = omega (arith, h.0, h.1, g.0, g.1); second = omega (arith, h.0, h.1, g.0, g.1); third = omega (arith, h.0, h.1, g.0, g.1); one = inr (inl (ap units (g.1 ∙ h.1))) }
  ]
  | inr h ↦ elim (units_max (max a b) c) [
    | inl g ↦ record { first = omega (arith, h.0, h.1, g.0, g.1); second = omega (arith, h.0, h.1, g.0, g.1); third = omega (arith, h.0, h.1, g.0, g.1); one = inr (inr (ap units g.1)) }
    | inr g ↦ record { first = omega (arith, h.0, h.1, g.0, g.1); second = omega (arith, h.0, h.1, g.0, g.1); third = omega (arith, h.0, h.1, g.0, g.1); one = inl (ap units (g.1 ∙ h.1)) }
  ]
]

pub item_need_law : ItemNeedLaw
item_need_law b z own = greatest z.clearance own b.rules.floor

pub zone_need_law : ZoneNeedLaw
zone_need_law b y z = greatest y.clearance z.clearance b.rules.floor

pub gap_law : GapLaw
gap_law z p = omega arith

-- ---- spokes
east : (x y : ℤ) (b h r : ℕ) (hull : Bounds) (q : PlanePoint)
    → In (box_of (x -ℤ pos b) (hull.x1 +ℤ pos r) (y -ℤ pos h) (y +ℤ pos h)) q ↔ IsInSpoke East x y b h r hull q
east x y b h r hull q =
    let l = box_law (x -ℤ pos b) (hull.x1 +ℤ pos r) (y -ℤ pos h) (y +ℤ pos h) q in (
      λ i. let w = l.0 i in record { back = w.left; front = w.right; left = w.top; right = w.bottom },
      λ i. l.1 (record { left = i.back; right = i.front; top = i.left; bottom = i.right }),
    )

south : (x y : ℤ) (b h r : ℕ) (hull : Bounds) (q : PlanePoint)
    → In (box_of (x -ℤ pos h) (x +ℤ pos h) (y -ℤ pos b) (hull.y1 +ℤ pos r)) q ↔ IsInSpoke South x y b h r hull q
south x y b h r hull q =
    let l = box_law (x -ℤ pos h) (x +ℤ pos h) (y -ℤ pos b) (hull.y1 +ℤ pos r) q in (
      λ i. let w = l.0 i in record { back = w.top; front = w.bottom; left = w.left; right = w.right },
      λ i. l.1 (record { left = i.left; right = i.right; top = i.back; bottom = i.front }),
    )

-- bounds of what is turned round
back_is : (k : ℕ) (x : ℤ) (b : ℕ) → pos k *ℤ (neg_ℤ x -ℤ pos b) ≡ neg_ℤ (pos k *ℤ (x +ℤ pos b))
back_is k x b = ap (λ (z : ℤ). pos k *ℤ z) (same x (pos b)) ∙ mul_neg k (x +ℤ pos b)
  where
    same : (x b : ℤ) → neg_ℤ x -ℤ b ≡ neg_ℤ (x +ℤ b)
    same x b = omega (arith, ints)

front_is : (k : ℕ) (x : ℤ) (r : ℕ) → pos k *ℤ (neg_ℤ x +ℤ pos r) ≡ neg_ℤ (pos k *ℤ (x -ℤ pos r))
front_is k x r = ap (λ (z : ℤ). pos k *ℤ z) (same x (pos r)) ∙ mul_neg k (x -ℤ pos r)
  where
    same : (x b : ℤ) → neg_ℤ x +ℤ b ≡ neg_ℤ (x -ℤ b)
    same x b = omega (arith, ints)

west : (x y : ℤ) (b h r : ℕ) (hull : Bounds) (q : PlanePoint)
    → In (box_of (hull.x0 -ℤ pos r) (x +ℤ pos b) (y -ℤ pos h) (y +ℤ pos h)) q ↔ IsInSpoke West x y b h r hull q
west x y b h r hull q =
    let l = box_law (hull.x0 -ℤ pos r) (x +ℤ pos b) (y -ℤ pos h) (y +ℤ pos h) q in
    let e = back_is q.scale x b in
    let f = front_is q.scale hull.x0 r in (
      λ i. let w = l.0 i in record { back = omega (arith, ints, e, w.right); front = omega (arith, ints, f, w.left); left = w.top; right = w.bottom },
      λ i. l.1 (record { left = omega (arith, ints, f, i.front); right = omega (arith, ints, e, i.back); top = i.left; bottom = i.right }),
    )

north : (x y : ℤ) (b h r : ℕ) (hull : Bounds) (q : PlanePoint)
    → In (box_of (x -ℤ pos h) (x +ℤ pos h) (hull.y0 -ℤ pos r) (y +ℤ pos b)) q ↔ IsInSpoke North x y b h r hull q
north x y b h r hull q =
    let l = box_law (x -ℤ pos h) (x +ℤ pos h) (hull.y0 -ℤ pos r) (y +ℤ pos b) q in
    let e = back_is q.scale y b in
    let f = front_is q.scale hull.y0 r in (
      λ i. let w = l.0 i in record { back = omega (arith, ints, e, w.bottom); front = omega (arith, ints, f, w.top); left = w.left; right = w.right },
      λ i. l.1 (record { left = i.left; right = i.right; top = omega (arith, ints, f, i.front); bottom = omega (arith, ints, e, i.back) }),
    )

pub spokes_law : SpokesLaw
unfolding AreSpokes
spokes_law x y b h r hull = (east x y b h r hull, (south x y b h r hull, (west x y b h r hull, (north x y b h r hull, refl))))
