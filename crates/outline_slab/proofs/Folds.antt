-- Neighbouring edges have a point in common other than their common end exactly where the second goes back along the
-- first.
use Rattle.std.proofs.Common.{◌≡◌, refl, ◌⊎◌, inl, inr, arith}
use Rattle.std.specs.Prelude.{ℤ, pos, neg_ℤ, ◌+ℤ◌, ◌-ℤ◌, ◌*ℤ◌, ◌<ℤ◌}
use Rattle.std.proofs.lemmas.Int.{ints, by_lt_z}
use Rattle.plane.specs.Plane.{PlanePoint, IsSame, grid_point}
use Rattle.grid_num.proofs.Products.{mul_lt, mul_add, mul_sub}
use Rattle.grid_num.specs.declared.Point.{Point}
use Rattle.plane.specs.Covering.{Edge, IsOn, Between}
use Rattle.plane.specs.Edges.{IsOctilinear, turned_back}
use Rattle.plane.proofs.On.{at, on_level, level_on, on_upright, upright_on, on_rise, rise_on, on_fall, fall_on}
use Rattle.plane.proofs.CoverLaws.{on_turned}
use Rattle.outline_slab.specs.Rules.{IsSide}
use Rattle.outline_slab.specs.Inner.Side.{IsSameSign}
use Rattle.outline_slab.proofs.Chain.{same_point}

abbrev pub way : Point → Point → Edge
way a b = record { start = a; finish = b }

-- p is between a and b, on their line, in linear form
pub record IsInLine (a b : Point) (p : PlanePoint) : Type 0 where
  pub x : Between (pos p.scale *ℤ a.x) (pos p.scale *ℤ b.x) p.x
  pub y : Between (pos p.scale *ℤ a.y) (pos p.scale *ℤ b.y) p.y
  pub line : ((a.y ≡ b.y) × (p.y ≡ pos p.scale *ℤ b.y))
      ⊎ (((a.x ≡ b.x) × (p.x ≡ pos p.scale *ℤ b.x))
      ⊎ (((a.x -ℤ b.x ≡ a.y -ℤ b.y) × (p.x -ℤ p.y ≡ pos p.scale *ℤ b.x -ℤ pos p.scale *ℤ b.y))
      ⊎ ((a.x -ℤ b.x ≡ neg_ℤ (a.y -ℤ b.y)) × (p.x +ℤ p.y ≡ pos p.scale *ℤ b.x +ℤ pos p.scale *ℤ b.y))))

in_line : (a b : Point) (p : PlanePoint) → IsOctilinear (way a b) → IsOn (way a b) p → IsInLine a b p
unfolding IsOctilinear
in_line a b p (inl l) o =
    let s = at p.scale a.y b.y l in
    let t = on_level (way a b) p l o in
    record { x = o.across; y = o.along; line = inl (l, omega (arith, ints)) }
in_line a b p (inr (inl u)) o =
    let s = at p.scale a.x b.x u in
    let t = on_upright (way a b) p u o in
    record { x = o.across; y = o.along; line = inr (inl (u, omega (arith, ints))) }
in_line a b p (inr (inr (inl r))) o =
    let s = at p.scale (a.x -ℤ a.y) (b.x -ℤ b.y) (omega (arith, ints)) in
    let m = mul_sub p.scale b.x b.y in
    let t = on_rise (way a b) p r o in
    record { x = o.across; y = o.along; line = inr (inr (inl (omega (arith, ints), omega (arith, ints)))) }
in_line a b p (inr (inr (inr f))) o =
    let s = at p.scale (a.x +ℤ a.y) (b.x +ℤ b.y) (omega (arith, ints)) in
    let m = mul_add p.scale b.x b.y in
    let t = on_fall (way a b) p f o in
    record { x = o.across; y = o.along; line = inr (inr (inr (omega (arith, ints), omega (arith, ints)))) }

swap_between : (a b z : ℤ) → Between a b z → Between b a z
swap_between a b z (inl h) = inr h
swap_between a b z (inr h) = inl h

in_line_back : (a b : Point) (p : PlanePoint) → IsOctilinear (way b a) → IsOn (way b a) p → IsInLine a b p
in_line_back a b p c o = back (in_line b a p c o)
  where
    back : IsInLine b a p → IsInLine a b p
    back i = record {
      x = swap_between _ _ _ i.x;
      y = swap_between _ _ _ i.y;
      line = elim i.line [
        | inl w ↦ (let s = at p.scale b.y a.y w.0 in inl (omega (arith, ints), omega (arith, ints)))
        | inr (inl w) ↦ (let s = at p.scale b.x a.x w.0 in inr (inl (omega (arith, ints), omega (arith, ints))))
        | inr (inr (inl w)) ↦
            (let s = at p.scale (b.x -ℤ b.y) (a.x -ℤ a.y) (omega (arith, ints)) in
            let m = mul_sub p.scale b.x b.y in
            let n = mul_sub p.scale a.x a.y in
            inr (inr (inl (omega (arith, ints), omega (arith, ints)))))
        | inr (inr (inr w)) ↦
            (let s = at p.scale (b.x +ℤ b.y) (a.x +ℤ a.y) (omega (arith, ints)) in
            let m = mul_add p.scale b.x b.y in
            let n = mul_add p.scale a.x a.y in
            inr (inr (inr (omega (arith, ints), omega (arith, ints)))))
      ];
    }

-- ---- a point of the edge other than its end b lies from b towards a
IsAway : Point → PlanePoint → Type 0
IsAway b p = p.x ≡ pos p.scale *ℤ b.x → p.y ≡ pos p.scale *ℤ b.y → ⊥

sign_x : (a b : Point) (p : PlanePoint) → IsInLine a b p → IsAway b p → IsSameSign (p.x -ℤ pos p.scale *ℤ b.x) (a.x -ℤ b.x)
unfolding IsAway
sign_x a b p i away =
    let k = p.scale in
    by_lt_z {P = IsSameSign (p.x -ℤ pos k *ℤ b.x) (a.x -ℤ b.x)} a.x b.x
    (λ l.
    let m = mul_lt k a.x b.x p.positive l in
    let less : p.x <ℤ (pos k *ℤ b.x) = by_lt_z {P = p.x <ℤ (pos k *ℤ b.x)} p.x (pos k *ℤ b.x) (λ h. h) (λ h. absurd (away (omega (arith, ints, i.x)) (omega (arith, ints, i.x, i.line)))) in
    inr (inr (omega (arith, ints), omega (arith, ints))))
    (λ g. by_lt_z {P = IsSameSign (p.x -ℤ pos k *ℤ b.x) (a.x -ℤ b.x)} b.x a.x
    (λ l.
    let m = mul_lt k b.x a.x p.positive l in
    let more : (pos k *ℤ b.x) <ℤ p.x = by_lt_z {P = (pos k *ℤ b.x) <ℤ p.x} (pos k *ℤ b.x) p.x (λ h. h) (λ h. absurd (away (omega (arith, ints, i.x)) (omega (arith, ints, i.x, i.line)))) in
    inl (omega (arith, ints), omega (arith, ints)))
    (λ h. let s = at k a.x b.x (omega (arith, ints)) in inr (inl (omega (arith, ints, i.x), omega (arith, ints)))))

sign_y : (a b : Point) (p : PlanePoint) → IsInLine a b p → IsAway b p → IsSameSign (p.y -ℤ pos p.scale *ℤ b.y) (a.y -ℤ b.y)
unfolding IsAway
sign_y a b p i away =
    let k = p.scale in
    by_lt_z {P = IsSameSign (p.y -ℤ pos k *ℤ b.y) (a.y -ℤ b.y)} a.y b.y
    (λ l.
    let m = mul_lt k a.y b.y p.positive l in
    let less : p.y <ℤ (pos k *ℤ b.y) = by_lt_z {P = p.y <ℤ (pos k *ℤ b.y)} p.y (pos k *ℤ b.y) (λ h. h) (λ h. absurd (away (omega (arith, ints, i.y, i.line)) (omega (arith, ints, i.y)))) in
    inr (inr (omega (arith, ints), omega (arith, ints))))
    (λ g. by_lt_z {P = IsSameSign (p.y -ℤ pos k *ℤ b.y) (a.y -ℤ b.y)} b.y a.y
    (λ l.
    let m = mul_lt k b.y a.y p.positive l in
    let more : (pos k *ℤ b.y) <ℤ p.y = by_lt_z {P = (pos k *ℤ b.y) <ℤ p.y} (pos k *ℤ b.y) p.y (λ h. h) (λ h. absurd (away (omega (arith, ints, i.y, i.line)) (omega (arith, ints, i.y)))) in
    inl (omega (arith, ints), omega (arith, ints)))
    (λ h. let s = at k a.y b.y (omega (arith, ints)) in inr (inl (omega (arith, ints, i.y), omega (arith, ints)))))

same_signs : (u v w : ℤ) → IsSameSign u v → IsSameSign u w → IsSameSign v w
same_signs u v w (inl h) g = inl (omega (arith, ints), omega (arith, ints))
same_signs u v w (inr (inl h)) g = inr (inl (omega (arith, ints), omega (arith, ints)))
same_signs u v w (inr (inr h)) g = inr (inr (omega (arith, ints), omega (arith, ints)))

-- what the code tests: b is the common end, a the start of the first edge and c the finish of the second
abbrev pub IsFolded : Point → Point → Point → Type 0
IsFolded a b c = IsSameSign (a.x -ℤ b.x) (c.x -ℤ b.x) × IsSameSign (a.y -ℤ b.y) (c.y -ℤ b.y)

pub record IsShared (a b c : Point) : Type 0 where
  pub at : PlanePoint
  pub first : IsOn (way a b) at
  pub second : IsOn (way b c) at
  pub not_end : IsSame (grid_point b.x b.y) at → ⊥

away_of : (b : Point) (p : PlanePoint) → (IsSame (grid_point b.x b.y) p → ⊥) → IsAway b p
unfolding IsAway
away_of b p h x y = h (record { x = omega (arith, ints); y = omega (arith, ints) })

pub shared_folded : (a b c : Point) → IsSide (way a b) → IsSide (way b c) → IsShared a b c → IsFolded a b c
shared_folded a b c f g s =
    let away = away_of b s.at s.not_end in
    let i = in_line a b s.at f.octilinear s.first in
    let j = in_line_back c b s.at g.octilinear s.second in (
      same_signs _ _ _ (sign_x a b s.at i away) (sign_x c b s.at j away),
      same_signs _ _ _ (sign_y a b s.at i away) (sign_y c b s.at j away),
    )

-- ---- one step from b along both edges
abbrev IsStep : ℤ → ℤ → Type 0
IsStep s d = ((s ≡ pos 1) × (pos 0 <ℤ d)) ⊎ (((s ≡ pos 0) × (d ≡ pos 0)) ⊎ ((s ≡ neg_ℤ (pos 1)) × (d <ℤ pos 0)))

record IsStepOfBoth (u v : ℤ) : Type 0 where
  step : ℤ
  first : IsStep step u
  second : IsStep step v

step_of : (u v : ℤ) → IsSameSign u v → IsStepOfBoth u v
step_of u v (inl h) = record { step = pos 1; first = inl (refl, h.0); second = inl (refl, h.1) }
step_of u v (inr (inl h)) = record { step = pos 0; first = inr (inl (refl, h.0)); second = inr (inl (refl, h.1)) }
step_of u v (inr (inr h)) = record { step = neg_ℤ (pos 1); first = inr (inr (refl, h.0)); second = inr (inr (refl, h.1)) }

between_step : (b c s : ℤ) → IsStep s (c -ℤ b) → Between (pos 1 *ℤ b) (pos 1 *ℤ c) (b +ℤ s)
between_step b c s (inl h) = inl (omega (arith, ints), omega (arith, ints))
between_step b c s (inr (inl h)) = inl (omega (arith, ints), omega (arith, ints))
between_step b c s (inr (inr h)) = inr (omega (arith, ints), omega (arith, ints))

step_on : (b c : Point) (sx sy : ℤ) → IsOctilinear (way b c) → IsStep sx (c.x -ℤ b.x) → IsStep sy (c.y -ℤ b.y)
    → IsOn (way b c) (grid_point (b.x +ℤ sx) (b.y +ℤ sy))
unfolding IsOctilinear
step_on b c sx sy (inl l) i j = level_on (way b c) _ l (omega (arith, ints)) (between_step b.x c.x sx i)
step_on b c sx sy (inr (inl u)) i j = upright_on (way b c) _ u (omega (arith, ints)) (between_step b.y c.y sy j)
step_on b c sx sy (inr (inr (inl r))) i j = rise_on (way b c) _ r (omega (arith, ints)) (between_step b.y c.y sy j)
step_on b c sx sy (inr (inr (inr f))) i j = fall_on (way b c) _ f (omega (arith, ints)) (between_step b.y c.y sy j)

octilinear_back : (a b : Point) → IsOctilinear (way a b) → IsOctilinear (way b a)
unfolding IsOctilinear
octilinear_back a b (inl l) = inl (omega (arith, ints))
octilinear_back a b (inr (inl u)) = inr (inl (omega (arith, ints)))
octilinear_back a b (inr (inr (inl r))) = inr (inr (inl (omega (arith, ints))))
octilinear_back a b (inr (inr (inr f))) = inr (inr (inr (omega (arith, ints))))

on_back : (a b : Point) (p : PlanePoint) → IsOctilinear (way b a) → IsOn (way b a) p → IsOn (way a b) p
unfolding turned_back
on_back a b p c o = on_turned p (way b a) c o

pub folded_shared : (a b c : Point) → IsSide (way a b) → IsSide (way b c) → IsFolded a b c → IsShared a b c
folded_shared a b c f g s =
    let u = step_of _ _ s.0 in
    let v = step_of _ _ s.1 in
    let ba = octilinear_back a b f.octilinear in
    record {
      at = grid_point (b.x +ℤ u.step) (b.y +ℤ v.step);
      first = on_back a b _ ba (step_on b a u.step v.step ba u.first v.first);
      second = step_on b c u.step v.step g.octilinear u.second v.second;
      not_end = λ h. stays u.step v.step u.second v.second h;
    }
  where
    stays : (sx sy : ℤ) → IsStep sx (c.x -ℤ b.x) → IsStep sy (c.y -ℤ b.y) → IsSame (grid_point b.x b.y) (grid_point (b.x +ℤ sx) (b.y +ℤ sy)) → ⊥
    stays sx sy i j h = g.goes (same_point b c (let e = h.x in omega (arith, ints)) (let e = h.y in omega (arith, ints)))
