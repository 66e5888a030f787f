-- The least octagon round the two ends of a level, upright or slanted edge has just the points of the edge.
use Rattle.std.proofs.Common.{◌≡◌, ℕ, inl, inr, arith}
use Rattle.std.specs.Prelude.{ℤ, pos, neg_ℤ, ◌+ℤ◌, ◌-ℤ◌, ◌*ℤ◌, ◌≤ℤ◌, ◌↔◌}
use Rattle.std.proofs.lemmas.Int.{ints, by_lt_z}
use Rattle.plane.specs.Plane.{PlanePoint, Bounds, Within, In}
use Rattle.grid_num.proofs.Products.{mul_le, mul_add, mul_sub}
use Rattle.plane.specs.Covering.{Edge, IsOn, Between}
use Rattle.plane.specs.Edges.{IsOctilinear}
use Rattle.plane.proofs.On.{at, on_level, level_on, on_upright, upright_on, on_rise, rise_on, on_fall, fall_on}

-- r holds both ends of the edge, and lies in all bounds that hold them
pub record IsHull (e : Edge) (r : Bounds) : Type 0 where
  pub start : Within r e.start.x e.start.y
  pub finish : Within r e.finish.x e.finish.y
  pub least : (b : Bounds) (p : PlanePoint) → Within b e.start.x e.start.y → Within b e.finish.x e.finish.y → In r p → In b p

-- ---- bounds with one pair changed
with_x : (r : Bounds) (a b x y : ℤ) → Within r x y → a ≤ℤ (x) → (x) ≤ℤ b → Within (record r { x0 = a; x1 = b }) x y
with_x r a b x y w low high = record { x_low = low; x_high = high; y_low = w.y_low; y_high = w.y_high; s_low = w.s_low; s_high = w.s_high; d_low = w.d_low; d_high = w.d_high }

with_y : (r : Bounds) (a b x y : ℤ) → Within r x y → a ≤ℤ (y) → (y) ≤ℤ b → Within (record r { y0 = a; y1 = b }) x y
with_y r a b x y w low high = record { x_low = w.x_low; x_high = w.x_high; y_low = low; y_high = high; s_low = w.s_low; s_high = w.s_high; d_low = w.d_low; d_high = w.d_high }

with_s : (r : Bounds) (a b x y : ℤ) → Within r x y → a ≤ℤ (x +ℤ y) → (x +ℤ y) ≤ℤ b → Within (record r { s0 = a; s1 = b }) x y
with_s r a b x y w low high = record { x_low = w.x_low; x_high = w.x_high; y_low = w.y_low; y_high = w.y_high; s_low = low; s_high = high; d_low = w.d_low; d_high = w.d_high }

with_d : (r : Bounds) (a b x y : ℤ) → Within r x y → a ≤ℤ (x -ℤ y) → (x -ℤ y) ≤ℤ b → Within (record r { d0 = a; d1 = b }) x y
with_d r a b x y w low high = record { x_low = w.x_low; x_high = w.x_high; y_low = w.y_low; y_high = w.y_high; s_low = w.s_low; s_high = w.s_high; d_low = low; d_high = high }

-- ---- a point of the hull is between the ends along x and along y
along_x : (e : Edge) (r : Bounds) (p : PlanePoint) → IsHull e r → In r p → Between (pos p.scale *ℤ e.start.x) (pos p.scale *ℤ e.finish.x) p.x
along_x e r p h i =
    by_lt_z {P = Between (pos p.scale *ℤ e.start.x) (pos p.scale *ℤ e.finish.x) p.x} e.start.x e.finish.x
    (λ l.
    let j = h.least (record r { x0 = e.start.x; x1 = e.finish.x }) p (with_x r _ _ _ _ h.start (omega (arith, ints)) (omega (arith, ints))) (with_x r _ _ _ _ h.finish (omega (arith, ints)) (omega (arith, ints))) i in
    inl (j.x_low, j.x_high))
    (λ g.
    let j = h.least (record r { x0 = e.finish.x; x1 = e.start.x }) p (with_x r _ _ _ _ h.start (omega (arith, ints)) (omega (arith, ints))) (with_x r _ _ _ _ h.finish (omega (arith, ints)) (omega (arith, ints))) i in
    inr (j.x_low, j.x_high))

along_y : (e : Edge) (r : Bounds) (p : PlanePoint) → IsHull e r → In r p → Between (pos p.scale *ℤ e.start.y) (pos p.scale *ℤ e.finish.y) p.y
along_y e r p h i =
    by_lt_z {P = Between (pos p.scale *ℤ e.start.y) (pos p.scale *ℤ e.finish.y) p.y} e.start.y e.finish.y
    (λ l.
    let j = h.least (record r { y0 = e.start.y; y1 = e.finish.y }) p (with_y r _ _ _ _ h.start (omega (arith, ints)) (omega (arith, ints))) (with_y r _ _ _ _ h.finish (omega (arith, ints)) (omega (arith, ints))) i in
    inl (j.y_low, j.y_high))
    (λ g.
    let j = h.least (record r { y0 = e.finish.y; y1 = e.start.y }) p (with_y r _ _ _ _ h.start (omega (arith, ints)) (omega (arith, ints))) (with_y r _ _ _ _ h.finish (omega (arith, ints)) (omega (arith, ints))) i in
    inr (j.y_low, j.y_high))

-- ---- .. and on the line of the edge
flat : (e : Edge) (r : Bounds) (p : PlanePoint) → IsHull e r → In r p → e.start.y ≡ e.finish.y
    → p.y ≡ pos p.scale *ℤ e.start.y
flat e r p h i same =
    let j = h.least (record r { y0 = e.start.y; y1 = e.start.y }) p (with_y r _ _ _ _ h.start (omega (arith, ints)) (omega (arith, ints))) (with_y r _ _ _ _ h.finish (omega (arith, ints)) (omega (arith, ints))) i in
    omega (arith, ints, j.y_low, j.y_high)

steep : (e : Edge) (r : Bounds) (p : PlanePoint) → IsHull e r → In r p → e.start.x ≡ e.finish.x
    → p.x ≡ pos p.scale *ℤ e.start.x
steep e r p h i same =
    let j = h.least (record r { x0 = e.start.x; x1 = e.start.x }) p (with_x r _ _ _ _ h.start (omega (arith, ints)) (omega (arith, ints))) (with_x r _ _ _ _ h.finish (omega (arith, ints)) (omega (arith, ints))) i in
    omega (arith, ints, j.x_low, j.x_high)

rising : (e : Edge) (r : Bounds) (p : PlanePoint) → IsHull e r → In r p → e.finish.x -ℤ e.start.x ≡ e.finish.y -ℤ e.start.y
    → p.x -ℤ p.y ≡ pos p.scale *ℤ (e.start.x -ℤ e.start.y)
rising e r p h i same =
    let j = h.least (record r { d0 = e.start.x -ℤ e.start.y; d1 = e.start.x -ℤ e.start.y }) p (with_d r _ _ _ _ h.start (omega (arith, ints)) (omega (arith, ints))) (with_d r _ _ _ _ h.finish (omega (arith, ints)) (omega (arith, ints))) i in
    omega (arith, ints, j.d_low, j.d_high)

falling : (e : Edge) (r : Bounds) (p : PlanePoint) → IsHull e r → In r p → e.finish.x -ℤ e.start.x ≡ neg_ℤ (e.finish.y -ℤ e.start.y)
    → p.x +ℤ p.y ≡ pos p.scale *ℤ (e.start.x +ℤ e.start.y)
falling e r p h i same =
    let j = h.least (record r { s0 = e.start.x +ℤ e.start.y; s1 = e.start.x +ℤ e.start.y }) p (with_s r _ _ _ _ h.start (omega (arith, ints)) (omega (arith, ints))) (with_s r _ _ _ _ h.finish (omega (arith, ints)) (omega (arith, ints))) i in
    omega (arith, ints, j.s_low, j.s_high)

pub in_on : (e : Edge) (r : Bounds) (p : PlanePoint) → IsOctilinear e → IsHull e r → In r p → IsOn e p
unfolding IsOctilinear
in_on e r p (inl l) h i = level_on e p l (flat e r p h i l) (along_x e r p h i)
in_on e r p (inr (inl u)) h i = upright_on e p u (steep e r p h i u) (along_y e r p h i)
in_on e r p (inr (inr (inl d))) h i = rise_on e p d (rising e r p h i d) (along_y e r p h i)
in_on e r p (inr (inr (inr s))) h i = fall_on e p s (falling e r p h i s) (along_y e r p h i)

-- ---- a point of the edge is in all bounds that hold the ends
-- its coordinates, their sum and their difference are between those of the ends
pub record IsAmong (e : Edge) (p : PlanePoint) : Type 0 where
  pub x : Between (pos p.scale *ℤ e.start.x) (pos p.scale *ℤ e.finish.x) p.x
  pub y : Between (pos p.scale *ℤ e.start.y) (pos p.scale *ℤ e.finish.y) p.y
  pub s : Between (pos p.scale *ℤ (e.start.x +ℤ e.start.y)) (pos p.scale *ℤ (e.finish.x +ℤ e.finish.y)) (p.x +ℤ p.y)
  pub d : Between (pos p.scale *ℤ (e.start.x -ℤ e.start.y)) (pos p.scale *ℤ (e.finish.x -ℤ e.finish.y)) (p.x -ℤ p.y)

between_plus : (a b z c a' b' z' : ℤ) → a' ≡ a +ℤ c → b' ≡ b +ℤ c → z' ≡ z +ℤ c → Between a b z → Between a' b' z'
between_plus a b z c a' b' z' e f g (inl h) = inl (omega (arith, ints, h), omega (arith, ints, h))
between_plus a b z c a' b' z' e f g (inr h) = inr (omega (arith, ints, h), omega (arith, ints, h))

between_less : (a b z c a' b' z' : ℤ) → a' ≡ c -ℤ a → b' ≡ c -ℤ b → z' ≡ c -ℤ z → Between a b z → Between a' b' z'
between_less a b z c a' b' z' e f g (inl h) = inr (omega (arith, ints, h), omega (arith, ints, h))
between_less a b z c a' b' z' e f g (inr h) = inl (omega (arith, ints, h), omega (arith, ints, h))

between_twice : (a b z c a' b' z' : ℤ) → a' ≡ a +ℤ a -ℤ c → b' ≡ b +ℤ b -ℤ c → z' ≡ z +ℤ z -ℤ c → Between a b z → Between a' b' z'
between_twice a b z c a' b' z' e f g (inl h) = inl (omega (arith, ints, h), omega (arith, ints, h))
between_twice a b z c a' b' z' e f g (inr h) = inr (omega (arith, ints, h), omega (arith, ints, h))

pub on_among : (e : Edge) (p : PlanePoint) → IsOctilinear e → IsOn e p → IsAmong e p
unfolding IsOctilinear
on_among e p (inl l) o =
    let k = p.scale in
    let line = on_level e p l o in
    let same = at k e.start.y e.finish.y l in
    let a1 = mul_add k e.start.x e.start.y in
    let a2 = mul_add k e.finish.x e.finish.y in
    let b1 = mul_sub k e.start.x e.start.y in
    let b2 = mul_sub k e.finish.x e.finish.y in
    record {
      x = o.across;
      y = o.along;
      s = between_plus _ _ _ (pos k *ℤ e.start.y) _ _ _ (omega (arith, ints)) (omega (arith, ints)) (omega (arith, ints)) o.across;
      d = between_plus _ _ _ (neg_ℤ (pos k *ℤ e.start.y)) _ _ _ (omega (arith, ints)) (omega (arith, ints)) (omega (arith, ints)) o.across;
    }
on_among e p (inr (inl u)) o =
    let k = p.scale in
    let line = on_upright e p u o in
    let same = at k e.start.x e.finish.x u in
    let a1 = mul_add k e.start.x e.start.y in
    let a2 = mul_add k e.finish.x e.finish.y in
    let b1 = mul_sub k e.start.x e.start.y in
    let b2 = mul_sub k e.finish.x e.finish.y in
    record {
      x = o.across;
      y = o.along;
      s = between_plus _ _ _ (pos k *ℤ e.start.x) _ _ _ (omega (arith, ints)) (omega (arith, ints)) (omega (arith, ints)) o.along;
      d = between_less _ _ _ (pos k *ℤ e.start.x) _ _ _ (omega (arith, ints)) (omega (arith, ints)) (omega (arith, ints)) o.along;
    }
on_among e p (inr (inr (inl r))) o =
    let k = p.scale in
    let line = on_rise e p r o in
    let same = at k (e.start.x -ℤ e.start.y) (e.finish.x -ℤ e.finish.y) (omega (arith, ints)) in
    let a1 = mul_add k e.start.x e.start.y in
    let a2 = mul_add k e.finish.x e.finish.y in
    let b1 = mul_sub k e.start.x e.start.y in
    let b2 = mul_sub k e.finish.x e.finish.y in
    record {
      x = o.across;
      y = o.along;
      s = between_twice _ _ _ (neg_ℤ (pos k *ℤ (e.start.x -ℤ e.start.y))) _ _ _ (omega (arith, ints)) (omega (arith, ints)) (omega (arith, ints)) o.along;
      d = inl (omega (arith, ints), omega (arith, ints));
    }
on_among e p (inr (inr (inr f))) o =
    let k = p.scale in
    let line = on_fall e p f o in
    let same = at k (e.start.x +ℤ e.start.y) (e.finish.x +ℤ e.finish.y) (omega (arith, ints)) in
    let a1 = mul_add k e.start.x e.start.y in
    let a2 = mul_add k e.finish.x e.finish.y in
    let b1 = mul_sub k e.start.x e.start.y in
    let b2 = mul_sub k e.finish.x e.finish.y in
    record {
      x = o.across;
      y = o.along;
      s = inl (omega (arith, ints), omega (arith, ints));
      d = between_twice _ _ _ (pos k *ℤ (e.start.x +ℤ e.start.y)) _ _ _ (omega (arith, ints)) (omega (arith, ints)) (omega (arith, ints)) o.across;
    }

-- bounds on both ends are bounds between them
pub above : (k : ℕ) (low u v z : ℤ) → low ≤ℤ u → low ≤ℤ v → Between (pos k *ℤ u) (pos k *ℤ v) z → (pos k *ℤ low) ≤ℤ z
above k low u v z g h b = let m = mul_le k low u g in let n = mul_le k low v h in omega (arith, ints)

pub below : (k : ℕ) (high u v z : ℤ) → u ≤ℤ high → v ≤ℤ high → Between (pos k *ℤ u) (pos k *ℤ v) z → z ≤ℤ (pos k *ℤ high)
below k high u v z g h b = let m = mul_le k u high g in let n = mul_le k v high h in omega (arith, ints)

pub on_in : (e : Edge) (r : Bounds) (p : PlanePoint) → IsOctilinear e → Within r e.start.x e.start.y → Within r e.finish.x e.finish.y → IsOn e p → In r p
on_in e r p c a b o =
    let m = on_among e p c o in
    let k = p.scale in
    record {
      x_low = above k _ _ _ _ a.x_low b.x_low m.x;
      x_high = below k _ _ _ _ a.x_high b.x_high m.x;
      y_low = above k _ _ _ _ a.y_low b.y_low m.y;
      y_high = below k _ _ _ _ a.y_high b.y_high m.y;
      s_low = above k _ _ _ _ a.s_low b.s_low m.s;
      s_high = below k _ _ _ _ a.s_high b.s_high m.s;
      d_low = above k _ _ _ _ a.d_low b.d_low m.d;
      d_high = below k _ _ _ _ a.d_high b.d_high m.d;
    }

pub hull_law : (e : Edge) (r : Bounds) → IsOctilinear e → IsHull e r → (p : PlanePoint) → In r p ↔ IsOn e p
hull_law e r c h p = (λ i. in_on e r p c h i, λ o. on_in e r p c h.start h.finish o)
