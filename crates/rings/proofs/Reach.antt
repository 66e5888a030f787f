-- Each hole has a slit. It ends at a corner of its row, since all sides are cut at the rows of corners.
use Rattle.std.proofs.Common.{◌≡◌, refl, sym, subst, ap, ◌∙◌, ℕ, ◌+◌, ◌-◌, ◌%◌, ◌⊎◌, inl, inr, arith, List, ◌∷◌}
use Rattle.std.specs.Prelude.{ℤ, pos, ◌*ℤ◌, ◌<ℤ◌, ◌≤ℤ◌, Any}
use Rattle.std.proofs.lemmas.Int.{ints, by_lt_z}
use Rattle.plane.specs.Plane.{PlanePoint, grid_point}
use Rattle.grid_num.proofs.Products.{mul_le, mul_lt, mul_lt_back, mul_le_back}
use Rattle.grid_num.specs.declared.Point.{Point}
use Rattle.plane.specs.Covering.{Edge, IsOn}
use Rattle.plane.proofs.Lists.{any_left}
use Rattle.plane.proofs.On.{at, same_pos, on_level}
use Rattle.strips.specs.declared.Strip.{Strip}
use Rattle.rings.specs.Turning.{direction, turn_to}
use Rattle.rings.specs.Walks.{Visit, IsWalk}
use Rattle.rings.specs.Slits.{IsSlit}
use Rattle.rings.specs.Boundary.{left_edge, right_edge, side_edges, IsCorner, HasCopperAbove, AreNeighbours, IsLevelPart, AreBoundary}
use Rattle.rings.proofs.Lists.{Has}
use Rattle.rings.proofs.Order.{point_same}
use Rattle.rings.proofs.Lines.{good_octilinear}
use Rattle.rings.proofs.Slits.{any_has}
use Rattle.rings.proofs.Heads.{IsHead}
use Rattle.rings.proofs.Checks.{start_alone, finish_alone}
use Rattle.rings.proofs.Sides.{AreOrdered, beside, left_is, right_is}
use Rattle.rings.proofs.Boundary.{IsSide, Left, Right, IsBound, Side, Level, is_side, is_bound, bound_has, leftward}
use Rattle.rings.proofs.Rows.{of_over, corners, corner_has, has_corner, bottom_left, top_left, top_right, bottom_right, NoneLeft, last_left}
use Rattle.rings.proofs.Levels.{corner_on}
use Rattle.rings.proofs.Around.{left_of, from_right}
use Rattle.rings.proofs.Inside.{IsCopperLeft, copper_left, blocked}

-- no corner's row is inside a strip
pub row_outside : (ss : List Strip) (a : Point) (s : Strip) → AreOrdered ss → IsCorner ss a → Has ss s → s.top <ℤ a.y → a.y <ℤ s.bottom → ⊥
unfolding IsCorner
row_outside ss a s o i h u v =
    let r = any_has (λ e. (a ≡ e.start) ⊎ (a ≡ e.finish)) (side_edges ss) i in
    by r.0 (is_side ss r.0 r.1) r.2
  where
    rows : (t : Strip) → Has ss t → (a.y ≡ t.top) ⊎ (a.y ≡ t.bottom) → ⊥
    rows t k (inl e) = let d = (o.shape t k).down in let c = beside ss o s t h k (omega (arith, ints, u, e, d)) (omega (arith, ints, v, e)) in let q = c.top in omega (arith, ints, q, e, u)
    rows t k (inr e) = let d = (o.shape t k).down in let c = beside ss o s t h k (omega (arith, ints, u, e)) (omega (arith, ints, v, e, d)) in let q = c.bottom in omega (arith, ints, q, e, v)

    by : (e : Edge) → IsSide ss e → (a ≡ e.start) ⊎ (a ≡ e.finish) → ⊥
    by e (Left t k f) (inl j) = rows t k (inr (ap (λ z. z.y) j ∙ ap (λ z. z.start.y) f))
    by e (Left t k f) (inr j) = rows t k (inl (ap (λ z. z.y) j ∙ ap (λ z. z.finish.y) f))
    by e (Right t k f) (inl j) = rows t k (inl (ap (λ z. z.y) j ∙ ap (λ z. z.start.y) f))
    by e (Right t k f) (inr j) = rows t k (inr (ap (λ z. z.y) j ∙ ap (λ z. z.finish.y) f))

-- a point of a side that is in the row of a corner is an end of the side
IsAtCorner : List Strip → ℤ → PlanePoint → Type 0
IsAtCorner ss r p = (c : Point) × IsCorner ss c × (c.y ≡ r) × (p.x ≡ pos p.scale *ℤ c.x)

edge_cases : (a b y : ℤ) → a <ℤ b → a ≤ℤ y → y ≤ℤ b → (a <ℤ y → y <ℤ b → ⊥) → (y ≡ a) ⊎ (y ≡ b)
edge_cases a b y l m n f =
    by_lt_z {P = (y ≡ a) ⊎ (y ≡ b)} a y (λ u. by_lt_z {P = (y ≡ a) ⊎ (y ≡ b)} y b (λ v. absurd (f u v)) (λ v. inr (omega (arith, ints, v, n)))) (λ u. inl (omega (arith, ints, u, m)))

side_at : (ss : List Strip) (a : Point) (e : Edge) (p : PlanePoint) → AreOrdered ss → IsCorner ss a → IsSide ss e → p.y ≡ pos p.scale *ℤ a.y → IsOn e p → IsAtCorner ss a.y p
unfolding IsAtCorner
side_at ss a e p o i (Left s h k) y on =
    let d = (o.shape s h).down in
    let f = subst (λ z. IsOn z p) k on in
    let g = (left_is s (o.shape s h)).1 in
    let m = mul_lt p.scale s.top s.bottom p.positive d in
    let t = f.along in
    elim (edge_cases s.top s.bottom a.y d (mul_le_back p.scale s.top a.y p.positive (omega (arith, ints, t, m, y))) (mul_le_back p.scale a.y s.bottom p.positive (omega (arith, ints, t, m, y)))
    (row_outside ss a s o i h)) [
      | inl q ↦ (record { x = s.left; y = s.top }, top_left ss s h, sym q, finish_alone (left_edge s) p (good_octilinear (left_edge s) g) (λ z. omega (arith, ints, z, d)) (y ∙ at p.scale a.y s.top q) f)
      | inr q ↦ (record { x = s.left_end; y = s.bottom }, bottom_left ss s h, sym q, start_alone (left_edge s) p (λ z. omega (arith, ints, z, d)) (y ∙ at p.scale a.y s.bottom q) f)
    ]
side_at ss a e p o i (Right s h k) y on =
    let d = (o.shape s h).down in
    let f = subst (λ z. IsOn z p) k on in
    let g = (right_is s (o.shape s h)).1 in
    let m = mul_lt p.scale s.top s.bottom p.positive d in
    let t = f.along in
    elim (edge_cases s.top s.bottom a.y d (mul_le_back p.scale s.top a.y p.positive (omega (arith, ints, t, m, y))) (mul_le_back p.scale a.y s.bottom p.positive (omega (arith, ints, t, m, y)))
    (row_outside ss a s o i h)) [
      | inl q ↦ (record { x = s.right; y = s.top }, top_right ss s h, sym q, start_alone (right_edge s) p (λ z. omega (arith, ints, z, d)) (y ∙ at p.scale a.y s.top q) f)
      | inr q ↦ (record { x = s.right_end; y = s.bottom }, bottom_right ss s h, sym q, finish_alone (right_edge s) p (good_octilinear (right_edge s) g) (λ z. omega (arith, ints, z, d)) (y ∙ at p.scale a.y s.bottom q) f)
    ]

-- ---- the corner where the slit ends
record IsEnd (ss : List Strip) (h q : Point) : Type 0 where
  corner : IsCorner ss q
  row : q.y ≡ h.y
  left : q.x <ℤ h.x
  last : (c : Point) → IsCorner ss c → c.y ≡ h.y → c.x <ℤ h.x → c.x ≤ℤ q.x

end_of : (ss : List Strip) (h : Point) (s : Strip) → IsCopperLeft ss h s → (q : Point) × IsEnd ss h q
unfolding NoneLeft
end_of ss h s c = elim (last_left (corners ss) h.y (grid_point h.x h.y)) [
  | inr f ↦ absurd (let l = c.from in f (record { x = s.left_end; y = s.bottom }) (corner_has ss (record { x = s.left_end; y = s.bottom }) (bottom_left ss s c.one)) c.row (omega (arith, ints, l)))
  | inl r ↦ (let l = (r.1).left in (
    r.0,
    record {
      corner = has_corner ss r.0 (r.1).one;
      row = (r.1).row;
      left = omega (arith, ints, l);
      last = λ d i y m. (r.1).last d (corner_has ss d i) y (omega (arith, ints, m));
    },
  ))
]

-- a stretch between neighbours that reaches into the slit ends at its start
ends_at : (ss : List Strip) (h q : Point) (p : PlanePoint) (a b : Point) → IsCorner ss h → IsEnd ss h q → AreNeighbours ss a b → a.y ≡ h.y → (pos p.scale *ℤ q.x) <ℤ p.x → p.x <ℤ (pos p.scale *ℤ h.x)
    → (pos p.scale *ℤ a.x) ≤ℤ p.x → p.x ≤ℤ (pos p.scale *ℤ b.x) → b.x ≡ h.x
ends_at ss h q p a b i n m row l r u v =
    let ax = mul_lt_back p.scale a.x h.x (omega (arith, ints, u, r)) in
    let bq = mul_lt_back p.scale q.x b.x (omega (arith, ints, v, l)) in
    by_lt_z {P = b.x ≡ h.x} b.x h.x (λ k. absurd (let z = n.last b m.second (sym m.level ∙ row) k in omega (arith, ints, z, bq)))
    (λ k. by_lt_z {P = b.x ≡ h.x} h.x b.x (λ j. absurd (m.next h i (sym row) ax j)) (λ j. omega (arith, ints, k, j)))

-- no boundary edge has a point between
end_free : (ss : List Strip) (es w : List Edge) (h : Point) (u : Visit) (s : Strip) (q : Point) (p : PlanePoint) (e : Edge) → AreOrdered ss → AreBoundary ss es → IsHead es w h u → IsCorner ss h
    → IsCopperLeft ss h s → IsEnd ss h q → p.y ≡ pos p.scale *ℤ h.y → (pos p.scale *ℤ q.x) <ℤ p.x → p.x <ℤ (pos p.scale *ℤ h.x) → IsBound ss e → IsOn e p → ⊥
unfolding IsLevelPart IsAtCorner left_of turn_to
end_free ss es w h u s q p e o b k i c n y l r (Side t) on =
    let z = side_at ss h e p o i t y on in
    let x = z.3 in
    let m = n.last z.0 z.1 z.2 (mul_lt_back p.scale z.0.x h.x (omega (arith, ints, x, r))) in
    let g = mul_le p.scale z.0.x q.x m in
    omega (arith, ints, g, x, l)
end_free ss es w h u s q p e o b k i c n y l r (Level (inl (m, f))) on =
    let x = on.across in
    let rising = mul_lt p.scale e.start.x e.finish.x p.positive m.rising in
    let row : e.start.y ≡ h.y = same_pos p.scale e.start.y h.y p.positive (sym (on_level e p m.level on) ∙ y) in
    let e1 = ends_at ss h q p e.start e.finish i n m row l r (omega (arith, ints, x, rising)) (omega (arith, ints, x, rising)) in
    let fin : e.finish ≡ h = point_same e.finish h e1 (sym m.level ∙ row) in
    let cr = c.row in let cf = c.from in let ct = c.to in
    (f (left_of e.finish) (from_right ss e.start e.finish m)).1
    (subst (λ z. HasCopperAbove ss (left_of z)) (sym fin) (of_over ss (left_of h) s o (record { one = c.one; row = omega (arith, ints, cr); from = omega (arith, ints, cf); to = omega (arith, ints, ct) })))
end_free ss es w h u s q p e o b k i c n y l r (Level (inr (m, f))) on =
    let x = on.across in
    let rising = mul_lt p.scale e.finish.x e.start.x p.positive m.rising in
    let row : e.finish.y ≡ h.y = same_pos p.scale e.finish.y h.y p.positive (sym (on_level e p (sym m.level) on ∙ at p.scale e.start.y e.finish.y (sym m.level)) ∙ y) in
    let e1 = ends_at ss h q p e.finish e.start i n m row l r (omega (arith, ints, x, rising)) (omega (arith, ints, x, rising)) in
    let d = (leftward ss e m).0 in
    let dd = ap (λ (z : ℕ). (z + 11 - direction u.comes) % 8 + 1) d in
    blocked es w h u e k (bound_has ss es b e (Level (inr (m, f)))) (point_same e.start h e1 (sym m.level ∙ row)) (omega (arith, dd))

-- the slit of a hole
pub slit_exists : (ss : List Strip) (es w : List Edge) (h : Point) (cs : List Point) (u : Visit) → AreOrdered ss → AreBoundary ss es → IsWalk es w → IsHead es w h u → IsCorner ss h
    → (s : Edge) × IsSlit es (h ∷ cs) s × IsCorner ss s.finish
slit_exists ss es w h cs u o b k t i =
    let c = copper_left ss es w h u o b k t in
    let n = end_of ss h c.0 c.1 in
    let q = n.0 in (
      record { start = h; finish = q },
      record {
        others = cs;
        from = refl;
        level = (n.1).row;
        left = (n.1).left;
        stops = subst (Any (λ e. IsOn e (grid_point q.x q.y))) (sym b.all)
            (any_left (λ e. IsOn e (grid_point q.x q.y)) (side_edges ss) b.parts (corner_on ss q (grid_point q.x q.y) (n.1).corner (omega (arith, ints)) (omega (arith, ints))));
        first = λ p y l r a. (let e = any_has (λ e. IsOn e p) es a in end_free ss es w h u c.0 q p e.0 o b t i c.1 n.1 y l r (is_bound ss es b e.0 e.1) e.2);
      },
      (n.1).corner,
    )
