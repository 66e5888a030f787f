-- A slit lies on the sheet: just left of a hole's first corner there is copper, right above its row.
use Rattle.std.proofs.Common.{◌≡◌, refl, sym, subst, ap, ◌∙◌, ℕ, ◌≤◌, ◌+◌, ◌-◌, ◌%◌, ◌⊎◌, inl, inr, arith, lit≤, List}
use Rattle.std.specs.Prelude.{ℤ, pos, ◌+ℤ◌, ◌*ℤ◌, ◌<ℤ◌, ◌≤ℤ◌, Any}
use Rattle.std.proofs.lemmas.Int.{ints, by_lt_z}
use Rattle.plane.specs.Plane.{PlanePoint, grid_point}
use Rattle.grid_num.proofs.Products.{mul_le}
use Rattle.grid_num.specs.declared.Point.{Point}
use Rattle.plane.specs.Covering.{Edge, IsOn}
use Rattle.plane.proofs.On.{at}
use Rattle.plane.proofs.CoverLaws.{start_on}
use Rattle.strips.specs.declared.Strip.{Strip}
use Rattle.strips.specs.Strips.{IsInStrip}
use Rattle.rings.specs.Turning.{direction, turn_to}
use Rattle.rings.specs.Walks.{Visit, IsWalk, IsLess}
use Rattle.rings.specs.Slits.{IsSlit}
use Rattle.rings.specs.Boundary.{left_edge, right_edge, HasCopperAbove, IsCorner, IsStrictlyFrom, AreNeighbours, IsLevelPart, AreBoundary}
use Rattle.rings.proofs.Lists.{Has, has_of, of_has, found}
use Rattle.rings.proofs.Order.{point_same}
use Rattle.rings.proofs.Heads.{IsHead, visit_goes, visit_next, comes_has}
use Rattle.rings.proofs.Slits.{has_any}
use Rattle.rings.proofs.Sides.{AreOrdered, LeftAt, RightAt, left_is, right_is}
use Rattle.rings.proofs.Boundary.{Left, Right, IsBound, Side, Level, is_bound, bound_has, rightward, leftward}
use Rattle.rings.proofs.Rows.{of_under, over_of, bottom_in, top_left, top_right, gap, NoCorner}
use Rattle.rings.proofs.Levels.{both_cases, part_below, equal_cases, most_cases}

-- a strip above the row of h, on the left of h and at it
pub record IsCopperLeft (ss : List Strip) (h : Point) (s : Strip) : Type 0 where
  pub one : Has ss s
  pub row : s.bottom ≡ h.y
  pub from : s.left_end <ℤ h.x
  pub to : h.x ≤ℤ s.right_end

-- a strip above the row of h, on the right of h and at it
record IsCopperRight (ss : List Strip) (h : Point) (s : Strip) : Type 0 where
  pub one : Has ss s
  pub row : s.bottom ≡ h.y
  pub from : s.left_end ≤ℤ h.x
  pub to : h.x <ℤ s.right_end

less_cases : (a b : ℤ) → (a <ℤ b) ⊎ (a <ℤ b → ⊥)
less_cases a b = by_lt_z {P = (a <ℤ b) ⊎ (a <ℤ b → ⊥)} a b (λ l. inl l) (λ l. inr (λ k. omega (arith, ints, k, l)))

left_cases : (ss : List Strip) (h : Point) → ((s : Strip) × IsCopperLeft ss h s) ⊎ ((s : Strip) → IsCopperLeft ss h s → ⊥)
left_cases ss h = elim (found (λ s. (s.bottom ≡ h.y) × ((s.left_end <ℤ h.x) × (h.x ≤ℤ s.right_end)))
    (λ s. both_cases (equal_cases s.bottom h.y) (both_cases (less_cases s.left_end h.x) (most_cases h.x s.right_end))) ss) [
      | inl f ↦ inl (f.0, record { one = f.1; row = (f.2).0; from = ((f.2).1).0; to = ((f.2).1).1 })
      | inr f ↦ inr (λ s u. f s u.one (u.row, (u.from, u.to)))
    ]

right_cases : (ss : List Strip) (h : Point) → ((s : Strip) × IsCopperRight ss h s) ⊎ ((s : Strip) → IsCopperRight ss h s → ⊥)
right_cases ss h = elim (found (λ s. (s.bottom ≡ h.y) × ((s.left_end ≤ℤ h.x) × (h.x <ℤ s.right_end)))
    (λ s. both_cases (equal_cases s.bottom h.y) (both_cases (most_cases s.left_end h.x) (less_cases h.x s.right_end))) ss) [
      | inl f ↦ inl (f.0, record { one = f.1; row = (f.2).0; from = ((f.2).1).0; to = ((f.2).1).1 })
      | inr f ↦ inr (λ s u. f s u.one (u.row, (u.from, u.to)))
    ]

-- no edge goes out of the corner before one looks to the left
pub blocked : (es w : List Edge) (h : Point) (u : Visit) (e : Edge) → IsHead es w h u → Has es e → e.start ≡ h → turn_to u.comes (direction e) ≤ turn_to u.comes 4 → ⊥
blocked es w h u e k i s l =
    let n = k.next in
    let p = n.first e (of_has es e i) (s ∙ sym k.here ∙ n.joins) in
    let q = k.passes in
    omega (arith, p, q, l)

-- how one comes: upward, or to the left
pub record ComesUp (e : Edge) : Type 0 where
  pub low : 1 ≤ direction e
  pub high : direction e ≤ 4

up_turn : (c d : ℕ) → 1 ≤ c → c ≤ 4 → 1 ≤ d → d ≤ 3 → (d + 11 - c) % 8 ≤ (15 - c) % 8
up_turn c d p q r s = omega (arith, p, q, r, s)

level_turn : (c : ℕ) → 1 ≤ c → c ≤ 3 → (11 - c) % 8 ≤ (15 - c) % 8
level_turn c p q = omega (arith, p, q)

-- ---- copper above, on the right of the corner, reaches over to the left
no_right : (ss : List Strip) (es w : List Edge) (h : Point) (u : Visit) (s : Strip) → AreOrdered ss → AreBoundary ss es → IsHead es w h u → ComesUp u.comes
    → ((s : Strip) → IsCopperLeft ss h s → ⊥) → IsCopperRight ss h s → ⊥
unfolding LeftAt turn_to
no_right ss es w h u s o b k c n r =
    let f = r.from in
    let t = r.to in
    let e : s.left_end ≡ h.x = by_lt_z {P = s.left_end ≡ h.x} s.left_end h.x (λ l. absurd (n s (record { one = r.one; row = r.row; from = l; to = omega (arith, ints, t) }))) (λ l. omega (arith, ints, l, f)) in
    let d = (left_is s (o.shape s r.one)).0 in
    blocked es w h u (left_edge s) k (bound_has ss es b (left_edge s) (Side (Left s r.one refl)))
    (point_same (left_edge s).start h e r.row)
    (let m = up_turn (direction u.comes) (direction (left_edge s)) c.low c.high (omega (arith, d)) (omega (arith, d)) in omega (arith, m))

-- ---- copper below, on the right of the corner, and none above: a level part goes out to the right
beside : Point → PlanePoint
beside h = record { x = pos 2 *ℤ h.x +ℤ pos 1; y = pos 2 *ℤ h.y; scale = 2; positive = lit≤ tt }

no_below : (ss : List Strip) (es w : List Edge) (h : Point) (u : Visit) (s : Strip) → AreOrdered ss → AreBoundary ss es → IsHead es w h u → 1 ≤ direction u.comes → direction u.comes ≤ 3
    → ((v : Strip) → IsCopperRight ss h v → ⊥) → IsCorner ss h → Has ss s → s.top ≡ h.y → s.left ≤ℤ h.x → h.x <ℤ s.right → ⊥
unfolding NoCorner turn_to beside
no_below ss es w h u s o b k c1 c2 n i one y l r =
    let p = beside h in
    let g = gap ss h.y p h (record { x = s.right; y = s.top }) (λ c j z e. omega (arith, ints, e)) i refl (omega (arith, ints)) (top_right ss s one) y (omega (arith, ints, r)) in
    let a = g.0 in
    let e = g.1 in
    let gl = (g.2).left in
    let gr = (g.2).right in
    let same : a.x ≡ h.x = by_lt_z {P = a.x ≡ h.x} a.x h.x (λ m. absurd (((g.2).are).next h i (sym (g.2).row) m (omega (arith, ints, gr)))) (λ m. omega (arith, ints, m, gl)) in
    let under = of_under ss p s o (record { one = one; row = omega (arith, ints, y); from = omega (arith, ints, l); to = omega (arith, ints, r) }) in
    let part = part_below ss a e p o (g.2).are (record { row = (let z = (g.2).row in omega (arith, ints, z)); after = gl; before = gr }) under
    (λ q. (let v = over_of ss p o q in let x = v.1 in let vr = x.row in let vf = x.from in let vt = x.to in
    n v.0 (record { one = x.one; row = omega (arith, ints, vr); from = omega (arith, ints, vf); to = omega (arith, ints, vt) }))) in
    let d = (rightward ss (record { start = a; finish = e }) (g.2).are).0 in
    blocked es w h u (record { start = a; finish = e }) k (bound_has ss es b (record { start = a; finish = e }) (Level part)) (point_same a h same (g.2).row)
    (let m = level_turn (direction u.comes) c1 c2 in let z = ap (λ (t : ℕ). (t + 11 - direction u.comes) % 8) d in omega (arith, m, z))

-- ---- a strip that ends in a point at the corner
tip_turn : (c d : ℕ) (s : Strip) → LeftAt c s → RightAt d s → (s.left +ℤ s.left_end) <ℤ (s.right +ℤ s.right_end) → s.top <ℤ s.bottom → s.right ≡ s.left → (d + 11 - c) % 8 ≤ (15 - c) % 8
unfolding LeftAt RightAt
tip_turn c d s (inl p) (inl q) w t e = absurd (let a = p.1 in let b = q.1 in omega (arith, ints, a, b, w, e))
tip_turn c d s (inl p) (inr (inl q)) w t e = let a = p.0 in let b = q.0 in omega (arith, a, b)
tip_turn c d s (inl p) (inr (inr q)) w t e = let a = p.0 in let b = q.0 in omega (arith, a, b)
tip_turn c d s (inr (inl p)) (inl q) w t e = absurd (let a = p.1 in let b = q.1 in omega (arith, ints, a, b, w, e, t))
tip_turn c d s (inr (inl p)) (inr (inl q)) w t e = absurd (let a = p.1 in let b = q.1 in omega (arith, ints, a, b, w, e, t))
tip_turn c d s (inr (inl p)) (inr (inr q)) w t e = let a = p.0 in let b = q.0 in omega (arith, a, b)
tip_turn c d s (inr (inr p)) (inl q) w t e = absurd (let a = p.1 in let b = q.1 in omega (arith, ints, a, b, w, e, t))
tip_turn c d s (inr (inr p)) (inr (inl q)) w t e = absurd (let a = p.1 in let b = q.1 in omega (arith, ints, a, b, w, e, t))
tip_turn c d s (inr (inr p)) (inr (inr q)) w t e = absurd (let a = p.1 in let b = q.1 in omega (arith, ints, a, b, w, e, t))

no_tip : (ss : List Strip) (es w : List Edge) (h : Point) (u : Visit) (s : Strip) → AreOrdered ss → AreBoundary ss es → IsHead es w h u → Has ss s → u.comes ≡ left_edge s
    → s.right ≡ s.left → ⊥
unfolding LeftAt RightAt turn_to
no_tip ss es w h u s o b k one e r =
    let x = ap (λ z. z.x) (sym k.here ∙ (k.next).joins ∙ ap (λ z. z.finish) e) in
    let y = ap (λ z. z.y) (sym k.here ∙ (k.next).joins ∙ ap (λ z. z.finish) e) in
    let c = (left_is s (o.shape s one)).0 in
    let d = (right_is s (o.shape s one)).0 in
    let t = (o.shape s one).wide in
    let f = (o.shape s one).down in
    let ce = ap direction e in
    blocked es w h u (right_edge s) k (bound_has ss es b (right_edge s) (Side (Right s one refl))) (point_same (right_edge s).start h (r ∙ sym x) (sym y))
    (let m = tip_turn (direction (left_edge s)) (direction (right_edge s)) s c d t f r in let z = ap (λ (q : ℕ). (direction (right_edge s) + 11 - q) % 8) ce in let z2 = ap (λ (q : ℕ). (15 - q) % 8) ce in omega (arith, m, z, z2))

-- ---- the ways to come to the corner
from_side : (ss : List Strip) (es w : List Edge) (h : Point) (u : Visit) (s : Strip) → AreOrdered ss → AreBoundary ss es → IsHead es w h u → Has ss s → u.comes ≡ left_edge s
    → ((s : Strip) → IsCopperLeft ss h s → ⊥) → ⊥
unfolding LeftAt
from_side ss es w h u s o b k one e n =
    let here = sym k.here ∙ (k.next).joins ∙ ap (λ z. z.finish) e in
    let x = ap (λ z. z.x) here in
    let y = ap (λ z. z.y) here in
    let c = (left_is s (o.shape s one)).0 in
    let ce = ap direction e in
    let low : 1 ≤ direction u.comes = omega (arith, c, ce) in
    let high : direction u.comes ≤ 3 = omega (arith, c, ce) in
    let st = (o.shape s one).start in
    elim (right_cases ss h) [
      | inl r ↦ no_right ss es w h u r.0 o b k (record { low = low; high = omega (arith, high) }) n r.1
      | inr f ↦ by_lt_z {P = ⊥} h.x s.right
          (λ m. no_below ss es w h u s o b k low high f (subst (IsCorner ss) (sym here) (top_left ss s one)) one (sym y) (omega (arith, ints, x)) m)
          (λ m. no_tip ss es w h u s o b k one e (omega (arith, ints, m, x, st)))
    ]

from_level : (ss : List Strip) (es w : List Edge) (h : Point) (u : Visit) → AreOrdered ss → AreBoundary ss es → IsHead es w h u → AreNeighbours ss u.comes.finish u.comes.start
    → ((p : PlanePoint) → IsStrictlyFrom u.comes.finish u.comes.start p → HasCopperAbove ss p) → ((s : Strip) → IsCopperLeft ss h s → ⊥) → ⊥
unfolding beside
from_level ss es w h u o b k m a n =
    let f = u.comes.finish in
    let here = sym k.here ∙ (k.next).joins in
    let x = ap (λ z. z.x) here in
    let y = ap (λ z. z.y) here in
    let g = m.rising in
    let v = over_of ss (beside f) o (a (beside f) (record { row = refl; after = omega (arith, ints); before = omega (arith, ints, g) })) in
    let vr = (v.1).row in
    let vf = (v.1).from in
    let vt = (v.1).to in
    let d = (leftward ss u.comes m).0 in
    no_right ss es w h u v.0 o b k (record { low = omega (arith, d); high = omega (arith, d) }) n
    (record { one = (v.1).one; row = omega (arith, ints, vr, y); from = omega (arith, ints, vf, x); to = omega (arith, ints, vt, x) })

-- nothing comes from a corner that is less
not_less : (es w : List Edge) (h : Point) (u : Visit) → IsWalk es w → IsHead es w h u → IsLess u.comes.start h → ⊥
not_less es w h u i k l =
    let v = visit_goes w u.comes (comes_has w u k.one) in
    k.least v.0 v.1 (subst (λ q. IsLess q h) (sym (ap (λ e. e.start) v.2)) l)

comes_from : (es w : List Edge) (h : Point) (u : Visit) → IsWalk es w → IsHead es w h u → Has es u.comes
comes_from es w h u i k =
    let v = visit_goes w u.comes (comes_has w u k.one) in
    subst (Has es) v.2 (has_of es v.0.goes (visit_next es w v.0 i v.1).one)

pub copper_left : (ss : List Strip) (es w : List Edge) (h : Point) (u : Visit) → AreOrdered ss → AreBoundary ss es → IsWalk es w → IsHead es w h u → (s : Strip) × IsCopperLeft ss h s
unfolding IsLevelPart IsLess
copper_left ss es w h u o b i k = elim (left_cases ss h) [
  | inl r ↦ r
  | inr n ↦ absurd (by (is_bound ss es b u.comes (comes_from es w h u i k)) n)
]
  where
    here : h ≡ u.comes.finish
    here = sym k.here ∙ (k.next).joins

    by : IsBound ss u.comes → ((s : Strip) → IsCopperLeft ss h s → ⊥) → ⊥
    by (Side (Left s one e)) n = from_side ss es w h u s o b k one e n
    by (Side (Right s one e)) n = not_less es w h u i k (inl (let y = ap (λ z. z.y) (here ∙ ap (λ z. z.finish) e) in let z = ap (λ z. z.start.y) e in let d = (o.shape s one).down in omega (arith, ints, y, z, d)))
    by (Level (inl (m, f))) n = not_less es w h u i k (inr (m.level ∙ sym (ap (λ z. z.y) here), (let x = ap (λ z. z.x) here in let g = m.rising in omega (arith, ints, x, g))))
    by (Level (inr (m, f))) n = from_level ss es w h u o b k m (λ p j. (f p j).0) n

-- so each point of a slit is in the last row of a strip
pub slit_in : (ss : List Strip) (es w : List Edge) (cs : List Point) (s : Edge) (u : Visit) (p : PlanePoint) → AreOrdered ss → AreBoundary ss es → IsWalk es w → IsHead es w s.start u → IsSlit es cs s
    → p.y ≡ pos p.scale *ℤ s.start.y → (pos p.scale *ℤ s.finish.x) ≤ℤ p.x → p.x ≤ℤ (pos p.scale *ℤ s.start.x) → Any (λ s. IsInStrip s p) ss
slit_in ss es w cs s u p o b i k t y l r =
    let c = copper_left ss es w s.start u o b i k in
    let v = c.0 in
    let row = (c.1).row in
    let from = (c.1).from in
    let to = (c.1).to in
    let q = grid_point v.left_end v.bottom in
    let on = has_any (λ e. IsOn e q) es (left_edge v) (bound_has ss es b (left_edge v) (Side (Left v (c.1).one refl))) (start_on q (left_edge v) (omega (arith, ints)) (omega (arith, ints))) in
    let stop : v.left_end ≤ℤ s.finish.x = by_lt_z {P = v.left_end ≤ℤ s.finish.x} s.finish.x v.left_end
    (λ m. absurd (t.first q (omega (arith, ints, row)) (omega (arith, ints, m)) (omega (arith, ints, from)) on)) (λ m. m) in
    has_any (λ s. IsInStrip s p) ss v (c.1).one
    ((bottom_in v p (o.shape v (c.1).one) (y ∙ at p.scale s.start.y v.bottom (sym row))).1
    (let m = mul_le p.scale v.left_end s.finish.x stop in let n = mul_le p.scale s.start.x v.right_end to in (omega (arith, ints, m, l), omega (arith, ints, n, r))))
