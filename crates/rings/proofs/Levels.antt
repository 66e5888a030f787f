-- The sides and the level parts together cover exactly the strips.
use Rattle.std.proofs.Common.{◌≡◌, refl, sym, subst, ap, ◌∙◌, ◌⊎◌, inl, inr, arith, List, [], ◌∷◌, ◌++◌}
use Rattle.std.specs.Prelude.{ℤ, pos, ◌*ℤ◌, ◌<ℤ◌, ◌≤ℤ◌, ◌↔◌, Any}
use Rattle.std.proofs.lemmas.Int.{ints, by_lt_z}
use Rattle.plane.specs.Plane.{PlanePoint}
use Rattle.grid_num.proofs.Products.{mul_le, mul_lt, mul_lt_back}
use Rattle.grid_num.specs.declared.Point.{Point}
use Rattle.plane.specs.Covering.{Edge, IsOn, Covers}
use Rattle.plane.proofs.Lists.{any_left, any_right}
use Rattle.plane.proofs.On.{at, same_pos, on_level, level_on}
use Rattle.plane.proofs.CoverLaws.{start_on, finish_on}
use Rattle.strips.specs.declared.Strip.{Strip}
use Rattle.strips.specs.Strips.{IsInStrip, IsStripBefore}
use Rattle.rings.specs.Boundary.{side_edges, IsCorner, HasCopperAbove, HasCopperBelow, IsStrictlyFrom, AreNeighbours, IsLevelPart, AreLevelParts, AreBoundary}
use Rattle.rings.proofs.Lists.{Has, has_of, all_at, all_of, Rising, found}
use Rattle.rings.proofs.Slits.{has_any, any_has}
use Rattle.rings.proofs.Sides.{AreOrdered}
use Rattle.rings.proofs.Boundary.{IsSide, Left, Right, is_side, ordered_tail}
use Rattle.rings.proofs.Rows.{run_of, top_in, bottom_in, IsUnder, IsOver, under_of, of_under, over_of, of_over, top_left, top_right, bottom_left, bottom_right, NoCorner, IsGap, gap, corners, corner_has, has_corner}
use Rattle.rings.proofs.Parity.{AreSound, IsBeforeAll, AreInOrder, IsLevelCover, boundary_law}

-- ---- between neighbouring corners the copper stays the same
pub under_same : (ss : List Strip) (a b : Point) (p q : PlanePoint) (s : Strip) → AreNeighbours ss a b → IsStrictlyFrom a b p → IsStrictlyFrom a b q → IsUnder ss p s → IsUnder ss q s
under_same ss a b p q s n i j u =
    let y : s.top ≡ a.y = same_pos p.scale s.top a.y p.positive (sym u.row ∙ i.row) in
    let f = u.from in
    let t = u.to in
    let i0 = i.after in
    let i1 = i.before in
    let j0 = j.after in
    let j1 = j.before in
    let l : s.left ≤ℤ a.x = by_lt_z {P = s.left ≤ℤ a.x} a.x s.left
    (λ k. absurd (n.next (record { x = s.left; y = s.top }) (top_left ss s u.one) y k (mul_lt_back p.scale s.left b.x (omega (arith, ints, f, i1))))) (λ k. k) in
    let r : b.x ≤ℤ s.right = by_lt_z {P = b.x ≤ℤ s.right} s.right b.x
    (λ k. absurd (n.next (record { x = s.right; y = s.top }) (top_right ss s u.one) y (mul_lt_back p.scale a.x s.right (omega (arith, ints, t, i0))) k)) (λ k. k) in
    record {
      one = u.one;
      row = j.row ∙ at q.scale a.y s.top (sym y);
      from = (let m = mul_le q.scale s.left a.x l in omega (arith, ints, m, j0));
      to = (let m = mul_le q.scale b.x s.right r in omega (arith, ints, m, j1));
    }

pub over_same : (ss : List Strip) (a b : Point) (p q : PlanePoint) (s : Strip) → AreNeighbours ss a b → IsStrictlyFrom a b p → IsStrictlyFrom a b q → IsOver ss p s → IsOver ss q s
over_same ss a b p q s n i j u =
    let y : s.bottom ≡ a.y = same_pos p.scale s.bottom a.y p.positive (sym u.row ∙ i.row) in
    let f = u.from in
    let t = u.to in
    let i0 = i.after in
    let i1 = i.before in
    let j0 = j.after in
    let j1 = j.before in
    let l : s.left_end ≤ℤ a.x = by_lt_z {P = s.left_end ≤ℤ a.x} a.x s.left_end
    (λ k. absurd (n.next (record { x = s.left_end; y = s.bottom }) (bottom_left ss s u.one) y k (mul_lt_back p.scale s.left_end b.x (omega (arith, ints, f, i1))))) (λ k. k) in
    let r : b.x ≤ℤ s.right_end = by_lt_z {P = b.x ≤ℤ s.right_end} s.right_end b.x
    (λ k. absurd (n.next (record { x = s.right_end; y = s.bottom }) (bottom_right ss s u.one) y (mul_lt_back p.scale a.x s.right_end (omega (arith, ints, t, i0))) k)) (λ k. k) in
    record {
      one = u.one;
      row = j.row ∙ at q.scale a.y s.bottom (sym y);
      from = (let m = mul_le q.scale s.left_end a.x l in omega (arith, ints, m, j0));
      to = (let m = mul_le q.scale b.x s.right_end r in omega (arith, ints, m, j1));
    }

-- between neighbours with copper on just one side there is a level part
pub part_below : (ss : List Strip) (a b : Point) (p : PlanePoint) → AreOrdered ss → AreNeighbours ss a b → IsStrictlyFrom a b p → HasCopperBelow ss p → (HasCopperAbove ss p → ⊥)
    → IsLevelPart ss (record { start = a; finish = b })
unfolding IsLevelPart
part_below ss a b p o n i u f = inl (
  n,
  λ q j. (
    (let s = under_of ss p o u in of_under ss q s.0 o (under_same ss a b p q s.0 n i j s.1)),
    λ v. (let s = over_of ss q o v in f (of_over ss p s.0 o (over_same ss a b q p s.0 n j i s.1))),
  ),
)

pub part_above : (ss : List Strip) (a b : Point) (p : PlanePoint) → AreOrdered ss → AreNeighbours ss a b → IsStrictlyFrom a b p → HasCopperAbove ss p → (HasCopperBelow ss p → ⊥)
    → IsLevelPart ss (record { start = b; finish = a })
unfolding IsLevelPart
part_above ss a b p o n i u f = inr (
  n,
  λ q j. (
    (let s = over_of ss p o u in of_over ss q s.0 o (over_same ss a b p q s.0 n i j s.1)),
    λ v. (let s = under_of ss q o v in f (of_under ss p s.0 o (under_same ss a b q p s.0 n j i s.1))),
  ),
)

-- ---- corners are on the strips, and on sides
corner_in : (ss : List Strip) (a : Point) (p : PlanePoint) → AreOrdered ss → IsCorner ss a → p.x ≡ pos p.scale *ℤ a.x → p.y ≡ pos p.scale *ℤ a.y → Any (λ s. IsInStrip s p) ss
unfolding IsCorner
corner_in ss a p o i x y = let r = any_has (λ e. (a ≡ e.start) ⊎ (a ≡ e.finish)) (side_edges ss) i in by r.0 (is_side ss r.0 r.1) r.2
  where
    at_top : (s : Strip) → Has ss s → a.y ≡ s.top → s.left ≤ℤ a.x → a.x ≤ℤ s.right → Any (λ s. IsInStrip s p) ss
    at_top s h e l r = has_any (λ s. IsInStrip s p) ss s h ((top_in s p (o.shape s h) (y ∙ at p.scale a.y s.top e)).1 (let m = mul_le p.scale s.left a.x l in let n = mul_le p.scale a.x s.right r in (omega (arith, ints, m, x), omega (arith, ints, n, x))))

    at_bottom : (s : Strip) → Has ss s → a.y ≡ s.bottom → s.left_end ≤ℤ a.x → a.x ≤ℤ s.right_end → Any (λ s. IsInStrip s p) ss
    at_bottom s h e l r = has_any (λ s. IsInStrip s p) ss s h ((bottom_in s p (o.shape s h) (y ∙ at p.scale a.y s.bottom e)).1 (let m = mul_le p.scale s.left_end a.x l in let n = mul_le p.scale a.x s.right_end r in (omega (arith, ints, m, x), omega (arith, ints, n, x))))

    by : (e : Edge) → IsSide ss e → (a ≡ e.start) ⊎ (a ≡ e.finish) → Any (λ s. IsInStrip s p) ss
    by e (Left s h k) (inl j) = let c = j ∙ ap (λ z. z.start) k in let cx = ap (λ z. z.x) c in let w = (o.shape s h).finish in at_bottom s h (ap (λ z. z.y) c) (omega (arith, ints, cx)) (omega (arith, ints, cx, w))
    by e (Left s h k) (inr j) = let c = j ∙ ap (λ z. z.finish) k in let cx = ap (λ z. z.x) c in let w = (o.shape s h).start in at_top s h (ap (λ z. z.y) c) (omega (arith, ints, cx)) (omega (arith, ints, cx, w))
    by e (Right s h k) (inl j) = let c = j ∙ ap (λ z. z.start) k in let cx = ap (λ z. z.x) c in let w = (o.shape s h).start in at_top s h (ap (λ z. z.y) c) (omega (arith, ints, cx, w)) (omega (arith, ints, cx))
    by e (Right s h k) (inr j) = let c = j ∙ ap (λ z. z.finish) k in let cx = ap (λ z. z.x) c in let w = (o.shape s h).finish in at_bottom s h (ap (λ z. z.y) c) (omega (arith, ints, cx, w)) (omega (arith, ints, cx))

pub corner_on : (ss : List Strip) (a : Point) (p : PlanePoint) → IsCorner ss a → p.x ≡ pos p.scale *ℤ a.x → p.y ≡ pos p.scale *ℤ a.y → Any (λ e. IsOn e p) (side_edges ss)
unfolding IsCorner
corner_on ss a p i x y =
    let r = any_has (λ e. (a ≡ e.start) ⊎ (a ≡ e.finish)) (side_edges ss) i in
    has_any (λ e. IsOn e p) (side_edges ss) r.0 r.1
    (elim r.2 [
      | inl k ↦ start_on p r.0 (x ∙ at p.scale a.x r.0.start.x (ap (λ z. z.x) k)) (y ∙ at p.scale a.y r.0.start.y (ap (λ z. z.y) k))
      | inr k ↦ finish_on p r.0 (x ∙ at p.scale a.x r.0.finish.x (ap (λ z. z.x) k)) (y ∙ at p.scale a.y r.0.finish.y (ap (λ z. z.y) k))
    ])

above_in : (ss : List Strip) (p : PlanePoint) → HasCopperAbove ss p → Any (λ s. IsInStrip s p) ss
unfolding HasCopperAbove
above_in ss p h = let r = any_has (λ s. IsInStrip s p × (p.y ≡ pos p.scale *ℤ s.bottom)) ss h in has_any (λ s. IsInStrip s p) ss r.0 r.1 (r.2).0

below_in : (ss : List Strip) (p : PlanePoint) → HasCopperBelow ss p → Any (λ s. IsInStrip s p) ss
unfolding HasCopperBelow
below_in ss p h = let r = any_has (λ s. IsInStrip s p × (p.y ≡ pos p.scale *ℤ s.top)) ss h in has_any (λ s. IsInStrip s p) ss r.0 r.1 (r.2).0

-- ---- the level parts lie on the strips
pub from_neighbours : (ss : List Strip) (a b : Point) (p : PlanePoint) → AreOrdered ss → AreNeighbours ss a b → p.y ≡ pos p.scale *ℤ a.y → (pos p.scale *ℤ a.x) ≤ℤ p.x → p.x ≤ℤ (pos p.scale *ℤ b.x)
    → (IsStrictlyFrom a b p → Any (λ s. IsInStrip s p) ss) → Any (λ s. IsInStrip s p) ss
from_neighbours ss a b p o n y l r f =
    by_lt_z {P = Any (λ s. IsInStrip s p) ss} (pos p.scale *ℤ a.x) p.x
    (λ u. by_lt_z {P = Any (λ s. IsInStrip s p) ss} p.x (pos p.scale *ℤ b.x)
    (λ v. f (record { row = y; after = u; before = v }))
    (λ v. corner_in ss b p o n.second (omega (arith, ints, v, r)) (y ∙ at p.scale a.y b.y n.level)))
    (λ u. corner_in ss a p o n.first (omega (arith, ints, u, l)) y)

level_in : (ss : List Strip) (e : Edge) (p : PlanePoint) → AreOrdered ss → IsLevelPart ss e → IsOn e p → Any (λ s. IsInStrip s p) ss
unfolding IsLevelPart
level_in ss e p o (inl (n, f)) i =
    let x = i.across in
    let m = mul_lt p.scale e.start.x e.finish.x p.positive n.rising in
    from_neighbours ss e.start e.finish p o n (on_level e p n.level i) (omega (arith, ints, x, m)) (omega (arith, ints, x, m)) (λ j. below_in ss p (f p j).0)
level_in ss e p o (inr (n, f)) i =
    let x = i.across in
    let m = mul_lt p.scale e.finish.x e.start.x p.positive n.rising in
    from_neighbours ss e.finish e.start p o n (on_level e p (sym n.level) i ∙ at p.scale e.start.y e.finish.y (sym n.level)) (omega (arith, ints, x, m)) (omega (arith, ints, x, m)) (λ j. above_in ss p (f p j).0)

-- ---- a point of a last row with nothing below is on a side or a level part
abbrev pub SomeCorner : List Strip → ℤ → PlanePoint → Type 0
SomeCorner ss r p = (c : Point) × IsCorner ss c × (c.y ≡ r) × (p.x ≡ pos p.scale *ℤ c.x)

pub equal_cases : (a b : ℤ) → (a ≡ b) ⊎ (a ≡ b → ⊥)
equal_cases a b =
    by_lt_z {P = (a ≡ b) ⊎ (a ≡ b → ⊥)} a b (λ l. inr (λ e. omega (arith, ints, l, e)))
    (λ l. by_lt_z {P = (a ≡ b) ⊎ (a ≡ b → ⊥)} b a (λ k. inr (λ e. omega (arith, ints, k, e))) (λ k. inl (omega (arith, ints, k, l))))

pub most_cases : (a b : ℤ) → (a ≤ℤ b) ⊎ (a ≤ℤ b → ⊥)
most_cases a b = by_lt_z {P = (a ≤ℤ b) ⊎ (a ≤ℤ b → ⊥)} b a (λ l. inr (λ e. omega (arith, ints, l, e))) (λ l. inl l)

pub both_cases : {A B : Type 0} → A ⊎ (A → ⊥) → B ⊎ (B → ⊥) → (A × B) ⊎ (A × B → ⊥)
both_cases (inl a) (inl b) = inl (a, b)
both_cases (inl a) (inr n) = inr (λ p. n p.1)
both_cases (inr n) b = inr (λ p. n p.0)

pub at_corner : (ss : List Strip) (r : ℤ) (p : PlanePoint) → SomeCorner ss r p ⊎ NoCorner ss r p
unfolding NoCorner
at_corner ss r p = elim (found (λ c. (c.y ≡ r) × (p.x ≡ pos p.scale *ℤ c.x)) (λ c. both_cases (equal_cases c.y r) (equal_cases p.x (pos p.scale *ℤ c.x))) (corners ss)) [
  | inl f ↦ inl (f.0, has_corner ss f.0 f.1, (f.2).0, (f.2).1)
  | inr f ↦ inr (λ c i y x. f c (corner_has ss c i) (y, x))
]

pub under_cases : (ss : List Strip) (p : PlanePoint) → ((s : Strip) × IsUnder ss p s) ⊎ ((s : Strip) → IsUnder ss p s → ⊥)
under_cases ss p = elim (found (λ s. (p.y ≡ pos p.scale *ℤ s.top) × (((pos p.scale *ℤ s.left) ≤ℤ p.x) × (p.x ≤ℤ (pos p.scale *ℤ s.right))))
    (λ s. both_cases (equal_cases p.y (pos p.scale *ℤ s.top)) (both_cases (most_cases (pos p.scale *ℤ s.left) p.x) (most_cases p.x (pos p.scale *ℤ s.right)))) ss) [
      | inl f ↦ inl (f.0, record { one = f.1; row = (f.2).0; from = ((f.2).1).0; to = ((f.2).1).1 })
      | inr f ↦ inr (λ s u. f s u.one (u.row, (u.from, u.to)))
    ]

less : (ss : List Strip) (r : ℤ) (p : PlanePoint) (c : Point) → NoCorner ss r p → IsCorner ss c → c.y ≡ r → (pos p.scale *ℤ c.x) ≤ℤ p.x → (pos p.scale *ℤ c.x) <ℤ p.x
unfolding NoCorner
less ss r p c n i y l = by_lt_z {P = (pos p.scale *ℤ c.x) <ℤ p.x} (pos p.scale *ℤ c.x) p.x (λ k. k) (λ k. absurd (n c i y (omega (arith, ints, k, l))))

more : (ss : List Strip) (r : ℤ) (p : PlanePoint) (c : Point) → NoCorner ss r p → IsCorner ss c → c.y ≡ r → p.x ≤ℤ (pos p.scale *ℤ c.x) → p.x <ℤ (pos p.scale *ℤ c.x)
unfolding NoCorner
more ss r p c n i y l = by_lt_z {P = p.x <ℤ (pos p.scale *ℤ c.x)} p.x (pos p.scale *ℤ c.x) (λ k. k) (λ k. absurd (n c i y (omega (arith, ints, k, l))))

level_all : (ss : List Strip) (hs : List Edge) (p : PlanePoint) → AreOrdered ss → AreLevelParts ss hs → HasCopperAbove ss p → Any (λ e. IsOn e p) (side_edges ss ++ hs) ⊎ HasCopperBelow ss p
level_all ss hs p o l h = elim (under_cases ss p) [
  | inl u ↦ inr (of_under ss p u.0 o u.1)
  | inr n ↦ inl (by (over_of ss p o h) (λ b. (let u = under_of ss p o b in n u.0 u.1)))
]
  where
    on_part : (s : Strip) → (HasCopperBelow ss p → ⊥) → (a b : Point) → p.y ≡ pos p.scale *ℤ s.bottom → IsGap ss s.bottom p a b → Any (λ e. IsOn e p) (side_edges ss ++ hs)
    on_part s f a b y g =
        let e : Edge = record { start = b; finish = a } in
        let r = y ∙ at p.scale s.bottom a.y (sym g.row) in
        let k = part_above ss a b p o g.are (record { row = r; after = g.left; before = g.right }) h f in
        let u = g.left in
        let v = g.right in
        any_right (λ e. IsOn e p) (side_edges ss) hs
        (has_any (λ e. IsOn e p) hs e (has_of hs e (l.whole e k))
        (level_on e p (sym (g.are).level) (r ∙ at p.scale a.y b.y (g.are).level) (inr (omega (arith, ints, u), omega (arith, ints, v)))))

    by : (s : Strip) × IsOver ss p s → (HasCopperBelow ss p → ⊥) → Any (λ e. IsOn e p) (side_edges ss ++ hs)
    by (s, u) f = elim (at_corner ss s.bottom p) [
      | inl c ↦ any_left (λ e. IsOn e p) (side_edges ss) hs (corner_on ss c.0 p c.1 c.3 (u.row ∙ at p.scale s.bottom c.0.y (sym c.2)))
      | inr n ↦ (
          let k = u.from in
          let m = u.to in
          let g = gap ss s.bottom p (record { x = s.left_end; y = s.bottom }) (record { x = s.right_end; y = s.bottom }) n
          (bottom_left ss s u.one) refl (less ss s.bottom p (record { x = s.left_end; y = s.bottom }) n (bottom_left ss s u.one) refl k)
          (bottom_right ss s u.one) refl (more ss s.bottom p (record { x = s.right_end; y = s.bottom }) n (bottom_right ss s u.one) refl m) in
          on_part s f g.0 g.1 u.row g.2)
    ]

pub level_cover : (ss : List Strip) (hs : List Edge) → AreOrdered ss → AreLevelParts ss hs → IsLevelCover ss hs
unfolding IsLevelPart HasCopperAbove HasCopperBelow
level_cover ss hs o l = record {
  level = all_of (λ e. e.start.y ≡ e.finish.y) hs (λ e h. flat e (all_at (IsLevelPart ss) hs e l.each h));
  within = λ p i. (let r = any_has (λ e. IsOn e p) hs i in level_in ss r.0 p o (all_at (IsLevelPart ss) hs r.0 l.each r.1) r.2);
  all = λ p h. level_all ss hs p o l h;
}
  where
    flat : (e : Edge) → IsLevelPart ss e → e.start.y ≡ e.finish.y
    flat e (inl (n, f)) = n.level
    flat e (inr (n, f)) = sym n.level

-- ---- all of it
sound_of : (ss : List Strip) → AreOrdered ss → AreSound ss
unfolding AreSound Has
sound_of [] o = tt
sound_of (s ∷ ss) o = (((o.shape s (inl refl)).down, run_of s (o.shape s (inl refl))), sound_of ss (ordered_tail s ss o))

before_of : (s : Strip) (ss : List Strip) → ((t : Strip) → Has ss t → IsStripBefore s t) → IsBeforeAll s ss
unfolding IsBeforeAll Has
before_of s [] f = tt
before_of s (t ∷ ss) f = (f t (inl refl), before_of s ss (λ u h. f u (inr h)))

order_of : (ss : List Strip) → Rising IsStripBefore ss → AreInOrder ss
unfolding AreInOrder Rising
order_of [] r = tt
order_of (s ∷ ss) r = (before_of s ss r.0, order_of ss r.1)

pub boundary_cover : (ss : List Strip) (es : List Edge) (p : PlanePoint) → AreOrdered ss → AreBoundary ss es → Covers es p ↔ Any (λ s. IsInStrip s p) ss
boundary_cover ss es p o b =
    subst (λ fs. Covers fs p ↔ Any (λ s. IsInStrip s p) ss) (sym b.all)
    (boundary_law ss b.parts p (sound_of ss o) (order_of ss o.order) (level_cover ss b.parts o b.level))
