-- One row of a sheet: which strips have a point in their first or last row, and the corners next to a point.
use Rattle.std.proofs.Common.{◌≡◌, refl, sym, subst, ap, ◌∙◌, ◌⊎◌, inl, inr, arith, List, [], ◌∷◌}
use Rattle.std.specs.Prelude.{ℤ, pos, ◌*ℤ◌, ◌<ℤ◌, ◌≤ℤ◌, ◌↔◌}
use Rattle.std.proofs.lemmas.Int.{ints, by_lt_z}
use Rattle.plane.specs.Plane.{PlanePoint}
use Rattle.grid_num.proofs.Products.{mul_lt, mul_lt_back}
use Rattle.grid_num.specs.declared.Point.{Point}
use Rattle.plane.specs.Covering.{Edge}
use Rattle.strips.specs.declared.Strip.{Strip}
use Rattle.strips.specs.Strips.{IsInStrip, IsTrapezoid}
use Rattle.strips.proofs.Slab.{IsRun, strip_between, between_strip, sides}
use Rattle.rings.specs.Boundary.{left_edge, right_edge, side_edges, IsCorner, HasCopperAbove, HasCopperBelow, AreNeighbours}
use Rattle.rings.proofs.Lists.{Has}
use Rattle.rings.proofs.Slits.{has_any, any_has}
use Rattle.rings.proofs.Sides.{AreOrdered}
use Rattle.rings.proofs.Boundary.{left_has, right_has}

pub run_of : (s : Strip) → IsTrapezoid s → IsRun s
run_of s t = record { left = t.left; right = t.right; start = t.start; finish = t.finish }

-- ---- the first and the last row of a strip
pub top_in : (s : Strip) (p : PlanePoint) → IsTrapezoid s → p.y ≡ pos p.scale *ℤ s.top → IsInStrip s p ↔ (((pos p.scale *ℤ s.left) ≤ℤ p.x) × (p.x ≤ℤ (pos p.scale *ℤ s.right)))
top_in s p t e =
    let r = run_of s t in
    let z = sides s p r in
    let a = z.2 in
    let b = z.3 in
    let d = mul_lt p.scale s.top s.bottom p.positive t.down in (
      λ i. (let h = strip_between s p z.0 z.1 t.down r a b i in let l = h.left in let m = h.right in (omega (arith, ints, a, e, l), omega (arith, ints, b, e, m))),
      λ i. (let l = i.0 in let m = i.1 in between_strip s p z.0 z.1 t.down r a b (record { top = omega (arith, ints, e); bottom = omega (arith, ints, e, d); left = omega (arith, ints, a, e, l); right = omega (arith, ints, b, e, m) })),
    )

pub bottom_in : (s : Strip) (p : PlanePoint) → IsTrapezoid s → p.y ≡ pos p.scale *ℤ s.bottom
    → IsInStrip s p ↔ (((pos p.scale *ℤ s.left_end) ≤ℤ p.x) × (p.x ≤ℤ (pos p.scale *ℤ s.right_end)))
bottom_in s p t e =
    let r = run_of s t in
    let z = sides s p r in
    let a = z.2 in
    let b = z.3 in
    let d = mul_lt p.scale s.top s.bottom p.positive t.down in (
      λ i. (let h = strip_between s p z.0 z.1 t.down r a b i in let l = h.left in let m = h.right in (omega (arith, ints, a, e, l), omega (arith, ints, b, e, m))),
      λ i. (let l = i.0 in let m = i.1 in between_strip s p z.0 z.1 t.down r a b (record { top = omega (arith, ints, e, d); bottom = omega (arith, ints, e); left = omega (arith, ints, a, e, l); right = omega (arith, ints, b, e, m) })),
    )

-- a strip whose first row, or last row, p is in
pub record IsUnder (ss : List Strip) (p : PlanePoint) (s : Strip) : Type 0 where
  pub one : Has ss s
  pub row : p.y ≡ pos p.scale *ℤ s.top
  pub from : (pos p.scale *ℤ s.left) ≤ℤ p.x
  pub to : p.x ≤ℤ (pos p.scale *ℤ s.right)

pub record IsOver (ss : List Strip) (p : PlanePoint) (s : Strip) : Type 0 where
  pub one : Has ss s
  pub row : p.y ≡ pos p.scale *ℤ s.bottom
  pub from : (pos p.scale *ℤ s.left_end) ≤ℤ p.x
  pub to : p.x ≤ℤ (pos p.scale *ℤ s.right_end)

pub under_of : (ss : List Strip) (p : PlanePoint) → AreOrdered ss → HasCopperBelow ss p → (s : Strip) × IsUnder ss p s
unfolding HasCopperBelow
under_of ss p o h =
    let r = any_has (λ s. IsInStrip s p × (p.y ≡ pos p.scale *ℤ s.top)) ss h in
    let i = (top_in r.0 p (o.shape r.0 r.1) (r.2).1).0 (r.2).0 in
    (r.0, record { one = r.1; row = (r.2).1; from = i.0; to = i.1 })

pub of_under : (ss : List Strip) (p : PlanePoint) (s : Strip) → AreOrdered ss → IsUnder ss p s → HasCopperBelow ss p
unfolding HasCopperBelow
of_under ss p s o u = has_any (λ s. IsInStrip s p × (p.y ≡ pos p.scale *ℤ s.top)) ss s u.one ((top_in s p (o.shape s u.one) u.row).1 (u.from, u.to), u.row)

pub over_of : (ss : List Strip) (p : PlanePoint) → AreOrdered ss → HasCopperAbove ss p → (s : Strip) × IsOver ss p s
unfolding HasCopperAbove
over_of ss p o h =
    let r = any_has (λ s. IsInStrip s p × (p.y ≡ pos p.scale *ℤ s.bottom)) ss h in
    let i = (bottom_in r.0 p (o.shape r.0 r.1) (r.2).1).0 (r.2).0 in
    (r.0, record { one = r.1; row = (r.2).1; from = i.0; to = i.1 })

pub of_over : (ss : List Strip) (p : PlanePoint) (s : Strip) → AreOrdered ss → IsOver ss p s → HasCopperAbove ss p
unfolding HasCopperAbove
of_over ss p s o u = has_any (λ s. IsInStrip s p × (p.y ≡ pos p.scale *ℤ s.bottom)) ss s u.one ((bottom_in s p (o.shape s u.one) u.row).1 (u.from, u.to), u.row)

-- ---- corners
pub top_left : (ss : List Strip) (s : Strip) → Has ss s → IsCorner ss (record { x = s.left; y = s.top })
unfolding IsCorner
top_left ss s h = has_any (λ e. (record { x = s.left; y = s.top } ≡ e.start) ⊎ (record { x = s.left; y = s.top } ≡ e.finish)) (side_edges ss) (left_edge s) (left_has ss s h) (inr refl)

pub top_right : (ss : List Strip) (s : Strip) → Has ss s → IsCorner ss (record { x = s.right; y = s.top })
unfolding IsCorner
top_right ss s h = has_any (λ e. (record { x = s.right; y = s.top } ≡ e.start) ⊎ (record { x = s.right; y = s.top } ≡ e.finish)) (side_edges ss) (right_edge s) (right_has ss s h) (inl refl)

pub bottom_left : (ss : List Strip) (s : Strip) → Has ss s → IsCorner ss (record { x = s.left_end; y = s.bottom })
unfolding IsCorner
bottom_left ss s h =
    has_any (λ e. (record { x = s.left_end; y = s.bottom } ≡ e.start) ⊎ (record { x = s.left_end; y = s.bottom } ≡ e.finish)) (side_edges ss) (left_edge s) (left_has ss s h) (inl refl)

pub bottom_right : (ss : List Strip) (s : Strip) → Has ss s → IsCorner ss (record { x = s.right_end; y = s.bottom })
unfolding IsCorner
bottom_right ss s h =
    has_any (λ e. (record { x = s.right_end; y = s.bottom } ≡ e.start) ⊎ (record { x = s.right_end; y = s.bottom } ≡ e.finish)) (side_edges ss) (right_edge s) (right_has ss s h) (inr refl)

unfoldable pub ends : List Edge → List Point
ends [] = []
ends (e ∷ es) = e.start ∷ e.finish ∷ ends es

unfoldable pub corners : List Strip → List Point
corners ss = ends (side_edges ss)

ends_has : (es : List Edge) (e : Edge) (a : Point) → Has es e → (a ≡ e.start) ⊎ (a ≡ e.finish) → Has (ends es) a
unfolding ends Has
ends_has [] e a h k = absurd h
ends_has (f ∷ es) e a (inl i) (inl k) = inl (ap (λ z. z.start) i ∙ sym k)
ends_has (f ∷ es) e a (inl i) (inr k) = inr (inl (ap (λ z. z.finish) i ∙ sym k))
ends_has (f ∷ es) e a (inr h) k = inr (inr (ends_has es e a h k))

has_ends : (es : List Edge) (a : Point) → Has (ends es) a → (e : Edge) × Has es e × ((a ≡ e.start) ⊎ (a ≡ e.finish))
unfolding ends Has
has_ends [] a h = absurd h
has_ends (e ∷ es) a (inl i) = (e, inl refl, inl (sym i))
has_ends (e ∷ es) a (inr (inl i)) = (e, inl refl, inr (sym i))
has_ends (e ∷ es) a (inr (inr h)) = let r = has_ends es a h in (r.0, inr r.1, r.2)

pub corner_has : (ss : List Strip) (a : Point) → IsCorner ss a → Has (corners ss) a
unfolding IsCorner corners
corner_has ss a i = let r = any_has (λ e. (a ≡ e.start) ⊎ (a ≡ e.finish)) (side_edges ss) i in ends_has (side_edges ss) r.0 a r.1 r.2

pub has_corner : (ss : List Strip) (a : Point) → Has (corners ss) a → IsCorner ss a
unfolding IsCorner corners
has_corner ss a h = let r = has_ends (side_edges ss) a h in has_any (λ e. (a ≡ e.start) ⊎ (a ≡ e.finish)) (side_edges ss) r.0 r.1 r.2

-- ---- the corners next to a point
-- of the list's corners in the row r, the last one on the left of p
pub record IsLastLeft (cs : List Point) (r : ℤ) (p : PlanePoint) (a : Point) : Type 0 where
  pub one : Has cs a
  pub row : a.y ≡ r
  pub left : (pos p.scale *ℤ a.x) <ℤ p.x
  pub last : (c : Point) → Has cs c → c.y ≡ r → (pos p.scale *ℤ c.x) <ℤ p.x → c.x ≤ℤ a.x

unfoldable pub NoneLeft : List Point → ℤ → PlanePoint → Type 0
NoneLeft cs r p = (c : Point) → Has cs c → c.y ≡ r → (pos p.scale *ℤ c.x) <ℤ p.x → ⊥

abbrev pub LeftCase : List Point → ℤ → PlanePoint → Type 0
LeftCase cs r p = ((a : Point) × IsLastLeft cs r p a) ⊎ NoneLeft cs r p

passed_left : (c : Point) (cs : List Point) (r : ℤ) (p : PlanePoint) → (c.y ≡ r → (pos p.scale *ℤ c.x) <ℤ p.x → ⊥) → LeftCase cs r p → LeftCase (c ∷ cs) r p
unfolding NoneLeft Has
passed_left c cs r p n (inl (a, l)) =
    inl (a, record { one = inr l.one; row = l.row; left = l.left; last = λ d h y m. elim h [ inl e ↦ absurd (n (ap (λ z. z.y) e ∙ y) (subst (λ z. (pos p.scale *ℤ z.x) <ℤ p.x) (sym e) m)) | inr h ↦ l.last d h y m ] })
passed_left c cs r p n (inr f) = inr (λ d h y m. elim h [ inl e ↦ n (ap (λ z. z.y) e ∙ y) (subst (λ z. (pos p.scale *ℤ z.x) <ℤ p.x) (sym e) m) | inr h ↦ f d h y m ])

taken_left : (c : Point) (cs : List Point) (r : ℤ) (p : PlanePoint) → c.y ≡ r → (pos p.scale *ℤ c.x) <ℤ p.x → LeftCase cs r p → LeftCase (c ∷ cs) r p
unfolding NoneLeft Has
taken_left c cs r p y m (inl (a, l)) =
    by_lt_z {P = LeftCase (c ∷ cs) r p} a.x c.x
    (λ b. inl (c, record { one = inl refl; row = y; left = m; last = λ d h z n. elim h [ inl e ↦ (let k = ap (λ z. z.x) e in omega (arith, ints, k)) | inr h ↦ (let k = l.last d h z n in omega (arith, ints, k, b)) ] }))
    (λ b. inl (a, record { one = inr l.one; row = l.row; left = l.left; last = λ d h z n. elim h [ inl e ↦ (let k = ap (λ z. z.x) e in omega (arith, ints, k, b)) | inr h ↦ l.last d h z n ] }))
taken_left c cs r p y m (inr f) =
    inl (c, record { one = inl refl; row = y; left = m; last = λ d h z n. elim h [ inl e ↦ (let k = ap (λ z. z.x) e in omega (arith, ints, k)) | inr h ↦ absurd (f d h z n) ] })

pub last_left : (cs : List Point) (r : ℤ) (p : PlanePoint) → LeftCase cs r p
unfolding NoneLeft Has
last_left [] r p = inr (λ c h y m. h)
last_left (c ∷ cs) r p =
    let more = last_left cs r p in
    by_lt_z {P = LeftCase (c ∷ cs) r p} (pos p.scale *ℤ c.x) p.x
    (λ m. by_lt_z {P = LeftCase (c ∷ cs) r p} c.y r (λ u. passed_left c cs r p (λ y n. omega (arith, ints, u, y)) more)
    (λ u. by_lt_z {P = LeftCase (c ∷ cs) r p} r c.y (λ v. passed_left c cs r p (λ y n. omega (arith, ints, v, y)) more) (λ v. taken_left c cs r p (omega (arith, ints, u, v)) m more)))
    (λ m. passed_left c cs r p (λ y n. omega (arith, ints, m, n)) more)

-- and the first one on the right
record IsFirstRight (cs : List Point) (r : ℤ) (p : PlanePoint) (a : Point) : Type 0 where
  one : Has cs a
  row : a.y ≡ r
  right : p.x <ℤ (pos p.scale *ℤ a.x)
  first : (c : Point) → Has cs c → c.y ≡ r → p.x <ℤ (pos p.scale *ℤ c.x) → a.x ≤ℤ c.x

NoneRight : List Point → ℤ → PlanePoint → Type 0
NoneRight cs r p = (c : Point) → Has cs c → c.y ≡ r → p.x <ℤ (pos p.scale *ℤ c.x) → ⊥

abbrev RightCase : List Point → ℤ → PlanePoint → Type 0
RightCase cs r p = ((a : Point) × IsFirstRight cs r p a) ⊎ NoneRight cs r p

passed_right : (c : Point) (cs : List Point) (r : ℤ) (p : PlanePoint) → (c.y ≡ r → p.x <ℤ (pos p.scale *ℤ c.x) → ⊥) → RightCase cs r p → RightCase (c ∷ cs) r p
unfolding NoneRight Has
passed_right c cs r p n (inl (a, l)) =
    inl (a, record { one = inr l.one; row = l.row; right = l.right; first = λ d h y m. elim h [ inl e ↦ absurd (n (ap (λ z. z.y) e ∙ y) (subst (λ z. p.x <ℤ (pos p.scale *ℤ z.x)) (sym e) m)) | inr h ↦ l.first d h y m ] })
passed_right c cs r p n (inr f) = inr (λ d h y m. elim h [ inl e ↦ n (ap (λ z. z.y) e ∙ y) (subst (λ z. p.x <ℤ (pos p.scale *ℤ z.x)) (sym e) m) | inr h ↦ f d h y m ])

taken_right : (c : Point) (cs : List Point) (r : ℤ) (p : PlanePoint) → c.y ≡ r → p.x <ℤ (pos p.scale *ℤ c.x) → RightCase cs r p → RightCase (c ∷ cs) r p
unfolding NoneRight Has
taken_right c cs r p y m (inl (a, l)) =
    by_lt_z {P = RightCase (c ∷ cs) r p} c.x a.x
    (λ b. inl (c, record { one = inl refl; row = y; right = m; first = λ d h z n. elim h [ inl e ↦ (let k = ap (λ z. z.x) e in omega (arith, ints, k)) | inr h ↦ (let k = l.first d h z n in omega (arith, ints, k, b)) ] }))
    (λ b. inl (a, record { one = inr l.one; row = l.row; right = l.right; first = λ d h z n. elim h [ inl e ↦ (let k = ap (λ z. z.x) e in omega (arith, ints, k, b)) | inr h ↦ l.first d h z n ] }))
taken_right c cs r p y m (inr f) =
    inl (c, record { one = inl refl; row = y; right = m; first = λ d h z n. elim h [ inl e ↦ (let k = ap (λ z. z.x) e in omega (arith, ints, k)) | inr h ↦ absurd (f d h z n) ] })

first_right : (cs : List Point) (r : ℤ) (p : PlanePoint) → RightCase cs r p
unfolding NoneRight Has
first_right [] r p = inr (λ c h y m. h)
first_right (c ∷ cs) r p =
    let more = first_right cs r p in
    by_lt_z {P = RightCase (c ∷ cs) r p} p.x (pos p.scale *ℤ c.x)
    (λ m. by_lt_z {P = RightCase (c ∷ cs) r p} c.y r (λ u. passed_right c cs r p (λ y n. omega (arith, ints, u, y)) more)
    (λ u. by_lt_z {P = RightCase (c ∷ cs) r p} r c.y (λ v. passed_right c cs r p (λ y n. omega (arith, ints, v, y)) more) (λ v. taken_right c cs r p (omega (arith, ints, u, v)) m more)))
    (λ m. passed_right c cs r p (λ y n. omega (arith, ints, m, n)) more)

-- a point of the row that is no corner, with corners on both sides, is between neighbours
unfoldable pub NoCorner : List Strip → ℤ → PlanePoint → Type 0
NoCorner ss r p = (c : Point) → IsCorner ss c → c.y ≡ r → p.x ≡ pos p.scale *ℤ c.x → ⊥

pub record IsGap (ss : List Strip) (r : ℤ) (p : PlanePoint) (a b : Point) : Type 0 where
  pub are : AreNeighbours ss a b
  pub row : a.y ≡ r
  pub left : (pos p.scale *ℤ a.x) <ℤ p.x
  pub right : p.x <ℤ (pos p.scale *ℤ b.x)

pub gap : (ss : List Strip) (r : ℤ) (p : PlanePoint) (c d : Point) → NoCorner ss r p → IsCorner ss c → c.y ≡ r → (pos p.scale *ℤ c.x) <ℤ p.x
    → IsCorner ss d → d.y ≡ r → p.x <ℤ (pos p.scale *ℤ d.x) → (a : Point) × (b : Point) × IsGap ss r p a b
unfolding NoCorner NoneLeft NoneRight
gap ss r p c d n ci cy cx di dy dx = elim (last_left (corners ss) r p) [
  | inr f ↦ absurd (f c (corner_has ss c ci) cy cx)
  | inl l ↦ elim (first_right (corners ss) r p) [
    | inr f ↦ absurd (f d (corner_has ss d di) dy dx)
    | inl m ↦
        let a = l.0 in
        let b = m.0 in
        let al = (l.1).left in
        let br = (m.1).right in (
          a,
          b,
          record {
            are = record {
              first = has_corner ss a (l.1).one;
              second = has_corner ss b (m.1).one;
              level = (l.1).row ∙ sym (m.1).row;
              rising = mul_lt_back p.scale a.x b.x (omega (arith, ints, al, br));
              next = λ e i y u v. by_lt_z {P = ⊥} (pos p.scale *ℤ e.x) p.x
                  (λ k. (let w = (l.1).last e (corner_has ss e i) (y ∙ (l.1).row) k in omega (arith, ints, w, u)))
                  (λ k. by_lt_z {P = ⊥} p.x (pos p.scale *ℤ e.x)
                  (λ j. (let w = (m.1).first e (corner_has ss e i) (y ∙ (l.1).row) j in omega (arith, ints, w, v)))
                  (λ j. n e i (y ∙ (l.1).row) (omega (arith, ints, k, j))));
            };
            row = (l.1).row;
            left = al;
            right = br;
          },
        )
  ]
]
