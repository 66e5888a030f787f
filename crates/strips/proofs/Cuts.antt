-- Cuts by whole numbers: where a row that cuts is met by two sides, they meet at a whole coordinate.
use Rattle.std.proofs.Common.{◌≡◌, subst, refl, sym, ◌∙◌, ap, ℕ, ◌⊎◌, inl, inr, arith, List}
use Rattle.std.specs.Prelude.{ℤ, pos, ◌+ℤ◌, ◌-ℤ◌, ◌*ℤ◌, Contains}
use Rattle.std.proofs.lemmas.Int.{ints}
use Rattle.plane.specs.Plane.{PlanePoint, Bounds, Within, times, In, grid_point}
use Rattle.grid_num.proofs.Products.{mul_le_back, mul_add, mul_sub}
use Rattle.plane.proofs.Moved.{grid_law}
use Rattle.plane.proofs.On.{same_pos}
use Rattle.strips.specs.Strips.{Direction, Level, Upright, Rising, Falling, IsOnSide, IsCrossing, IsCutRow}
use Rattle.strips.specs.Laws.{WholeCrossingLaw}

-- the place (x, y) is on a side of that direction
unfoldable pub IsSideAt : Bounds → Direction → ℤ → ℤ → Type 0
IsSideAt b Level x y = Within b x y × ((y ≡ b.y0) ⊎ (y ≡ b.y1))
IsSideAt b Upright x y = Within b x y × ((x ≡ b.x0) ⊎ (x ≡ b.x1))
IsSideAt b Rising x y = Within b x y × ((x -ℤ y ≡ b.d0) ⊎ (x -ℤ y ≡ b.d1))
IsSideAt b Falling x y = Within b x y × ((x +ℤ y ≡ b.s0) ⊎ (x +ℤ y ≡ b.s1))

-- sides of two directions meet in the row at a whole coordinate
unfoldable pub IsCutAt : List Bounds → ℤ → Type 0
IsCutAt os r =
    (a : Bounds) × (b : Bounds) × (i : Direction) × (j : Direction) × (x : ℤ)
    × Contains os a × Contains os b × (i ≡ j → ⊥) × IsSideAt a i x r × IsSideAt b j x r

-- ---- from whole places to points
whole_side : (b : Bounds) (i : Direction) (x y : ℤ) → IsSideAt b i x y → IsOnSide b i (grid_point x y)
unfolding IsSideAt IsOnSide
whole_side b Level x y h = ((grid_law b x y).1 h.0, elim (h.1) [ inl e ↦ inl (omega (arith, ints, e)) | inr e ↦ inr (omega (arith, ints, e)) ])
whole_side b Upright x y h = ((grid_law b x y).1 h.0, elim (h.1) [ inl e ↦ inl (omega (arith, ints, e)) | inr e ↦ inr (omega (arith, ints, e)) ])
whole_side b Rising x y h = ((grid_law b x y).1 h.0, elim (h.1) [ inl e ↦ inl (omega (arith, ints, e)) | inr e ↦ inr (omega (arith, ints, e)) ])
whole_side b Falling x y h = ((grid_law b x y).1 h.0, elim (h.1) [ inl e ↦ inl (omega (arith, ints, e)) | inr e ↦ inr (omega (arith, ints, e)) ])

pub cut_of : (os : List Bounds) (r : ℤ) → IsCutAt os r → IsCutRow os r
unfolding IsCutAt IsCutRow IsCrossing
cut_of os r h =
    (h.0, h.1, h.5, h.6, grid_point h.4 r, (h.2, h.3, h.7, whole_side h.0 h.2 h.4 r h.8, whole_side h.1 h.3 h.4 r h.9), omega (arith, ints))

-- ---- and back
-- p stands at the whole place (x, y)
record IsPlace (p : PlanePoint) (x y : ℤ) : Type 0 where
  x_is : p.x ≡ pos p.scale *ℤ x
  y_is : p.y ≡ pos p.scale *ℤ y

at_place : (b : Bounds) (p : PlanePoint) (x y : ℤ) → IsPlace p x y → In b p → Within b x y
at_place b p x y e i =
    let f = e.x_is in
    let g = e.y_is in
    let k = p.scale in
    let one = p.positive in
    let l0 = i.x_low in
    let l1 = i.x_high in
    let l2 = i.y_low in
    let l3 = i.y_high in
    let l4 = i.s_low in
    let l5 = i.s_high in
    let l6 = i.d_low in
    let l7 = i.d_high in
    record {
      x_low = mul_le_back k b.x0 x one (omega (arith, ints, f, l0));
      x_high = mul_le_back k x b.x1 one (omega (arith, ints, f, l1));
      y_low = mul_le_back k b.y0 y one (omega (arith, ints, g, l2));
      y_high = mul_le_back k y b.y1 one (omega (arith, ints, g, l3));
      s_low = mul_le_back k b.s0 (x +ℤ y) one (omega (arith, ints, f, g, l4, mul_add k x y));
      s_high = mul_le_back k (x +ℤ y) b.s1 one (omega (arith, ints, f, g, l5, mul_add k x y));
      d_low = mul_le_back k b.d0 (x -ℤ y) one (omega (arith, ints, f, g, l6, mul_sub k x y));
      d_high = mul_le_back k (x -ℤ y) b.d1 one (omega (arith, ints, f, g, l7, mul_sub k x y));
    }

same_sum : (p : PlanePoint) (x y s : ℤ) → IsPlace p x y → p.x +ℤ p.y ≡ pos p.scale *ℤ s → x +ℤ y ≡ s
same_sum p x y s e h = let f = e.x_is in let g = e.y_is in same_pos p.scale (x +ℤ y) s p.positive (omega (arith, ints, f, g, h, mul_add p.scale x y))

same_difference : (p : PlanePoint) (x y d : ℤ) → IsPlace p x y → p.x -ℤ p.y ≡ pos p.scale *ℤ d → x -ℤ y ≡ d
same_difference p x y d e h = let f = e.x_is in let g = e.y_is in same_pos p.scale (x -ℤ y) d p.positive (omega (arith, ints, f, g, h, mul_sub p.scale x y))

side_place : (b : Bounds) (i : Direction) (p : PlanePoint) (x y : ℤ) → IsPlace p x y → IsOnSide b i p → IsSideAt b i x y
unfolding IsSideAt IsOnSide
side_place b Level p x y e h = (
  at_place b p x y e h.0,
  elim (h.1) [
    | inl g ↦ inl (same_pos p.scale y b.y0 p.positive (sym e.y_is ∙ g))
    | inr g ↦ inr (same_pos p.scale y b.y1 p.positive (sym e.y_is ∙ g))
  ],
)
side_place b Upright p x y e h = (
  at_place b p x y e h.0,
  elim (h.1) [
    | inl g ↦ inl (same_pos p.scale x b.x0 p.positive (sym e.x_is ∙ g))
    | inr g ↦ inr (same_pos p.scale x b.x1 p.positive (sym e.x_is ∙ g))
  ],
)
side_place b Rising p x y e h = (at_place b p x y e h.0, elim (h.1) [ inl g ↦ inl (same_difference p x y b.d0 e g) | inr g ↦ inr (same_difference p x y b.d1 e g) ])
side_place b Falling p x y e h = (at_place b p x y e h.0, elim (h.1) [ inl g ↦ inl (same_sum p x y b.s0 e g) | inr g ↦ inr (same_sum p x y b.s1 e g) ])

-- a point of a whole row on a side that isn't level has a whole x
IsWholeAt : PlanePoint → Type 0
IsWholeAt p = (x : ℤ) × (p.x ≡ pos p.scale *ℤ x)

from_side : (b : Bounds) (i : Direction) (p : PlanePoint) (r : ℤ) → (i ≡ Level → ⊥) → p.y ≡ pos p.scale *ℤ r → IsOnSide b i p → IsWholeAt p
unfolding IsOnSide IsWholeAt
from_side b Level p r n e h = absurd (n refl)
from_side b Upright p r n e h = elim (h.1) [ inl g ↦ (b.x0, g) | inr g ↦ (b.x1, g) ]
from_side b Rising p r n e h =
    elim (h.1) [ inl g ↦ (b.d0 +ℤ r, omega (arith, ints, e, g, mul_add p.scale b.d0 r)) | inr g ↦ (b.d1 +ℤ r, omega (arith, ints, e, g, mul_add p.scale b.d1 r)) ]
from_side b Falling p r n e h =
    elim (h.1) [ inl g ↦ (b.s0 -ℤ r, omega (arith, ints, e, g, mul_sub p.scale b.s0 r)) | inr g ↦ (b.s1 -ℤ r, omega (arith, ints, e, g, mul_sub p.scale b.s1 r)) ]

-- the directions told apart
IsLevel : Direction → Type 0
IsLevel Level = Unit {0}
IsLevel i = ⊥

sloped : (i : Direction) → (IsLevel i → ⊥) → i ≡ Level → ⊥
unfolding IsLevel
sloped i n e = n (subst IsLevel (sym e) tt)

one_sloped : (a b : Bounds) (i j : Direction) (p : PlanePoint) (r : ℤ) → (i ≡ j → ⊥) → p.y ≡ pos p.scale *ℤ r → IsOnSide a i p → IsOnSide b j p → IsWholeAt p
unfolding IsLevel
one_sloped a b Level Level p r n e g h = absurd (n refl)
one_sloped a b Level Upright p r n e g h = from_side b Upright p r (sloped Upright (λ z. z)) e h
one_sloped a b Level Rising p r n e g h = from_side b Rising p r (sloped Rising (λ z. z)) e h
one_sloped a b Level Falling p r n e g h = from_side b Falling p r (sloped Falling (λ z. z)) e h
one_sloped a b Upright j p r n e g h = from_side a Upright p r (sloped Upright (λ z. z)) e g
one_sloped a b Rising j p r n e g h = from_side a Rising p r (sloped Rising (λ z. z)) e g
one_sloped a b Falling j p r n e g h = from_side a Falling p r (sloped Falling (λ z. z)) e g

pub cut_at : (os : List Bounds) (r : ℤ) → IsCutRow os r → IsCutAt os r
unfolding IsCutAt IsCutRow IsCrossing IsWholeAt
cut_at os r h =
    let c = h.5 in
    let w = one_sloped h.0 h.1 c.0 c.1 h.4 r c.2 h.6 c.3 c.4 in
    let e : IsPlace h.4 w.0 r = record { x_is = w.1; y_is = h.6 } in
    (h.0, h.1, c.0, c.1, w.0, h.2, h.3, c.2, side_place h.0 c.0 h.4 w.0 r e c.3, side_place h.1 c.1 h.4 w.0 r e c.4)

-- ---- crossings are whole
-- a number that is twice another
unfoldable pub IsEven : ℤ → Type 0
IsEven z = (h : ℤ) × (z ≡ h +ℤ h)

both_even : (k : ℕ) (x y s d : ℤ) → x +ℤ y ≡ pos k *ℤ (pos 2 *ℤ s) → x -ℤ y ≡ pos k *ℤ (pos 2 *ℤ d) → ((u : ℤ) × (x ≡ pos k *ℤ u)) × ((v : ℤ) × (y ≡ pos k *ℤ v))
both_even k x y s d e f =
    let s2 = two s in
    let d2 = two d in
    ((s +ℤ d, omega (arith, ints, e, f, s2, d2, mul_add k s d)), (s -ℤ d, omega (arith, ints, e, f, s2, d2, mul_sub k s d)))
  where
    two : (z : ℤ) → pos k *ℤ (pos 2 *ℤ z) ≡ pos k *ℤ z +ℤ pos k *ℤ z
    two z = ap (λ (w : ℤ). pos k *ℤ w) (double z) ∙ mul_add k z z
      where
        double : (z : ℤ) → pos 2 *ℤ z ≡ z +ℤ z
        double z = omega (arith, ints)

-- a coordinate of p, or the sum or the difference of both, is a whole number
IsOnLine : Direction → PlanePoint → ℤ → Type 0
IsOnLine Level p z = p.y ≡ pos p.scale *ℤ (pos 2 *ℤ z)
IsOnLine Upright p z = p.x ≡ pos p.scale *ℤ (pos 2 *ℤ z)
IsOnLine Rising p z = p.x -ℤ p.y ≡ pos p.scale *ℤ (pos 2 *ℤ z)
IsOnLine Falling p z = p.x +ℤ p.y ≡ pos p.scale *ℤ (pos 2 *ℤ z)

line_of : (b : Bounds) (i : Direction) (p : PlanePoint) → IsOnSide (times 2 b) i p → (z : ℤ) × IsOnLine i p z
unfolding IsOnSide IsOnLine
line_of b Level p h = elim (h.1) [ inl e ↦ (b.y0, e) | inr e ↦ (b.y1, e) ]
line_of b Upright p h = elim (h.1) [ inl e ↦ (b.x0, e) | inr e ↦ (b.x1, e) ]
line_of b Rising p h = elim (h.1) [ inl e ↦ (b.d0, e) | inr e ↦ (b.d1, e) ]
line_of b Falling p h = elim (h.1) [ inl e ↦ (b.s0, e) | inr e ↦ (b.s1, e) ]

abbrev IsWholePair : PlanePoint → Type 0
IsWholePair p = ((u : ℤ) × (p.x ≡ pos p.scale *ℤ u)) × ((v : ℤ) × (p.y ≡ pos p.scale *ℤ v))

-- two lines of different directions: one of the two with each of those that come after it
lines_meet : (i j : Direction) (p : PlanePoint) (a b : ℤ) → (i ≡ j → ⊥) → IsOnLine i p a → IsOnLine j p b → IsWholePair p
unfolding IsOnLine
lines_meet Level Level p a b n g h = absurd (n refl)
lines_meet Level Upright p a b n g h = ((pos 2 *ℤ b, h), (pos 2 *ℤ a, g))
lines_meet Level Rising p a b n g h = ((pos 2 *ℤ a +ℤ pos 2 *ℤ b, omega (arith, ints, g, h, mul_add p.scale (pos 2 *ℤ a) (pos 2 *ℤ b))), (pos 2 *ℤ a, g))
lines_meet Level Falling p a b n g h = ((pos 2 *ℤ b -ℤ pos 2 *ℤ a, omega (arith, ints, g, h, mul_sub p.scale (pos 2 *ℤ b) (pos 2 *ℤ a))), (pos 2 *ℤ a, g))
lines_meet Upright Level p a b n g h = ((pos 2 *ℤ a, g), (pos 2 *ℤ b, h))
lines_meet Upright Upright p a b n g h = absurd (n refl)
lines_meet Upright Rising p a b n g h = ((pos 2 *ℤ a, g), (pos 2 *ℤ a -ℤ pos 2 *ℤ b, omega (arith, ints, g, h, mul_sub p.scale (pos 2 *ℤ a) (pos 2 *ℤ b))))
lines_meet Upright Falling p a b n g h = ((pos 2 *ℤ a, g), (pos 2 *ℤ b -ℤ pos 2 *ℤ a, omega (arith, ints, g, h, mul_sub p.scale (pos 2 *ℤ b) (pos 2 *ℤ a))))
lines_meet Rising Level p a b n g h = ((pos 2 *ℤ b +ℤ pos 2 *ℤ a, omega (arith, ints, g, h, mul_add p.scale (pos 2 *ℤ b) (pos 2 *ℤ a))), (pos 2 *ℤ b, h))
lines_meet Rising Upright p a b n g h = ((pos 2 *ℤ b, h), (pos 2 *ℤ b -ℤ pos 2 *ℤ a, omega (arith, ints, g, h, mul_sub p.scale (pos 2 *ℤ b) (pos 2 *ℤ a))))
lines_meet Rising Rising p a b n g h = absurd (n refl)
lines_meet Rising Falling p a b n g h = both_even p.scale p.x p.y b a h g
lines_meet Falling Level p a b n g h = ((pos 2 *ℤ a -ℤ pos 2 *ℤ b, omega (arith, ints, g, h, mul_sub p.scale (pos 2 *ℤ a) (pos 2 *ℤ b))), (pos 2 *ℤ b, h))
lines_meet Falling Upright p a b n g h = ((pos 2 *ℤ b, h), (pos 2 *ℤ a -ℤ pos 2 *ℤ b, omega (arith, ints, g, h, mul_sub p.scale (pos 2 *ℤ a) (pos 2 *ℤ b))))
lines_meet Falling Rising p a b n g h = both_even p.scale p.x p.y a b g h
lines_meet Falling Falling p a b n g h = absurd (n refl)

pub whole_law : WholeCrossingLaw
unfolding IsCrossing
whole_law a b p h =
    let x = line_of a h.0 p h.3 in
    let y = line_of b h.1 p h.4 in
    let w = lines_meet h.0 h.1 p x.0 y.0 h.2 x.1 y.1 in
    record { x = w.0; y = w.1 }
