-- The side lines of octagons do not cross between two neighbouring rows at which sides meet.
use Rattle.std.proofs.Common.{◌≡◌, subst, refl, ◌∙◌, ◌⊎◌, inl, inr, arith, List}
use Rattle.std.specs.Prelude.{ℤ, pos, ◌+ℤ◌, ◌-ℤ◌, ◌*ℤ◌, ◌≤ℤ◌, ◌<ℤ◌, Contains}
use Rattle.std.proofs.lemmas.Int.{ints, by_lt_z}
use Rattle.plane.specs.Plane.{Bounds, Within, times, IsTight}
use Rattle.plane.proofs.Tight.{top_left_x, bottom_left_x, top_right_x, bottom_right_x, top_left_y, bottom_left_y}
use Rattle.strips.specs.declared.Strip.{Strip}
use Rattle.strips.specs.Strips.{Direction, Level, Upright, Rising, Falling, IsStout}
use Rattle.strips.proofs.Cuts.{IsSideAt, IsCutAt, IsEven}
use Rattle.strips.proofs.Slab.{IsAt, IsMost, IsFewest, IsAcross, IsRunOf, IsNotRight, left_law, right_law, run_IsRun}

-- ---- the directions differ
IsKind : Direction → Direction → Type 0
IsKind Level Level = Unit {0}
IsKind Upright Upright = Unit {0}
IsKind Rising Rising = Unit {0}
IsKind Falling Falling = Unit {0}
IsKind i j = ⊥

kind_same : (i : Direction) → IsKind i i
unfolding IsKind
kind_same Level = tt
kind_same Upright = tt
kind_same Rising = tt
kind_same Falling = tt

differ : (i j : Direction) → (IsKind i j → ⊥) → i ≡ j → ⊥
differ i j h e = h (subst (λ (d : Direction). IsKind i d) e (kind_same i))

pub upright_falling : Upright ≡ Falling → ⊥
unfolding IsKind
upright_falling = differ Upright Falling (λ h. h)

pub upright_rising : Upright ≡ Rising → ⊥
unfolding IsKind
upright_rising = differ Upright Rising (λ h. h)

pub rising_upright : Rising ≡ Upright → ⊥
unfolding IsKind
rising_upright = differ Rising Upright (λ h. h)

pub rising_falling : Rising ≡ Falling → ⊥
unfolding IsKind
rising_falling = differ Rising Falling (λ h. h)

pub level_falling : Level ≡ Falling → ⊥
unfolding IsKind
level_falling = differ Level Falling (λ h. h)

pub level_rising : Level ≡ Rising → ⊥
unfolding IsKind
level_rising = differ Level Rising (λ h. h)

-- ---- corners are cuts
cut_left_upper : (os : List Bounds) (b : Bounds) → Contains os b → IsTight b → IsCutAt os (b.s0 -ℤ b.x0)
unfolding IsCutAt IsSideAt
cut_left_upper os b c t =
    let w = top_left_x b t in
    (b, b, Upright, Falling, b.x0, c, c, upright_falling, (w, inl refl), (w, inl (omega (arith, ints))))

cut_left_lower : (os : List Bounds) (b : Bounds) → Contains os b → IsTight b → IsCutAt os (b.x0 -ℤ b.d0)
unfolding IsCutAt IsSideAt
cut_left_lower os b c t =
    let w = bottom_left_x b t in
    (b, b, Upright, Rising, b.x0, c, c, upright_rising, (w, inl refl), (w, inl (omega (arith, ints))))

cut_right_upper : (os : List Bounds) (b : Bounds) → Contains os b → IsTight b → IsCutAt os (b.x1 -ℤ b.d1)
unfolding IsCutAt IsSideAt
cut_right_upper os b c t =
    let w = top_right_x b t in
    (b, b, Upright, Rising, b.x1, c, c, upright_rising, (w, inr refl), (w, inr (omega (arith, ints))))

cut_right_lower : (os : List Bounds) (b : Bounds) → Contains os b → IsTight b → IsCutAt os (b.s1 -ℤ b.x1)
unfolding IsCutAt IsSideAt
cut_right_lower os b c t =
    let w = bottom_right_x b t in
    (b, b, Upright, Falling, b.x1, c, c, upright_falling, (w, inr refl), (w, inr (omega (arith, ints))))

pub cut_top : (os : List Bounds) (b : Bounds) → Contains os b → IsTight b → IsCutAt os b.y0
unfolding IsCutAt IsSideAt
cut_top os b c t =
    let w = top_left_y b t in
    (b, b, Level, Falling, b.s0 -ℤ b.y0, c, c, level_falling, (w, inl refl), (w, inl (omega (arith, ints))))

pub cut_bottom : (os : List Bounds) (b : Bounds) → Contains os b → IsTight b → IsCutAt os b.y1
unfolding IsCutAt IsSideAt
cut_bottom os b c t =
    let w = bottom_left_y b t in
    (b, b, Level, Rising, b.d0 +ℤ b.y1, c, c, level_rising, (w, inr refl), (w, inl (omega (arith, ints))))

-- a cut is not strictly between
aside : (os : List Bounds) (t u r : ℤ) → ((r : ℤ) → t <ℤ r → r <ℤ u → IsCutAt os r → ⊥) → IsCutAt os r → (r ≤ℤ t) ⊎ (u ≤ℤ r)
aside os t u r clean cut =
    by_lt_z {P = (r ≤ℤ t) ⊎ (u ≤ℤ r)} t r (λ l. by_lt_z {P = (r ≤ℤ t) ⊎ (u ≤ℤ r)} r u (λ m. absurd (clean r l m cut)) (λ m. inr m)) (λ l. inl l)

-- an octagon with a row between the rows reaches across
pub IsClean : List Bounds → ℤ → ℤ → Type 0
IsClean os t u = (r : ℤ) → t <ℤ r → r <ℤ u → IsCutAt os r → ⊥

pub across : (os : List Bounds) (b : Bounds) (t u : ℤ) → Contains os b → IsTight b → t <ℤ u → IsClean os t u → b.y0 ≤ℤ t → u ≤ℤ b.y1 → IsAcross b t u
unfolding IsClean
across os b t u c g d clean h1 h2 =
    record {
      down = d;
      top = h1;
      bottom = h2;
      left_upper = aside os t u (b.s0 -ℤ b.x0) clean (cut_left_upper os b c g);
      left_lower = aside os t u (b.x0 -ℤ b.d0) clean (cut_left_lower os b c g);
      right_upper = aside os t u (b.x1 -ℤ b.d1) clean (cut_right_upper os b c g);
      right_lower = aside os t u (b.s1 -ℤ b.x1) clean (cut_right_lower os b c g);
    }

-- ---- the lines of sides
pub IsLean : Direction → ℤ → ℤ → ℤ → ℤ → Type 0
IsLean Level t u l le = ⊥
IsLean Upright t u l le = le ≡ l
IsLean Rising t u l le = (le -ℤ l ≡ u -ℤ t) × IsEven (l -ℤ t)
IsLean Falling t u l le = (le -ℤ l ≡ t -ℤ u) × IsEven (l +ℤ t)

-- the line from l to le is a side's
pub record IsSideLine (os : List Bounds) (t u l le : ℤ) : Type 0 where
  pub direction : Direction
  pub lean : IsLean direction t u l le
  pub side : (r v : ℤ) → t ≤ℤ r → r ≤ℤ u → IsAt t u l le r v → (b : Bounds) × Contains os b × IsSideAt b direction v r

-- where two lines change their order, they meet strictly between in a whole row
IsMet : (os : List Bounds) (t u : ℤ) → Type 0
IsMet os t u = (r : ℤ) × (t <ℤ r) × (r <ℤ u) × IsCutAt os r

cut_from : (os : List Bounds) (t u l le m me r v : ℤ) (f : IsSideLine os t u l le) (g : IsSideLine os t u m me) → (f.direction ≡ g.direction → ⊥)
    → t <ℤ r → r <ℤ u → IsAt t u l le r v → IsAt t u m me r v → IsMet os t u
unfolding IsMet IsCutAt
cut_from os t u l le m me r v f g d h1 h2 a b =
    let x = f.side r v (omega (arith, ints)) (omega (arith, ints)) a in
    let y = g.side r v (omega (arith, ints)) (omega (arith, ints)) b in
    (r, h1, h2, (x.0, y.0, f.direction, g.direction, v, x.1, y.1, d, x.2, y.2))

-- the row, by the directions
IsThere : Direction → Direction → ℤ → ℤ → ℤ → ℤ → ℤ → ℤ → Type 0
IsThere i j t u l le m me = (i ≡ j → ⊥) × ((r : ℤ) × (v : ℤ) × (t <ℤ r) × (r <ℤ u) × IsAt t u l le r v × IsAt t u m me r v)

there : (i j : Direction) (t u l le m me : ℤ) → IsLean i t u l le → IsLean j t u m me → t <ℤ u → l <ℤ m → me <ℤ le → IsThere i j t u l le m me
unfolding IsLean IsThere IsEven
there Level j t u l le m me a b d h k = absurd a
there Upright Level t u l le m me a b d h k = absurd b
there Upright Upright t u l le m me a b d h k = absurd (omega (arith, ints))
there Upright Rising t u l le m me a b d h k = absurd (omega (arith, ints))
there Upright Falling t u l le m me a b d h k =
    (upright_falling, (t +ℤ (m -ℤ l), l, omega (arith, ints), omega (arith, ints), inl (a, refl), inr (inr (b.0, omega (arith, ints)))))
there Rising Level t u l le m me a b d h k = absurd b
there Rising Upright t u l le m me a b d h k =
    (rising_upright, (t +ℤ (m -ℤ l), m, omega (arith, ints), omega (arith, ints), inr (inl (a.0, omega (arith, ints))), inl (b, refl)))
there Rising Rising t u l le m me a b d h k = absurd (omega (arith, ints))
there Rising Falling t u l le m me a b d h k =
    let e = a.1.1 in
    let f = b.1.1 in
    (rising_falling, (b.1.0 -ℤ a.1.0, a.1.0 +ℤ b.1.0, omega (arith, ints), omega (arith, ints), inr (inl (a.0, omega (arith, ints))), inr (inr (b.0, omega (arith, ints)))))
there Falling Level t u l le m me a b d h k = absurd b
there Falling Upright t u l le m me a b d h k = absurd (omega (arith, ints))
there Falling Rising t u l le m me a b d h k = absurd (omega (arith, ints))
there Falling Falling t u l le m me a b d h k = absurd (omega (arith, ints))

met : (os : List Bounds) (t u l le m me : ℤ) → IsSideLine os t u l le → IsSideLine os t u m me → t <ℤ u → l <ℤ m → me <ℤ le → IsMet os t u
unfolding IsThere
met os t u l le m me f g d h k =
    let w = there f.direction g.direction t u l le m me f.lean g.lean d h k in
    cut_from os t u l le m me w.1.0 w.1.1 f g w.0 w.1.2 w.1.3 w.1.4 w.1.5

pub ordered : (os : List Bounds) (t u l le m me : ℤ) → IsSideLine os t u l le → IsSideLine os t u m me → t <ℤ u → IsClean os t u
    → IsNotRight l le m me ⊎ IsNotRight m me l le
unfolding IsClean IsMet
ordered os t u l le m me f g d clean =
    by_lt_z {P = IsNotRight l le m me ⊎ IsNotRight m me l le} l m
    (λ a. by_lt_z {P = IsNotRight l le m me ⊎ IsNotRight m me l le} me le
    (λ b. absurd (let w = met os t u l le m me f g d a b in clean w.0 w.1 w.2 w.3))
    (λ b. inl (record { start = omega (arith, ints); finish = b })))
    (λ a. by_lt_z {P = IsNotRight l le m me ⊎ IsNotRight m me l le} le me
    (λ b. by_lt_z {P = IsNotRight l le m me ⊎ IsNotRight m me l le} m l
    (λ c. absurd (let w = met os t u m me l le g f d c b in clean w.0 w.1 w.2 w.3))
    (λ c. inl (record { start = c; finish = omega (arith, ints) })))
    (λ b. inr (record { start = a; finish = b })))

-- ---- the lines of an octagon's run; in nanometres an octagon's bounds are even
pub record IsDoubled (b : Bounds) : Type 0 where
  pub s0 : IsEven b.s0
  pub s1 : IsEven b.s1
  pub d0 : IsEven b.d0
  pub d1 : IsEven b.d1

pub times_doubled : (b : Bounds) → IsDoubled (times 2 b)
unfolding IsEven
times_doubled b = record { s0 = (b.s0, two b.s0); s1 = (b.s1, two b.s1); d0 = (b.d0, two b.d0); d1 = (b.d1, two b.d1) }
  where
    two : (a : ℤ) → pos 2 *ℤ a ≡ a +ℤ a
    two a = omega (arith, ints)

in_row : (b : Bounds) (r v : ℤ) → IsTight b → b.y0 ≤ℤ r → r ≤ℤ b.y1 → IsMost b.x0 (b.s0 -ℤ r) (b.d0 +ℤ r) v → Within b v r
in_row b r v g h1 h2 m = let e = m.is in omega (arith, ints)

in_row_right : (b : Bounds) (r v : ℤ) → IsTight b → b.y0 ≤ℤ r → r ≤ℤ b.y1 → IsFewest b.x1 (b.s1 -ℤ r) (b.d1 +ℤ r) v → Within b v r
in_row_right b r v g h1 h2 m = let e = m.is in omega (arith, ints)

left_in : (b : Bounds) (s : Strip) (r v : ℤ) → IsTight b → IsAcross b s.top s.bottom → IsRunOf b s → s.top ≤ℤ r → r ≤ℤ s.bottom
    → IsAt s.top s.bottom s.left s.left_end r v → Within b v r
left_in b s r v g a n h1 h2 at =
    in_row b r v g (let k = a.top in omega (arith, ints, h1)) (let k = a.bottom in omega (arith, ints, h2))
    (left_law b.x0 b.s0 b.d0 s.top s.bottom s.left s.left_end r v a.down h1 h2 g.left a.left_upper a.left_lower n.left n.left_end at)

right_in : (b : Bounds) (s : Strip) (r v : ℤ) → IsTight b → IsAcross b s.top s.bottom → IsRunOf b s → s.top ≤ℤ r → r ≤ℤ s.bottom
    → IsAt s.top s.bottom s.right s.right_end r v → Within b v r
right_in b s r v g a n h1 h2 at =
    in_row_right b r v g (let k = a.top in omega (arith, ints, h1)) (let k = a.bottom in omega (arith, ints, h2))
    (right_law b.x1 b.s1 b.d1 s.top s.bottom s.right s.right_end r v a.down h1 h2 g.right a.right_upper a.right_lower n.right n.right_end at)

even_is : (a b : ℤ) → a ≡ b → IsEven b → IsEven a
unfolding IsEven
even_is a b e h = (h.0, e ∙ h.1)

left_falling : (x s d t u l le : ℤ) → (s +ℤ d) ≤ℤ (x +ℤ x) → IsMost x (s -ℤ t) (d +ℤ t) l → IsMost x (s -ℤ u) (d +ℤ u) le → t <ℤ u → u ≤ℤ (s -ℤ x) → (le -ℤ l ≡ t -ℤ u) × (l +ℤ t ≡ s)
left_falling x s d t u l le g m n k h = let a = m.is in let b = n.is in (omega (arith, ints), omega (arith, ints))

left_rising : (x s d t u l le : ℤ) → (s +ℤ d) ≤ℤ (x +ℤ x) → IsMost x (s -ℤ t) (d +ℤ t) l → IsMost x (s -ℤ u) (d +ℤ u) le → t <ℤ u → (x -ℤ d) ≤ℤ t → (le -ℤ l ≡ u -ℤ t) × (l -ℤ t ≡ d)
left_rising x s d t u l le g m n k h = let a = m.is in let b = n.is in (omega (arith, ints), omega (arith, ints))

left_upright : (x s d t u l le : ℤ) → (s +ℤ d) ≤ℤ (x +ℤ x) → IsMost x (s -ℤ t) (d +ℤ t) l → IsMost x (s -ℤ u) (d +ℤ u) le → t <ℤ u → (s -ℤ x) ≤ℤ t → u ≤ℤ (x -ℤ d) → (le ≡ l) × (l ≡ x)
left_upright x s d t u l le g m n k h0 h = let a = m.is in let b = n.is in (omega (arith, ints), omega (arith, ints))

pub left_line : (os : List Bounds) (b : Bounds) (s : Strip) → Contains os b → IsTight b → IsDoubled b → IsAcross b s.top s.bottom → IsRunOf b s
    → IsSideLine os s.top s.bottom s.left s.left_end
unfolding IsLean IsSideAt
left_line os b s c g d a n =
    elim (a.left_upper) [
      | inr h ↦ (let z = left_falling b.x0 b.s0 b.d0 s.top s.bottom s.left s.left_end g.left n.left n.left_end a.down h in let k = a.down in let z0 = z.0 in let z1 = z.1 in
          record {
            direction = Falling;
            lean = (z.0, even_is (s.left +ℤ s.top) b.s0 z.1 d.s0);
            side = λ r v h1 h2 at. (b, c, (left_in b s r v g a n h1 h2 at, inl (omega (arith, ints, k))));
          })
      | inl h0 ↦
          elim (a.left_lower) [
            | inl h ↦ (let z = left_rising b.x0 b.s0 b.d0 s.top s.bottom s.left s.left_end g.left n.left n.left_end a.down h in let k = a.down in let z0 = z.0 in let z1 = z.1 in
                record {
                  direction = Rising;
                  lean = (z.0, even_is (s.left -ℤ s.top) b.d0 z.1 d.d0);
                  side = λ r v h1 h2 at. (b, c, (left_in b s r v g a n h1 h2 at, inl (omega (arith, ints, k))));
                })
            | inr h ↦ (let z = left_upright b.x0 b.s0 b.d0 s.top s.bottom s.left s.left_end g.left n.left n.left_end a.down h0 h in let k = a.down in let z0 = z.0 in let z1 = z.1 in
                record {
                  direction = Upright;
                  lean = z.0;
                  side = λ r v h1 h2 at. (b, c, (left_in b s r v g a n h1 h2 at, inl (omega (arith, ints, k))));
                })
          ]
    ]

right_falling : (x s d t u l le : ℤ) → (x +ℤ x) ≤ℤ (s +ℤ d) → IsFewest x (s -ℤ t) (d +ℤ t) l → IsFewest x (s -ℤ u) (d +ℤ u) le → t <ℤ u → (s -ℤ x) ≤ℤ t → (le -ℤ l ≡ t -ℤ u) × (l +ℤ t ≡ s)
right_falling x s d t u l le g m n k h = let a = m.is in let b = n.is in (omega (arith, ints), omega (arith, ints))

right_rising : (x s d t u l le : ℤ) → (x +ℤ x) ≤ℤ (s +ℤ d) → IsFewest x (s -ℤ t) (d +ℤ t) l → IsFewest x (s -ℤ u) (d +ℤ u) le → t <ℤ u → u ≤ℤ (x -ℤ d) → (le -ℤ l ≡ u -ℤ t) × (l -ℤ t ≡ d)
right_rising x s d t u l le g m n k h = let a = m.is in let b = n.is in (omega (arith, ints), omega (arith, ints))

right_upright : (x s d t u l le : ℤ) → (x +ℤ x) ≤ℤ (s +ℤ d) → IsFewest x (s -ℤ t) (d +ℤ t) l → IsFewest x (s -ℤ u) (d +ℤ u) le → t <ℤ u → (x -ℤ d) ≤ℤ t → u ≤ℤ (s -ℤ x) → (le ≡ l) × (l ≡ x)
right_upright x s d t u l le g m n k h0 h = let a = m.is in let b = n.is in (omega (arith, ints), omega (arith, ints))

pub right_line : (os : List Bounds) (b : Bounds) (s : Strip) → Contains os b → IsTight b → IsDoubled b → IsAcross b s.top s.bottom → IsRunOf b s
    → IsSideLine os s.top s.bottom s.right s.right_end
unfolding IsLean IsSideAt
right_line os b s c g d a n =
    elim (a.right_upper) [
      | inr h ↦ (let z = right_rising b.x1 b.s1 b.d1 s.top s.bottom s.right s.right_end g.right n.right n.right_end a.down h in let k = a.down in let z0 = z.0 in let z1 = z.1 in
          record {
            direction = Rising;
            lean = (z.0, even_is (s.right -ℤ s.top) b.d1 z.1 d.d1);
            side = λ r v h1 h2 at. (b, c, (right_in b s r v g a n h1 h2 at, inr (omega (arith, ints, k))));
          })
      | inl h0 ↦
          elim (a.right_lower) [
            | inl h ↦ (let z = right_falling b.x1 b.s1 b.d1 s.top s.bottom s.right s.right_end g.right n.right n.right_end a.down h in let k = a.down in let z0 = z.0 in let z1 = z.1 in
                record {
                  direction = Falling;
                  lean = (z.0, even_is (s.right +ℤ s.top) b.s1 z.1 d.s1);
                  side = λ r v h1 h2 at. (b, c, (right_in b s r v g a n h1 h2 at, inr (omega (arith, ints, k))));
                })
            | inr h ↦ (let z = right_upright b.x1 b.s1 b.d1 s.top s.bottom s.right s.right_end g.right n.right n.right_end a.down h0 h in let k = a.down in let z0 = z.0 in let z1 = z.1 in
                record {
                  direction = Upright;
                  lean = z.0;
                  side = λ r v h1 h2 at. (b, c, (right_in b s r v g a n h1 h2 at, inr (omega (arith, ints, k))));
                })
          ]
    ]

-- ---- room between the two sides
-- what its left side is in the slab: the bound, by the direction
abbrev IsLeftKind : Bounds → Strip → Type 0
IsLeftKind b s =
    ((s.left_end -ℤ s.left ≡ s.top -ℤ s.bottom) × (s.left +ℤ s.top ≡ b.s0))
    ⊎ (((s.left_end -ℤ s.left ≡ s.bottom -ℤ s.top) × (s.left -ℤ s.top ≡ b.d0)) ⊎ ((s.left_end ≡ s.left) × (s.left ≡ b.x0)))

abbrev IsRightKind : Bounds → Strip → Type 0
IsRightKind b s =
    ((s.right_end -ℤ s.right ≡ s.top -ℤ s.bottom) × (s.right +ℤ s.top ≡ b.s1))
    ⊎ (((s.right_end -ℤ s.right ≡ s.bottom -ℤ s.top) × (s.right -ℤ s.top ≡ b.d1)) ⊎ ((s.right_end ≡ s.right) × (s.right ≡ b.x1)))

left_kind : (b : Bounds) (s : Strip) → IsTight b → IsAcross b s.top s.bottom → IsRunOf b s → IsLeftKind b s
left_kind b s g a n =
    elim (a.left_upper) [
      | inr h ↦ inl (left_falling b.x0 b.s0 b.d0 s.top s.bottom s.left s.left_end g.left n.left n.left_end a.down h)
      | inl h0 ↦
          elim (a.left_lower) [
            | inl h ↦ inr (inl (left_rising b.x0 b.s0 b.d0 s.top s.bottom s.left s.left_end g.left n.left n.left_end a.down h))
            | inr h ↦ inr (inr (left_upright b.x0 b.s0 b.d0 s.top s.bottom s.left s.left_end g.left n.left n.left_end a.down h0 h))
          ]
    ]

right_kind : (b : Bounds) (s : Strip) → IsTight b → IsAcross b s.top s.bottom → IsRunOf b s → IsRightKind b s
right_kind b s g a n =
    elim (a.right_upper) [
      | inr h ↦ inr (inl (right_rising b.x1 b.s1 b.d1 s.top s.bottom s.right s.right_end g.right n.right n.right_end a.down h))
      | inl h0 ↦
          elim (a.right_lower) [
            | inl h ↦ inl (right_falling b.x1 b.s1 b.d1 s.top s.bottom s.right s.right_end g.right n.right n.right_end a.down h)
            | inr h ↦ inr (inr (right_upright b.x1 b.s1 b.d1 s.top s.bottom s.right s.right_end g.right n.right n.right_end a.down h0 h))
          ]
    ]

kinds_wide : (b : Bounds) (s : Strip) → IsStout b → s.top <ℤ s.bottom → s.left ≤ℤ s.right → s.left_end ≤ℤ s.right_end → IsLeftKind b s → IsRightKind b s
    → (s.left +ℤ s.left_end) <ℤ (s.right +ℤ s.right_end)
kinds_wide b s k d f g (inl l) (inl r) = let h = k.s in omega (arith, ints)
kinds_wide b s k d f g (inl l) (inr (inl r)) = omega (arith, ints)
kinds_wide b s k d f g (inl l) (inr (inr r)) = omega (arith, ints)
kinds_wide b s k d f g (inr (inl l)) (inl r) = omega (arith, ints)
kinds_wide b s k d f g (inr (inl l)) (inr (inl r)) = let h = k.d in omega (arith, ints)
kinds_wide b s k d f g (inr (inl l)) (inr (inr r)) = omega (arith, ints)
kinds_wide b s k d f g (inr (inr l)) (inl r) = omega (arith, ints)
kinds_wide b s k d f g (inr (inr l)) (inr (inl r)) = omega (arith, ints)
kinds_wide b s k d f g (inr (inr l)) (inr (inr r)) = let h = k.x in omega (arith, ints)

pub run_wide : (b : Bounds) (s : Strip) → IsTight b → IsStout b → IsAcross b s.top s.bottom → IsRunOf b s → (s.left +ℤ s.left_end) <ℤ (s.right +ℤ s.right_end)
run_wide b s g k a n =
    let r = run_IsRun b s g a n in
    kinds_wide b s k a.down r.start r.finish (left_kind b s g a n) (right_kind b s g a n)

-- no cut strictly between, from either reading of a cut
pub clean_from : (os : List Bounds) (t u : ℤ) → ((r : ℤ) → t <ℤ r → r <ℤ u → IsCutAt os r → ⊥) → IsClean os t u
unfolding IsClean
clean_from os t u h = h

pub clean_is : (os : List Bounds) (t u : ℤ) → IsClean os t u → (r : ℤ) → t <ℤ r → r <ℤ u → IsCutAt os r → ⊥
unfolding IsClean
clean_is os t u h = h
