-- Two lists of strips that are cut at the same rows and have the same points off these are one list: in one row inside a strip, the points
-- just beside its sides are on no strip, and the places of its sides in that row tell the sides.
use Rattle.std.proofs.Common.{◌≡◌, refl, sym, subst, ap, ◌∙◌, ◌⊎◌, inl, inr, arith, lit≤, List, [], ◌∷◌}
use Rattle.std.specs.Prelude.{ℤ, pos, ◌+ℤ◌, ◌-ℤ◌, ◌*ℤ◌, ◌<ℤ◌, ◌≤ℤ◌, Any}
use Rattle.std.proofs.lemmas.Int.{ints, by_lt_z}
use Rattle.plane.specs.Plane.{PlanePoint}
use Rattle.strips.specs.declared.Strip.{Strip}
use Rattle.strips.specs.Strips.{IsInStrip, IsTrapezoid, AreApartInSlab, IsStripBefore}
use Rattle.strips.proofs.Slab.{IsAt, strip_between, between_strip, sides}
use Rattle.rings.proofs.Lists.{Has, has_of, IsOrder, Rising, rising_same}
use Rattle.rings.proofs.Slits.{has_any, any_has}
use Rattle.rings.proofs.Sides.{AreOrdered, AreBeside, beside}
use Rattle.rings.proofs.Rows.{run_of}
use Rattle.same_points.specs.Laws.{IsOff, HaveSameOff}
use Rattle.same_points.proofs.Pieces.{IsCrossing, line_less}

-- ---- a row between t and u, a little below the middle, where all places are even numbers
abbrev row_of : ℤ → ℤ → ℤ
row_of t u = pos 8 *ℤ (t +ℤ u) +ℤ pos 2

abbrev in_row : ℤ → ℤ → ℤ → PlanePoint
in_row t u x = record { x = x; y = row_of t u; scale = 16; positive = lit≤ tt }

row_within : (t u : ℤ) → t <ℤ u → ((pos 16 *ℤ t) <ℤ row_of t u) × (row_of t u <ℤ (pos 16 *ℤ u))
row_within t u d = (omega (arith, ints, d), omega (arith, ints, d))

-- the side from l to le is at v there
abbrev PlaceAt : ℤ → ℤ → ℤ → ℤ → ℤ → Type 0
PlaceAt t u l le v = IsAt (pos 16 *ℤ t) (pos 16 *ℤ u) (pos 16 *ℤ l) (pos 16 *ℤ le) (row_of t u) v

IsEven : ℤ → Type 0
IsEven v = (h : ℤ) × (v ≡ h +ℤ h)

place_even : (t u l le v : ℤ) → PlaceAt t u l le v → IsEven v
unfolding IsEven
place_even t u l le v (inl a) = let c = a.1 in (pos 8 *ℤ l, omega (arith, ints, c))
place_even t u l le v (inr (inl a)) = let c = a.1 in (pos 8 *ℤ l +ℤ pos 4 *ℤ (u -ℤ t) +ℤ pos 1, omega (arith, ints, c))
place_even t u l le v (inr (inr a)) = let c = a.1 in (pos 8 *ℤ l -ℤ pos 4 *ℤ (u -ℤ t) -ℤ pos 1, omega (arith, ints, c))

-- the crossing_place tells the side
place_tells : (t u l le m me v : ℤ) → t <ℤ u → PlaceAt t u l le v → PlaceAt t u m me v → (l ≡ m) × (le ≡ me)
place_tells t u l le m me v d a b = (omega (arith, ints), omega (arith, ints))

place_same : (t u l le v w : ℤ) → t <ℤ u → PlaceAt t u l le v → PlaceAt t u l le w → v ≡ w
place_same t u l le v w d a b = omega (arith, ints)

places_less : (t u l le m me v w : ℤ) → t <ℤ u → PlaceAt t u l le v → PlaceAt t u m me w → l ≤ℤ m → le ≤ℤ me → (l +ℤ le) <ℤ (m +ℤ me) → v <ℤ w
places_less t u l le m me v w d a b g h k =
    let r = row_within t u d in
    line_less (pos 16 *ℤ t) (pos 16 *ℤ u) (row_of t u) (pos 16 *ℤ l) (pos 16 *ℤ le) v (pos 16 *ℤ m) (pos 16 *ℤ me) w r.0 r.1 a b
    (omega (arith, ints, g)) (omega (arith, ints, h)) (omega (arith, ints, k))

-- ---- strips between these rows
record IsBetween (t u : ℤ) (s : Strip) : Type 0 where
  shape : IsTrapezoid s
  top : s.top ≡ t
  bottom : s.bottom ≡ u

-- the places of a strip's two sides
record HasPlaces (t u : ℤ) (s : Strip) (v w : ℤ) : Type 0 where
  left : PlaceAt t u s.left s.left_end v
  right : PlaceAt t u s.right s.right_end w
  some : v <ℤ w

moved : (t u a b l le y v : ℤ) → a ≡ t → b ≡ u → IsAt (pos 16 *ℤ a) (pos 16 *ℤ b) (pos 16 *ℤ l) (pos 16 *ℤ le) y v → IsAt (pos 16 *ℤ t) (pos 16 *ℤ u) (pos 16 *ℤ l) (pos 16 *ℤ le) y v
moved t u a b l le y v e f h =
    subst (λ (x : ℤ). IsAt (pos 16 *ℤ x) (pos 16 *ℤ u) (pos 16 *ℤ l) (pos 16 *ℤ le) y v) e
    (subst (λ (x : ℤ). IsAt (pos 16 *ℤ a) (pos 16 *ℤ x) (pos 16 *ℤ l) (pos 16 *ℤ le) y v) f h)

down : (t u : ℤ) (s : Strip) → IsBetween t u s → t <ℤ u
down t u s b = subst (λ (x : ℤ). x <ℤ u) b.top (subst (λ (x : ℤ). s.top <ℤ x) b.bottom (b.shape).down)

places : (t u : ℤ) (s : Strip) → IsBetween t u s → (v : ℤ) × (w : ℤ) × HasPlaces t u s v w
places t u s b =
    let h = b.shape in
    let k = sides s (in_row t u (pos 0)) (run_of s h) in
    let x = moved t u s.top s.bottom s.left s.left_end (row_of t u) k.0 b.top b.bottom k.2 in
    let y = moved t u s.top s.bottom s.right s.right_end (row_of t u) k.1 b.top b.bottom k.3 in
    (k.0, k.1, record { left = x; right = y; some = places_less t u s.left s.left_end s.right s.right_end k.0 k.1 (down t u s b) x y h.start h.finish h.wide })

-- a point of the row is in the strip where it is between the places
inside : (t u : ℤ) (s : Strip) (x v w : ℤ) → IsBetween t u s → HasPlaces t u s v w → v ≤ℤ x → x ≤ℤ w → IsInStrip s (in_row t u x)
inside t u s x v w b p l m =
    let r = row_within t u (down t u s b) in
    let h = b.shape in
    between_strip s (in_row t u x) v w h.down (run_of s h)
    (moved s.top s.bottom t u s.left s.left_end (row_of t u) v (sym b.top) (sym b.bottom) p.left) (moved s.top s.bottom t u s.right s.right_end (row_of t u) w (sym b.top) (sym b.bottom) p.right)
    (record {
      top = subst (λ (z : ℤ). (pos 16 *ℤ z) ≤ℤ row_of t u) (sym b.top) (weak (pos 16 *ℤ t) (row_of t u) r.0);
      bottom = subst (λ (z : ℤ). row_of t u ≤ℤ (pos 16 *ℤ z)) (sym b.bottom) (weak (row_of t u) (pos 16 *ℤ u) r.1);
      left = l;
      right = m;
    })
  where
    weak : (a b : ℤ) → a <ℤ b → a ≤ℤ b
    weak a b l = omega (arith, ints, l)

reached : (t u : ℤ) (s : Strip) (x v w : ℤ) → IsBetween t u s → HasPlaces t u s v w → IsInStrip s (in_row t u x) → (v ≤ℤ x) × (x ≤ℤ w)
reached t u s x v w b p i =
    let h = b.shape in
    let k = strip_between s (in_row t u x) v w h.down (run_of s h)
    (moved s.top s.bottom t u s.left s.left_end (row_of t u) v (sym b.top) (sym b.bottom) p.left) (moved s.top s.bottom t u s.right s.right_end (row_of t u) w (sym b.top) (sym b.bottom) p.right) i in
    (k.left, k.right)

-- ---- one list: no strip has the point just on the left of another one, or just on its right
after_gap : (x v w a : ℤ) → IsEven w → IsEven a → v <ℤ w → w <ℤ a → a ≤ℤ x → (x ≡ v -ℤ pos 1) ⊎ (x ≡ w +ℤ pos 1) → ⊥
unfolding IsEven
after_gap x v w a (g, e) (h, f) l m n k = omega (arith, ints, e, f, l, m, n, k)

before_gap : (x v w b : ℤ) → IsEven v → IsEven b → v <ℤ w → b <ℤ v → x ≤ℤ b → (x ≡ v -ℤ pos 1) ⊎ (x ≡ w +ℤ pos 1) → ⊥
unfolding IsEven
before_gap x v w b (g, e) (h, f) l m n k = omega (arith, ints, e, f, l, m, n, k)

own_gap : (x v w a b : ℤ) → v ≡ a → w ≡ b → a ≤ℤ x → x ≤ℤ b → v <ℤ w → (x ≡ v -ℤ pos 1) ⊎ (x ≡ w +ℤ pos 1) → ⊥
own_gap x v w a b e f l m n k = omega (arith, ints, e, f, l, m, n, k)

near : (zs : List Strip) (t u : ℤ) (z q : Strip) (x : ℤ) → AreOrdered zs → IsBetween t u z → Has zs z → Has zs q → IsInStrip q (in_row t u x) → AreBeside z q
near zs t u z q x o c h i j =
    let r = row_within t u (down t u z c) in
    let a = j.top in
    let b = j.bottom in
    beside zs o z q h i
    (subst (λ (y : ℤ). y <ℤ q.bottom) (sym c.top) (less t q.bottom (row_of t u) r.0 b))
    (subst (λ (y : ℤ). q.top <ℤ y) (sym c.bottom) (more q.top u (row_of t u) a r.1))
  where
    less : (t b y : ℤ) → (pos 16 *ℤ t) <ℤ y → y ≤ℤ (pos 16 *ℤ b) → t <ℤ b
    less t b y l m = omega (arith, ints, l, m)

    more : (a u y : ℤ) → (pos 16 *ℤ a) ≤ℤ y → y <ℤ (pos 16 *ℤ u) → a <ℤ u
    more a u y l m = omega (arith, ints, l, m)

gaps : (zs : List Strip) (t u : ℤ) (z q : Strip) (x v w : ℤ) → AreOrdered zs → IsBetween t u z → Has zs z → Has zs q → HasPlaces t u z v w → (x ≡ v -ℤ pos 1) ⊎ (x ≡ w +ℤ pos 1)
    → IsInStrip q (in_row t u x) → ⊥
gaps zs t u z q x v w o c h i p k j =
    let n = near zs t u z q x o c h i j in
    let d : IsBetween t u q = record { shape = o.shape q i; top = sym n.top ∙ c.top; bottom = sym n.bottom ∙ c.bottom } in
    let e = places t u q d in
    let r = reached t u q x e.0 e.1 d e.2 j in
    by e.0 e.1 e.2 r.0 r.1 n.are
  where
    by : (a b : ℤ) → HasPlaces t u q a b → a ≤ℤ x → x ≤ℤ b → (z ≡ q) ⊎ (AreApartInSlab z q ⊎ AreApartInSlab q z) → ⊥
    by a b f l m (inl e) =
        own_gap x v w a b
        (place_same t u z.left z.left_end v a (down t u z c) p.left (subst (λ (y : Strip). PlaceAt t u y.left y.left_end a) (sym e) f.left))
        (place_same t u z.right z.right_end w b (down t u z c) p.right (subst (λ (y : Strip). PlaceAt t u y.right y.right_end b) (sym e) f.right)) l m p.some k
    by a b f l m (inr (inl e)) =
        after_gap x v w a (place_even t u z.right z.right_end w p.right) (place_even t u q.left q.left_end a f.left) p.some
        (places_less t u z.right z.right_end q.left q.left_end w a (down t u z c) p.right f.left e.start e.finish e.gap) l k
    by a b f l m (inr (inr e)) =
        before_gap x v w b (place_even t u z.left z.left_end v p.left) (place_even t u q.right q.right_end b f.right) p.some
        (places_less t u q.right q.right_end z.left z.left_end b v (down t u z c) f.right p.left e.start e.finish e.gap) m k

-- ---- lists that are cut at all of some rows, and at no other ones
pub record AreCutUp (rs : List ℤ) (zs : List Strip) : Type 0 where
  pub ordered : AreOrdered zs
  pub rows : (s : Strip) → Has zs s → Has rs s.top × Has rs s.bottom
  pub clean : (r : ℤ) → Has rs r → (s : Strip) → Has zs s → IsCrossing r s → ⊥

aside : (rs : List ℤ) (zs : List Strip) (r : ℤ) (s : Strip) → AreCutUp rs zs → Has rs r → Has zs s → (r ≤ℤ s.top) ⊎ (s.bottom ≤ℤ r)
aside rs zs r s c h i =
    by_lt_z {P = (r ≤ℤ s.top) ⊎ (s.bottom ≤ℤ r)} s.top r
    (λ l. by_lt_z {P = (r ≤ℤ s.top) ⊎ (s.bottom ≤ℤ r)} r s.bottom (λ m. absurd (c.clean r h s i (record { over = l; under = m }))) (λ m. inr m))
    (λ l. inl l)

-- the row is none of them
row_off : (rs : List ℤ) (zs : List Strip) (s : Strip) (x : ℤ) → AreCutUp rs zs → Has zs s → IsOff rs (in_row s.top s.bottom x)
unfolding IsOff
row_off rs zs s x c h r k e =
    let w = row_within s.top s.bottom ((c.ordered).shape s h).down in
    c.clean r (has_of rs r k) s h (record { over = less s.top r (row_of s.top s.bottom) w.0 e; under = more s.bottom r (row_of s.top s.bottom) w.1 e })
  where
    less : (t r y : ℤ) → (pos 16 *ℤ t) <ℤ y → y ≡ pos 16 *ℤ r → t <ℤ r
    less t r y l e = omega (arith, ints, l, e)

    more : (u r y : ℤ) → y <ℤ (pos 16 *ℤ u) → y ≡ pos 16 *ℤ r → r <ℤ u
    more u r y l e = omega (arith, ints, l, e)

-- a strip of the other list that has a point of the row is between the same rows
same_rows : (rs : List ℤ) (xs ys : List Strip) (s q : Strip) (x : ℤ) → AreCutUp rs xs → AreCutUp rs ys → Has xs s → Has ys q → IsInStrip q (in_row s.top s.bottom x)
    → (q.top ≡ s.top) × (q.bottom ≡ s.bottom)
same_rows rs xs ys s q x c d h i j =
    let d1 = ((c.ordered).shape s h).down in
    let w = row_within s.top s.bottom d1 in
    by s.top s.bottom q.top q.bottom (row_of s.top s.bottom) d1 w.0 w.1 j.top j.bottom
    (aside rs xs q.top s c (d.rows q i).0 h) (aside rs xs q.bottom s c (d.rows q i).1 h) (aside rs ys s.top q d (c.rows s h).0 i) (aside rs ys s.bottom q d (c.rows s h).1 i)
  where
    by : (t u a b y : ℤ) → t <ℤ u → (pos 16 *ℤ t) <ℤ y → y <ℤ (pos 16 *ℤ u) → (pos 16 *ℤ a) ≤ℤ y → y ≤ℤ (pos 16 *ℤ b)
        → (a ≤ℤ t) ⊎ (u ≤ℤ a) → (b ≤ℤ t) ⊎ (u ≤ℤ b) → (t ≤ℤ a) ⊎ (b ≤ℤ t) → (u ≤ℤ a) ⊎ (b ≤ℤ u) → (a ≡ t) × (b ≡ u)
    by t u a b y l m n k g h1 h2 h3 h4 = (omega (arith, ints), omega (arith, ints))

strip_is : (s z : Strip) → s.top ≡ z.top → s.bottom ≡ z.bottom → s.left ≡ z.left → s.left_end ≡ z.left_end → s.right ≡ z.right → s.right_end ≡ z.right_end → s ≡ z
strip_is s z a b c d e f =
    ap (λ (y : ℤ). strip_of y s.bottom s.left s.left_end s.right s.right_end) a
    ∙ (ap (λ (y : ℤ). strip_of z.top y s.left s.left_end s.right s.right_end) b
    ∙ (ap (λ (y : ℤ). strip_of z.top z.bottom y s.left_end s.right s.right_end) c
    ∙ (ap (λ (y : ℤ). strip_of z.top z.bottom z.left y s.right s.right_end) d
    ∙ (ap (λ (y : ℤ). strip_of z.top z.bottom z.left z.left_end y s.right_end) e
    ∙ ap (λ (y : ℤ). strip_of z.top z.bottom z.left z.left_end z.right y) f))))
  where
    strip_of : ℤ → ℤ → ℤ → ℤ → ℤ → ℤ → Strip
    strip_of t u l le r re = record { top = t; bottom = u; left = l; left_end = le; right = r; right_end = re }

equal : (a b : ℤ) → (a <ℤ b → ⊥) → (b <ℤ a → ⊥) → a ≡ b
equal a b f g = by_lt_z {P = a ≡ b} a b (λ l. absurd (f l)) (λ l. by_lt_z {P = a ≡ b} b a (λ m. absurd (g m)) (λ m. omega (arith, ints, l, m)))

even_step : (v a : ℤ) → IsEven v → IsEven a → a ≤ℤ (v +ℤ pos 1) → v <ℤ a → ⊥
unfolding IsEven
even_step v a (g, e) (h, f) l m = omega (arith, ints, e, f, l, m)

-- so each strip of the one list is in the other
in_other : (rs : List ℤ) (xs ys : List Strip) (s : Strip) → AreCutUp rs xs → AreCutUp rs ys → HaveSameOff rs xs ys → Has xs s → Has ys s
unfolding HaveSameOff
in_other rs xs ys s c d f h =
    let t = s.top in
    let u = s.bottom in
    let b : IsBetween s.top s.bottom s = record { shape = (c.ordered).shape s h; top = refl; bottom = refl } in
    let p = places s.top s.bottom s b in
    let i = inside s.top s.bottom s (p.0 +ℤ pos 1) p.0 p.1 b p.2 (more p.0) (next p.0 p.1 (p.2).some) in
    let q = any_has (λ z. IsInStrip z (in_row s.top s.bottom (p.0 +ℤ pos 1))) ys ((f (in_row s.top s.bottom (p.0 +ℤ pos 1)) (row_off rs xs s (p.0 +ℤ pos 1) c h)).0 (has_any (λ z. IsInStrip z (in_row s.top s.bottom (p.0 +ℤ pos 1))) xs s h i)) in
    by p.0 p.1 p.2 b q.0 q.1 (same_rows rs xs ys s q.0 (p.0 +ℤ pos 1) c d h q.1 q.2) q.2
  where
    more : (v : ℤ) → v ≤ℤ (v +ℤ pos 1)
    more v = omega (arith, ints)

    next : (v w : ℤ) → v <ℤ w → (v +ℤ pos 1) ≤ℤ w
    next v w l = omega (arith, ints, l)

    to_left : (v a : ℤ) → a <ℤ v → a ≤ℤ (v -ℤ pos 1)
    to_left v a l = omega (arith, ints, l)

    to_right : (w b : ℤ) → w <ℤ b → (w +ℤ pos 1) ≤ℤ b
    to_right w b l = omega (arith, ints, l)

    low : (v b : ℤ) → (v +ℤ pos 1) ≤ℤ b → (v -ℤ pos 1) ≤ℤ b
    low v b l = omega (arith, ints, l)

    after : (a v w : ℤ) → a ≤ℤ (v +ℤ pos 1) → v <ℤ w → a ≤ℤ (w +ℤ pos 1)
    after a v w l m = omega (arith, ints, l, m)

    later : (v b : ℤ) → (v +ℤ pos 1) ≤ℤ b → v ≤ℤ (b +ℤ pos 1)
    later v b l = omega (arith, ints, l)

    even_less : (v a : ℤ) → IsEven v → IsEven a → a ≤ℤ (v +ℤ pos 1) → v <ℤ a → ⊥
    even_less v a g h l m = even_step v a g h l m

    there : (x : ℤ) → Any (λ z. IsInStrip z (in_row s.top s.bottom x)) xs → Any (λ z. IsInStrip z (in_row s.top s.bottom x)) ys
    there x e = (f (in_row s.top s.bottom x) (row_off rs xs s x c h)).0 e

    back : (x : ℤ) → Any (λ z. IsInStrip z (in_row s.top s.bottom x)) ys → Any (λ z. IsInStrip z (in_row s.top s.bottom x)) xs
    back x e = (f (in_row s.top s.bottom x) (row_off rs xs s x c h)).1 e

    none_left : (v w x : ℤ) → HasPlaces s.top s.bottom s v w → IsBetween s.top s.bottom s → (x ≡ v -ℤ pos 1) ⊎ (x ≡ w +ℤ pos 1) → Any (λ z. IsInStrip z (in_row s.top s.bottom x)) ys → ⊥
    none_left v w x p b k e =
        let g = any_has (λ z. IsInStrip z (in_row s.top s.bottom x)) xs (back x e) in
        gaps xs s.top s.bottom s g.0 x v w c.ordered b h g.1 p k g.2

    none_right : (q : Strip) (v w x : ℤ) → Has ys q → HasPlaces s.top s.bottom q v w → IsBetween s.top s.bottom q → (x ≡ v -ℤ pos 1) ⊎ (x ≡ w +ℤ pos 1) → Any (λ z. IsInStrip z (in_row s.top s.bottom x)) xs → ⊥
    none_right q v w x i p b k e =
        let g = any_has (λ z. IsInStrip z (in_row s.top s.bottom x)) ys (there x e) in
        gaps ys s.top s.bottom q g.0 x v w d.ordered b i g.1 p k g.2

    by : (v w : ℤ) → HasPlaces s.top s.bottom s v w → IsBetween s.top s.bottom s → (q : Strip) → Has ys q → (q.top ≡ s.top) × (q.bottom ≡ s.bottom) → IsInStrip q (in_row s.top s.bottom (v +ℤ pos 1)) → Has ys s
    by v w p b q i e j =
        let k : IsBetween s.top s.bottom q = record { shape = (d.ordered).shape q i; top = e.0; bottom = e.1 } in
        let o = places s.top s.bottom q k in
        let r = reached s.top s.bottom q (v +ℤ pos 1) o.0 o.1 k o.2 j in
        let l = equal v o.0
        (even_less v o.0 (place_even s.top s.bottom s.left s.left_end v p.left) (place_even s.top s.bottom q.left q.left_end o.0 (o.2).left) r.0)
        (λ m. none_left v w (v -ℤ pos 1) p b (inl refl) (has_any (λ z. IsInStrip z (in_row s.top s.bottom (v -ℤ pos 1))) ys q i (inside s.top s.bottom q (v -ℤ pos 1) o.0 o.1 k o.2 (to_left v o.0 m) (low v o.1 r.1)))) in
        let n = equal w o.1
        (λ m. none_left v w (w +ℤ pos 1) p b (inr refl) (has_any (λ z. IsInStrip z (in_row s.top s.bottom (w +ℤ pos 1))) ys q i (inside s.top s.bottom q (w +ℤ pos 1) o.0 o.1 k o.2 (after o.0 v w r.0 p.some) (to_right w o.1 m))))
        (λ m. none_right q o.0 o.1 (o.1 +ℤ pos 1) i o.2 k (inr refl) (has_any (λ z. IsInStrip z (in_row s.top s.bottom (o.1 +ℤ pos 1))) xs s h (inside s.top s.bottom s (o.1 +ℤ pos 1) v w b p (later v o.1 r.1) (to_right o.1 w m)))) in
        let x = place_tells s.top s.bottom s.left s.left_end q.left q.left_end v (down s.top s.bottom s b) p.left (subst (PlaceAt s.top s.bottom q.left q.left_end) (sym l) (o.2).left) in
        let y = place_tells s.top s.bottom s.right s.right_end q.right q.right_end w (down s.top s.bottom s b) p.right (subst (PlaceAt s.top s.bottom q.right q.right_end) (sym n) (o.2).right) in
        subst (Has ys) (sym (strip_is s q (sym e.0) (sym e.1) x.0 x.1 y.0 y.1)) i

-- ---- lists in order that have the same strips
StripLess : Strip → Strip → Type 0
StripLess a b = IsTrapezoid a × IsTrapezoid b × IsStripBefore a b

strip_order : IsOrder StripLess
unfolding StripLess
strip_order = record { never = λ a l. never a l.0 l.2; on = λ a b c l m. (l.0, m.1, on a b c l.1 l.2 m.2) }
  where
    never : (a : Strip) → IsTrapezoid a → IsStripBefore a a → ⊥
    never a h (inl l) = let d = h.down in omega (arith, ints, d, l)
    never a h (inr (e, f, g)) = let w = h.wide in let k = g.gap in omega (arith, ints, w, k)

    on : (a b c : Strip) → IsTrapezoid b → IsStripBefore a b → IsStripBefore b c → IsStripBefore a c
    on a b c h (inl l) (inl m) = let d = h.down in inl (omega (arith, ints, d, l, m))
    on a b c h (inl l) (inr (e, f, g)) = inl (omega (arith, ints, l, e))
    on a b c h (inr (e, f, g)) (inl m) = inl (omega (arith, ints, m, f))
    on a b c h (inr (e, f, g)) (inr (i, j, k)) =
        let s = h.start in let t = h.finish in
        let g1 = g.start in let g2 = g.finish in let g3 = g.gap in
        let k1 = k.start in let k2 = k.finish in let k3 = k.gap in
        inr (e ∙ i, f ∙ j, record { start = omega (arith, ints, s, g1, k1); finish = omega (arith, ints, t, g2, k2); gap = omega (arith, ints, s, t, g1, g2, g3, k3, k1, k2) })

strips_rising : (zs : List Strip) → ((s : Strip) → Has zs s → IsTrapezoid s) → Rising IsStripBefore zs → Rising StripLess zs
unfolding Rising StripLess Has
strips_rising [] h r = tt
strips_rising (z ∷ zs) h r = (λ y i. (h z (inl refl), h y (inr i), r.0 y i), strips_rising zs (λ s i. h s (inr i)) r.1)

off_sym : (rs : List ℤ) (xs ys : List Strip) → HaveSameOff rs xs ys → HaveSameOff rs ys xs
unfolding HaveSameOff
off_sym rs xs ys f p n = let g = f p n in (g.1, g.0)

pub one_list : (rs : List ℤ) (xs ys : List Strip) → AreCutUp rs xs → AreCutUp rs ys → HaveSameOff rs xs ys → xs ≡ ys
one_list rs xs ys c d f =
    rising_same StripLess strip_order xs ys
    (strips_rising xs (c.ordered).shape (c.ordered).order) (strips_rising ys (d.ordered).shape (d.ordered).order)
    (λ s h. in_other rs xs ys s c d f h) (λ s h. in_other rs ys xs s d c (off_sym rs xs ys f) h)
