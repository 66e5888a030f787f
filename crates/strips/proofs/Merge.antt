-- Joined runs cover what the runs cover, and are apart.
use Rattle.std.proofs.Common.{◌≡◌, subst, refl, sym, ◌∙◌, ap, ◌⊎◌, inl, inr, arith, List, [], ◌∷◌}
use Rattle.std.specs.Prelude.{ℤ, ◌+ℤ◌, ◌≤ℤ◌, ◌<ℤ◌, ◌↔◌, Any}
use Rattle.std.proofs.lemmas.Int.{ints, by_lt_z}
use Rattle.plane.specs.Plane.{PlanePoint, Bounds}
use Rattle.plane.proofs.Lists.{any_none, any_head, any_tail, any_cases}
use Rattle.plane.proofs.Counts.{less_true, less_false}
use Rattle.strips.specs.declared.Strip.{Strip}
use Rattle.strips.specs.Strips.{IsInStrip, AreApartInSlab}
use Rattle.strips.proofs.Slab.{IsRun}
use Rattle.strips.specs.Inner.Merge.{joined, merged_from}
use Rattle.strips.proofs.Slab.{IsNotRight, strip, kept_law, grown_law, grown_run}
use Rattle.strips.proofs.Lines.{IsSideLine, IsClean, ordered}

-- a run of the slab whose sides are lines of sides
pub record IsPart (os : List Bounds) (t u : ℤ) (s : Strip) : Type 0 where
  pub top : s.top ≡ t
  pub bottom : s.bottom ≡ u
  pub run : IsRun s
  pub left : IsSideLine os t u s.left s.left_end
  pub right : IsSideLine os t u s.right s.right_end
  pub wide : (s.left +ℤ s.left_end) <ℤ (s.right +ℤ s.right_end)

unfoldable pub AreParts : List Bounds → ℤ → ℤ → List Strip → Type 0
AreParts os t u [] = Unit {0}
AreParts os t u (s ∷ ss) = IsPart os t u s × AreParts os t u ss

-- each begins no further left than the one before
unfoldable pub IsRising : Strip → List Strip → Type 0
IsRising a [] = Unit {0}
IsRising a (b ∷ bs) = IsNotRight a.left a.left_end b.left b.left_end × IsRising b bs

-- what the two tests tell of lines that keep their order
pub joins : (os : List Bounds) (t u r re l le : ℤ) → IsSideLine os t u r re → IsSideLine os t u l le → t <ℤ u → IsClean os t u
    → (l +ℤ le) ≤ℤ (r +ℤ re) → IsNotRight l le r re
joins os t u r re l le f g d c h =
    elim (ordered os t u r re l le f g d c) [
      | inl n ↦ record { start = omega (arith, ints); finish = omega (arith, ints) }
      | inr n ↦ n
    ]

parts_way : (os : List Bounds) (t u r re l le : ℤ) → IsSideLine os t u r re → IsSideLine os t u l le → t <ℤ u → IsClean os t u
    → (r +ℤ re) <ℤ (l +ℤ le) → IsNotRight r re l le
parts_way os t u r re l le f g d c h =
    elim (ordered os t u r re l le f g d c) [
      | inl n ↦ n
      | inr n ↦ absurd (omega (arith, ints))
    ]

-- ---- one step
IsStep : List Bounds → ℤ → ℤ → Strip → Strip → Strip → Type 0
IsStep os t u a b c =
    IsPart os t u c × (c.left ≡ a.left) × (c.left_end ≡ a.left_end)
    × ((p : PlanePoint) → IsInStrip c p ↔ (IsInStrip a p ⊎ IsInStrip b p))

-- a strip by its rows
rows_are : (s : Strip) (t u : ℤ) → s.top ≡ t → s.bottom ≡ u → s ≡ strip t u s.left s.left_end s.right s.right_end
rows_are s t u e f =
    ap (λ (z : ℤ). strip z s.bottom s.left s.left_end s.right s.right_end) e ∙ ap (λ (z : ℤ). strip t z s.left s.left_end s.right s.right_end) f

step_kept : (os : List Bounds) (t u : ℤ) (a b : Strip) → t <ℤ u → IsPart os t u a → IsPart os t u b
    → IsNotRight a.left a.left_end b.left b.left_end → IsNotRight b.left b.left_end a.right a.right_end → IsNotRight b.right b.right_end a.right a.right_end
    → IsStep os t u a b a
unfolding IsStep
step_kept os t u a b d x y f g n = (x, refl, refl, λ p. (λ i. inl i, λ i. elim i [ inl i ↦ i | inr i ↦ back p i ]))
  where
    ea : a ≡ strip t u a.left a.left_end a.right a.right_end
    ea = rows_are a t u x.top x.bottom

    eb : b ≡ strip t u b.left b.left_end b.right b.right_end
    eb = rows_are b t u y.top y.bottom

    back : (p : PlanePoint) → IsInStrip b p → IsInStrip a p
    back p i =
        subst (λ (s : Strip). IsInStrip s p) (sym ea)
        (kept_law t u a.left a.left_end a.right a.right_end b.left b.left_end b.right b.right_end p d (subst IsRun ea x.run) (subst IsRun eb y.run) f g n
        (subst (λ (s : Strip). IsInStrip s p) eb i))

grown_wide : (a b : Strip) → (a.left +ℤ a.left_end) <ℤ (a.right +ℤ a.right_end) → IsNotRight a.right a.right_end b.right b.right_end
    → (a.left +ℤ a.left_end) <ℤ (b.right +ℤ b.right_end)
grown_wide a b w n = omega (arith, ints, w, n.start, n.finish)

step_grown : (os : List Bounds) (t u : ℤ) (a b : Strip) → t <ℤ u → IsPart os t u a → IsPart os t u b
    → IsNotRight a.left a.left_end b.left b.left_end → IsNotRight b.left b.left_end a.right a.right_end → IsNotRight a.right a.right_end b.right b.right_end
    → IsStep os t u a b (strip a.top a.bottom a.left a.left_end b.right b.right_end)
unfolding IsStep
step_grown os t u a b d x y f g n = (
  record { top = x.top; bottom = x.bottom; run = subst IsRun (sym ec) rc; left = x.left; right = y.right; wide = grown_wide a b x.wide n },
  refl,
  refl,
  λ p.
      let law = grown_law t u a.left a.left_end a.right a.right_end b.left b.left_end b.right b.right_end p d ra rb f g n in (
        λ i. elim (law.0 (subst (λ (s : Strip). IsInStrip s p) ec i)) [ inl j ↦ inl (subst (λ (s : Strip). IsInStrip s p) (sym ea) j) | inr j ↦ inr (subst (λ (s : Strip). IsInStrip s p) (sym eb) j) ],
        λ i. subst (λ (s : Strip). IsInStrip s p) (sym ec)
            (law.1 (elim i [ inl j ↦ inl (subst (λ (s : Strip). IsInStrip s p) ea j) | inr j ↦ inr (subst (λ (s : Strip). IsInStrip s p) eb j) ])),
      ),
)
  where
    c : Strip
    c = strip a.top a.bottom a.left a.left_end b.right b.right_end

    ea : a ≡ strip t u a.left a.left_end a.right a.right_end
    ea = rows_are a t u x.top x.bottom

    eb : b ≡ strip t u b.left b.left_end b.right b.right_end
    eb = rows_are b t u y.top y.bottom

    ec : c ≡ strip t u a.left a.left_end b.right b.right_end
    ec = rows_are c t u x.top x.bottom

    ra : IsRun (strip t u a.left a.left_end a.right a.right_end)
    ra = subst IsRun ea x.run

    rb : IsRun (strip t u b.left b.left_end b.right b.right_end)
    rb = subst IsRun eb y.run

    rc : IsRun (strip t u a.left a.left_end b.right b.right_end)
    rc = grown_run t u a.left a.left_end a.right a.right_end b.left b.left_end b.right b.right_end ra rb f

step : (os : List Bounds) (t u : ℤ) (a b : Strip) → t <ℤ u → IsClean os t u → IsPart os t u a → IsPart os t u b
    → IsNotRight a.left a.left_end b.left b.left_end → (b.left +ℤ b.left_end) ≤ℤ (a.right +ℤ a.right_end)
    → IsStep os t u a b (joined a b)
step os t u a b d c x y f h =
    let g = joins os t u a.right a.right_end b.left b.left_end x.right y.left d c h in
    by_lt_z {P = IsStep os t u a b (joined a b)} (a.right +ℤ a.right_end) (b.right +ℤ b.right_end)
    (λ l. let e = less_true (a.right +ℤ a.right_end) (b.right +ℤ b.right_end) l in
    rw e (step_grown os t u a b d x y f g (parts_way os t u a.right a.right_end b.right b.right_end x.right y.right d c l)))
    (λ l. let e = less_false (a.right +ℤ a.right_end) (b.right +ℤ b.right_end) l in
    rw e (step_kept os t u a b d x y f g (joins os t u a.right a.right_end b.right b.right_end x.right y.right d c l)))

-- ---- the whole list
-- the first of a list of runs that begins at a's left, and the rest apart from left to right
unfoldable pub IsApartFrom : Strip → List Strip → Type 0
IsApartFrom a [] = Unit {0}
IsApartFrom a (b ∷ bs) = AreApartInSlab a b × IsApartFrom b bs

unfoldable pub AreApart : List Strip → Type 0
AreApart [] = Unit {0}
AreApart (a ∷ bs) = IsApartFrom a bs

abbrev SomeIn : PlanePoint → List Strip → Type 0
SomeIn p ss = Any (λ s. IsInStrip s p) ss

rising_again : (a c b : Strip) (bs : List Strip) → (c.left ≡ a.left) → (c.left_end ≡ a.left_end) → IsNotRight a.left a.left_end b.left b.left_end → IsRising b bs → IsRising c bs
unfolding IsRising
rising_again a c b [] e f n r = tt
rising_again a c b (d ∷ ds) e f n r = let m = r.0 in (record { start = omega (arith, ints); finish = omega (arith, ints) }, r.1)

step_apart : (os : List Bounds) (t u : ℤ) (z a b c : Strip) → IsStep os t u a b c → AreApartInSlab z a → AreApartInSlab z c
unfolding IsStep
step_apart os t u z a b c s h = let e = s.1 in let f = s.2 in record { start = omega (arith, ints, h.start, e); finish = omega (arith, ints, h.finish, f); gap = omega (arith, ints, h.gap, e, f) }

put_by : (a b : Strip) (bs ms : List Strip) (p : PlanePoint) → (SomeIn p ms ↔ (IsInStrip b p ⊎ SomeIn p bs)) → SomeIn p (a ∷ ms) ↔ (IsInStrip a p ⊎ SomeIn p (b ∷ bs))
put_by a b bs ms p h = (to, from)
  where
    to : SomeIn p (a ∷ ms) → IsInStrip a p ⊎ SomeIn p (b ∷ bs)
    to i = elim (any_cases (λ s. IsInStrip s p) a ms i) [ inl j ↦ inl j | inr j ↦ elim (h.0 j) [ inl k ↦ inr (any_head (λ s. IsInStrip s p) b bs k) | inr k ↦ inr (any_tail (λ s. IsInStrip s p) b bs k) ] ]

    from : IsInStrip a p ⊎ SomeIn p (b ∷ bs) → SomeIn p (a ∷ ms)
    from (inl j) = any_head (λ s. IsInStrip s p) a ms j
    from (inr j) = any_tail (λ s. IsInStrip s p) a ms (h.1 (any_cases (λ s. IsInStrip s p) b bs j))

step_part : (os : List Bounds) (t u : ℤ) (a b c : Strip) → IsStep os t u a b c → IsPart os t u c
unfolding IsStep
step_part os t u a b c s = s.0

step_rising : (os : List Bounds) (t u : ℤ) (a b c : Strip) (bs : List Strip) → IsStep os t u a b c → IsNotRight a.left a.left_end b.left b.left_end → IsRising b bs → IsRising c bs
unfolding IsStep
step_rising os t u a b c bs s n r = rising_again a c b bs s.1 s.2 n r

join_by : (os : List Bounds) (t u : ℤ) (a b c : Strip) (bs ms : List Strip) (p : PlanePoint) → IsStep os t u a b c → (SomeIn p ms ↔ (IsInStrip c p ⊎ SomeIn p bs))
    → SomeIn p ms ↔ (IsInStrip a p ⊎ SomeIn p (b ∷ bs))
unfolding IsStep
join_by os t u a b c bs ms p s h = (to, from)
  where
    to : SomeIn p ms → IsInStrip a p ⊎ SomeIn p (b ∷ bs)
    to i = elim (h.0 i) [ inl j ↦ elim ((s.3 p).0 j) [ inl k ↦ inl k | inr k ↦ inr (any_head (λ s. IsInStrip s p) b bs k) ] | inr j ↦ inr (any_tail (λ s. IsInStrip s p) b bs j) ]

    from : IsInStrip a p ⊎ SomeIn p (b ∷ bs) → SomeIn p ms
    from (inl j) = h.1 (inl ((s.3 p).1 (inl j)))
    from (inr j) = elim (any_cases (λ s. IsInStrip s p) b bs j) [ inl k ↦ h.1 (inl ((s.3 p).1 (inr k))) | inr k ↦ h.1 (inr k) ]

pub merged_cover : (os : List Bounds) (t u : ℤ) → t <ℤ u → IsClean os t u → (a : Strip) (bs : List Strip) → IsPart os t u a → AreParts os t u bs → IsRising a bs
    → (p : PlanePoint) → SomeIn p (merged_from a bs) ↔ (IsInStrip a p ⊎ SomeIn p bs)
unfolding AreParts IsRising
merged_cover os t u d c a [] x y r p = (λ i. any_cases (λ s. IsInStrip s p) a [] i, λ i. elim i [ inl j ↦ any_head (λ s. IsInStrip s p) a [] j | inr j ↦ absurd (any_none (λ s. IsInStrip s p) j) ])
merged_cover os t u d c a (b ∷ bs) x y r p =
    by_lt_z {P = SomeIn p (merged_from a (b ∷ bs)) ↔ (IsInStrip a p ⊎ SomeIn p (b ∷ bs))} (a.right +ℤ a.right_end) (b.left +ℤ b.left_end)
    (λ l.
    let e = less_true (a.right +ℤ a.right_end) (b.left +ℤ b.left_end) l in
    rw e (put_by a b bs (merged_from b bs) p (merged_cover os t u d c b bs y.0 y.1 r.1 p)))
    (λ l.
    let e = less_false (a.right +ℤ a.right_end) (b.left +ℤ b.left_end) l in
    let s = step os t u a b d c x y.0 r.0 l in
    rw e (join_by os t u a b (joined a b) bs (merged_from (joined a b) bs) p s
    (merged_cover os t u d c (joined a b) bs (step_part os t u a b (joined a b) s) y.1 (step_rising os t u a b (joined a b) bs s r.0 r.1) p)))

-- the first keeps its left side, and so the apartness holds from one to the next
start_of : (os : List Bounds) (t u : ℤ) → t <ℤ u → IsClean os t u → (z a : Strip) (bs : List Strip) → IsPart os t u a → AreParts os t u bs → IsRising a bs
    → AreApartInSlab z a → IsApartFrom z (merged_from a bs)
unfolding AreParts IsRising IsApartFrom
start_of os t u d c z a [] x y r h = (h, tt)
start_of os t u d c z a (b ∷ bs) x y r h =
    by_lt_z {P = IsApartFrom z (merged_from a (b ∷ bs))} (a.right +ℤ a.right_end) (b.left +ℤ b.left_end)
    (λ l.
    let e = less_true (a.right +ℤ a.right_end) (b.left +ℤ b.left_end) l in
    let n = parts_way os t u a.right a.right_end b.left b.left_end x.right (y.0).left d c l in
    rw e (h, start_of os t u d c a b bs y.0 y.1 r.1 (record { start = n.start; finish = n.finish; gap = l })))
    (λ l.
    let e = less_false (a.right +ℤ a.right_end) (b.left +ℤ b.left_end) l in
    let s = step os t u a b d c x y.0 r.0 l in
    rw e (start_of os t u d c z (joined a b) bs (step_part os t u a b (joined a b) s) y.1 (step_rising os t u a b (joined a b) bs s r.0 r.1)
    (step_apart os t u z a b (joined a b) s h)))

pub merged_apart : (os : List Bounds) (t u : ℤ) → t <ℤ u → IsClean os t u → (a : Strip) (bs : List Strip) → IsPart os t u a → AreParts os t u bs → IsRising a bs
    → AreApart (merged_from a bs)
unfolding AreParts IsRising AreApart IsApartFrom
merged_apart os t u d c a [] x y r = tt
merged_apart os t u d c a (b ∷ bs) x y r =
    by_lt_z {P = AreApart (merged_from a (b ∷ bs))} (a.right +ℤ a.right_end) (b.left +ℤ b.left_end)
    (λ l.
    let e = less_true (a.right +ℤ a.right_end) (b.left +ℤ b.left_end) l in
    let n = parts_way os t u a.right a.right_end b.left b.left_end x.right (y.0).left d c l in
    rw e (start_of os t u d c a b bs y.0 y.1 r.1 (record { start = n.start; finish = n.finish; gap = l })))
    (λ l.
    let e = less_false (a.right +ℤ a.right_end) (b.left +ℤ b.left_end) l in
    let s = step os t u a b d c x y.0 r.0 l in
    rw e (merged_apart os t u d c (joined a b) bs (step_part os t u a b (joined a b) s) y.1 (step_rising os t u a b (joined a b) bs s r.0 r.1)))

pub merged_parts : (os : List Bounds) (t u : ℤ) → t <ℤ u → IsClean os t u → (a : Strip) (bs : List Strip) → IsPart os t u a → AreParts os t u bs → IsRising a bs
    → AreParts os t u (merged_from a bs)
unfolding AreParts IsRising
merged_parts os t u d c a [] x y r = (x, tt)
merged_parts os t u d c a (b ∷ bs) x y r =
    by_lt_z {P = AreParts os t u (merged_from a (b ∷ bs))} (a.right +ℤ a.right_end) (b.left +ℤ b.left_end)
    (λ l.
    let e = less_true (a.right +ℤ a.right_end) (b.left +ℤ b.left_end) l in
    rw e (x, merged_parts os t u d c b bs y.0 y.1 r.1))
    (λ l.
    let e = less_false (a.right +ℤ a.right_end) (b.left +ℤ b.left_end) l in
    let s = step os t u a b d c x y.0 r.0 l in
    rw e (merged_parts os t u d c (joined a b) bs (step_part os t u a b (joined a b) s) y.1 (step_rising os t u a b (joined a b) bs s r.0 r.1)))
