-- The runs of one slab: each is a part of it, and they have the union's points.
use Rattle.std.proofs.Common.{refl, inl, inr, arith, List, [], ◌∷◌}
use Rattle.std.specs.Prelude.{ℤ, pos, ◌+ℤ◌, ◌-ℤ◌, ◌*ℤ◌, ◌≤ℤ◌, ◌<ℤ◌, Contains, Any, int_lt, if◌then◌else◌}
use Rattle.std.proofs.lemmas.Int.{ints, by_lt_z}
use Rattle.plane.specs.Plane.{PlanePoint, Bounds, In, IsTight}
use Rattle.plane.proofs.Lists.{any_none, any_head, any_tail, any_cases}
use Rattle.plane.proofs.Counts.{less_true, less_false}
use Rattle.strips.specs.Strips.{IsStout, IsInStrip}
use Rattle.strips.specs.Inner.Runs.{greatest, least, run_at, ReachesAcross, runs_of}
use Rattle.strips.proofs.Slab.{IsMost, IsFewest, IsRunOf, run_law, run_IsRun}
use Rattle.strips.proofs.Lines.{IsClean, IsDoubled, across, left_line, right_line, run_wide}
use Rattle.strips.proofs.Merge.{IsPart, AreParts}

greatest_is : (a b c : ℤ) → IsMost a b c (greatest a b c)
unfolding greatest
greatest_is a b c =
    by_lt_z {P = IsMost a b c (if int_lt a b then (if int_lt b c then c else b) else (if int_lt a c then c else a))} a b
    (λ h. let e = less_true a b h in rw e (by_lt_z {P = IsMost a b c (if int_lt b c then c else b)} b c
    (λ k. let f = less_true b c k in rw f (record { first = omega (arith, ints); second = omega (arith, ints); third = omega (arith, ints); is = inr (inr refl) }))
    (λ k. let f = less_false b c k in rw f (record { first = omega (arith, ints); second = omega (arith, ints); third = omega (arith, ints); is = inr (inl refl) }))))
    (λ h. let e = less_false a b h in rw e (by_lt_z {P = IsMost a b c (if int_lt a c then c else a)} a c
    (λ k. let f = less_true a c k in rw f (record { first = omega (arith, ints); second = omega (arith, ints); third = omega (arith, ints); is = inr (inr refl) }))
    (λ k. let f = less_false a c k in rw f (record { first = omega (arith, ints); second = omega (arith, ints); third = omega (arith, ints); is = inl refl }))))

least_is : (a b c : ℤ) → IsFewest a b c (least a b c)
unfolding least
least_is a b c =
    by_lt_z {P = IsFewest a b c (if int_lt b a then (if int_lt c b then c else b) else (if int_lt c a then c else a))} b a
    (λ h. let e = less_true b a h in rw e (by_lt_z {P = IsFewest a b c (if int_lt c b then c else b)} c b
    (λ k. let f = less_true c b k in rw f (record { first = omega (arith, ints); second = omega (arith, ints); third = omega (arith, ints); is = inr (inr refl) }))
    (λ k. let f = less_false c b k in rw f (record { first = omega (arith, ints); second = omega (arith, ints); third = omega (arith, ints); is = inr (inl refl) }))))
    (λ h. let e = less_false b a h in rw e (by_lt_z {P = IsFewest a b c (if int_lt c a then c else a)} c a
    (λ k. let f = less_true c a k in rw f (record { first = omega (arith, ints); second = omega (arith, ints); third = omega (arith, ints); is = inr (inr refl) }))
    (λ k. let f = less_false c a k in rw f (record { first = omega (arith, ints); second = omega (arith, ints); third = omega (arith, ints); is = inl refl }))))

run_is_run : (b : Bounds) (t u : ℤ) → IsRunOf b (run_at b t u)
run_is_run b t u = record {
  left = greatest_is b.x0 (b.s0 -ℤ t) (b.d0 +ℤ t);
  left_end = greatest_is b.x0 (b.s0 -ℤ u) (b.d0 +ℤ u);
  right = least_is b.x1 (b.s1 -ℤ t) (b.d1 +ℤ t);
  right_end = least_is b.x1 (b.s1 -ℤ u) (b.d1 +ℤ u);
}

-- the octagons that all rows are of, and those that are left to go over
pub record IsPiece (os : List Bounds) (b : Bounds) : Type 0 where
  pub one : Contains os b
  pub tight : IsTight b
  pub doubled : IsDoubled b
  pub stout : IsStout b

unfoldable pub ArePieces : List Bounds → List Bounds → Type 0
ArePieces os [] = Unit {0}
ArePieces os (b ∷ bs) = IsPiece os b × ArePieces os bs

piece_part : (os : List Bounds) (t u : ℤ) (b : Bounds) → t <ℤ u → IsClean os t u → IsPiece os b → b.y0 ≤ℤ t → u ≤ℤ b.y1 → IsPart os t u (run_at b t u)
piece_part os t u b d c k h1 h2 =
    let a = across os b t u k.one k.tight d c h1 h2 in
    let r = run_is_run b t u in
    record { top = refl; bottom = refl; run = run_IsRun b (run_at b t u) k.tight a r; left = left_line os b (run_at b t u) k.one k.tight k.doubled a r; right = right_line os b (run_at b t u) k.one k.tight k.doubled a r; wide = run_wide b (run_at b t u) k.tight k.stout a r }

-- a list of octagons that all reach across
unfoldable pub AllReach : List Bounds → ℤ → ℤ → Type 0
AllReach [] t u = Unit {0}
AllReach (b ∷ bs) t u = ReachesAcross b t u × AllReach bs t u

pub runs_parts : (os bs : List Bounds) (t u : ℤ) → t <ℤ u → IsClean os t u → ArePieces os bs → AllReach bs t u → AreParts os t u (runs_of bs t u)
unfolding ArePieces AreParts AllReach
runs_parts os [] t u d c k r = tt
runs_parts os (b ∷ bs) t u d c k r = (piece_part os t u b d c k.0 (r.0).0 (r.0).1, runs_parts os bs t u d c k.1 r.1)

-- what is in a run is in an octagon
pub runs_in : (os bs : List Bounds) (t u : ℤ) (p : PlanePoint) → t <ℤ u → IsClean os t u → ArePieces os bs → AllReach bs t u
    → Any (λ s. IsInStrip s p) (runs_of bs t u) → Any (λ b. In b p) bs
unfolding ArePieces AllReach
runs_in os [] t u p d c k r i = absurd (any_none (λ s. IsInStrip s p) i)
runs_in os (b ∷ bs) t u p d c k r i =
    elim (any_cases (λ s. IsInStrip s p) (run_at b t u) (runs_of bs t u) i) [
      | inl j ↦
          any_head (λ b. In b p) b bs
          ((run_law b (run_at b t u) p (k.0).tight (across os b t u (k.0).one (k.0).tight d c (r.0).0 (r.0).1) (run_is_run b t u) j.top j.bottom).0 j)
      | inr j ↦ any_tail (λ b. In b p) b bs (runs_in os bs t u p d c k.1 r.1 j)
    ]

-- and a point of an octagon between the rows is in its run
pub in_runs : (os bs : List Bounds) (t u : ℤ) (p : PlanePoint) → t <ℤ u → IsClean os t u → ArePieces os bs → AllReach bs t u
    → (pos p.scale *ℤ t) ≤ℤ p.y → p.y ≤ℤ (pos p.scale *ℤ u) → Any (λ b. In b p) bs → Any (λ s. IsInStrip s p) (runs_of bs t u)
unfolding ArePieces AllReach
in_runs os [] t u p d c k r h1 h2 i = absurd (any_none (λ b. In b p) i)
in_runs os (b ∷ bs) t u p d c k r h1 h2 i =
    elim (any_cases (λ b. In b p) b bs i) [
      | inl j ↦
          any_head (λ s. IsInStrip s p) (run_at b t u) (runs_of bs t u)
          ((run_law b (run_at b t u) p (k.0).tight (across os b t u (k.0).one (k.0).tight d c (r.0).0 (r.0).1) (run_is_run b t u) h1 h2).1 j)
      | inr j ↦ any_tail (λ s. IsInStrip s p) (run_at b t u) (runs_of bs t u) (in_runs os bs t u p d c k.1 r.1 h1 h2 j)
    ]
