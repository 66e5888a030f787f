-- The strips of all slabs are in order.
use Rattle.std.proofs.Common.{subst, sym, ◌∙◌, inl, inr, arith, List, [], ◌∷◌, ◌++◌}
use Rattle.std.specs.Prelude.{ℤ, ◌≤ℤ◌, ◌<ℤ◌}
use Rattle.std.proofs.lemmas.Int.{ints}
use Rattle.plane.specs.Plane.{Bounds}
use Rattle.strips.specs.declared.Strip.{Strip}
use Rattle.strips.specs.Strips.{IsTrapezoid, AreApartInSlab, IsStripBefore}
use Rattle.strips.proofs.Slab.{IsRun}
use Rattle.strips.specs.Inner.Merge.{merged}
use Rattle.strips.proofs.Lines.{IsClean}
use Rattle.strips.proofs.Merge.{IsPart, AreParts, IsApartFrom, AreApart, merged_apart, merged_parts}
use Rattle.strips.proofs.Slabs.{ArePieces}
use Rattle.strips.specs.Inner.Sweep.{AreSlabStrips, AreSheetStrips}
use Rattle.strips.proofs.Whole.{slab_in_parts, from_left, sorted_rising, AreSorted, AreRows}

-- each strip has its top above its bottom, and its sides in order
abbrev pub IsSound : Strip → Type 0
IsSound s = IsTrapezoid s

unfoldable pub AreSound : List Strip → Type 0
AreSound [] = Unit {0}
AreSound (s ∷ ss) = IsSound s × AreSound ss

unfoldable pub IsBeforeAll : Strip → List Strip → Type 0
IsBeforeAll a [] = Unit {0}
IsBeforeAll a (b ∷ bs) = IsStripBefore a b × IsBeforeAll a bs

unfoldable pub AreInOrder : List Strip → Type 0
AreInOrder [] = Unit {0}
AreInOrder (s ∷ ss) = IsBeforeAll s ss × AreInOrder ss

-- ---- one slab
apart_trans : (a b c : Strip) → IsRun b → AreApartInSlab a b → AreApartInSlab b c → AreApartInSlab a c
apart_trans a b c r f g = let s = r.start in let e = r.finish in record { start = omega (arith, ints, f.start, g.start, s); finish = omega (arith, ints, f.finish, g.finish, e); gap = omega (arith, ints, f.start, f.finish, f.gap, g.gap, s, e) }

before_part : (os : List Bounds) (t u : ℤ) (a b : Strip) → IsPart os t u a → IsPart os t u b → AreApartInSlab a b → IsStripBefore a b
before_part os t u a b x y h = inr (x.top ∙ sym y.top, x.bottom ∙ sym y.bottom, h)

before_all : (os : List Bounds) (t u : ℤ) (a b : Strip) (bs : List Strip) → IsPart os t u a → IsPart os t u b → AreParts os t u bs → AreApartInSlab a b → IsApartFrom b bs → IsBeforeAll a bs
unfolding AreParts IsApartFrom IsBeforeAll
before_all os t u a b [] x y z f g = tt
before_all os t u a b (c ∷ cs) x y z f g =
    let h = apart_trans a b c y.run f g.0 in
    (before_part os t u a c x z.0 h, before_all os t u a c cs x z.0 z.1 h g.1)

apart_order : (os : List Bounds) (t u : ℤ) (a : Strip) (bs : List Strip) → IsPart os t u a → AreParts os t u bs → IsApartFrom a bs → AreInOrder (a ∷ bs)
unfolding AreParts IsApartFrom AreInOrder IsBeforeAll
apart_order os t u a [] x y g = (tt, tt)
apart_order os t u a (b ∷ bs) x y g =
    ((before_part os t u a b x y.0 g.0, before_all os t u a b bs x y.0 y.1 g.0 g.1), apart_order os t u b bs y.0 y.1 g.1)

slab_order : (os : List Bounds) (t u : ℤ) (ss : List Strip) → AreParts os t u ss → AreApart ss → AreInOrder ss
unfolding AreParts AreApart AreInOrder
slab_order os t u [] x g = tt
slab_order os t u (a ∷ bs) x g = apart_order os t u a bs x.0 x.1 g

parts_sound : (os : List Bounds) (t u : ℤ) (ss : List Strip) → t <ℤ u → AreParts os t u ss → AreSound ss
unfolding AreParts AreSound
parts_sound os t u [] d x = tt
parts_sound os t u (a ∷ bs) d x =
    let y = x.0 in
    let f = y.top in
    let g = y.bottom in
    let r = y.run in (
      record { down = omega (arith, ints, d, f, g); left = r.left; right = r.right; start = r.start; finish = r.finish; wide = y.wide },
      parts_sound os t u bs d x.1,
    )

merged_both : (os : List Bounds) (t u : ℤ) → t <ℤ u → IsClean os t u → (rs : List Strip) → AreParts os t u rs → AreSorted rs → AreParts os t u (merged rs) × AreApart (merged rs)
unfolding AreParts AreSorted AreApart
merged_both os t u d c [] x s = (tt, tt)
merged_both os t u d c (a ∷ bs) x s =
    let r = sorted_rising os t u a bs d c x.0 x.1 s in
    (merged_parts os t u d c a bs x.0 x.1 r, merged_apart os t u d c a bs x.0 x.1 r)

pub slab_parts : (os : List Bounds) (t u : ℤ) (ss : List Strip) → t <ℤ u → IsClean os t u → ArePieces os os → AreSlabStrips os t u ss → AreParts os t u ss × AreApart ss
slab_parts os t u ss d c k h =
    let x = slab_in_parts os t u ss d c k h in
    subst (λ (l : List Strip). AreParts os t u l × AreApart l) (sym h.is) (merged_both os t u d c h.runs x (from_left h.runs h.sorted))

-- ---- all slabs
pub IsBelowAll : ℤ → List Strip → Type 0
IsBelowAll r [] = Unit {0}
IsBelowAll r (s ∷ ss) = (r ≤ℤ s.top) × IsBelowAll r ss

below_again : (q r : ℤ) (ss : List Strip) → q ≤ℤ r → IsBelowAll r ss → IsBelowAll q ss
unfolding IsBelowAll
below_again q r [] h b = tt
below_again q r (s ∷ ss) h b = let z = b.0 in (omega (arith, ints, h, z), below_again q r ss h b.1)

below_append : (r : ℤ) (xs ys : List Strip) → IsBelowAll r xs → IsBelowAll r ys → IsBelowAll r (xs ++ ys)
unfolding IsBelowAll
below_append r [] ys a b = b
below_append r (x ∷ xs) ys a b = (a.0, below_append r xs ys a.1 b)

parts_below : (os : List Bounds) (t u : ℤ) (ss : List Strip) → AreParts os t u ss → IsBelowAll t ss
unfolding AreParts IsBelowAll
parts_below os t u [] x = tt
parts_below os t u (s ∷ ss) x = let e = (x.0).top in (omega (arith, ints, e), parts_below os t u ss x.1)

all_before : (a : Strip) (r : ℤ) (ys : List Strip) → a.bottom ≤ℤ r → IsBelowAll r ys → IsBeforeAll a ys
unfolding IsBelowAll IsBeforeAll
all_before a r [] h b = tt
all_before a r (y ∷ ys) h b = let z = b.0 in (inl (omega (arith, ints, h, z)), all_before a r ys h b.1)

before_append : (a : Strip) (xs ys : List Strip) → IsBeforeAll a xs → IsBeforeAll a ys → IsBeforeAll a (xs ++ ys)
unfolding IsBeforeAll
before_append a [] ys f g = g
before_append a (x ∷ xs) ys f g = (f.0, before_append a xs ys f.1 g)

order_append : (os : List Bounds) (t u : ℤ) (xs ys : List Strip) → AreParts os t u xs → AreInOrder xs → AreInOrder ys → IsBelowAll u ys → AreInOrder (xs ++ ys)
unfolding AreParts AreInOrder
order_append os t u [] ys p x y b = y
order_append os t u (a ∷ xs) ys p x y b =
    (before_append a xs ys x.0 (all_before a u ys (let e = (p.0).bottom in omega (arith, ints, e)) b), order_append os t u xs ys p.1 x.1 y b)

sound_append : (xs ys : List Strip) → AreSound xs → AreSound ys → AreSound (xs ++ ys)
unfolding AreSound
sound_append [] ys f g = g
sound_append (x ∷ xs) ys f g = (f.0, sound_append xs ys f.1 g)

-- from the row r on
pub record IsGood (r : ℤ) (ss : List Strip) : Type 0 where
  pub sound : AreSound ss
  pub order : AreInOrder ss
  pub below : IsBelowAll r ss

none_good : (r : ℤ) → IsGood r []
unfolding AreSound AreInOrder IsBelowAll
none_good r = record { sound = tt; order = tt; below = tt }

pub sheet_good : (os : List Bounds) (t : ℤ) (rs : List ℤ) (ss : List Strip) → ArePieces os os → AreRows os (t ∷ rs) → AreSheetStrips os (t ∷ rs) ss → IsGood t ss
unfolding AreRows AreSheetStrips
sheet_good os t [] ss k r h = subst (IsGood t) (sym h) (none_good t)
sheet_good os t (u ∷ rs) ss k r h =
    let x = slab_parts os t u h.0 r.0 r.1 k h.2 in
    let g = sheet_good os u rs h.1 k r.2 h.3 in
    subst (IsGood t) (sym h.4)
    (record {
      sound = sound_append h.0 h.1 (parts_sound os t u h.0 r.0 x.0) g.sound;
      order = order_append os t u h.0 h.1 x.0 (slab_order os t u h.0 x.0 x.1) g.order g.below;
      below = below_append t h.0 h.1 (parts_below os t u h.0 x.0) (below_again t u h.1 (let d = r.0 in omega (arith, ints, d)) g.below);
    })
