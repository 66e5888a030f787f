-- Strips that are cut at a row stay in order.
use Rattle.std.proofs.Common.{◌≡◌, refl, sym, subst, ap, inl, inr, arith, List, [], ◌∷◌, ◌++◌}
use Rattle.std.specs.Prelude.{ℤ, ◌+ℤ◌, ◌<ℤ◌, ◌≤ℤ◌, AllPairs}
use Rattle.std.proofs.lemmas.Int.{ints, by_lt_z}
use Rattle.std.proofs.lemmas.List.Kept.{AllPairs-cons}
use Rattle.strips.specs.declared.Strip.{Strip}
use Rattle.strips.specs.Strips.{IsTrapezoid, AreApartInSlab, IsStripBefore}
use Rattle.strips.proofs.Slab.{IsAt}
use Rattle.rings.specs.Laws.{AreOrderly}
use Rattle.rings.proofs.Lists.{Has, has_parts, all_at, all_of, Rising, rising_of}
use Rattle.rings.proofs.Sides.{AreOrdered}
use Rattle.rings.proofs.Boundary.{ordered_tail}
use Rattle.same_points.specs.Cuts.{upper_part, lower_part, upper, lower, above, below, cut}
use Rattle.same_points.proofs.Pieces.{left_in, right_in, left_at, right_at, line_less, IsCrossing, upper_shape, lower_shape, upper_across, upper_over, lower_across, lower_under, above_more, above_same, below_more, below_same, IsAbove, IsBelow, above_has, below_has, IsPiece, Whole, Upper, Lower, piece_of}

pub ordered_of : (ss : List Strip) → AreOrderly ss → AreOrdered ss
ordered_of ss a = record { shape = λ s h. all_at (λ s. IsTrapezoid s) ss s a.shapes h; order = rising_of IsStripBefore ss a.order }

pairs_of : (ss : List Strip) → Rising IsStripBefore ss → AllPairs IsStripBefore ss
unfolding Rising
pairs_of [] r = λ i j d l m. absurd (omega (arith, m))
pairs_of (s ∷ ss) r = AllPairs-cons IsStripBefore s ss (all_of (IsStripBefore s) ss r.0) (pairs_of ss r.1)

pub orderly_of : (ss : List Strip) → AreOrdered ss → AreOrderly ss
orderly_of ss o = record { shapes = all_of (λ s. IsTrapezoid s) ss o.shape; order = pairs_of ss o.order }

-- ---- two strips between the same rows
moved : (s t : Strip) (l le r v : ℤ) → s.top ≡ t.top → s.bottom ≡ t.bottom → IsAt t.top t.bottom l le r v → IsAt s.top s.bottom l le r v
moved s t l le r v e f a = subst (λ (z : ℤ). IsAt z s.bottom l le r v) (sym e) (subst (λ (z : ℤ). IsAt t.top z l le r v) (sym f) a)

-- there is a gap in the row
pub gap_in : (r : ℤ) (s t : Strip) → IsTrapezoid s → IsTrapezoid t → IsCrossing r s → s.top ≡ t.top → s.bottom ≡ t.bottom → AreApartInSlab s t → right_in r s <ℤ left_in r t
gap_in r s t h i c e f a =
    line_less s.top s.bottom r s.right s.right_end (right_in r s) t.left t.left_end (left_in r t) c.over c.under (right_at r s h)
    (moved s t t.left t.left_end r (left_in r t) e f (left_at r t i)) a.start a.finish a.gap

upper_apart : (r : ℤ) (s t : Strip) → IsTrapezoid s → IsTrapezoid t → IsCrossing r s → s.top ≡ t.top → s.bottom ≡ t.bottom → AreApartInSlab s t → AreApartInSlab (upper_part r s) (upper_part r t)
upper_apart r s t h i c e f a = by s.right t.left (right_in r s) (left_in r t) a.start (gap_in r s t h i c e f a)
  where
    by : (x y v w : ℤ) → x ≤ℤ y → v <ℤ w → AreApartInSlab (upper_part r s) (upper_part r t)
    by x y v w l m = record { start = a.start; finish = weak (right_in r s) (left_in r t) (gap_in r s t h i c e f a); gap = sums s.right t.left (right_in r s) (left_in r t) a.start (gap_in r s t h i c e f a) }
      where
        weak : (a b : ℤ) → a <ℤ b → a ≤ℤ b
        weak a b l = omega (arith, ints, l)

        sums : (a b c d : ℤ) → a ≤ℤ b → c <ℤ d → (a +ℤ c) <ℤ (b +ℤ d)
        sums a b c d l m = omega (arith, ints, l, m)

lower_apart : (r : ℤ) (s t : Strip) → IsTrapezoid s → IsTrapezoid t → IsCrossing r s → s.top ≡ t.top → s.bottom ≡ t.bottom → AreApartInSlab s t → AreApartInSlab (lower_part r s) (lower_part r t)
lower_apart r s t h i c e f a = record {
  start = weak (right_in r s) (left_in r t) (gap_in r s t h i c e f a);
  finish = a.finish;
  gap = sums s.right_end t.left_end (right_in r s) (left_in r t) a.finish (gap_in r s t h i c e f a);
}
  where
    weak : (a b : ℤ) → a <ℤ b → a ≤ℤ b
    weak a b l = omega (arith, ints, l)

    sums : (a b c d : ℤ) → a ≤ℤ b → c <ℤ d → (c +ℤ a) <ℤ (d +ℤ b)
    sums a b c d l m = omega (arith, ints, l, m)

crossing_same : (r : ℤ) (s t : Strip) → s.top ≡ t.top → s.bottom ≡ t.bottom → IsCrossing r s → IsCrossing r t
crossing_same r s t e f c = record { over = subst (λ (z : ℤ). z <ℤ r) e c.over; under = subst (λ (z : ℤ). r <ℤ z) f c.under }

upper_top : (r : ℤ) (s : Strip) → (upper r s).top ≡ s.top
upper_top r s = by_lt_z {P = (upper r s).top ≡ s.top} r s.bottom (λ l. ap (λ (z : Strip). z.top) (upper_across r s l)) (λ l. ap (λ (z : Strip). z.top) (upper_over r s l))

lower_bottom : (r : ℤ) (s : Strip) → (lower r s).bottom ≡ s.bottom
lower_bottom r s = by_lt_z {P = (lower r s).bottom ≡ s.bottom} s.top r (λ l. ap (λ (z : Strip). z.bottom) (lower_across r s l)) (λ l. ap (λ (z : Strip). z.bottom) (lower_under r s l))

upper_low : (r : ℤ) (s : Strip) → (upper r s).bottom ≤ℤ r
upper_low r s = by_lt_z {P = (upper r s).bottom ≤ℤ r} r s.bottom
    (λ l. subst (λ (z : Strip). z.bottom ≤ℤ r) (sym (upper_across r s l)) (self r)) (λ l. subst (λ (z : Strip). z.bottom ≤ℤ r) (sym (upper_over r s l)) l)
  where
    self : (a : ℤ) → a ≤ℤ a
    self a = omega (arith, ints)

lower_high : (r : ℤ) (s : Strip) → r ≤ℤ (lower r s).top
lower_high r s = by_lt_z {P = r ≤ℤ (lower r s).top} s.top r
    (λ l. subst (λ (z : Strip). r ≤ℤ z.top) (sym (lower_across r s l)) (self r)) (λ l. subst (λ (z : Strip). r ≤ℤ z.top) (sym (lower_under r s l)) l)
  where
    self : (a : ℤ) → a ≤ℤ a
    self a = omega (arith, ints)

upper_before : (r : ℤ) (s t : Strip) → IsTrapezoid s → IsTrapezoid t → s.top <ℤ r → t.top <ℤ r → IsStripBefore s t → IsStripBefore (upper r s) (upper r t)
upper_before r s t h i l m (inl b) =
    let k = upper_over r s (omega (arith, ints, b, m)) in
    let q = upper_top r t in
    inl (subst (λ (z : Strip). z.bottom ≤ℤ (upper r t).top) (sym k) (subst (λ (z : ℤ). s.bottom ≤ℤ z) (sym q) b))
upper_before r s t h i l m (inr (e, f, a)) = by_lt_z {P = IsStripBefore (upper r s) (upper r t)} r s.bottom
    (λ n.
    let c : IsCrossing r s = record { over = l; under = n } in
    subst (λ z. IsStripBefore z (upper r t)) (sym (upper_across r s n))
    (subst (λ z. IsStripBefore (upper_part r s) z) (sym (upper_across r t (subst (λ (z : ℤ). r <ℤ z) f n))) (inr (e, refl, upper_apart r s t h i c e f a))))
    (λ n.
    subst (λ z. IsStripBefore z (upper r t)) (sym (upper_over r s n))
    (subst (λ z. IsStripBefore s z) (sym (upper_over r t (subst (λ (z : ℤ). z ≤ℤ r) f n))) (inr (e, f, a))))

lower_before : (r : ℤ) (s t : Strip) → IsTrapezoid s → IsTrapezoid t → r <ℤ s.bottom → r <ℤ t.bottom → IsStripBefore s t → IsStripBefore (lower r s) (lower r t)
lower_before r s t h i l m (inl b) =
    let k = lower_under r t (omega (arith, ints, b, l)) in
    let q = lower_bottom r s in
    inl (subst (λ (z : Strip). (lower r s).bottom ≤ℤ z.top) (sym k) (subst (λ (z : ℤ). z ≤ℤ t.top) (sym q) b))
lower_before r s t h i l m (inr (e, f, a)) = by_lt_z {P = IsStripBefore (lower r s) (lower r t)} s.top r
    (λ n.
    let c : IsCrossing r s = record { over = n; under = l } in
    subst (λ z. IsStripBefore z (lower r t)) (sym (lower_across r s n))
    (subst (λ z. IsStripBefore (lower_part r s) z) (sym (lower_across r t (subst (λ (z : ℤ). z <ℤ r) e n))) (inr (refl, f, lower_apart r s t h i c e f a))))
    (λ n.
    subst (λ z. IsStripBefore z (lower r t)) (sym (lower_under r s n))
    (subst (λ z. IsStripBefore s z) (sym (lower_under r t (subst (λ (z : ℤ). r ≤ℤ z) e n))) (inr (e, f, a))))

-- ---- all strips
above_rising : (r : ℤ) (ss : List Strip) → AreOrdered ss → Rising IsStripBefore (above r ss)
unfolding Rising Has above
above_rising r [] o = tt
above_rising r (s ∷ ss) o = at (above_rising r ss (ordered_tail s ss o))
  where
    at : Rising IsStripBefore (above r ss) → Rising IsStripBefore (above r (s ∷ ss))
    at f = by_lt_z {P = Rising IsStripBefore (above r (s ∷ ss))} s.top r
        (λ l. subst (Rising IsStripBefore) (sym (above_more r s ss l))
        ((λ y h. let a = above_has r ss y h in subst (IsStripBefore (upper r s)) (sym a.is) (upper_before r s a.strip (o.shape s (inl refl)) (o.shape a.strip (inr a.one)) l a.over ((o.order).0 a.strip a.one))), f))
        (λ l. subst (Rising IsStripBefore) (sym (above_same r s ss l)) f)

below_rising : (r : ℤ) (ss : List Strip) → AreOrdered ss → Rising IsStripBefore (below r ss)
unfolding Rising Has below
below_rising r [] o = tt
below_rising r (s ∷ ss) o = at (below_rising r ss (ordered_tail s ss o))
  where
    at : Rising IsStripBefore (below r ss) → Rising IsStripBefore (below r (s ∷ ss))
    at f = by_lt_z {P = Rising IsStripBefore (below r (s ∷ ss))} r s.bottom
        (λ l. subst (Rising IsStripBefore) (sym (below_more r s ss l))
        ((λ y h. let a = below_has r ss y h in subst (IsStripBefore (lower r s)) (sym a.is) (lower_before r s a.strip (o.shape s (inl refl)) (o.shape a.strip (inr a.one)) l a.under ((o.order).0 a.strip a.one))), f))
        (λ l. subst (Rising IsStripBefore) (sym (below_same r s ss l)) f)

rising_append : (xs ys : List Strip) → Rising IsStripBefore xs → Rising IsStripBefore ys → ((x y : Strip) → Has xs x → Has ys y → IsStripBefore x y) → Rising IsStripBefore (xs ++ ys)
unfolding Rising Has
rising_append [] ys r q f = q
rising_append (x ∷ xs) ys r q f =
    (λ y h. elim (has_parts xs ys y h) [ inl i ↦ r.0 y i | inr i ↦ f x y (inl refl) i ], rising_append xs ys r.1 q (λ z y h i. f z y (inr h) i))

pub cut_ordered : (r : ℤ) (ss : List Strip) → AreOrdered ss → AreOrdered (cut r ss)
unfolding cut
cut_ordered r ss o = record {
  shape = λ x h. shape x (piece_of r ss x h);
  order = rising_append (above r ss) (below r ss) (above_rising r ss o) (below_rising r ss o) (λ x y h i. before x y (above_has r ss x h) (below_has r ss y i));
}
  where
    shape : (x : Strip) → IsPiece r ss x → IsTrapezoid x
    shape x (Whole h l) = o.shape x h
    shape x (Upper s h c k) = subst IsTrapezoid (sym k) (upper_shape r s (o.shape s h) c)
    shape x (Lower s h c k) = subst IsTrapezoid (sym k) (lower_shape r s (o.shape s h) c)

    before : (x y : Strip) → IsAbove r ss x → IsBelow r ss y → IsStripBefore x y
    before x y a b =
        let l = subst (λ (z : Strip). z.bottom ≤ℤ r) (sym a.is) (upper_low r a.strip) in
        let m = subst (λ (z : Strip). r ≤ℤ z.top) (sym b.is) (lower_high r b.strip) in
        inl (omega (arith, ints, l, m))
