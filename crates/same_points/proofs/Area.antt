-- A cut keeps the area.
use Rattle.std.proofs.Common.{◌≡◌, refl, sym, ap, ◌∙◌, ℕ, ◌+◌, ◌⊎◌, inl, inr, arith, List, [], ◌∷◌, ◌++◌}
use Rattle.std.specs.Prelude.{ℤ, pos, negsuc, neg_ℤ, ◌+ℤ◌, ◌-ℤ◌, ◌*ℤ◌}
use Rattle.std.proofs.lemmas.Int.{ints}
use lib.IntN.{*ℤ_comm}
use Rattle.grid_num.proofs.Products.{mul_add, mul_sub}
use Rattle.strips.specs.declared.Strip.{Strip}
use Rattle.strips.specs.Strips.{IsTrapezoid}
use Rattle.strips.specs.Area.{strip_area2, area2_of}
use Rattle.strips.proofs.Slab.{IsAt}
use Rattle.rings.proofs.Lists.{Has}
use Rattle.same_points.specs.Cuts.{upper_part, lower_part, above, below, cut}
use Rattle.same_points.proofs.Pieces.{left_in, right_in, left_at, right_at, Stands, Over, Under, Across, stands, upper_across, upper_over, lower_across, lower_under, above_more, above_same, below_more, below_same}

-- ---- products
neg_mul : (n : ℕ) (b : ℤ) → negsuc n *ℤ b ≡ neg_ℤ (pos (n + 1) *ℤ b)
neg_mul n b = omega (arith, ints)

distrib : (a b c : ℤ) → a *ℤ (b +ℤ c) ≡ a *ℤ b +ℤ a *ℤ c
distrib (pos k) b c = mul_add k b c
distrib (negsuc k) b c = omega (arith, ints, neg_mul k b, neg_mul k c, neg_mul k (b +ℤ c), mul_add (k + 1) b c)

distrib_sub : (a b c : ℤ) → a *ℤ (b -ℤ c) ≡ a *ℤ b -ℤ a *ℤ c
distrib_sub (pos k) b c = mul_sub k b c
distrib_sub (negsuc k) b c = omega (arith, ints, neg_mul k b, neg_mul k c, neg_mul k (b -ℤ c), mul_sub (k + 1) b c)

add_times : (a b c : ℤ) → (a +ℤ b) *ℤ c ≡ a *ℤ c +ℤ b *ℤ c
add_times a b c = *ℤ_comm (a +ℤ b) c ∙ (distrib c a b ∙ omega (arith, ints, *ℤ_comm c a, *ℤ_comm c b))

-- ---- one side: a and b are the heights of the parts
side_sum : (a b l x le : ℤ) → ((x ≡ l) × (le ≡ l)) ⊎ (((x ≡ l +ℤ a) × (le ≡ l +ℤ (a +ℤ b))) ⊎ ((x ≡ l -ℤ a) × (le ≡ l -ℤ (a +ℤ b)))) → a *ℤ (l +ℤ x) +ℤ b *ℤ (x +ℤ le) ≡ (a +ℤ b) *ℤ (l +ℤ le)
side_sum a b l x le (inl h) = rw (h.0, h.1) (sym (add_times a b (l +ℤ l)))
side_sum a b l x le (inr (inl h)) =
    rw (h.0, h.1)
    (omega (
      arith,
      ints,
      add_times a b (l +ℤ (l +ℤ (a +ℤ b))),
      distrib a l (l +ℤ a),
      distrib a l a,
      distrib b (l +ℤ a) (l +ℤ (a +ℤ b)),
      distrib b l a,
      distrib b l (a +ℤ b),
      distrib b a b,
      distrib a l (l +ℤ (a +ℤ b)),
      distrib a l (a +ℤ b),
      distrib a a b,
      distrib b l (l +ℤ (a +ℤ b)),
      *ℤ_comm a b,
    ))
side_sum a b l x le (inr (inr h)) =
    rw (h.0, h.1)
    (omega (
      arith,
      ints,
      add_times a b (l +ℤ (l -ℤ (a +ℤ b))),
      distrib a l (l -ℤ a),
      distrib_sub a l a,
      distrib b (l -ℤ a) (l -ℤ (a +ℤ b)),
      distrib_sub b l a,
      distrib_sub b l (a +ℤ b),
      distrib b a b,
      distrib a l (l -ℤ (a +ℤ b)),
      distrib_sub a l (a +ℤ b),
      distrib a a b,
      distrib b l (l -ℤ (a +ℤ b)),
      *ℤ_comm a b,
    ))

side_area : (t u l le r x : ℤ) → IsAt t u l le r x → (r -ℤ t) *ℤ (l +ℤ x) +ℤ (u -ℤ r) *ℤ (x +ℤ le) ≡ (u -ℤ t) *ℤ (l +ℤ le)
side_area t u l le r x h =
    side_sum (r -ℤ t) (u -ℤ r) l x le (cases h) ∙ ap (λ (z : ℤ). z *ℤ (l +ℤ le)) (omega (arith, ints))
  where
    cases : IsAt t u l le r x → ((x ≡ l) × (le ≡ l)) ⊎ (((x ≡ l +ℤ (r -ℤ t)) × (le ≡ l +ℤ ((r -ℤ t) +ℤ (u -ℤ r)))) ⊎ ((x ≡ l -ℤ (r -ℤ t)) × (le ≡ l -ℤ ((r -ℤ t) +ℤ (u -ℤ r)))))
    cases (inl a) = inl (a.1, a.0)
    cases (inr (inl a)) = inr (inl (a.1, (let b = a.0 in omega (arith, ints, b))))
    cases (inr (inr a)) = inr (inr (a.1, (let b = a.0 in omega (arith, ints, b))))

-- the area of a trapezoid, by its sides
by_sides : (d l le r re : ℤ) → d *ℤ ((r -ℤ l) +ℤ (re -ℤ le)) ≡ d *ℤ (r +ℤ re) -ℤ d *ℤ (l +ℤ le)
by_sides d l le r re = ap (λ (z : ℤ). d *ℤ z) (omega (arith, ints)) ∙ distrib_sub d (r +ℤ re) (l +ℤ le)

part_area : (r : ℤ) (s : Strip) → IsTrapezoid s → strip_area2 (upper_part r s) +ℤ strip_area2 (lower_part r s) ≡ strip_area2 s
part_area r s h =
    let a = by_sides (r -ℤ s.top) s.left (left_in r s) s.right (right_in r s) in
    let b = by_sides (s.bottom -ℤ r) (left_in r s) s.left_end (right_in r s) s.right_end in
    let c = by_sides (s.bottom -ℤ s.top) s.left s.left_end s.right s.right_end in
    let d = side_area s.top s.bottom s.left s.left_end r (left_in r s) (left_at r s h) in
    let e = side_area s.top s.bottom s.right s.right_end r (right_in r s) (right_at r s h) in
    sums (strip_area2 (upper_part r s)) (strip_area2 (lower_part r s)) (strip_area2 s)
    ((r -ℤ s.top) *ℤ (s.right +ℤ right_in r s)) ((r -ℤ s.top) *ℤ (s.left +ℤ left_in r s))
    ((s.bottom -ℤ r) *ℤ (right_in r s +ℤ s.right_end)) ((s.bottom -ℤ r) *ℤ (left_in r s +ℤ s.left_end))
    ((s.bottom -ℤ s.top) *ℤ (s.right +ℤ s.right_end)) ((s.bottom -ℤ s.top) *ℤ (s.left +ℤ s.left_end)) a b c e d
  where
    sums : (x y z a b c d e f : ℤ) → x ≡ a -ℤ b → y ≡ c -ℤ d → z ≡ e -ℤ f → a +ℤ c ≡ e → b +ℤ d ≡ f → x +ℤ y ≡ z
    sums x y z a b c d e f i j k l m = omega (arith, ints, i, j, k, l, m)

area_append : (xs ys : List Strip) → area2_of (xs ++ ys) ≡ area2_of xs +ℤ area2_of ys
unfolding area2_of
area_append [] ys = omega (arith, ints)
area_append (x ∷ xs) ys = let e = area_append xs ys in omega (arith, ints, e)

both_area : (r : ℤ) (ss : List Strip) → ((s : Strip) → Has ss s → IsTrapezoid s) → area2_of (above r ss) +ℤ area2_of (below r ss) ≡ area2_of ss
unfolding area2_of above below Has
both_area r [] h = omega (arith, ints)
both_area r (s ∷ ss) h = at (stands r s) (both_area r ss (λ t i. h t (inr i)))
  where
    grown : (a b c x y z : ℤ) → x +ℤ y ≡ z → a +ℤ b ≡ c → (x +ℤ a) +ℤ (y +ℤ b) ≡ z +ℤ c
    grown a b c x y z e f = omega (arith, ints, e, f)

    first : (a b c x : ℤ) → a +ℤ b ≡ c → (x +ℤ a) +ℤ b ≡ x +ℤ c
    first a b c x f = omega (arith, ints, f)

    second : (a b c x : ℤ) → a +ℤ b ≡ c → a +ℤ (x +ℤ b) ≡ x +ℤ c
    second a b c x f = omega (arith, ints, f)

    at : Stands r s → area2_of (above r ss) +ℤ area2_of (below r ss) ≡ area2_of ss → area2_of (above r (s ∷ ss)) +ℤ area2_of (below r (s ∷ ss)) ≡ area2_of (s ∷ ss)
    at (Over l) f =
        let d = (h s (inl refl)).down in
        ap (λ zs. area2_of zs +ℤ area2_of (below r (s ∷ ss))) (above_more r s ss (omega (arith, ints, d, l)) ∙ ap (λ z. z ∷ above r ss) (upper_over r s l))
        ∙ (ap (λ zs. area2_of (s ∷ above r ss) +ℤ area2_of zs) (below_same r s ss l)
        ∙ first (area2_of (above r ss)) (area2_of (below r ss)) (area2_of ss) (strip_area2 s) f)
    at (Under l) f =
        let d = (h s (inl refl)).down in
        ap (λ zs. area2_of zs +ℤ area2_of (below r (s ∷ ss))) (above_same r s ss l)
        ∙ (ap (λ zs. area2_of (above r ss) +ℤ area2_of zs) (below_more r s ss (omega (arith, ints, d, l)) ∙ ap (λ z. z ∷ below r ss) (lower_under r s l))
        ∙ second (area2_of (above r ss)) (area2_of (below r ss)) (area2_of ss) (strip_area2 s) f)
    at (Across c) f =
        ap (λ zs. area2_of zs +ℤ area2_of (below r (s ∷ ss))) (above_more r s ss c.over ∙ ap (λ z. z ∷ above r ss) (upper_across r s c.under))
        ∙ (ap (λ zs. area2_of (upper_part r s ∷ above r ss) +ℤ area2_of zs) (below_more r s ss c.under ∙ ap (λ z. z ∷ below r ss) (lower_across r s c.over))
        ∙ grown (area2_of (above r ss)) (area2_of (below r ss)) (area2_of ss) (strip_area2 (upper_part r s)) (strip_area2 (lower_part r s)) (strip_area2 s) (part_area r s (h s (inl refl))) f)

pub cut_area : (r : ℤ) (ss : List Strip) → ((s : Strip) → Has ss s → IsTrapezoid s) → area2_of (cut r ss) ≡ area2_of ss
unfolding cut
cut_area r ss h = area_append (above r ss) (below r ss) ∙ both_area r ss h
