-- What the tests of areas owe, over plain bounds.
use Rattle.std.proofs.Common.{◌≡◌, ℕ, ◌⊎◌, inl, inr, arith, subst}
use Rattle.std.specs.Prelude.{ℤ, pos, ◌+ℤ◌, ◌-ℤ◌, ◌*ℤ◌, ◌≤ℤ◌, ◌<ℤ◌, ◌↔◌, IsTrue, Bool}
use Rattle.std.proofs.lemmas.Int.{ints}
use Rattle.plane.specs.Plane.{Bounds, Within}
use Rattle.plane.specs.Narrow.{IsNearZero}
use Rattle.touching.specs.Core.{Spot}
use Rattle.touching.specs.Inner.Decision.{Side, start_of, end_of, top, top_right, right, bottom_right, bottom, bottom_left, left, top_left, AreLinesClose, IsAreaClose, IsSideClose, IsOriginClose}
use Rattle.cores.specs.Inner.Numbers.{IsRightClose, IsLeftClose, IsStraightClose, IsSlantedClose}
use Rattle.cores.proofs.CornerPlaces.{IsSmallArea}
use Rattle.cores.proofs.Plain.{r64}

pub four : (r x y z w : Bool) (A B C D : Type 0) → IsTrue r ↔ (IsTrue x ⊎ (IsTrue y ⊎ (IsTrue z ⊎ IsTrue w)))
    → IsTrue x ↔ A → IsTrue y ↔ B → IsTrue z ↔ C → IsTrue w ↔ D → IsTrue r ↔ (A ⊎ (B ⊎ (C ⊎ D)))
four r x y z w A B C D any a b c d = (λ t. there (any.0 t), λ h. any.1 (back h))
  where
    there : (IsTrue x ⊎ (IsTrue y ⊎ (IsTrue z ⊎ IsTrue w))) → A ⊎ (B ⊎ (C ⊎ D))
    there (inl h) = inl (a.0 h)
    there (inr (inl h)) = inr (inl (b.0 h))
    there (inr (inr (inl h))) = inr (inr (inl (c.0 h)))
    there (inr (inr (inr h))) = inr (inr (inr (d.0 h)))

    back : A ⊎ (B ⊎ (C ⊎ D)) → IsTrue x ⊎ (IsTrue y ⊎ (IsTrue z ⊎ IsTrue w))
    back (inl h) = inl (a.1 h)
    back (inr (inl h)) = inr (inl (b.1 h))
    back (inr (inr (inl h))) = inr (inr (inl (c.1 h)))
    back (inr (inr (inr h))) = inr (inr (inr (d.1 h)))

-- a side by its corners
pub side_test : (t : Bool) (a : ℕ) (b : Bounds) (k : Side) (s u p q : Spot) → p ≡ start_of b k → q ≡ end_of b k
    → IsTrue t ↔ AreLinesClose a p q s u → IsTrue t ↔ AreLinesClose a (start_of b k) (end_of b k) s u
side_test t a b k s u p q ep eq h =
    subst (λ (z : Spot). IsTrue t ↔ AreLinesClose a (start_of b k) z s u) eq (subst (λ (z : Spot). IsTrue t ↔ AreLinesClose a z q s u) ep h)

abbrev pub Between : Bool → ℤ → ℤ → ℤ → Type 0
Between t low high z = IsTrue t ↔ ((low ≤ℤ z) × (z ≤ℤ high))

pub between_plain : (t : Bool) (low high z l h u : ℤ) → low ≡ l → high ≡ h → z ≡ u → Between t low high z → Between t l h u
between_plain t low high z l h u el eh ez b =
    subst (λ (k : ℤ). Between t l h k) ez (subst (λ (k : ℤ). Between t l k z) eh (subst (λ (k : ℤ). Between t k high z) el b))

pub within_from : (b : Bounds) (u v : ℤ) (x y s d r : Bool) → Between x b.x0 b.x1 u → Between y b.y0 b.y1 v → Between s b.s0 b.s1 (u +ℤ v) → Between d b.d0 b.d1 (u -ℤ v)
    → (IsTrue r ↔ (IsTrue x × IsTrue y × IsTrue s × IsTrue d)) → IsTrue r ↔ Within b u v
within_from b u v x y s d r px py ps pd o = (
  λ t.
      let a = o.0 t in
      let fx = px.0 a.0 in
      let fy = py.0 a.1 in
      let fs = ps.0 a.2 in
      let fd = pd.0 a.3 in
      record { x_low = fx.0; x_high = fx.1; y_low = fy.0; y_high = fy.1; s_low = fs.0; s_high = fs.1; d_low = fd.0; d_high = fd.1 },
  λ f. o.1 (px.1 (f.x_low, f.x_high), py.1 (f.y_low, f.y_high), ps.1 (f.s_low, f.s_high), pd.1 (f.d_low, f.d_high)),
)

plain : (a : ℤ) → IsNearZero 2400000000 a → r64 a ≡ a
plain a h = omega (arith, ints)

pub holds_law : (b : Bounds) (u v : ℤ) (x y s d r : Bool) → IsSmallArea b → IsNearZero 1200000000 u → IsNearZero 1200000000 v
    → IsTrue x ↔ ((r64 b.x0 ≤ℤ r64 u) × (r64 u ≤ℤ r64 b.x1))
    → IsTrue y ↔ ((r64 b.y0 ≤ℤ r64 v) × (r64 v ≤ℤ r64 b.y1))
    → IsTrue s ↔ ((r64 b.s0 ≤ℤ r64 (r64 u +ℤ r64 v)) × (r64 (r64 u +ℤ r64 v) ≤ℤ r64 b.s1))
    → IsTrue d ↔ ((r64 b.d0 ≤ℤ r64 (r64 u -ℤ r64 v)) × (r64 (r64 u -ℤ r64 v) ≤ℤ r64 b.d1))
    → (IsTrue r ↔ (IsTrue x × IsTrue y × IsTrue s × IsTrue d)) → IsTrue r ↔ Within b u v
holds_law b u v x y s d r m nu nv ox oy os od o =
    within_from b u v x y s d r
    (between_plain x _ _ _ _ _ _ (plain b.x0 m.x0) (plain b.x1 m.x1) (omega (arith, ints, nu.low, nu.high)) ox)
    (between_plain y _ _ _ _ _ _ (plain b.y0 m.y0) (plain b.y1 m.y1) (omega (arith, ints, nv.low, nv.high)) oy)
    (between_plain s _ _ _ _ _ _ (plain b.s0 m.s0) (plain b.s1 m.s1) (omega (arith, ints, nu.low, nu.high, nv.low, nv.high)) os)
    (between_plain d _ _ _ _ _ _ (plain b.d0 m.d0) (plain b.d1 m.d1) (omega (arith, ints, nu.low, nu.high, nv.low, nv.high)) od)
    o

-- the tests of an area and a line in their order
pub start_found : (a : ℕ) (b : Bounds) (s t : Spot) → Within b s.x s.y → IsAreaClose a b s t
unfolding IsAreaClose
start_found a b s t h = inl h

pub right_found : (a : ℕ) (b : Bounds) (s t : Spot) → IsRightClose a b s t → IsAreaClose a b s t
unfolding IsAreaClose
right_found a b s t (inl h) = inr (top, h)
right_found a b s t (inr (inl h)) = inr (top_right, h)
right_found a b s t (inr (inr (inl h))) = inr (right, h)
right_found a b s t (inr (inr (inr h))) = inr (bottom_right, h)

left_found : (a : ℕ) (b : Bounds) (s t : Spot) → IsLeftClose a b s t → IsAreaClose a b s t
unfolding IsAreaClose
left_found a b s t (inl h) = inr (bottom, h)
left_found a b s t (inr (inl h)) = inr (bottom_left, h)
left_found a b s t (inr (inr (inl h))) = inr (left, h)
left_found a b s t (inr (inr (inr h))) = inr (top_left, h)

pub left_last : (r : Bool) (a : ℕ) (b : Bounds) (s t : Spot) → (Within b s.x s.y → ⊥) → (IsRightClose a b s t → ⊥)
    → IsTrue r ↔ IsLeftClose a b s t → IsTrue r ↔ IsAreaClose a b s t
unfolding IsAreaClose
left_last r a b s t out not h = (λ z. left_found a b s t (h.0 z), back)
  where
    back : IsAreaClose a b s t → IsTrue r
    back (inl z) = absurd (out z)
    back (inr (top, z)) = absurd (not (inl z))
    back (inr (top_right, z)) = absurd (not (inr (inl z)))
    back (inr (right, z)) = absurd (not (inr (inr (inl z))))
    back (inr (bottom_right, z)) = absurd (not (inr (inr (inr z))))
    back (inr (bottom, z)) = h.1 (inl z)
    back (inr (bottom_left, z)) = h.1 (inr (inl z))
    back (inr (left, z)) = h.1 (inr (inr (inl z)))
    back (inr (top_left, z)) = h.1 (inr (inr (inr z)))

-- and of the origin and an octagon
pub origin_in : (a : ℕ) (b : Bounds) → Within b (pos 0) (pos 0) → IsOriginClose a b
unfolding IsOriginClose
origin_in a b h = inl h

pub straight_found : (a : ℕ) (b : Bounds) → IsStraightClose a b → IsOriginClose a b
unfolding IsOriginClose
straight_found a b (inl h) = inr (inl h)
straight_found a b (inr (inl h)) = inr (inr (inl h))
straight_found a b (inr (inr (inl h))) = inr (inr (inr (inl h)))
straight_found a b (inr (inr (inr h))) = inr (inr (inr (inr (inl h))))

slanted_found : (a : ℕ) (b : Bounds) → IsSlantedClose a b → IsOriginClose a b
unfolding IsOriginClose
slanted_found a b h = inr (inr (inr (inr (inr h))))

pub slanted_last : (r : Bool) (a : ℕ) (b : Bounds) → (Within b (pos 0) (pos 0) → ⊥) → (IsStraightClose a b → ⊥)
    → IsTrue r ↔ IsSlantedClose a b → IsTrue r ↔ IsOriginClose a b
unfolding IsOriginClose
slanted_last r a b out not h = (λ z. slanted_found a b (h.0 z), back)
  where
    back : IsOriginClose a b → IsTrue r
    back (inl z) = absurd (out z)
    back (inr (inl z)) = absurd (not (inl z))
    back (inr (inr (inl z))) = absurd (not (inr (inl z)))
    back (inr (inr (inr (inl z)))) = absurd (not (inr (inr (inl z))))
    back (inr (inr (inr (inr (inl z))))) = absurd (not (inr (inr (inr z))))
    back (inr (inr (inr (inr (inr z))))) = h.1 z

-- a side by its numbers
pub numbers_test : (t : Bool) (a e : ℕ) (c l h c' l' h' : ℤ) → e ≡ a → c' ≡ c → l' ≡ l → h' ≡ h → IsTrue t ↔ IsSideClose e c' l' h' → IsTrue t ↔ IsSideClose a c l h
numbers_test t a e c l h c' l' h' ea ec el eh g =
    subst (λ (z : ℕ). IsTrue t ↔ IsSideClose z c l h) ea
    (subst (λ (z : ℤ). IsTrue t ↔ IsSideClose e c l z) eh
    (subst (λ (z : ℤ). IsTrue t ↔ IsSideClose e c z h') el (subst (λ (z : ℤ). IsTrue t ↔ IsSideClose e z l' h') ec g)))

-- the tests of a side in their order
pub middle_found : (a : ℕ) (c l h : ℤ) → ((l ≤ℤ pos 0) × (pos 0 ≤ℤ h) × ((c *ℤ c) ≤ℤ pos a)) → IsSideClose a c l h
unfolding IsSideClose
middle_found a c l h z = inl z

pub low_found : (a : ℕ) (c l h : ℤ) → ((pos 0 <ℤ l) × ((c *ℤ c +ℤ l *ℤ l) ≤ℤ pos a)) → IsSideClose a c l h
unfolding IsSideClose
low_found a c l h z = inr (inl z)

pub high_last : (r : Bool) (a : ℕ) (c l h : ℤ) → (((l ≤ℤ pos 0) × (pos 0 ≤ℤ h) × ((c *ℤ c) ≤ℤ pos a)) → ⊥)
    → (((pos 0 <ℤ l) × ((c *ℤ c +ℤ l *ℤ l) ≤ℤ pos a)) → ⊥) → IsTrue r ↔ ((h <ℤ pos 0) × ((c *ℤ c +ℤ h *ℤ h) ≤ℤ pos a)) → IsTrue r ↔ IsSideClose a c l h
unfolding IsSideClose
high_last r a c l h middle low high = (λ z. inr (inr (high.0 z)), back)
  where
    back : IsSideClose a c l h → IsTrue r
    back (inl z) = absurd (middle z)
    back (inr (inl z)) = absurd (low z)
    back (inr (inr z)) = high.1 z
