-- What the tests of lines owe, over plain numbers.
use Rattle.std.proofs.Common.{◌≡◌, refl, ℕ, ◌≤◌, ◌⊎◌, inl, inr, arith, subst, to_z}
use Rattle.std.specs.Prelude.{ℤ, pos, neg_ℤ, ◌+ℤ◌, ◌-ℤ◌, ◌*ℤ◌, ◌≤ℤ◌, ◌<ℤ◌, ◌↔◌, IsTrue, Bool, true, false, T}
use Rattle.std.specs.Int.Signed.{le_z}
use Rattle.std.proofs.lemmas.Int.{ints}
use mir.Syntax.{w128}
use lib.IntN.{*ℤ_comm}
use Rattle.touching.specs.Core.{Spot}
use Rattle.touching.specs.Inner.Decision.{inner, cross, IsPointBeside, IsPointClose, IsSquare, AreLinesCrossing, AreLinesClose}
use Rattle.touching.proofs.Short.{squares_are}
use Rattle.cores.specs.Room.{IsNearZero}
use Rattle.cores.specs.Inner.Numbers.{IsBesideBy, AreCrossesOn}
use Rattle.cores.proofs.Plain.{r128}

pub long_square : (l x y : ℤ) → l ≡ inner x y x y → pos 0 ≤ℤ l
long_square l x y e = omega (arith, ints, e, (squares_are x y).1)

pub beside_from : (t : Bool) (a : ℕ) (wx wy vx vy f d l k : ℤ) → f ≡ inner wx wy wx wy → d ≡ inner wx wy vx vy → l ≡ inner vx vy vx vy → k ≡ cross wx wy vx vy
    → IsTrue t ↔ IsBesideBy a f d l k → IsTrue t ↔ IsPointBeside a wx wy vx vy
unfolding IsPointBeside
beside_from t a wx wy vx vy f d l k ef ed el ek h =
    subst (λ (z : ℤ). IsTrue t ↔ IsBesideBy a (inner wx wy wx wy) (inner wx wy vx vy) (inner vx vy vx vy) z) ek
    (subst (λ (z : ℤ). IsTrue t ↔ IsBesideBy a (inner wx wy wx wy) (inner wx wy vx vy) z k) el
    (subst (λ (z : ℤ). IsTrue t ↔ IsBesideBy a (inner wx wy wx wy) z l k) ed (subst (λ (z : ℤ). IsTrue t ↔ IsBesideBy a z d l k) ef h)))

pub point_from : (t : Bool) (a : ℕ) (p u v : Spot) (wx wy vx vy : ℤ) → wx ≡ p.x -ℤ u.x → wy ≡ p.y -ℤ u.y → vx ≡ v.x -ℤ u.x → vy ≡ v.y -ℤ u.y
    → IsTrue t ↔ IsPointBeside a wx wy vx vy → IsTrue t ↔ IsPointClose a p u v
unfolding IsPointClose
point_from t a p u v wx wy vx vy e1 e2 e3 e4 h =
    subst (λ (z : ℤ). IsTrue t ↔ IsPointBeside a (p.x -ℤ u.x) (p.y -ℤ u.y) (v.x -ℤ u.x) z) e4
    (subst (λ (z : ℤ). IsTrue t ↔ IsPointBeside a (p.x -ℤ u.x) (p.y -ℤ u.y) z vy) e3
    (subst (λ (z : ℤ). IsTrue t ↔ IsPointBeside a (p.x -ℤ u.x) z vx vy) e2 (subst (λ (z : ℤ). IsTrue t ↔ IsPointBeside a z wy vx vy) e1 h)))

turned_cross : (ax ay bx by : ℤ) → neg_ℤ (cross ax ay bx by) ≡ cross bx by ax ay
turned_cross ax ay bx by = omega (arith, ints, *ℤ_comm ax by, *ℤ_comm ay bx)

pub crossing_from : (t : Bool) (wx wy vx vy yx yy l m n : ℤ) → l ≡ cross vx vy yx yy → m ≡ cross yx yy wx wy → n ≡ cross vx vy wx wy
    → IsTrue t ↔ AreCrossesOn l m n → IsTrue t ↔ AreLinesCrossing wx wy vx vy yx yy
unfolding AreLinesCrossing
crossing_from t wx wy vx vy yx yy l m n el em en h =
    let b = λ (z : ℤ) (w : ℤ) (u : ℤ). IsTrue t ↔ (IsSquare (cross vx vy yx yy) (cross yx yy wx wy) (cross vx vy wx wy) ⊎ IsSquare z w u) in
    let start : IsTrue t ↔ AreCrossesOn (cross vx vy yx yy) (cross yx yy wx wy) (cross vx vy wx wy) =
    subst (λ (z : ℤ). IsTrue t ↔ AreCrossesOn (cross vx vy yx yy) (cross yx yy wx wy) z) en
    (subst (λ (z : ℤ). IsTrue t ↔ AreCrossesOn (cross vx vy yx yy) z n) em (subst (λ (z : ℤ). IsTrue t ↔ AreCrossesOn z m n) el h)) in
    subst (λ (z : ℤ). b (cross yx yy vx vy) (cross wx wy yx yy) z) (turned_cross vx vy wx wy)
    (subst (λ (z : ℤ). b (cross yx yy vx vy) z (neg_ℤ (cross vx vy wx wy))) (turned_cross yx yy wx wy)
    (subst (λ (z : ℤ). b z (neg_ℤ (cross yx yy wx wy)) (neg_ℤ (cross vx vy wx wy))) (turned_cross vx vy yx yy) start))

pub crossing_of : (t : Bool) (s u v w : Spot) (wx wy vx vy yx yy : ℤ)
    → wx ≡ s.x -ℤ v.x → wy ≡ s.y -ℤ v.y → vx ≡ u.x -ℤ s.x → vy ≡ u.y -ℤ s.y → yx ≡ w.x -ℤ v.x → yy ≡ w.y -ℤ v.y
    → IsTrue t ↔ AreLinesCrossing wx wy vx vy yx yy
    → IsTrue t ↔ AreLinesCrossing (s.x -ℤ v.x) (s.y -ℤ v.y) (u.x -ℤ s.x) (u.y -ℤ s.y) (w.x -ℤ v.x) (w.y -ℤ v.y)
crossing_of t s u v w wx wy vx vy yx yy e1 e2 e3 e4 e5 e6 h =
    subst (λ (z : ℤ). IsTrue t ↔ AreLinesCrossing (s.x -ℤ v.x) (s.y -ℤ v.y) (u.x -ℤ s.x) (u.y -ℤ s.y) (w.x -ℤ v.x) z) e6
    (subst (λ (z : ℤ). IsTrue t ↔ AreLinesCrossing (s.x -ℤ v.x) (s.y -ℤ v.y) (u.x -ℤ s.x) (u.y -ℤ s.y) z yy) e5
    (subst (λ (z : ℤ). IsTrue t ↔ AreLinesCrossing (s.x -ℤ v.x) (s.y -ℤ v.y) (u.x -ℤ s.x) z yx yy) e4
    (subst (λ (z : ℤ). IsTrue t ↔ AreLinesCrossing (s.x -ℤ v.x) (s.y -ℤ v.y) z vy yx yy) e3
    (subst (λ (z : ℤ). IsTrue t ↔ AreLinesCrossing (s.x -ℤ v.x) z vx vy yx yy) e2 (subst (λ (z : ℤ). IsTrue t ↔ AreLinesCrossing z wy vx vy yx yy) e1 h)))))

is_true : (b : Bool) → T b → b ≡ true
is_true true h = refl
is_true false h = absurd h

-- the cases of a point beside a line, past the end or between: the code's sums are those of the decision
pub end_case : (a : ℕ) (f d l k : ℤ) → a ≤ 160000000000000000
    → IsNearZero 11520000000000000000 f → IsNearZero 11520000000000000000 d → IsNearZero 11520000000000000000 l → pos 0 <ℤ d → l ≤ℤ d
    → IsTrue (le_z (r128 (r128 f +ℤ r128 l)) (r128 (to_z w128 a +ℤ r128 (pos 2 *ℤ r128 d)))) ↔ IsBesideBy a f d l k
end_case a f d l k ha hf hd hl past far = (λ z. inr (inl (far, omega (arith, ints, z, ex, ey))), back)
  where
    ex : r128 (r128 f +ℤ r128 l) ≡ f +ℤ l
    ex = omega (arith, ints, hf.low, hf.high, hl.low, hl.high)

    ey : r128 (to_z w128 a +ℤ r128 (pos 2 *ℤ r128 d)) ≡ pos a +ℤ pos 2 *ℤ d
    ey = omega (arith, ints, hd.low, hd.high, ha)

    fits : (f +ℤ l) ≤ℤ (pos a +ℤ pos 2 *ℤ d) → r128 (r128 f +ℤ r128 l) ≤ℤ r128 (to_z w128 a +ℤ r128 (pos 2 *ℤ r128 d))
    fits h = omega (arith, ints, h, ex, ey)

    back : IsBesideBy a f d l k → IsTrue (le_z (r128 (r128 f +ℤ r128 l)) (r128 (to_z w128 a +ℤ r128 (pos 2 *ℤ r128 d))))
    back (inl h) = absurd (omega (arith, ints, h.0))
    back (inr (inl h)) = is_true _ (fits h.1).le
    back (inr (inr h)) = absurd (omega (arith, ints, h.1))

pub middle_case : (a : ℕ) (f d l k x y : ℤ) → x ≡ k *ℤ k → y ≡ pos a *ℤ l → pos 0 <ℤ d → d <ℤ l → IsTrue (le_z x y) ↔ IsBesideBy a f d l k
middle_case a f d l k x y ex ey past short = (λ z. inr (inr (past, short, omega (arith, ints, z, ex, ey))), back)
  where
    fits : (k *ℤ k) ≤ℤ (pos a *ℤ l) → x ≤ℤ y
    fits h = omega (arith, ints, h, ex, ey)

    back : IsBesideBy a f d l k → IsTrue (le_z x y)
    back (inl h) = absurd (omega (arith, ints, h.0))
    back (inr (inl h)) = absurd (omega (arith, ints, h.0))
    back (inr (inr h)) = is_true _ (fits h.2).le

-- the tests of two lines in their order
pub cross_found : (a : ℕ) (s t u v : Spot) → AreLinesCrossing (s.x -ℤ u.x) (s.y -ℤ u.y) (t.x -ℤ s.x) (t.y -ℤ s.y) (v.x -ℤ u.x) (v.y -ℤ u.y)
    → AreLinesClose a s t u v
unfolding AreLinesClose
cross_found a s t u v h = inl h

pub end_found : (a : ℕ) (s t u v : Spot) → (IsPointClose a s u v ⊎ IsPointClose a t u v) → AreLinesClose a s t u v
unfolding AreLinesClose
end_found a s t u v h = inr (inl h)

pub last_end : (b : Bool) (a : ℕ) (s t u v : Spot)
    → (AreLinesCrossing (s.x -ℤ u.x) (s.y -ℤ u.y) (t.x -ℤ s.x) (t.y -ℤ s.y) (v.x -ℤ u.x) (v.y -ℤ u.y) → ⊥)
    → ((IsPointClose a s u v ⊎ IsPointClose a t u v) → ⊥)
    → IsTrue b ↔ (IsPointClose a u s t ⊎ IsPointClose a v s t) → IsTrue b ↔ AreLinesClose a s t u v
unfolding AreLinesClose
last_end b a s t u v apart ends h = (λ z. inr (inr (h.0 z)), back)
  where
    back : AreLinesClose a s t u v → IsTrue b
    back (inl z) = absurd (apart z)
    back (inr (inl z)) = absurd (ends z)
    back (inr (inr z)) = h.1 z
