-- Whether edges cover a point can be told: by whole numbers alone.
use Rattle.std.proofs.Common.{◌≡◌, ◌%◌, ◌⊎◌, inl, inr, List, [], ◌∷◌, arith}
use Rattle.std.specs.Prelude.{ℤ, pos, ◌-ℤ◌, ◌*ℤ◌, ◌≤ℤ◌, Any}
use Rattle.std.proofs.lemmas.Int.{ints, by_lt_z}
use Rattle.std.proofs.lemmas.Bool.{cases_eq}
use Rattle.plane.specs.Plane.{PlanePoint}
use Rattle.plane.specs.Covering.{Edge, IsOn, Between, crossings, Covers}
use Rattle.plane.proofs.Lists.{any_none, any_head, any_tail, any_cases, covers_on, covers_odd, covers_cases}

abbrev IsTold : Type 0 → Type 0
IsTold A = A ⊎ (A → ⊥)

both_told : {A B : Type 0} → IsTold A → IsTold B → IsTold (A × B)
both_told (inl a) (inl b) = inl (a, b)
both_told (inl a) (inr m) = inr (λ h. m h.1)
both_told (inr n) d = inr (λ h. n h.0)

some_told : {A B : Type 0} → IsTold A → IsTold B → IsTold (A ⊎ B)
some_told (inl a) d = inl (inl a)
some_told (inr n) (inl b) = inl (inr b)
some_told (inr n) (inr m) = inr (λ h. elim h [ inl a ↦ n a | inr b ↦ m b ])

most_told : (a b : ℤ) → IsTold (a ≤ℤ b)
most_told a b = by_lt_z {P = IsTold (a ≤ℤ b)} b a (λ h. inr (λ l. omega (arith, ints, h, l))) (λ h. inl h)

same_told : (a b : ℤ) → IsTold (a ≡ b)
same_told a b =
    by_lt_z {P = IsTold (a ≡ b)} a b
    (λ h. inr (λ e. omega (arith, ints, h, e)))
    (λ h. by_lt_z {P = IsTold (a ≡ b)} b a (λ g. inr (λ e. omega (arith, ints, g, e))) (λ g. inl (omega (arith, ints, h, g))))

between_told : (a b z : ℤ) → IsTold (Between a b z)
between_told a b z = some_told (both_told (most_told a z) (most_told z b)) (both_told (most_told b z) (most_told z a))

on_told : (e : Edge) (p : PlanePoint) → IsTold (IsOn e p)
on_told e p =
    let line = (e.finish.y -ℤ e.start.y) *ℤ (p.x -ℤ pos p.scale *ℤ e.start.x) ≡ (e.finish.x -ℤ e.start.x) *ℤ (p.y -ℤ pos p.scale *ℤ e.start.y) in
    let across = Between (pos p.scale *ℤ e.start.x) (pos p.scale *ℤ e.finish.x) p.x in
    let along = Between (pos p.scale *ℤ e.start.y) (pos p.scale *ℤ e.finish.y) p.y in
    elim (both_told {A = line} {B = across × along} (same_told _ _) (both_told {A = across} {B = along} (between_told _ _ p.x) (between_told _ _ p.y))) [
      | inl h ↦ inl (record { line = h.0; across = h.1.0; along = h.1.1 })
      | inr n ↦ inr (λ o. n (o.line, (o.across, o.along)))
    ]

on_some_told : (es : List Edge) (p : PlanePoint) → IsTold (Any (λ e. IsOn e p) es)
on_some_told [] p = inr (λ a. any_none (λ e. IsOn e p) a)
on_some_told (e ∷ es) p = elim (some_told (on_told e p) (on_some_told es p)) [
  | inl h ↦ inl (elim h [ inl o ↦ any_head (λ e. IsOn e p) e es o | inr o ↦ any_tail (λ e. IsOn e p) e es o ])
  | inr n ↦ inr (λ a. n (any_cases (λ e. IsOn e p) e es a))
]

pub covers_or_not : (es : List Edge) (p : PlanePoint) → Covers es p ⊎ (Covers es p → ⊥)
covers_or_not es p = elim (some_told (on_some_told es p) (cases_eq (crossings es p % 2) 1)) [
  | inl h ↦ inl (elim h [ inl o ↦ covers_on es p o | inr o ↦ covers_odd es p o ])
  | inr n ↦ inr (λ c. n (covers_cases es p c))
]
