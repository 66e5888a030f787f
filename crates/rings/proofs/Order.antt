-- The order of corners and of lists of corners is a strict total one; of all lists of one round one is least.
use Rattle.std.proofs.Common.{◌≡◌, refl, sym, subst, ap, ◌∙◌, ◌⊎◌, inl, inr, arith, List, [], ◌∷◌}
use Rattle.std.proofs.lemmas.Int.{ints, by_lt_z}
use Rattle.grid_num.specs.declared.Point.{Point}
use Rattle.plane.specs.Covering.{Edge}
use Rattle.rings.specs.Walks.{IsLess, IsListLess, IsSameRound, IsContour, bends}
use Rattle.rings.proofs.Lists.{IsOrder, round_sym, round_trans}

pub point_same : (a b : Point) → a.x ≡ b.x → a.y ≡ b.y → a ≡ b
point_same a b p q = ap (λ x. record { x = x; y = a.y }) p ∙ ap (λ y. record { x = b.x; y = y }) q

pub less_never : (a : Point) → IsLess a a → ⊥
unfolding IsLess
less_never a (inl h) = omega (arith, ints)
less_never a (inr h) = let k = h.1 in omega (arith, ints, k)

pub less_on : (a b c : Point) → IsLess a b → IsLess b c → IsLess a c
unfolding IsLess
less_on a b c (inl p) (inl q) = inl (omega (arith, ints))
less_on a b c (inl p) (inr (q, r)) = inl (omega (arith, ints))
less_on a b c (inr (p, r)) (inl q) = inl (omega (arith, ints))
less_on a b c (inr (p, r)) (inr (q, s)) = inr (p ∙ q, omega (arith, ints))

pub less_cases : (a b : Point) → IsLess a b ⊎ ((a ≡ b) ⊎ IsLess b a)
unfolding IsLess
less_cases a b =
    by_lt_z {P = IsLess a b ⊎ ((a ≡ b) ⊎ IsLess b a)} a.y b.y (λ h. inl (inl h))
    (λ h. by_lt_z {P = IsLess a b ⊎ ((a ≡ b) ⊎ IsLess b a)} b.y a.y (λ g. inr (inr (inl g)))
    (λ g. let e : a.y ≡ b.y = omega (arith, ints, h, g) in
    by_lt_z {P = IsLess a b ⊎ ((a ≡ b) ⊎ IsLess b a)} a.x b.x (λ k. inl (inr (e, k)))
    (λ k. by_lt_z {P = IsLess a b ⊎ ((a ≡ b) ⊎ IsLess b a)} b.x a.x (λ l. inr (inr (inr (sym e, l))))
    (λ l. inr (inl (point_same a b (omega (arith, ints, k, l)) e))))))

list_never : (as' : List Point) → IsListLess as' as' → ⊥
unfolding IsListLess
list_never [] h = h
list_never (a ∷ as') (inl h) = less_never a h
list_never (a ∷ as') (inr h) = list_never as' h.1

list_on : (as' bs cs : List Point) → IsListLess as' bs → IsListLess bs cs → IsListLess as' cs
unfolding IsListLess
list_on as' bs [] p q = q
list_on as' [] (c ∷ cs) p q = absurd p
list_on [] (b ∷ bs) (c ∷ cs) p q = tt
list_on (a ∷ as') (b ∷ bs) (c ∷ cs) (inl p) (inl q) = inl (less_on a b c p q)
list_on (a ∷ as') (b ∷ bs) (c ∷ cs) (inl p) (inr (q, r)) = inl (subst (IsLess a) q p)
list_on (a ∷ as') (b ∷ bs) (c ∷ cs) (inr (p, r)) (inl q) = inl (subst (λ z. IsLess z c) (sym p) q)
list_on (a ∷ as') (b ∷ bs) (c ∷ cs) (inr (p, r)) (inr (q, s)) = inr (p ∙ q, list_on as' bs cs r s)

pub list_cases : (as' bs : List Point) → IsListLess as' bs ⊎ ((as' ≡ bs) ⊎ IsListLess bs as')
unfolding IsListLess
list_cases [] [] = inr (inl refl)
list_cases [] (b ∷ bs) = inl tt
list_cases (a ∷ as') [] = inr (inr tt)
list_cases (a ∷ as') (b ∷ bs) = elim (less_cases a b) [
  | inl h ↦ inl (inl h)
  | inr o ↦ elim o [
    | inl e ↦ elim (list_cases as' bs) [
      | inl h ↦ inl (inr (e, h))
      | inr o ↦ elim o [ inl f ↦ inr (inl (ap (λ z. z ∷ as') e ∙ ap (λ zs. b ∷ zs) f)) | inr h ↦ inr (inr (inr (sym e, h))) ]
    ]
    | inr h ↦ inr (inr (inl h))
  ]
]

pub list_order : IsOrder IsListLess
list_order = record { never = list_never; on = list_on }

-- one contour alone is drawn by walks that bend in the same round
pub contour_same : (w v : List Edge) (cs bs : List Point) → IsSameRound (bends w) (bends v) → IsContour w cs → IsContour v bs → cs ≡ bs
contour_same w v cs bs r c b =
    let around = round_trans cs (bends w) bs (round_sym (bends w) cs c.round) (round_trans (bends w) (bends v) bs r b.round) in
    elim (list_cases cs bs) [
      | inl h ↦ absurd (b.least cs (round_sym cs bs around) h)
      | inr o ↦ elim o [ inl e ↦ e | inr h ↦ absurd (c.least bs around h) ]
    ]
