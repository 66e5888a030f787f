-- Those of a list that a property holds of, one octagon further.
use Rattle.std.proofs.Common.{◌≡◌, refl, sym, subst, inl, inr, ℕ, ◌+◌, ◌<◌, ◌≤◌, List, [], ◌∷◌, ◌++◌, length, get_or, take}
use Rattle.std.proofs.lemmas.List.{take_more, take_all}
use Rattle.std.proofs.lemmas.Bool.{true≢false}
use Rattle.std.specs.Prelude.{◌↔◌, Bool, true, false, cond, IsTrue}
use Rattle.plane.specs.Plane.{Bounds}
use Rattle.fills.specs.Fills.{AreThose}

chosen_end : (P : Bounds → Type 0) (xs : List Bounds) (o : Bounds) (ys : List Bounds) → P o → AreThose P xs ys → AreThose P (xs ++ o ∷ []) (ys ++ o ∷ [])
chosen_end P [] o ys p a = inr (p, ([], subst (λ (t : List Bounds). ys ++ o ∷ [] ≡ t ++ o ∷ []) a refl, refl))
chosen_end P (x ∷ xs) o ys p (inl a) = inl (a.0, chosen_end P xs o ys p a.1)
chosen_end P (x ∷ xs) o ys p (inr a) =
    inr (a.0, (a.1.0 ++ o ∷ [], subst (λ (t : List Bounds). ys ++ o ∷ [] ≡ t ++ o ∷ []) a.1.1 refl, chosen_end P xs o a.1.0 p a.1.2))

left_out_end : (P : Bounds → Type 0) (xs : List Bounds) (o : Bounds) (ys : List Bounds) → (P o → ⊥) → AreThose P xs ys → AreThose P (xs ++ o ∷ []) ys
left_out_end P [] o ys p a = inl (p, a)
left_out_end P (x ∷ xs) o ys p (inl a) = inl (a.0, left_out_end P xs o ys p a.1)
left_out_end P (x ∷ xs) o ys p (inr a) = inr (a.0, (a.1.0, a.1.1, left_out_end P xs o a.1.0 p a.1.2))

further : (P : Bounds → Type 0) (o : Bounds) (xs : List Bounds) (i : ℕ) (ys : List Bounds) → i < length xs → o ≡ get_or xs i o → AreThose P (take i xs ++ o ∷ []) ys → AreThose P (take (i + 1) xs) ys
further P o xs i ys l e a = subst (λ t. AreThose P t ys) (sym (take_more xs i o l)) (subst (λ (b : Bounds). AreThose P (take i xs ++ b ∷ []) ys) e a)

-- one more that is chosen
chosen_more : (P : Bounds → Type 0) (o : Bounds) (xs : List Bounds) (i : ℕ) (ys : List Bounds) → i < length xs → o ≡ get_or xs i o → P o → AreThose P (take i xs) ys → AreThose P (take (i + 1) xs) (ys ++ o ∷ [])
chosen_more P o xs i ys l e p a = further P o xs i (ys ++ o ∷ []) l e (chosen_end P (take i xs) o ys p a)

-- one more that isn't
left_out_more : (P : Bounds → Type 0) (o : Bounds) (xs : List Bounds) (i : ℕ) (ys : List Bounds) → i < length xs → o ≡ get_or xs i o → (P o → ⊥) → AreThose P (take i xs) ys → AreThose P (take (i + 1) xs) ys
left_out_more P o xs i ys l e p a = further P o xs i ys l e (left_out_end P (take i xs) o ys p a)

-- one more, as a test says
pub chosen_by : (P : Bounds → Type 0) (o : Bounds) (xs : List Bounds) (i : ℕ) (ys : List Bounds) (wanted : Bool) → i < length xs → o ≡ get_or xs i o → IsTrue wanted ↔ P o
    → AreThose P (take i xs) ys → AreThose P (take (i + 1) xs) (cond wanted (ys ++ o ∷ []) ys)
chosen_by P o xs i ys true l e w a = chosen_more P o xs i ys l e (w.0 refl) a
chosen_by P o xs i ys false l e w a = left_out_more P o xs i ys l e (λ p. true≢false (sym (w.1 p))) a

-- all are looked at
pub chosen_all : (P : Bounds → Type 0) (xs : List Bounds) (i : ℕ) (ys : List Bounds) → length xs ≤ i → AreThose P (take i xs) ys → AreThose P xs ys
chosen_all P xs i ys l a = subst (λ t. AreThose P t ys) (take_all i xs l) a
