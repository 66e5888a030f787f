-- Lists of flags that tell of each place.
use Rattle.std.proofs.Common.{◌≡◌, sym, subst, ℕ, zero, suc, ◌<◌, ◌⊎◌, arith, Bool, true, false, List, [], ◌∷◌, ◌++◌, length, get_or}
use Rattle.std.specs.Prelude.{◌↔◌}

-- the flags tell of each of their places whether P holds
abbrev pub TellUpTo : (ℕ → Type 0) → List Bool → Type 0
TellUpTo P flags = (j : ℕ) → j < length flags → (get_or flags j false ≡ true) ↔ P j

-- whether place k stays, by its label
abbrev pub IsFlagged : List ℕ → List Bool → List Bool → List Bool → ℕ → Type 0
IsFlagged labels held begun spared k =
    (get_or begun (get_or labels k 0) false ≡ true) × ((get_or held k false ≡ true) ⊎ (get_or spared (get_or labels k 0) false ≡ true))

pub tell_more : (P : ℕ → Type 0) (flags : List Bool) (f : Bool) → TellUpTo P flags → (f ≡ true) ↔ P (length flags) → TellUpTo P (flags ++ f ∷ [])
tell_more P [] f h p zero l = p
tell_more P [] f h p (suc j) l = absurd (omega (arith, l))
tell_more P (g ∷ flags) f h p zero l = h zero (omega arith)
tell_more P (g ∷ flags) f h p (suc j) l = tell_more (λ n. P (suc n)) flags f (λ n m. h (suc n) (omega (arith, m))) p j (omega (arith, l))

length_more : (flags : List Bool) (f : Bool) → length (flags ++ f ∷ []) ≡ suc (length flags)
length_more [] f = omega arith
length_more (g ∷ flags) f = let l = length_more flags f in omega (arith, l)

pub count_more : (flags new : List Bool) (f : Bool) (i : ℕ) → length flags ≡ i → new ≡ flags ++ f ∷ [] → length new ≡ suc i
count_more flags new f i e n = let l = length_more flags f in subst (λ (xs : List Bool). length xs ≡ suc i) (sym n) (omega (arith, e, l))

pub tell_new : (P : ℕ → Type 0) (flags new : List Bool) (f : Bool) (i : ℕ) → length flags ≡ i → new ≡ flags ++ f ∷ [] → TellUpTo P flags → (f ≡ true) ↔ P i → TellUpTo P new
tell_new P flags new f i e n h p =
    subst (λ (xs : List Bool). TellUpTo P xs) (sym n) (tell_more P flags f h (subst (λ (k : ℕ). (f ≡ true) ↔ P k) (sym e) p))
