-- One fill after another.
use Rattle.std.proofs.Common.{◌≡◌, sym, subst, ℕ, zero, suc, ◌<◌, arith, List, [], ◌∷◌, ◌++◌, ◌+◌, length, get_or, map}
use Rattle.std.specs.List.{All}
use Rattle.std.proofs.lemmas.List.Elements.{All-cons, All-nil, All-append}
use Rattle.rings.specs.Rings.{Traced, IsRingInRange, not_traced}
use Rattle.fill_rules.specs.Made.{Made, no_fill}
use Rattle.outlines.specs.Drawn.{AreRingsInRange}

-- what holds of each place holds of the list with one more
pub each_more : (P : ℕ → Traced → Type 0) (ts : List Traced) (t : Traced) → ((k : ℕ) → k < length ts → P k (get_or ts k not_traced)) → P (length ts) t
    → (k : ℕ) → k < length (ts ++ t ∷ []) → P k (get_or (ts ++ t ∷ []) k not_traced)
each_more P [] t h p zero l = p
each_more P [] t h p (suc k) l = absurd (omega (arith, l))
each_more P (u ∷ ts) t h p zero l = h zero (omega arith)
each_more P (u ∷ ts) t h p (suc k) l = each_more (λ j. P (suc j)) ts t (λ j m. h (suc j) (omega (arith, m))) p k (omega (arith, l))

pub range_more : (ts : List Traced) (t : Traced) → AreRingsInRange ts → All IsRingInRange t.rings → AreRingsInRange (ts ++ t ∷ [])
range_more ts t h r = All-append (λ (x : Traced). All IsRingInRange x.rings) ts (t ∷ []) h (All-cons (λ (x : Traced). All IsRingInRange x.rings) t [] r (All-nil (λ (x : Traced). All IsRingInRange x.rings)))

length_more : (ts : List Traced) (t : Traced) → length (ts ++ t ∷ []) ≡ suc (length ts)
length_more [] t = omega arith
length_more (u ∷ ts) t = let l = length_more ts t in omega (arith, l)

pub count_more : (ts new : List Traced) (t : Traced) (i : ℕ) → i ≡ length ts → new ≡ ts ++ t ∷ [] → i + 1 ≡ length new
count_more ts new t i e f = let l = length_more ts t in subst (λ (xs : List Traced). i + 1 ≡ length xs) (sym f) (omega (arith, e, l))

-- the next fill with its outlines
pub drawn_more : (Q : Made → Traced → Type 0) (fs : List Made) (ts new : List Traced) (t : Traced) (i : ℕ) (f : Made) → i ≡ length ts → f ≡ get_or fs i no_fill
    → new ≡ ts ++ t ∷ [] → ((k : ℕ) → k < length ts → Q (get_or fs k no_fill) (get_or ts k not_traced)) → Q f t
    → (k : ℕ) → k < length new → Q (get_or fs k no_fill) (get_or new k not_traced)
drawn_more Q fs ts new t i f e g n h q =
    subst (λ (xs : List Traced). (k : ℕ) → k < length xs → Q (get_or fs k no_fill) (get_or xs k not_traced)) (sym n)
    (each_more (λ k x. Q (get_or fs k no_fill) x) ts t h (subst (λ (k : ℕ). Q (get_or fs k no_fill) t) e (subst (λ (x : Made). Q x t) g q)))

length_map : {A B : Type 0} (f : A → B) (xs : List A) → length (map f xs) ≡ length xs
length_map f [] = omega arith
length_map f (x ∷ xs) = let l = length_map f xs in omega (arith, l)

pub at_place : {A B : Type 0} (P : B → Type 0) (f : A → B) (xs : List A) (k : ℕ) (d b : B) → All P (map f xs) → k < length xs → b ≡ get_or (map f xs) k d → P b
at_place P f xs k d b h l e = subst P (sym e) (h k d (let m = length_map f xs in omega (arith, l, m)))
