-- Octagons and lists of them that are the same.
use Rattle.std.proofs.Common.{◌≡◌, ◌∙◌, refl, sym, ap, ℕ, suc, ◌+◌, ◌<◌, inl, inr, List, [], ◌∷◌, length, get_or, arith, ℤ}
use Rattle.std.specs.Prelude.{◌↔◌, Bool, IsTrue}
use Rattle.std.proofs.lemmas.Bool.{cases_lt}
use Rattle.std.proofs.lemmas.List.{get_or_default}
use Rattle.plane.specs.Plane.{Bounds}

abbrev eight : ℤ → ℤ → ℤ → ℤ → ℤ → ℤ → ℤ → ℤ → Bounds
eight x0 x1 y0 y1 s0 s1 d0 d1 = record { x0 = x0; x1 = x1; y0 = y0; y1 = y1; s0 = s0; s1 = s1; d0 = d0; d1 = d1 }

-- bounds are the same where each is
pub one_oct : (a b : Bounds) → a.x0 ≡ b.x0 → a.x1 ≡ b.x1 → a.y0 ≡ b.y0 → a.y1 ≡ b.y1 → a.s0 ≡ b.s0 → a.s1 ≡ b.s1 → a.d0 ≡ b.d0 → a.d1 ≡ b.d1 → a ≡ b
one_oct a b x0 x1 y0 y1 s0 s1 d0 d1 =
    ap (λ (v : ℤ). eight v a.x1 a.y0 a.y1 a.s0 a.s1 a.d0 a.d1) x0 ∙ ap (λ (v : ℤ). eight b.x0 v a.y0 a.y1 a.s0 a.s1 a.d0 a.d1) x1
    ∙ ap (λ (v : ℤ). eight b.x0 b.x1 v a.y1 a.s0 a.s1 a.d0 a.d1) y0 ∙ ap (λ (v : ℤ). eight b.x0 b.x1 b.y0 v a.s0 a.s1 a.d0 a.d1) y1
    ∙ ap (λ (v : ℤ). eight b.x0 b.x1 b.y0 b.y1 v a.s1 a.d0 a.d1) s0 ∙ ap (λ (v : ℤ). eight b.x0 b.x1 b.y0 b.y1 b.s0 v a.d0 a.d1) s1
    ∙ ap (λ (v : ℤ). eight b.x0 b.x1 b.y0 b.y1 b.s0 b.s1 v a.d1) d0 ∙ ap (λ (v : ℤ). eight b.x0 b.x1 b.y0 b.y1 b.s0 b.s1 b.d0 v) d1

-- the two have the same bounds of one kind
abbrev pub IsSameX : Bounds → Bounds → Type 0
IsSameX a b = (a.x0 ≡ b.x0) × (a.x1 ≡ b.x1)

abbrev pub IsSameY : Bounds → Bounds → Type 0
IsSameY a b = (a.y0 ≡ b.y0) × (a.y1 ≡ b.y1)

abbrev pub IsSameS : Bounds → Bounds → Type 0
IsSameS a b = (a.s0 ≡ b.s0) × (a.s1 ≡ b.s1)

abbrev pub IsSameD : Bounds → Bounds → Type 0
IsSameD a b = (a.d0 ≡ b.d0) × (a.d1 ≡ b.d1)

pub same_by : (a b : Bounds) (x y s d r : Bool) → IsTrue x ↔ IsSameX a b → IsTrue y ↔ IsSameY a b → IsTrue s ↔ IsSameS a b → IsTrue d ↔ IsSameD a b
    → IsTrue r ↔ (IsTrue x × IsTrue y × IsTrue s × IsTrue d) → IsTrue r ↔ (a ≡ b)
same_by a b x y s d r hx hy hs hd h = (
  λ e. (let t = h.0 e in let p = hx.0 t.0 in let q = hy.0 t.1 in let u = hs.0 t.2 in let v = hd.0 t.3 in one_oct a b p.0 p.1 q.0 q.1 u.0 u.1 v.0 v.1),
  λ e. h.1 (
    hx.1 (ap (λ (o : Bounds). o.x0) e, ap (λ (o : Bounds). o.x1) e),
    hy.1 (ap (λ (o : Bounds). o.y0) e, ap (λ (o : Bounds). o.y1) e),
    hs.1 (ap (λ (o : Bounds). o.s0) e, ap (λ (o : Bounds). o.s1) e),
    hd.1 (ap (λ (o : Bounds). o.d0) e, ap (λ (o : Bounds). o.d1) e),
  ),
)

-- lists are the same up to a place
abbrev pub AreSameUpTo : ℕ → List Bounds → List Bounds → Type 0
AreSameUpTo i xs ys = (m : ℕ) (d : Bounds) → m < i → get_or xs m d ≡ get_or ys m d

pub one_more : (i : ℕ) (xs ys : List Bounds) → AreSameUpTo i xs ys → ((d : Bounds) → get_or xs i d ≡ get_or ys i d) → AreSameUpTo (i + 1) xs ys
one_more i xs ys h e m d l = elim (cases_lt m i) [
  | inl v ↦ h m d v
  | inr v ↦ (let n : m ≡ i = omega (arith, v, l) in ap (λ (k : ℕ). get_or xs k d) n ∙ e d ∙ ap (λ (k : ℕ). get_or ys k d) (sym n))
]

-- an octagon of each list, as it is read
pub same_at : (i : ℕ) (xs ys : List Bounds) (x y : Bounds) → i < length xs → length xs ≡ length ys → x ≡ get_or xs i x → y ≡ get_or ys i y → x ≡ y
    → (d : Bounds) → get_or xs i d ≡ get_or ys i d
same_at i xs ys x y l n e f h d =
    get_or_default xs i d x l ∙ sym e ∙ h ∙ f ∙ get_or_default ys i y d (omega (arith, l, n))

pub all_same : (xs ys : List Bounds) → length xs ≡ length ys → AreSameUpTo (length xs) xs ys → xs ≡ ys
all_same [] [] e h = refl
all_same [] (y ∷ ys) e h = absurd (omega (arith, e))
all_same (x ∷ xs) [] e h = absurd (omega (arith, e))
all_same (x ∷ xs) (y ∷ ys) e h =
    let a : x ≡ y = h 0 x (omega arith) in
    let b : xs ≡ ys = all_same xs ys (omega (arith, e)) (λ m d l. h (suc m) d (omega (arith, l))) in
    ap (λ (z : Bounds). z ∷ xs) a ∙ ap (λ (zs : List Bounds). y ∷ zs) b
