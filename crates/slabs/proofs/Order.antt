-- The order of cuts within a slab, and from slab to slab.
use Rattle.std.proofs.Common.{◌≡◌, refl, sym, ◌∙◌, ap, subst, ℕ, zero, suc, ◌+◌, ◌<◌, ◌⊎◌, inl, inr, arith, lit≤, List, [], ◌∷◌, length, get_or}
use Rattle.std.specs.Prelude.{ℤ, pos, ◌+ℤ◌, ◌*ℤ◌, ◌≤ℤ◌, ◌<ℤ◌}
use Rattle.std.specs.List.{All}
use Rattle.std.proofs.lemmas.Int.{ints, by_lt_z}
use Rattle.plane.specs.Plane.{PlanePoint}
use Rattle.plane.specs.Covering.{Edge, Between}
use Rattle.slabs.specs.Slabs.{IsAmong, IsInLine, IsCutOfEdge, AreClosed, IsOffRows, IsCutBefore, AreCutsInOrder, IsFramed}
use Rattle.slabs.proofs.At.{steep, swapped, cut_on}

pub one_of : {X : Type 0} (P : X → Type 0) (xs : List X) (x : X) → All P xs → IsAmong xs x → P x
one_of P xs x all a = subst P a.4 (subst P a.3 (all a.0 a.1 a.2))

-- c is cut from one of the edges
abbrev pub IsCutOf : List ℤ → List Edge → Edge → Type 0
IsCutOf rows es c = (e : Edge) × IsAmong es e × IsCutOfEdge rows e c

-- d lies in the slab of c and nowhere left of it, or in a lower slab
abbrev pub IsBeside : Edge → Edge → Type 0
IsBeside c d = IsFramed c d ⊎ (c.finish.y ≤ℤ d.start.y)

-- ---- rows
not_above : (rows : List ℤ) (e f c d : Edge) → IsCutOfEdge rows e c → IsCutOfEdge rows f d → c.start.y ≡ d.start.y → c.finish.y ≤ℤ d.finish.y
not_above rows e f c d a b s =
    elim (one_of (λ z. (z ≤ℤ c.start.y) ⊎ (c.finish.y ≤ℤ z)) rows d.finish.y a.next b.bottom) [
      | inl h ↦ absurd (omega (arith, ints, h, b.down, s))
      | inr h ↦ h
    ]

pub same_bottom : (rows : List ℤ) (e f c d : Edge) → IsCutOfEdge rows e c → IsCutOfEdge rows f d → c.start.y ≡ d.start.y → c.finish.y ≡ d.finish.y
same_bottom rows e f c d a b s =
    let h = not_above rows e f c d a b s in
    let g = not_above rows f e d c b a (sym s) in
    omega (arith, ints, h, g)

pub lower_slab : (rows : List ℤ) (e f c d : Edge) → IsCutOfEdge rows e c → IsCutOfEdge rows f d → c.start.y <ℤ d.start.y → c.finish.y ≤ℤ d.start.y
lower_slab rows e f c d a b s =
    elim (one_of (λ z. (z ≤ℤ c.start.y) ⊎ (c.finish.y ≤ℤ z)) rows d.start.y a.next b.top) [ inl h ↦ absurd (omega (arith, ints, h, s)) | inr h ↦ h ]

off_rows : (rows : List ℤ) (c : Edge) (p : PlanePoint) → p.scale ≡ 2 → All (λ z. (z ≤ℤ c.start.y) ⊎ (c.finish.y ≤ℤ z)) rows
    → (pos 2 *ℤ c.start.y) <ℤ p.y → p.y <ℤ (pos 2 *ℤ c.finish.y) → IsOffRows rows p
off_rows rows c p k next l m = λ z a e.
    let f : p.y ≡ pos 2 *ℤ z = e ∙ ap (λ (n : ℕ). pos n *ℤ z) k in
    elim (one_of (λ z. (z ≤ℤ c.start.y) ⊎ (c.finish.y ≤ℤ z)) rows z next a) [ inl h ↦ omega (arith, ints, h, f, l) | inr h ↦ omega (arith, ints, h, f, m) ]

-- ---- within a slab
-- cuts of one edge in one slab start at one place
same_line : (e c d : Edge) → c.start.y <ℤ c.finish.y → Between e.start.y e.finish.y c.start.y → Between e.start.y e.finish.y c.finish.y → c.start.y ≡ d.start.y
    → IsInLine e c → IsInLine e d → c.start.x ≡ d.start.x
unfolding IsInLine
same_line e c d n f g s (inl a) (inl b) = omega (arith, ints)
same_line e c d n f g s (inl a) (inr (inl b)) = omega (arith, ints)
same_line e c d n f g s (inl a) (inr (inr b)) = omega (arith, ints)
same_line e c d n f g s (inr (inl a)) (inl b) = omega (arith, ints)
same_line e c d n f g s (inr (inl a)) (inr (inl b)) = omega (arith, ints)
same_line e c d n f g s (inr (inl a)) (inr (inr b)) = omega (arith, ints)
same_line e c d n f g s (inr (inr a)) (inl b) = omega (arith, ints)
same_line e c d n f g s (inr (inr a)) (inr (inl b)) = omega (arith, ints)
same_line e c d n f g s (inr (inr a)) (inr (inr b)) = omega (arith, ints)

not_swapped : (rows : List ℤ) (es : List Edge) (e f c d : Edge) → AreClosed rows es → IsAmong es e → IsAmong es f → IsCutOfEdge rows e c → IsCutOfEdge rows f d
    → c.start.y ≡ d.start.y → c.start.x <ℤ d.start.x → d.finish.x <ℤ c.finish.x → ⊥
not_swapped rows es e f c d closed i j a b s l r =
    let t = same_bottom rows e f c d a b s in
    let w = swapped c d a.down s t l r (steep e c a.line) (steep f d b.line) in
    let p : PlanePoint = record { x = w.1; y = w.0; scale = 2; positive = lit≤ tt } in
    let oc = cut_on e c p a.down a.line a.from a.to (omega (arith, ints, w.2)) (omega (arith, ints, w.3)) w.4 in
    let od = cut_on f d p b.down b.line b.from b.to (omega (arith, ints, w.2, s)) (omega (arith, ints, w.3, t)) w.5 in
    let same = closed.apart e f p i j oc od (off_rows rows c p refl a.next w.2 w.3) in
    let line : IsInLine e d = subst (λ (g : Edge). IsInLine g d) (sym same) b.line in
    let x = same_line e c d a.down a.from a.to s a.line line in
    omega (arith, ints, x, l)

pub framed : (rows : List ℤ) (es : List Edge) (c d : Edge) → AreClosed rows es → IsCutOf rows es c → IsCutOf rows es d
    → c.start.y ≡ d.start.y → (c.start.x +ℤ c.finish.x) ≤ℤ (d.start.x +ℤ d.finish.x) → IsFramed c d
framed rows es c d closed a b s h = record {
  top = s;
  bottom = same_bottom rows a.0 b.0 c d a.2 b.2 s;
  upper = by_lt_z {P = c.start.x ≤ℤ d.start.x} d.start.x c.start.x
      (λ l. absurd (not_swapped rows es b.0 a.0 d c closed b.1 a.1 b.2 a.2 (sym s) l (omega (arith, ints, h, l))))
      (λ l. l);
  lower = by_lt_z {P = c.finish.x ≤ℤ d.finish.x} d.finish.x c.finish.x
      (λ l. absurd (not_swapped rows es a.0 b.0 c d closed a.1 b.1 a.2 b.2 s (omega (arith, ints, h, l)) l))
      (λ l. l);
}

pub beside : (rows : List ℤ) (es : List Edge) (c d : Edge) → AreClosed rows es → IsCutOf rows es c → IsCutOf rows es d → IsCutBefore c d → IsBeside c d
unfolding IsCutBefore
beside rows es c d closed a b (inl l) = inr (lower_slab rows a.0 b.0 c d a.2 b.2 l)
beside rows es c d closed a b (inr h) = inl (framed rows es c d closed a b h.0 h.1)

-- ---- lists in order
before_trans : (c d e : Edge) → IsCutBefore c d → IsCutBefore d e → IsCutBefore c e
unfolding IsCutBefore
before_trans c d e (inl h) (inl g) = inl (omega (arith, ints, h, g))
before_trans c d e (inl h) (inr g) = inl (omega (arith, ints, h, g))
before_trans c d e (inr h) (inl g) = inl (omega (arith, ints, h, g))
before_trans c d e (inr h) (inr g) = inr (omega (arith, ints, h, g), omega (arith, ints, h, g))

pub all_head : {X : Type 0} (P : X → Type 0) (x : X) (xs : List X) → All P (x ∷ xs) → P x
all_head P x xs a = a 0 x (omega arith)

pub all_tail : {X : Type 0} (P : X → Type 0) (x : X) (xs : List X) → All P (x ∷ xs) → All P xs
all_tail P x xs a = λ k d h. a (suc k) d (omega (arith, h))

order_tail : (c : Edge) (cs : List Edge) → AreCutsInOrder (c ∷ cs) → AreCutsInOrder cs
order_tail c cs o = λ k d h.
    let e : suc k + 1 ≡ suc (k + 1) = omega arith in
    subst (λ (n : ℕ). IsCutBefore (get_or cs k d) (get_or (c ∷ cs) n d)) e (o (suc k) d (omega (arith, h)))

all_before : (c : Edge) (cs : List Edge) → AreCutsInOrder (c ∷ cs) → All (IsCutBefore c) cs
all_before c [] o = λ k d h. absurd (omega (arith, h))
all_before c (e ∷ cs) o = at (all_before e cs (order_tail c (e ∷ cs) o))
  where
    first : IsCutBefore c e
    first = o 0 c (omega arith)

    at : All (IsCutBefore e) cs → (k : ℕ) (d : Edge) → k < length (e ∷ cs) → IsCutBefore c (get_or (e ∷ cs) k d)
    at all zero d h = first
    at all (suc k) d h = before_trans c e (get_or cs k d) first (all k d (omega (arith, h)))

-- each has the later ones beside it
unfoldable pub AreLined : List Edge → Type 0
AreLined [] = Unit {0}
AreLined (c ∷ cs) = All (IsBeside c) cs × AreLined cs

pub lined : (rows : List ℤ) (es cs : List Edge) → AreClosed rows es → All (IsCutOf rows es) cs → AreCutsInOrder cs → AreLined cs
unfolding AreLined
lined rows es [] closed each o = tt
lined rows es (c ∷ cs) closed each o =
    let one = all_head (IsCutOf rows es) c cs each in
    let rest = all_tail (IsCutOf rows es) c cs each in
    let before = all_before c cs o in
    (λ k d h. beside rows es c (get_or cs k d) closed one (rest k d h) (before k d h), lined rows es cs closed rest (order_tail c cs o))
