-- Laws of single edges, and of the order of edges.
use Rattle.std.proofs.Common.{◌≡◌, sym, ◌∙◌, ap, ℕ, suc, ◌+◌, inl, inr, arith, List, ◌∷◌, ◌++◌}
use Rattle.std.specs.Prelude.{ℤ, pos, negsuc, neg_ℤ, ◌+ℤ◌, ◌-ℤ◌, ◌*ℤ◌, Any, ◌↔◌}
use Rattle.std.specs.List.Sorted.{IsPermutation}
use Rattle.std.proofs.lemmas.Int.{ints, by_lt_z}
use Rattle.std.proofs.lemmas.List.Sums.{sum_by-cons, sum_by-append}
use Rattle.std.proofs.lemmas.List.Sorted.{Contains-permutation}
use lib.IntN.{*ℤ-zero, *ℤ_comm}
use Rattle.grid_num.proofs.Products.{mul_sub, mul_neg}
use Rattle.plane.proofs.Points.{mul_swap}
use Rattle.plane.specs.Plane.{PlanePoint}
use Rattle.grid_num.specs.declared.Point.{Point}
use Rattle.plane.specs.Covering.{Edge, IsOn, Between, crossing, crossings, IsOdd}
use Rattle.plane.specs.Edges.{turned_back, IsOctilinear}
use Rattle.plane.specs.CoverLaws.{CountsLaw, TurnedLaw}
use Rattle.plane.proofs.Counts.{none_up, neg_pos}
use Rattle.plane.proofs.On.{at, on_level, level_on, on_upright, upright_on, on_rise, rise_on, on_fall, fall_on}

-- the counts of two lists add up
pub crossings_append : (p : PlanePoint) (xs ys : List Edge) → crossings (xs ++ ys) p ≡ crossings xs p + crossings ys p
crossings_append p xs ys = sum_by-append (crossing p) xs ys

-- the order of edges, and so that of chains, does not matter
pub any_permutation : {X : Type 0} (P : X → Type 0) (xs ys : List X) → IsPermutation xs ys → Any P xs → Any P ys
any_permutation P xs ys h a = let c = Contains-permutation xs ys a.1 h (a.0, a.2, a.3) in (c.0, a.1, c.1, c.2, a.4)

-- ---- the same edge the other way
pub crossing_turned : (p : PlanePoint) (e : Edge) → crossing p (turned_back e) ≡ crossing p e
unfolding turned_back crossing
crossing_turned p e = omega arith

-- two opposite edges do not change the parity
pub odd_opposite : (p : PlanePoint) (e : Edge) (es : List Edge) → IsOdd (crossings (e ∷ turned_back e ∷ es) p) ↔ IsOdd (crossings es p)
odd_opposite p e es =
    let a = sum_by-cons (crossing p) e (turned_back e ∷ es) in
    let b = sum_by-cons (crossing p) (turned_back e) es in
    let c = crossing_turned p e in
    (λ h. omega arith, λ h. omega arith)

swap : (a b z : ℤ) → Between a b z → Between b a z
swap a b z (inl h) = inr h
swap a b z (inr h) = inl h

pub on_turned : (p : PlanePoint) (e : Edge) → IsOctilinear e → IsOn e p → IsOn (turned_back e) p
unfolding turned_back IsOctilinear
on_turned p e (inl h) o =
    level_on (record { start = e.finish; finish = e.start }) p (sym h) (on_level e p h o ∙ at p.scale e.start.y e.finish.y h)
    (swap (pos p.scale *ℤ e.start.x) (pos p.scale *ℤ e.finish.x) p.x o.across)
on_turned p e (inr (inl h)) o =
    upright_on (record { start = e.finish; finish = e.start }) p (sym h) (on_upright e p h o ∙ at p.scale e.start.x e.finish.x h)
    (swap (pos p.scale *ℤ e.start.y) (pos p.scale *ℤ e.finish.y) p.y o.along)
on_turned p e (inr (inr (inl h))) o =
    rise_on (record { start = e.finish; finish = e.start }) p (omega (arith, ints)) (on_rise e p h o ∙ at p.scale (e.start.x -ℤ e.start.y) (e.finish.x -ℤ e.finish.y) (omega (arith, ints)))
    (swap (pos p.scale *ℤ e.start.y) (pos p.scale *ℤ e.finish.y) p.y o.along)
on_turned p e (inr (inr (inr h))) o =
    fall_on (record { start = e.finish; finish = e.start }) p (omega (arith, ints)) (on_fall e p h o ∙ at p.scale (e.start.x +ℤ e.start.y) (e.finish.x +ℤ e.finish.y) (omega (arith, ints)))
    (swap (pos p.scale *ℤ e.start.y) (pos p.scale *ℤ e.finish.y) p.y o.along)

-- an edge without length
pub crossing_flat : (p : PlanePoint) (a : Point) → crossing p (record { start = a; finish = a }) ≡ 0
unfolding crossing
crossing_flat p a = let h = none_up a a p (omega (arith, ints)) in omega arith

-- the start of an edge is on it
pub start_on : (p : PlanePoint) (e : Edge) → p.x ≡ pos p.scale *ℤ e.start.x → p.y ≡ pos p.scale *ℤ e.start.y → IsOn e p
start_on p e x y = record {
  line = ap (λ (z : ℤ). (e.finish.y -ℤ e.start.y) *ℤ z) (nil p.x (pos p.scale *ℤ e.start.x) x)
      ∙ (*ℤ-zero (e.finish.y -ℤ e.start.y) ∙ sym (ap (λ (z : ℤ). (e.finish.x -ℤ e.start.x) *ℤ z) (nil p.y (pos p.scale *ℤ e.start.y) y) ∙ *ℤ-zero (e.finish.x -ℤ e.start.x)));
  across = either p.x (pos p.scale *ℤ e.start.x) (pos p.scale *ℤ e.finish.x) x;
  along = either p.y (pos p.scale *ℤ e.start.y) (pos p.scale *ℤ e.finish.y) y;
}
  where
    nil : (a b : ℤ) → a ≡ b → a -ℤ b ≡ pos 0
    nil a b e = omega (arith, ints)

    either : (z a b : ℤ) → z ≡ a → Between a b z
    either z a b e = by_lt_z {P = Between a b z} a b (λ l. inl (omega (arith, ints), omega (arith, ints))) (λ l. inr (omega (arith, ints), omega (arith, ints)))

-- a scale may be taken out of a product
pub pull : (m n : ℤ) (k : ℕ) → m *ℤ (pos k *ℤ n) ≡ pos k *ℤ (m *ℤ n)
pull (pos j) n k = mul_swap j k n
pull (negsuc j) n k =
    neg_pos (suc j) (pos k *ℤ n) ∙ (ap neg_ℤ (mul_swap (suc j) k n)
    ∙ (sym (mul_neg k (pos (suc j) *ℤ n)) ∙ ap (λ (z : ℤ). pos k *ℤ z) (sym (neg_pos (suc j) n))))

-- so is its finish
pub finish_on : (p : PlanePoint) (e : Edge) → p.x ≡ pos p.scale *ℤ e.finish.x → p.y ≡ pos p.scale *ℤ e.finish.y → IsOn e p
finish_on p e x y = record {
  line = ap (λ (z : ℤ). dy *ℤ z) (way p.x e.start.x e.finish.x x)
      ∙ (crossed dy dx p.scale ∙ sym (ap (λ (z : ℤ). dx *ℤ z) (way p.y e.start.y e.finish.y y)));
  across = either p.x (pos p.scale *ℤ e.start.x) (pos p.scale *ℤ e.finish.x) x;
  along = either p.y (pos p.scale *ℤ e.start.y) (pos p.scale *ℤ e.finish.y) y;
}
  where
    dx : ℤ
    dx = e.finish.x -ℤ e.start.x

    dy : ℤ
    dy = e.finish.y -ℤ e.start.y

    way : (z a b : ℤ) → z ≡ pos p.scale *ℤ b → z -ℤ pos p.scale *ℤ a ≡ pos p.scale *ℤ (b -ℤ a)
    way z a b e = let m = mul_sub p.scale b a in omega (arith, ints)

    crossed : (m n : ℤ) (k : ℕ) → m *ℤ (pos k *ℤ n) ≡ n *ℤ (pos k *ℤ m)
    crossed m n k = pull m n k ∙ (ap (λ (z : ℤ). pos k *ℤ z) (*ℤ_comm m n) ∙ sym (pull n m k))

    either : (z a b : ℤ) → z ≡ b → Between a b z
    either z a b e = by_lt_z {P = Between a b z} a b (λ l. inl (omega (arith, ints), omega (arith, ints))) (λ l. inr (omega (arith, ints), omega (arith, ints)))

pub counts_law : CountsLaw
counts_law es fs p = crossings_append p es fs

pub turned_law : TurnedLaw
turned_law e p = crossing_turned p e
