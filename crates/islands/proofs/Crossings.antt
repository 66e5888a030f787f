-- How edges cross the row of a grid point, counted in nanometres.
use Rattle.std.proofs.Common.{◌≡◌, refl, sym, ◌∙◌, ap, subst, ℕ, ◌+◌, ◌^◌, ◌<◌, ◌≤◌, ◌⊎◌, inl, inr, arith, Bool, cond, List, [], map, length, get_or, take}
use Rattle.std.specs.Prelude.{ℤ, pos, ◌-ℤ◌, ◌*ℤ◌, ◌≤ℤ◌, ◌<ℤ◌, ◌↔◌, IsTrue, sum_by}
use Rattle.std.proofs.lemmas.Int.{ints, fits_signed_from_abs}
use mir.Val.{SFits}
use mir.Syntax.{w64}
use Rattle.std.proofs.lemmas.List.{take_all, length-map, get_or-map}
use Rattle.plane.specs.Plane.{PlanePoint, grid_point}
use Rattle.plane.specs.Narrow.{IsNearZero}
use Rattle.plane.specs.Covering.{IsOdd, crossing, crossings, down_crossing}
use Rattle.grid_num.specs.declared.Point.{Point}
use Rattle.copper_shape.specs.declared.edge.Edge.{Edge}
use Rattle.outline_slab.proofs.Scaled.{near_abs, down_is, down_crosses, up_crosses, parity_step}
use Rattle.islands.specs.Inside.{IsWithinEdges, crossed}

-- ---- ranges
pub place_fits : (z : ℤ) → IsNearZero (2 ^ 40) z → SFits w64 z
place_fits z w = fits_signed_from_abs w64 z (let a = near_abs (2 ^ 40) z w in omega arith)

pub left_is : (t : Bool) (run rise e f : ℤ) → run ≡ e → rise ≡ f → IsTrue t ↔ (run <ℤ rise) → IsTrue t ↔ (e <ℤ f)
left_is t run rise e f a b h = subst (λ y. IsTrue t ↔ (e <ℤ y)) b (subst (λ x. IsTrue t ↔ (x <ℤ rise)) a h)

-- ---- crossings
once : (z : ℤ) → pos 1 *ℤ z ≡ z
once z = omega (arith, ints)

-- the point in nanometres
abbrev pub nm_point : Point → PlanePoint
nm_point at = grid_point (pos 2 *ℤ at.x) (pos 2 *ℤ at.y)

pub down_one : (a b at : Point) (r s t u v : Bool)
    → IsTrue r ↔ (IsTrue t × IsTrue s) → IsTrue s ↔ (IsTrue u × IsTrue v)
    → IsTrue t ↔ (a.y ≤ℤ (pos 2 *ℤ at.y)) → IsTrue u ↔ ((pos 2 *ℤ at.y) <ℤ b.y)
    → IsTrue v ↔ (((b.x -ℤ a.x) *ℤ ((pos 2 *ℤ at.y) -ℤ a.y)) <ℤ ((b.y -ℤ a.y) *ℤ ((pos 2 *ℤ at.x) -ℤ a.x)))
    → down_crossing a b (nm_point at) ≡ cond r 1 0
down_one a b at r s t u v g h i j k =
    down_is a b (record { x = pos 2 *ℤ at.x; y = pos 2 *ℤ at.y }) 1 (nm_point at) r s t u v
    ((b.x -ℤ a.x) *ℤ ((pos 2 *ℤ at.y) -ℤ a.y)) ((b.y -ℤ a.y) *ℤ ((pos 2 *ℤ at.x) -ℤ a.x))
    (record { x = refl; y = refl; scale = refl })
    (ap (λ z. (b.x -ℤ a.x) *ℤ ((pos 2 *ℤ at.y) -ℤ z)) (sym (once a.y)))
    (ap (λ z. (b.y -ℤ a.y) *ℤ ((pos 2 *ℤ at.x) -ℤ z)) (sym (once a.x)))
    g h
    (subst (λ z. IsTrue t ↔ (z ≤ℤ (pos 2 *ℤ at.y))) (sym (once a.y)) i)
    (subst (λ z. IsTrue u ↔ ((pos 2 *ℤ at.y) <ℤ z)) (sym (once b.y)) j)
    k

pub crosses_as_down : (e : Edge) (at : Point) (n : ℕ) → e.from.y ≤ℤ e.to.y → down_crossing e.from e.to (nm_point at) ≡ n → crossing (nm_point at) (crossed e) ≡ n
crosses_as_down e at n l d = down_crosses (crossed e) (nm_point at) n l d

pub crosses_as_up : (e : Edge) (at : Point) (n : ℕ) → e.to.y ≤ℤ e.from.y → down_crossing e.to e.from (nm_point at) ≡ n → crossing (nm_point at) (crossed e) ≡ n
crosses_as_up e at n l d = up_crosses (crossed e) (nm_point at) n l d

-- the parity after the first i edges
abbrev pub IsParity : List Edge → Point → ℕ → Bool → Type 0
IsParity es at i r = IsTrue r ↔ IsOdd (sum_by (crossing (nm_point at)) (take i (map crossed es)))

pub parity_more : (es : List Edge) (at : Point) (i m : ℕ) (d : Edge) (r : Bool) → i < length es → crossing (nm_point at) (crossed (get_or es i d)) ≡ m
    → IsTrue r ↔ IsOdd (sum_by (crossing (nm_point at)) (take i (map crossed es)) + m) → IsParity es at (i + 1) r
parity_more es at i m d r l e p =
    parity_step (map crossed es) (nm_point at) i (crossed d) r m (let n = length-map es crossed in omega (arith, n, l))
    (ap (crossing (nm_point at)) (get_or-map crossed es i d (crossed d) l) ∙ e) p

pub parity_end : (es : List Edge) (at : Point) (i : ℕ) (r : Bool) → length es ≤ i → IsParity es at i r → IsTrue r ↔ IsOdd (crossings (map crossed es) (nm_point at))
parity_end es at i r l p =
    subst (λ fs. IsTrue r ↔ IsOdd (sum_by (crossing (nm_point at)) fs)) (take_all i (map crossed es) (let n = length-map es crossed in omega (arith, n, l))) p

pub within_is : (es : List Edge) (at : Point) (t u r : Bool) → IsTrue t ↔ (es ≡ []) → IsTrue u ↔ IsOdd (crossings (map crossed es) (nm_point at))
    → IsTrue r ↔ (IsTrue t ⊎ IsTrue u) → IsTrue r ↔ IsWithinEdges es at
unfolding IsWithinEdges
within_is es at t u r h g e = (
  λ x. elim (e.0 x) [ inl a ↦ inl (h.0 a) | inr a ↦ inr (g.0 a) ],
  λ x. e.1 (elim x [ inl a ↦ inl (h.1 a) | inr a ↦ inr (g.1 a) ]),
)
