-- Places in lists of cells and of their pieces.
use Rattle.std.proofs.Common.{◌≡◌, refl, sym, ap, subst, ℕ, zero, suc, ◌≤◌, inl, inr, List, [], ◌∷◌, arith}
use Rattle.std.specs.Prelude.{ℤ, map, slice_get, Some}
use Rattle.std.specs.List.{All}
use Rattle.std.proofs.lemmas.Option.{none-some, same_Some}
use Rattle.std.proofs.lemmas.List.Elements.{All-head, All-tail}
use Rattle.plane.specs.Plane.{Bounds, Within}
use Rattle.grid_num.specs.declared.Point.{Point}
use Rattle.classes.specs.Classes.{IsOneOf}
use Rattle.grid_sets.specs.Points.{HasPoint}
use Rattle.open_laws.specs.Open.{IsBefore, top_left, AreFirsts}
use Rattle.components.specs.Cells.{IsInCell}

abbrev pub point_of : ℤ → ℤ → Point
point_of x y = record { x = x; y = y }

-- ---- what stands at a place
pub at_in : {X : Type 0} (P : X → Type 0) (xs : List X) (k : ℕ) (x : X) → All P xs → slice_get xs k ≡ Some x → P x
at_in P [] k x a e = absurd (none-some x e)
at_in P (y ∷ ys) zero x a e = subst P (same_Some y x e) (All-head P y ys a)
at_in P (y ∷ ys) (suc k) x a e = at_in P ys k x (All-tail P y ys a) e

pub one_at : {X : Type 0} (xs : List X) (k : ℕ) (x y : X) → slice_get xs k ≡ Some x → slice_get xs k ≡ Some y → x ≡ y
one_at [] k x y e f = absurd (none-some x e)
one_at (z ∷ xs) zero x y e f = subst (λ w. w ≡ y) (same_Some z x e) (same_Some z y f)
one_at (z ∷ xs) (suc k) x y e f = one_at xs k x y e f

pub map_at : {X Y : Type 0} (f : X → Y) (xs : List X) (k : ℕ) (x : X) → slice_get xs k ≡ Some x → slice_get (map f xs) k ≡ Some (f x)
map_at f [] k x e = absurd (none-some x e)
map_at f (y ∷ ys) zero x e = ap (λ z. Some (f z)) (same_Some y x e)
map_at f (y ∷ ys) (suc k) x e = map_at f ys k x e

pub at_map : {X Y : Type 0} (f : X → Y) (xs : List X) (k : ℕ) (y : Y) → slice_get (map f xs) k ≡ Some y
    → (x : X) × (slice_get xs k ≡ Some x) × (y ≡ f x)
at_map f [] k y e = absurd (none-some y e)
at_map f (x ∷ xs) zero y e = (x, refl, sym (same_Some (f x) y e))
at_map f (x ∷ xs) (suc k) y e = at_map f xs k y e

pub at_one_of : {X : Type 0} (xs : List X) (k : ℕ) (x : X) → slice_get xs k ≡ Some x → IsOneOf x xs
unfolding IsOneOf
at_one_of [] k x e = absurd (none-some x e)
at_one_of (y ∷ ys) zero x e = inl (sym (same_Some y x e))
at_one_of (y ∷ ys) (suc k) x e = inr (at_one_of ys k x e)

pub one_of_at : {X : Type 0} (xs : List X) (x : X) → IsOneOf x xs → (k : ℕ) × (slice_get xs k ≡ Some x)
unfolding IsOneOf
one_of_at [] x h = absurd h
one_of_at (y ∷ ys) x (inl e) = (0, ap Some (sym e))
one_of_at (y ∷ ys) x (inr h) = let w = one_of_at ys x h in (suc w.0, w.1)

-- ---- points and the cells that they are in
pub has_in : (os : List Bounds) (x y : ℤ) → HasPoint os x y → (k : ℕ) × IsInCell os k (point_of x y)
has_in [] x y h = absurd h
has_in (o ∷ os) x y (inl w) = (0, record { cell = o; there = refl; within = w })
has_in (o ∷ os) x y (inr h) =
    let n = has_in os x y h in (suc n.0, record { cell = n.1.cell; there = n.1.there; within = n.1.within })

pub in_has : (os : List Bounds) (k : ℕ) (c : Point) → IsInCell os k c → HasPoint os c.x c.y
in_has [] k c h = absurd (none-some h.cell h.there)
in_has (o ∷ os) zero c h = inl (subst (λ u. Within u c.x c.y) (sym (same_Some o h.cell h.there)) h.within)
in_has (o ∷ os) (suc k) c h = inr (in_has os k c (record { cell = h.cell; there = h.there; within = h.within }))

-- the first point of a cell comes before the points of cells that aren't before it
pub first_up_to : (os : List Bounds) (j k : ℕ) (o : Bounds) (c : Point) → AreFirsts os → j ≤ k → slice_get os j ≡ Some o → IsInCell os k c
    → IsBefore (top_left o) c
unfolding AreFirsts
first_up_to [] j k o c f l e h = absurd (none-some o e)
first_up_to (u ∷ os) zero k o c f l e h =
    subst (λ (w : Bounds). IsBefore (top_left w) c) (same_Some u o e) (f.1 c (in_has (u ∷ os) k c h))
first_up_to (u ∷ os) (suc j) zero o c f l e h = absurd (omega (arith, l))
first_up_to (u ∷ os) (suc j) (suc k) o c f l e h =
    first_up_to os j k o c f.2 (omega (arith, l)) e (record { cell = h.cell; there = h.there; within = h.within })
