-- An octagon in the frame fits exactly where it enters no wall.
use Rattle.std.proofs.Common.{◌≡◌, ℕ, inl, inr, List, [], ◌∷◌, ◌++◌}
use Rattle.std.specs.Prelude.{true, Any}
use Rattle.plane.specs.Plane.{PlanePoint, Bounds, In, StrictlyIn, IsTight}
use Rattle.plane.specs.Covering.{Edge, IsOn, Covers, StrictlyCovers, edges_of}
use Rattle.plane.proofs.Lists.{any_left, any_right}
use Rattle.plane.proofs.Near.{StrictlyIn-In}
use Rattle.classes.specs.Classes.{IsOneOf}
use Rattle.strips.specs.Strips.{HasInside, IsStout}
use Rattle.strips.proofs.Inside.{inside}
use Rattle.open_laws.specs.Open.{ReachesInto, AreOverlapping}
use Rattle.open_laws.proofs.Both.{open_both}
use Rattle.open_laws.proofs.OffEdges.{beside}
use Rattle.outline_slab.specs.Cuts.{IsInSome}
use Rattle.board_language.specs.declared.board.Area.{Area}
use Rattle.board_language.specs.Board.{Board}
use Rattle.board_language.specs.Copper.{has_layer}
use Rattle.fill_rules.specs.Tasks.{zone_at, layer_at}
use Rattle.fill_rules.specs.Fill.{Fits}
use Rattle.fill_rules.proofs.Members.{some_one_of}
use Rattle.board_language.proofs.Members.{all_one_of}
use Rattle.centres.specs.Walls.{IsOffLimits, IsAlongWall, AreWalls, EntersNone}
use Rattle.centres.specs.Laws.{FitsLaw}
use Rattle.centres.proofs.Covered.{covers_or_not}
use Rattle.centres.proofs.Listed.{one_any}

-- ---- all sides
sides_of_all : List Area → List Edge
sides_of_all [] = []
sides_of_all (a ∷ areas) = edges_of a.outline ++ sides_of_all areas

one_side : (areas : List Area) (a : Area) (p : PlanePoint) → IsOneOf a areas → Any (λ e. IsOn e p) (edges_of a.outline) → Any (λ e. IsOn e p) (sides_of_all areas)
unfolding IsOneOf sides_of_all
one_side [] a p i o = absurd i
one_side (c ∷ areas) a p (inl e) o = any_left (λ e. IsOn e p) (edges_of c.outline) (sides_of_all areas) (rw (← e) o)
one_side (c ∷ areas) a p (inr i) o = any_right (λ e. IsOn e p) (edges_of c.outline) (sides_of_all areas) (one_side areas a p i o)

sides : Board → ℕ → List Edge
sides b i = edges_of (zone_at b i).outline ++ sides_of_all b.areas

off_sides : (b : Board) (i : ℕ) (p : PlanePoint) → (Any (λ e. IsOn e p) (sides b i) → ⊥) → IsAlongWall (zone_at b i).outline (layer_at b i) b.areas p → ⊥
unfolding IsAlongWall sides
off_sides b i p off (inl o) = off (any_left (λ e. IsOn e p) (edges_of (zone_at b i).outline) (sides_of_all b.areas) o)
off_sides b i p off (inr (a, k, o)) = off (any_right (λ e. IsOn e p) (edges_of (zone_at b i).outline) (sides_of_all b.areas) (one_side b.areas a p k.0 o))

-- ---- fits: each point strictly inside is within limits
fits_within : (b : Board) (i : ℕ) (o : Bounds) (p : PlanePoint) → Fits b i o → StrictlyIn o p → IsOffLimits (zone_at b i).outline (layer_at b i) b.areas p → ⊥
unfolding IsOffLimits
fits_within b i o p f s (inl n) = n (f.covered p s)
fits_within b i o p f s (inr (a, k, c)) = f.free p s a k.0 k.1 c

-- a point that isn't off limits is covered
within_covered : (b : Board) (i : ℕ) (p : PlanePoint) → (IsOffLimits (zone_at b i).outline (layer_at b i) b.areas p → ⊥) → ((Covers (edges_of (zone_at b i).outline) p → ⊥) → ⊥)
unfolding IsOffLimits
within_covered b i p h n = h (inl n)

within_free : (b : Board) (i : ℕ) (p : PlanePoint) → (IsOffLimits (zone_at b i).outline (layer_at b i) b.areas p → ⊥)
    → (a : Area) → IsOneOf a b.areas → has_layer a.layers (layer_at b i) ≡ true → StrictlyCovers (edges_of a.outline) p → ⊥
unfolding IsOffLimits
within_free b i p h a k l c = h (inr (a, (k, l), c))

-- ---- a wall that is entered
inside_of : (w : Bounds) → IsTight w → IsStout w → (q : PlanePoint) × StrictlyIn w q
unfolding HasInside
inside_of w t s = inside w t s

fits_enters : (b : Board) (i : ℕ) (frame : Bounds) (walls : List Bounds) (o : Bounds) → AreWalls b i frame walls → Fits b i o → EntersNone walls o
unfolding EntersNone ReachesInto AreOverlapping
fits_enters b i frame walls o w f c k e =
    let z = inside_of c (all_one_of IsTight walls c w.tight k) (all_one_of IsStout walls c w.stout k) in
    let m = (open_both o c z.0 z.1).0 e in
    let q = beside (sides b i) m.0 in
    fits_within b i o q.0 f (q.1 o m.1) (w.only q.0 (one_any (λ (x : Bounds). In x q.0) walls c k (StrictlyIn-In c q.0 (q.1 c m.2))) (off_sides b i q.0 q.2))

-- ---- where no wall is entered
enters_none : (walls : List Bounds) (o : Bounds) (p : PlanePoint) → EntersNone walls o → StrictlyIn o p → IsInSome walls p → ⊥
unfolding EntersNone ReachesInto
enters_none walls o p n s a = let w = some_one_of (λ (c : Bounds). In c p) walls a in n w.0 w.1 (p, s, w.2)

off_none : (b : Board) (i : ℕ) (frame : Bounds) (walls : List Bounds) (o : Bounds) → AreWalls b i frame walls
    → ((p : PlanePoint) → In o p → In frame p) → EntersNone walls o → (p : PlanePoint) → StrictlyIn o p → IsOffLimits (zone_at b i).outline (layer_at b i) b.areas p → ⊥
off_none b i frame walls o w f n p s off = enters_none walls o p n s (w.each p (f p (StrictlyIn-In o p s)) off)

enters_fits : (b : Board) (i : ℕ) (frame : Bounds) (walls : List Bounds) (o : Bounds) → AreWalls b i frame walls
    → ((p : PlanePoint) → In o p → In frame p) → EntersNone walls o → Fits b i o
enters_fits b i frame walls o w f n = record {
  covered = λ p s. elim (covers_or_not (edges_of (zone_at b i).outline) p) [
    | inl c ↦ c
    | inr m ↦ absurd (within_covered b i p (off_none b i frame walls o w f n p s) m)
  ];
  free = λ p s a k l c. within_free b i p (off_none b i frame walls o w f n p s) a k l c;
}

pub fits_law : FitsLaw
fits_law b i frame walls o w f = (fits_enters b i frame walls o w, enters_fits b i frame walls o w f)
