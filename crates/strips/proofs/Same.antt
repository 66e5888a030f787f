-- Two lists with the same octagons have the same strips.
use Rattle.std.proofs.Common.{List}
use Rattle.std.specs.Prelude.{ℤ, ◌↔◌, Any, Contains}
use Rattle.plane.specs.Plane.{PlanePoint, Bounds, In}
use Rattle.strips.specs.Strips.{IsCutRow, IsSlab}
use Rattle.strips.specs.Laws.{SameOctsLaw}

cut_moved : (os qs : List Bounds) (r : ℤ) → ((b : Bounds) → Contains os b → Contains qs b) → IsCutRow os r → IsCutRow qs r
unfolding IsCutRow
cut_moved os qs r f c = (c.0, c.1, f c.0 c.2, f c.1 c.3, c.4, c.5, c.6)

slab_moved : (os qs : List Bounds) (t u : ℤ) → ((b : Bounds) → Contains os b ↔ Contains qs b) → IsSlab os t u → IsSlab qs t u
slab_moved os qs t u f h = record {
  top = cut_moved os qs t (λ b. (f b).0) h.top;
  bottom = cut_moved os qs u (λ b. (f b).0) h.bottom;
  down = h.down;
  clean = λ r l m c. h.clean r l m (cut_moved qs os r (λ b. (f b).1) c);
}

turned : (os qs : List Bounds) → ((b : Bounds) → Contains os b ↔ Contains qs b) → (b : Bounds) → Contains qs b ↔ Contains os b
turned os qs f b = ((f b).1, (f b).0)

in_moved : (os qs : List Bounds) (p : PlanePoint) → ((b : Bounds) → Contains os b → Contains qs b) → Any (λ b. In b p) os → Any (λ b. In b p) qs
in_moved os qs p f i = let w = f i.1 (i.0, i.2, i.3) in (w.0, i.1, w.1, w.2, i.4)

pub same_law : SameOctsLaw
same_law os qs ss f h = (
  record {
    slabs = λ k d l. slab_moved os qs _ _ f (h.slabs k d l);
    shapes = h.shapes;
    order = h.order;
    runs = λ t u p s b.
        let w = h.runs t u p (slab_moved qs os t u (turned os qs f) s) b in
        (λ i. in_moved os qs p (λ b. (f b).0) (w.0 i), λ i. w.1 (in_moved qs os p (λ b. (f b).1) i));
  },
  λ c p. (λ i. in_moved os qs p (λ b. (f b).0) ((c p).0 i), λ i. (c p).1 (in_moved qs os p (λ b. (f b).1) i)),
)
