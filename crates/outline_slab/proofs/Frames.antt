-- An outline and the frame round it.
use Rattle.std.proofs.Common.{◌≡◌, refl, sym, ◌∙◌, ap, subst, ℕ, zero, suc, ◌<◌, ◌⊎◌, inl, inr, arith, List, [], ◌∷◌, ◌++◌, length, get_or}
use Rattle.std.specs.Prelude.{◌≤ℤ◌, ◌<ℤ◌, ◌↔◌}
use Rattle.std.specs.List.{All}
use Rattle.std.proofs.lemmas.Int.{ints}
use Rattle.std.proofs.lemmas.List.{map-append}
use Rattle.plane.specs.Plane.{PlanePoint, Bounds, StrictlyWithin, IsOct, box_of}
use Rattle.grid_num.specs.declared.Point.{Point}
use Rattle.octagon.specs.Bounded.{IsInReach}
use Rattle.plane.specs.Covering.{Edge, Covers, edges_of}
use Rattle.plane.specs.Corners.{box_corners}
use Rattle.plane.specs.Edges.{IsOctilinear}
use Rattle.plane.proofs.Lists.{any_head, any_tail, any_left, any_right}
use Rattle.slabs.specs.Slabs.{IsAmong, AreClosed, starts}
use Rattle.slabs.specs.Outside.{IsFrame, IsOutside}
use Rattle.slabs.proofs.Closed.{rows_law}
use Rattle.slabs.proofs.Outside.{outside_law}
use Rattle.slabs.proofs.Framed.{framed_law}
use Rattle.outline_slab.specs.declared.side.Side.{Side}
use Rattle.outline_slab.specs.Rules.{IsSimple, IsKeptOutline, no_corner}
use Rattle.outline_slab.specs.Cuts.{all_edges, IsSoundEdge, IsInSome}
use Rattle.outline_slab.proofs.Simple.{closed_chain, sound_chain}

-- ---- the sides that the code collects
pub chain_edges : (first sides now : List Side) (vs cs : List Point) → first ≡ [] → vs ≡ cs → all_edges sides ≡ all_edges first ++ edges_of vs → now ≡ sides → all_edges now ≡ edges_of cs
chain_edges first sides now vs cs e f g h = ap (λ (q : List Side). all_edges q) h ∙ (g ∙ (ap (λ (q : List Side). all_edges q ++ edges_of vs) e ∙ ap (λ (q : List Point). edges_of q) f))

pub both_edges : (first sides more now : List Side) (vs cs rim : List Point) (b : Bounds) → first ≡ [] → vs ≡ cs → all_edges sides ≡ all_edges first ++ edges_of vs
    → rim ≡ box_corners b.x0 b.x1 b.y0 b.y1 → all_edges more ≡ all_edges sides ++ edges_of rim → now ≡ more
    → all_edges now ≡ edges_of cs ++ edges_of (box_corners b.x0 b.x1 b.y0 b.y1)
both_edges first sides more now vs cs rim b e f g r m h =
    ap (λ (q : List Side). all_edges q) h ∙ (m
    ∙ (ap (λ (q : List Edge). q ++ edges_of rim) (chain_edges first sides sides vs cs e f g refl) ∙ ap (λ (q : List Point). edges_of cs ++ edges_of q) r))

-- ---- the frame
pub wide : (cs : List Point) (b : Bounds) → IsSimple cs → IsFrame cs b → (b.x0 <ℤ b.x1) × (b.y0 <ℤ b.y1)
wide cs b s f =
    let t = s.three in
    let w = f.around 0 no_corner (omega (arith, t)) in
    (omega (arith, ints, w.x_low, w.x_high), omega (arith, ints, w.y_low, w.y_high))

around_box : (cs : List Point) (b : Bounds) → IsFrame cs b → All (λ v. StrictlyWithin (box_of b.x0 b.x1 b.y0 b.y1) v.x v.y) cs
around_box cs b f = subst (λ (c : Bounds). All (λ v. StrictlyWithin c v.x v.y) cs) f.box f.around

abbrev rim_of : Bounds → List Edge
rim_of b = edges_of (box_corners b.x0 b.x1 b.y0 b.y1)

starts_both : (es fs : List Edge) → starts (es ++ fs) ≡ starts es ++ starts fs
starts_both es fs = map-append (λ (e : Edge). e.start.y) es fs

rim_rows : (b : Bounds) → IsAmong (starts (rim_of b)) b.y0 × IsAmong (starts (rim_of b)) b.y1
rim_rows b = (
  any_head (λ x. x ≡ b.y0) b.y0 (b.y0 ∷ b.y1 ∷ b.y1 ∷ []) refl,
  any_tail (λ x. x ≡ b.y1) b.y0 (b.y0 ∷ b.y1 ∷ b.y1 ∷ []) (any_tail (λ x. x ≡ b.y1) b.y0 (b.y1 ∷ b.y1 ∷ []) (any_head (λ x. x ≡ b.y1) b.y1 (b.y1 ∷ []) refl)),
)

pub closed_both : (cs : List Point) (b : Bounds) → IsSimple cs → IsFrame cs b → AreClosed (starts (edges_of cs ++ edges_of (box_corners b.x0 b.x1 b.y0 b.y1))) (edges_of cs ++ edges_of (box_corners b.x0 b.x1 b.y0 b.y1))
closed_both cs b s f =
    let es = edges_of cs in
    let rows = starts es ++ starts (rim_of b) in
    let w = wide cs b s f in
    let r = rim_rows b in
    let closed = rows_law (starts es) rows es (λ z a. any_left (λ x. x ≡ z) (starts es) (starts (rim_of b)) a) (closed_chain cs s) in
    rw (starts_both es (rim_of b))
    (framed_law rows b.x0 b.x1 b.y0 b.y1 cs w.0 w.1 (any_right (λ x. x ≡ b.y0) (starts es) (starts (rim_of b)) r.0) (any_right (λ x. x ≡ b.y1) (starts es) (starts (rim_of b)) r.1)
    (around_box cs b f) closed)

-- ---- reach
all_both : (P : Edge → Type 0) (es fs : List Edge) → All P es → All P fs → All P (es ++ fs)
all_both P [] fs a b = b
all_both P (e ∷ es) fs a b = at (all_both P es fs (λ k d h. a (suc k) d (omega (arith, h))) b)
  where
    at : All P (es ++ fs) → (k : ℕ) (d : Edge) → k < length (e ∷ es ++ fs) → P (get_or (e ∷ es ++ fs) k d)
    at rest zero d h = a 0 d (omega arith)
    at rest (suc k) d h = rest k d (omega (arith, h))

corner_reach : (b : Bounds) (p : Point) → IsOct b → (p.x ≡ b.x0) ⊎ (p.x ≡ b.x1) → (p.y ≡ b.y0) ⊎ (p.y ≡ b.y1) → b.x0 ≤ℤ b.x1 → b.y0 ≤ℤ b.y1 → IsInReach p
corner_reach b p o x y h g =
    let x0 = o.x_low in
    let x1 = o.x_high in
    let y0 = o.y_low in
    let y1 = o.y_high in
    record {
      x = record { low = omega (arith, ints, x, x0, h); high = omega (arith, ints, x, x1, h) };
      y = record { low = omega (arith, ints, y, y0, g); high = omega (arith, ints, y, y1, g) };
    }

level : (e : Edge) → e.start.y ≡ e.finish.y → IsOctilinear e
unfolding IsOctilinear
level e h = inl h

upright : (e : Edge) → e.start.x ≡ e.finish.x → IsOctilinear e
unfolding IsOctilinear
upright e h = inr (inl h)

sound_rim : (b : Bounds) → IsOct b → b.x0 ≤ℤ b.x1 → b.y0 ≤ℤ b.y1 → All IsSoundEdge (rim_of b)
sound_rim b o h g = at
  where
    corner : (p : Point) → (p.x ≡ b.x0) ⊎ (p.x ≡ b.x1) → (p.y ≡ b.y0) ⊎ (p.y ≡ b.y1) → IsInReach p
    corner p x y = corner_reach b p o x y h g

    at : (k : ℕ) (d : Edge) → k < 4 → IsSoundEdge (get_or (rim_of b) k d)
    at zero d l = record { octilinear = level _ refl; reached = record { start = corner _ (inl refl) (inl refl); finish = corner _ (inr refl) (inl refl) } }
    at (suc zero) d l = record { octilinear = upright _ refl; reached = record { start = corner _ (inr refl) (inl refl); finish = corner _ (inr refl) (inr refl) } }
    at (suc (suc zero)) d l = record { octilinear = level _ refl; reached = record { start = corner _ (inr refl) (inr refl); finish = corner _ (inl refl) (inr refl) } }
    at (suc (suc (suc zero))) d l = record { octilinear = upright _ refl; reached = record { start = corner _ (inl refl) (inr refl); finish = corner _ (inl refl) (inl refl) } }
    at (suc (suc (suc (suc k)))) d l = absurd (omega (arith, l))

pub sound_both : (cs : List Point) (b : Bounds) → IsKeptOutline cs → IsFrame cs b → IsOct b → All IsSoundEdge (edges_of cs ++ edges_of (box_corners b.x0 b.x1 b.y0 b.y1))
sound_both cs b k f o =
    let w = wide cs b k.simple f in
    all_both IsSoundEdge (edges_of cs) (rim_of b) (sound_chain cs k) (sound_rim b o (omega (arith, ints, w.0)) (omega (arith, ints, w.1)))

-- ---- what the octagons are
pub outside_of : (cs : List Point) (b : Bounds) (octs : List Bounds) (es : List Edge) (p : PlanePoint) → IsSimple cs → IsFrame cs b → es ≡ edges_of cs ++ edges_of (box_corners b.x0 b.x1 b.y0 b.y1)
    → IsInSome octs p ↔ Covers es p → IsInSome octs p ↔ IsOutside (edges_of cs) b p
outside_of cs b octs es p s f same h =
    let w = wide cs b s f in
    let law = outside_law b.x0 b.x1 b.y0 b.y1 cs p w.0 w.1 (closed_chain cs s).octilinear (around_box cs b f) in
    let g : IsInSome octs p ↔ Covers (edges_of cs ++ edges_of (box_corners b.x0 b.x1 b.y0 b.y1)) p = subst (λ (q : List Edge). IsInSome octs p ↔ Covers q p) same h in
    let out : IsInSome octs p ↔ IsOutside (edges_of cs) (box_of b.x0 b.x1 b.y0 b.y1) p = (λ i. law.0 (g.0 i), λ o. g.1 (law.1 o)) in
    subst (λ (c : Bounds). IsInSome octs p ↔ IsOutside (edges_of cs) c p) (sym f.box) out
