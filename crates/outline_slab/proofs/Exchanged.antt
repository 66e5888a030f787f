-- What holds of corners with x and y exchanged holds of the corners.
use Rattle.std.proofs.Common.{◌≡◌, refl, sym, ◌∙◌, ap, subst, ℕ, ◌<◌, inl, inr, arith, List, [], ◌∷◌, length, get_or}
use Rattle.std.specs.Prelude.{ℤ, pos, ◌*ℤ◌, map, Option, None, Some, MatchOption}
use Rattle.std.specs.List.{All}
use Rattle.std.proofs.lemmas.Int.{ints}
use Rattle.std.proofs.lemmas.List.{length-map, get_or-map, get_or_default}
use Rattle.plane.specs.Plane.{PlanePoint}
use Rattle.grid_num.specs.declared.Point.{Point}
use Rattle.plane.specs.Covering.{Edge, IsOn, edges_to, edges_of}
use Rattle.plane.specs.Edges.{IsOctilinear}
use Rattle.outline_slab.specs.Rules.{IsInSpan, IsSide, IsNextAround, IsJoint, AreCrossing, NoneCrossing, edge, no_edge, no_corner}
use Rattle.outline_slab.specs.Faults.{IsLeastCrossing}
use Rattle.outline_slab.specs.Inner.Exchange.{exchanged, all_exchanged}
use Rattle.outline_slab.proofs.Chain.{edges_length}

abbrev mirror : Edge → Edge
mirror e = record { start = exchanged e.start; finish = exchanged e.finish }

abbrev mirror_at : PlanePoint → PlanePoint
mirror_at p = record { x = p.y; y = p.x; scale = p.scale; positive = p.positive }

-- ---- edges
to_mirror : (z a : Point) (cs : List Point) → edges_to (exchanged z) (exchanged a) (all_exchanged cs) ≡ map (λ e. mirror e) (edges_to z a cs)
to_mirror z a [] = refl
to_mirror z a (b ∷ cs) = let f : List Edge → List Edge = λ es. record { start = exchanged a; finish = exchanged b } ∷ es in ap f (to_mirror z b cs)

mirror_edges : (cs : List Point) → edges_of (all_exchanged cs) ≡ map (λ e. mirror e) (edges_of cs)
mirror_edges [] = refl
mirror_edges (a ∷ cs) = to_mirror a a cs

mirror_edge : (cs : List Point) (i : ℕ) → i < length cs → edge (all_exchanged cs) i ≡ mirror (edge cs i)
mirror_edge cs i h =
    ap (λ (es : List Edge). get_or es i no_edge) (mirror_edges cs)
    ∙ get_or-map (λ e. mirror e) (edges_of cs) i no_edge no_edge (let l = edges_length cs in omega (arith, l, h))

twice : (cs : List Point) → all_exchanged (all_exchanged cs) ≡ cs
twice [] = refl
twice (a ∷ cs) = let f : List Point → List Point = λ q. a ∷ q in ap f (twice cs)

pub mirror_length : (cs : List Point) → length (all_exchanged cs) ≡ length cs
mirror_length cs = length-map cs (λ c. exchanged c)

-- ---- points
mirror_on : (e : Edge) (p : PlanePoint) → IsOn e p → IsOn (mirror e) (mirror_at p)
mirror_on e p o = record { line = sym o.line; across = o.along; along = o.across }

joint_back : (cs : List Point) (i j : ℕ) (p : PlanePoint) → j < length cs → IsJoint (all_exchanged cs) i j (mirror_at p) → IsJoint cs i j p
joint_back cs i j p h q =
    let n = mirror_length cs in
    let e = mirror_edge cs j h in
    let x : Edge → ℤ = λ g. g.start.x in
    let y : Edge → ℤ = λ g. g.start.y in
    let ex = ap x e in
    let ey = ap y e in
    let qx = q.end.x in
    let qy = q.end.y in
    record {
      next = subst (λ (m : ℕ). IsNextAround m i j) n q.next;
      end = record {
        x = ap (λ (z : ℤ). pos p.scale *ℤ z) (sym ey) ∙ qy;
        y = ap (λ (z : ℤ). pos p.scale *ℤ z) (sym ex) ∙ qx;
      };
    }

mirror_crossing : (cs : List Point) (i j : ℕ) → i < length cs → j < length cs → AreCrossing cs i j → AreCrossing (all_exchanged cs) i j
mirror_crossing cs i j h g c =
    let on : (k : ℕ) → k < length cs → IsOn (edge cs k) c.at → IsOn (edge (all_exchanged cs) k) (mirror_at c.at) = λ k l o.
    subst (λ (e : Edge). IsOn e (mirror_at c.at)) (sym (mirror_edge cs k l)) (mirror_on (edge cs k) c.at o) in
    record {
      at = mirror_at c.at;
      first = on i h c.first;
      second = on j g c.second;
      not_end = λ q. c.not_end (joint_back cs i j c.at g q);
      not_start = λ q. c.not_start (joint_back cs j i c.at h q);
    }

crossing_back : (cs : List Point) (i j : ℕ) → i < length cs → j < length cs → AreCrossing (all_exchanged cs) i j → AreCrossing cs i j
crossing_back cs i j h g c =
    let n = mirror_length cs in
    subst (λ (q : List Point). AreCrossing q i j) (twice cs) (mirror_crossing (all_exchanged cs) i j (omega (arith, n, h)) (omega (arith, n, g)) c)

-- ---- what the search takes, and what it finds
pub mirror_span : (cs : List Point) → All IsInSpan cs → All IsInSpan (all_exchanged cs)
mirror_span cs all = λ k d h.
    let n = mirror_length cs in
    let l : k < length cs = omega (arith, n, h) in
    let w = all k no_corner l in
    rw (get_or-map (λ c. exchanged c) cs k no_corner d l) (record { x = w.y; y = w.x })

mirror_octilinear : (e : Edge) → IsOctilinear e → IsOctilinear (mirror e)
unfolding IsOctilinear
mirror_octilinear e (inl h) = inr (inl h)
mirror_octilinear e (inr (inl h)) = inl h
mirror_octilinear e (inr (inr (inl h))) = inr (inr (inl (sym h)))
mirror_octilinear e (inr (inr (inr h))) = inr (inr (inr (omega (arith, ints, h))))

mirror_side : (e : Edge) → IsSide e → IsSide (mirror e)
mirror_side e s = record { goes = λ h. s.goes (let f : Point → Point = λ q. exchanged q in ap f h); octilinear = mirror_octilinear e s.octilinear }

pub mirror_sides : (cs : List Point) → All IsSide (edges_of cs) → All IsSide (edges_of (all_exchanged cs))
mirror_sides cs all = λ k d h.
    let n = mirror_length cs in
    let m = edges_length cs in
    let o = edges_length (all_exchanged cs) in
    let l : k < length (edges_of cs) = omega (arith, n, m, o, h) in
    let e : get_or (edges_of (all_exchanged cs)) k d ≡ mirror (edge cs k) = get_or_default (edges_of (all_exchanged cs)) k d no_edge h ∙ mirror_edge cs k (omega (arith, m, l)) in
    rw e (mirror_side (edge cs k) (all k no_edge l))

pub none_back : (cs : List Point) → NoneCrossing (all_exchanged cs) → NoneCrossing cs
none_back cs none = λ i j l h c. let n = mirror_length cs in none i j l (omega (arith, n, h)) (mirror_crossing cs i j (omega (arith, l, h)) h c)

pub least_back : (cs : List Point) (i j : ℕ) → IsLeastCrossing (all_exchanged cs) i j → IsLeastCrossing cs i j
least_back cs i j a =
    let n = mirror_length cs in
    let w = a.within in
    let o = a.order in
    record {
      order = o;
      within = omega (arith, n, w);
      crossing = crossing_back cs i j (omega (arith, n, w, o)) (omega (arith, n, w)) a.crossing;
      least = λ k l h g b c. a.least k l h (omega (arith, n, g)) b (mirror_crossing cs k l (omega (arith, h, g)) g c);
    }

pub found_back : (cs : List Point) (found : Option (ℕ × ℕ)) → MatchOption found (NoneCrossing (all_exchanged cs)) (λ pair. IsLeastCrossing (all_exchanged cs) pair.0 pair.1)
    → MatchOption found (NoneCrossing cs) (λ pair. IsLeastCrossing cs pair.0 pair.1)
found_back cs None h = none_back cs h
found_back cs (Some p) h = least_back cs p.0 p.1 h
