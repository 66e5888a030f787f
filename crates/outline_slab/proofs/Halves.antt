-- What holds of corners in nanometres holds of them in units of 2 nm.
use Rattle.std.proofs.Common.{◌≡◌, refl, sym, ◌∙◌, ap, subst, ℕ, ◌<◌, inl, inr, arith, List, [], ◌∷◌, length, get_or}
use Rattle.std.specs.Prelude.{ℤ, pos, ◌+ℤ◌, ◌-ℤ◌, ◌*ℤ◌, map}
use Rattle.std.specs.List.{All}
use Rattle.std.proofs.lemmas.Int.{ints}
use Rattle.std.proofs.lemmas.List.{length-map, get_or-map, get_or_default}
use Rattle.plane.specs.Plane.{PlanePoint, IsSame, grid_point}
use Rattle.grid_num.proofs.Products.{mul_add}
use Rattle.grid_num.specs.declared.Point.{Point}
use Rattle.plane.specs.Covering.{Edge, IsOn, Between, edges_to, edges_of}
use Rattle.plane.specs.Edges.{IsOctilinear}
use Rattle.plane.specs.Units.{finer}
use Rattle.plane.proofs.On.{at, on_level, level_on, on_upright, upright_on, on_rise, rise_on, on_fall, fall_on}
use Rattle.outline_slab.specs.Rules.{IsSide, IsNextAround, IsJoint, AreCrossing, IsSimple, IsPointWithin, IsInSpan, IsKeptOutline, edge, no_edge}
use Rattle.outline_slab.proofs.Chain.{edges_length}
use Rattle.outline_slab.proofs.Crossings.{side_of}

-- the edge, and the point, in nanometres
abbrev doubled : Edge → Edge
doubled e = record { start = finer 2 e.start; finish = finer 2 e.finish }

abbrev doubled_at : PlanePoint → PlanePoint
doubled_at p = record { x = pos 2 *ℤ p.x; y = pos 2 *ℤ p.y; scale = p.scale; positive = p.positive }

doubled_to : (z a : Point) (cs : List Point) → edges_to (finer 2 z) (finer 2 a) (map (finer 2) cs) ≡ map doubled (edges_to z a cs)
doubled_to z a [] = refl
doubled_to z a (b ∷ cs) = let f : List Edge → List Edge = λ es. record { start = finer 2 a; finish = finer 2 b } ∷ es in ap f (doubled_to z b cs)

doubled_edges : (cs : List Point) → edges_of (map (finer 2) cs) ≡ map doubled (edges_of cs)
doubled_edges [] = refl
doubled_edges (a ∷ cs) = doubled_to a a cs

doubled_edge : (cs : List Point) (i : ℕ) → i < length cs → edge (map (finer 2) cs) i ≡ doubled (edge cs i)
doubled_edge cs i h =
    ap (λ (es : List Edge). get_or es i no_edge) (doubled_edges cs)
    ∙ get_or-map doubled (edges_of cs) i no_edge no_edge (let l = edges_length cs in omega arith)

-- ---- a point of an edge
twice : (k : ℕ) (a : ℤ) → pos k *ℤ (pos 2 *ℤ a) ≡ pos 2 *ℤ (pos k *ℤ a)
twice k a = let e = at k (pos 2 *ℤ a) (a +ℤ a) (omega (arith, ints)) in let m = mul_add k a a in omega (arith, ints)

between_doubled : (k : ℕ) (a b z : ℤ) → Between (pos k *ℤ a) (pos k *ℤ b) z → Between (pos k *ℤ (pos 2 *ℤ a)) (pos k *ℤ (pos 2 *ℤ b)) (pos 2 *ℤ z)
between_doubled k a b z (inl h) = let m = twice k a in let n = twice k b in inl (omega (arith, ints), omega (arith, ints))
between_doubled k a b z (inr h) = let m = twice k a in let n = twice k b in inr (omega (arith, ints), omega (arith, ints))

on_doubled : (e : Edge) (p : PlanePoint) → IsOctilinear e → IsOn e p → IsOn (doubled e) (doubled_at p)
unfolding IsOctilinear
on_doubled e p (inl l) o =
    let t = on_level e p l o in
    let m = twice p.scale e.start.y in
    level_on (doubled e) (doubled_at p) (omega (arith, ints)) (omega (arith, ints)) (between_doubled p.scale e.start.x e.finish.x p.x o.across)
on_doubled e p (inr (inl u)) o =
    let t = on_upright e p u o in
    let m = twice p.scale e.start.x in
    upright_on (doubled e) (doubled_at p) (omega (arith, ints)) (omega (arith, ints)) (between_doubled p.scale e.start.y e.finish.y p.y o.along)
on_doubled e p (inr (inr (inl r))) o =
    let t = on_rise e p r o in
    let m = twice p.scale (e.start.x -ℤ e.start.y) in
    let s = at p.scale (pos 2 *ℤ (e.start.x -ℤ e.start.y)) (pos 2 *ℤ e.start.x -ℤ pos 2 *ℤ e.start.y) (omega (arith, ints)) in
    rise_on (doubled e) (doubled_at p) (omega (arith, ints)) (omega (arith, ints)) (between_doubled p.scale e.start.y e.finish.y p.y o.along)
on_doubled e p (inr (inr (inr f))) o =
    let t = on_fall e p f o in
    let m = twice p.scale (e.start.x +ℤ e.start.y) in
    let s = at p.scale (pos 2 *ℤ (e.start.x +ℤ e.start.y)) (pos 2 *ℤ e.start.x +ℤ pos 2 *ℤ e.start.y) (omega (arith, ints)) in
    fall_on (doubled e) (doubled_at p) (omega (arith, ints)) (omega (arith, ints)) (between_doubled p.scale e.start.y e.finish.y p.y o.along)

-- ---- the rules
eighth_halved : (e : Edge) → IsOctilinear (doubled e) → IsOctilinear e
unfolding IsOctilinear
eighth_halved e (inl h) = inl (omega (arith, ints))
eighth_halved e (inr (inl h)) = inr (inl (omega (arith, ints)))
eighth_halved e (inr (inr (inl h))) = inr (inr (inl (omega (arith, ints))))
eighth_halved e (inr (inr (inr h))) = inr (inr (inr (omega (arith, ints))))

side_halved : (e : Edge) → IsSide (doubled e) → IsSide e
side_halved e s = record {
  goes = λ h. s.goes (let f : Point → Point = λ z. finer 2 z in ap f h);
  octilinear = eighth_halved e s.octilinear;
}

joint_doubled : (cs : List Point) (i j : ℕ) (p : PlanePoint) → j < length cs → IsJoint (map (finer 2) cs) i j (doubled_at p) → IsJoint cs i j p
joint_doubled cs i j p h k =
    let n = length-map cs (finer 2) in
    let e : (edge (map (finer 2) cs) j).start ≡ finer 2 (edge cs j).start = ap (λ (e : Edge). e.start) (doubled_edge cs j h) in
    let x : (edge (map (finer 2) cs) j).start.x ≡ pos 2 *ℤ (edge cs j).start.x = ap (λ (a : Point). a.x) e in
    let y : (edge (map (finer 2) cs) j).start.y ≡ pos 2 *ℤ (edge cs j).start.y = ap (λ (a : Point). a.y) e in
    record {
      next = subst (λ (m : ℕ). IsNextAround m i j) n k.next;
      end = same (edge cs j).start (edge (map (finer 2) cs) j).start p x y k.end;
    }
  where
    same : (a b : Point) (p : PlanePoint) → b.x ≡ pos 2 *ℤ a.x → b.y ≡ pos 2 *ℤ a.y → IsSame (grid_point b.x b.y) (doubled_at p) → IsSame (grid_point a.x a.y) p
    same a b p x y s =
        let u = at p.scale b.x (pos 2 *ℤ a.x) x in
        let v = at p.scale b.y (pos 2 *ℤ a.y) y in
        let f = twice p.scale a.x in
        let g = twice p.scale a.y in
        record { x = (let e = s.x in omega (arith, ints)); y = (let e = s.y in omega (arith, ints)) }

crossing_doubled : (cs : List Point) (i j : ℕ) → i < length cs → j < length cs → IsOctilinear (edge cs i) → IsOctilinear (edge cs j)
    → AreCrossing cs i j → AreCrossing (map (finer 2) cs) i j
crossing_doubled cs i j h g s t c = record {
  at = doubled_at c.at;
  first = subst (λ (e : Edge). IsOn e (doubled_at c.at)) (sym (doubled_edge cs i h)) (on_doubled (edge cs i) c.at s c.first);
  second = subst (λ (e : Edge). IsOn e (doubled_at c.at)) (sym (doubled_edge cs j g)) (on_doubled (edge cs j) c.at t c.second);
  not_end = λ k. c.not_end (joint_doubled cs i j c.at g k);
  not_start = λ k. c.not_start (joint_doubled cs j i c.at h k);
}

pub simple_halved : (cs : List Point) → IsSimple (map (finer 2) cs) → IsSimple cs
simple_halved cs s =
    let n = length-map cs (finer 2) in
    let sides : (i : ℕ) → i < length cs → IsSide (edge cs i)
    = λ i h. side_halved (edge cs i) (subst IsSide (doubled_edge cs i h) (side_of (map (finer 2) cs) i s.sides (omega arith))) in
    record {
      three = omega (arith, s.three);
      sides = all_sides cs sides;
      apart = λ i j h g c. s.apart i j h (omega arith)
          (crossing_doubled cs i j (omega arith) g (sides i (omega arith)).octilinear (sides j g).octilinear c);
    }
  where
    all_sides : (cs : List Point) → ((i : ℕ) → i < length cs → IsSide (edge cs i)) → All IsSide (edges_of cs)
    all_sides cs f = λ k d h. subst IsSide (get_or_default (edges_of cs) k no_edge d h) (f k (let l = edges_length cs in omega arith))

within_halved : (a : Point) → IsInSpan (finer 2 a) → IsPointWithin 250000000 a
within_halved a w = record {
  x = record { low = (let l = w.x.low in omega (arith, ints)); high = (let l = w.x.high in omega (arith, ints)) };
  y = record { low = (let l = w.y.low in omega (arith, ints)); high = (let l = w.y.high in omega (arith, ints)) };
}

pub kept : (cs ps : List Point) → map (finer 2) cs ≡ ps → All IsInSpan ps → IsSimple ps → IsKeptOutline cs
kept cs ps e all s = record {
  simple = simple_halved cs (subst IsSimple (sym e) s);
  within = λ k d h. within_halved (get_or cs k d)
      (subst IsInSpan (get_or-map (finer 2) cs k d (finer 2 d) h) (subst (λ (l : List Point). All IsInSpan l) (sym e) all k (finer 2 d) (let n = length-map cs (finer 2) in omega arith)));
}
