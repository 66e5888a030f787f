-- The rings, counted together, cover exactly the sheet.
use Rattle.std.proofs.Common.{◌≡◌, refl, sym, subst, ap, ◌∙◌, ◌⊎◌, inl, inr, arith, List, [], ◌∷◌, ◌++◌}
use Rattle.std.specs.Prelude.{pos, ◌*ℤ◌, ◌≤ℤ◌, ◌<ℤ◌, ◌↔◌, Any, map}
use Rattle.std.specs.List.{AllZip}
use Rattle.std.proofs.lemmas.Int.{ints}
use Rattle.plane.specs.Plane.{PlanePoint}
use Rattle.grid_num.proofs.Products.{mul_lt}
use Rattle.grid_num.specs.declared.Point.{Point}
use Rattle.plane.specs.Covering.{Edge, IsOn, Covers, edges_of_all}
use Rattle.plane.specs.Edges.{turned_back, both_ways}
use Rattle.plane.proofs.On.{at, on_level}
use Rattle.plane.proofs.Split.{AreAlike, alike_covers, alike_order, slits_law}
use Rattle.plane.proofs.Chains.{AreAlikeChains, chains_alike, joined_edges}
use Rattle.strips.specs.declared.Strip.{Strip}
use Rattle.strips.specs.Strips.{IsInStrip}
use Rattle.rings.specs.Walks.{IsWalk, joined_walks, IsContour, AreContours}
use Rattle.rings.specs.Loops.{Loop, AreLoopsOf}
use Rattle.rings.specs.Slits.{IsSlit, cut_by}
use Rattle.rings.specs.Rings.{holes_of, with_slits, AreRingsOf}
use Rattle.rings.specs.Boundary.{AreBoundary}
use Rattle.rings.proofs.Lists.{Has, all_at, zip_right}
use Rattle.rings.proofs.Parted.{AreGood}
use Rattle.rings.proofs.Cuts.{by_alike}
use Rattle.rings.proofs.Bends.{contour_alike}
use Rattle.rings.proofs.Unique.{IsDrawn, drawn}
use Rattle.rings.proofs.Heads.{hole_head}
use Rattle.rings.proofs.Slits.{any_has}
use Rattle.rings.proofs.Sides.{AreOrdered}
use Rattle.rings.proofs.Boundary.{boundary_good}
use Rattle.rings.proofs.Rings.{hole_loop, slits_in, slits_good, ways_cases}
use Rattle.rings.proofs.Levels.{boundary_cover}
use Rattle.rings.proofs.Inside.{slit_in}

-- ---- contours and walks
chains_of : (es : List Edge) (ws : List (List Edge)) (cs : List (List Point)) → AreGood es → ((w : List Edge) → Has ws w → IsWalk es w) → AllZip IsContour ws cs → AreAlikeChains cs ws
unfolding AreAlikeChains Has
chains_of es [] [] g i z = tt
chains_of es [] (c ∷ cs) g i z = absurd z
chains_of es (w ∷ ws) [] g i z = absurd z
chains_of es (w ∷ ws) (c ∷ cs) g i z = (contour_alike es w c g (i w (inl refl)) z.0, chains_of es ws cs g (λ v h. i v (inr h)) z.1)

joined_same : (ws : List (List Edge)) → joined_walks ws ≡ joined_edges ws
joined_same [] = refl
joined_same (w ∷ ws) = ap (λ es. w ++ es) (joined_same ws)

pub contours_cover : (es : List Edge) (ws : List (List Edge)) (cs : List (List Point)) (p : PlanePoint) → AreGood es → AreContours es ws cs → Covers (edges_of_all cs) p ↔ Covers es p
contours_cover es ws cs p g a =
    let c = chains_alike cs ws (chains_of es ws cs g (λ w h. all_at (IsWalk es) ws w a.next h) a.draw) in
    let d = alike_covers (edges_of_all cs) (joined_walks ws) p (subst (AreAlike (edges_of_all cs)) (sym (joined_same ws)) c) in
    let e = alike_covers (joined_walks ws) es p (alike_order (joined_walks ws) es a.once) in
    (λ i. e.0 (d.0 i), λ i. d.1 (e.1 i))

-- ---- slits lie on the sheet
slit_points : (s : Edge) (e : Edge) (p : PlanePoint) → s.finish.y ≡ s.start.y → s.finish.x <ℤ s.start.x → (e ≡ s) ⊎ (e ≡ turned_back s) → IsOn e p
    → (p.y ≡ pos p.scale *ℤ s.start.y) × ((pos p.scale *ℤ s.finish.x) ≤ℤ p.x) × (p.x ≤ℤ (pos p.scale *ℤ s.start.x))
unfolding turned_back
slit_points s e p y l (inl k) i =
    let o = subst (λ z. IsOn z p) k i in
    let x = o.across in
    let m = mul_lt p.scale s.finish.x s.start.x p.positive l in
    (on_level s p (sym y) o, omega (arith, ints, x, m), omega (arith, ints, x, m))
slit_points s e p y l (inr k) i =
    let o = subst (λ z. IsOn z p) k i in
    let x = o.across in
    let m = mul_lt p.scale s.finish.x s.start.x p.positive l in
    (on_level (record { start = s.finish; finish = s.start }) p y o ∙ at p.scale s.finish.y s.start.y y, omega (arith, ints, x, m), omega (arith, ints, x, m))

slits_inside : (ss : List Strip) (es : List Edge) (loops : List Loop) (slits : List Edge) (p : PlanePoint) → AreOrdered ss → AreBoundary ss es → AreLoopsOf es loops
    → AllZip (IsSlit es) (holes_of loops) slits → Any (λ e. IsOn e p) (both_ways slits) → Any (λ s. IsInStrip s p) ss
slits_inside ss es loops slits p o b a z i =
    let e = any_has (λ e. IsOn e p) (both_ways slits) i in
    let s = ways_cases slits e.0 e.1 in
    let c = zip_right (IsSlit es) (holes_of loops) slits z s.0 s.1 in
    let l = hole_loop loops c.0 c.1 in
    let w = zip_right IsDrawn a.walks loops (drawn a.walks loops (a.contours).draw a.holes) l.0 l.1 in
    let walk = all_at (IsWalk es) a.walks w.0 (a.contours).next w.1 in
    let g = boundary_good ss es o b in
    let contour = subst (IsContour w.0) (l.3 ∙ (c.2).from) (w.2).contour in
    let u = hole_head es w.0 s.0.start (c.2).others g walk contour ((w.2).hole.0 l.2) in
    let q = slit_points s.0 e.0 p (c.2).level (c.2).left s.2 e.2 in
    slit_in ss es w.0 c.0 s.0 u.0 p o b walk u.1 c.2 q.0 q.1 q.2

-- ---- rings
pub rings_cover : (ss : List Strip) (es : List Edge) (rings : List (List Point)) (p : PlanePoint) → AreOrdered ss → AreBoundary ss es → AreRingsOf es rings
    → Covers (edges_of_all rings) p ↔ Any (λ s. IsInStrip s p) ss
unfolding with_slits
rings_cover ss es rings p o b r =
    let g = boundary_good ss es o b in
    let i = slits_in es r.loops r.slits r.are r.each in
    let c = contours_cover (with_slits es r.slits) r.walks rings p (slits_good es r.slits g i) r.contours in
    let d = alike_covers (cut_by r.slits es) es p (by_alike r.slits es g) in
    let e = boundary_cover ss es p o b in
    let s = slits_law (cut_by r.slits es) r.slits p (λ j. d.1 (e.1 (slits_inside ss es r.loops r.slits p o b r.are r.each j))) in
    (λ j. e.0 (d.0 (s.0 (c.0 j))), λ j. c.1 (s.1 (d.1 (e.1 j))))

-- ---- loops
pub loops_cover : (ss : List Strip) (es : List Edge) (loops : List Loop) (p : PlanePoint) → AreOrdered ss → AreBoundary ss es → AreLoopsOf es loops
    → Covers (edges_of_all (map (λ l. l.corners) loops)) p ↔ Any (λ s. IsInStrip s p) ss
loops_cover ss es loops p o b a =
    let c = contours_cover es a.walks (map (λ l. l.corners) loops) p (boundary_good ss es o b) a.contours in
    let e = boundary_cover ss es p o b in
    (λ j. e.0 (c.0 j), λ j. c.1 (e.1 j))
