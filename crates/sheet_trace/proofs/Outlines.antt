-- From listed edges to loops and rings.
use Rattle.std.proofs.Common.{◌≡◌, refl, sym, subst, ap, ◌∙◌, ℕ, ◌+◌, ◌<◌, ◌≤◌, arith, List, [], ◌∷◌, ◌++◌, length, get_or, drop, map, Bool, true, false}
use Rattle.std.specs.Prelude.{AllPairs}
use Rattle.std.specs.List.{AllZip}
use Rattle.std.specs.List.Sorted.{IsPermutation}
use Rattle.std.proofs.lemmas.Bool.{false≢true}
use Rattle.std.proofs.lemmas.List.{append-nil, append_assoc}
use Rattle.std.proofs.lemmas.List.Sorted.{IsPermutation-refl, IsPermutation-map, IsPermutation-trans, IsPermutation-append_left}
use Rattle.grid_num.specs.declared.Point.{Point}
use Rattle.plane.specs.Covering.{Edge}
use Rattle.plane.specs.Edges.{turned_back, both_ways}
use Rattle.strips.specs.declared.Strip.{Strip}
use Rattle.rings.specs.Walks.{IsListLess}
use Rattle.rings.specs.Loops.{Loop, AreLoopsOf}
use Rattle.rings.specs.Slits.{IsSlit}
use Rattle.rings.specs.Rings.{holes_of, with_slits, AreRingsOf}
use Rattle.rings.specs.Boundary.{AreBoundary}
use Rattle.rings.specs.Sheets.{AreLoops, AreRings}
use Rattle.rings.specs.Laws.{AreOrderly, HasOneNextEach}
use Rattle.rings.specs.Inner.Tracing.{drawings_of, walks_of, loops_by, slit_by, slits_by}
use Rattle.rings.proofs.Laws.{next_law, slits_next_law, uncut_law, loops_by_law, slits_by_law, drawn_rings_law}
use Rattle.rings.proofs.Outcome.{loops_corners}
use Rattle.sheet_union.specs.Near.{IsSheet}
use Rattle.sheet_trace.specs.declared.edge.BoundaryEdge.{BoundaryEdge}
use Rattle.sheet_trace.specs.declared.order.Drawn.{Drawn}
use Rattle.sheet_trace.specs.Edges.{edge_of, edges_in}
use Rattle.sheet_trace.specs.Inner.Order.{loop_in, loops_in, AreLoopsInOrder}
use Rattle.sheet_trace.specs.Inner.Walked.{loop_along}
use Rattle.sheet_trace.specs.Inner.Outlines.{AreEdgesOf, AreUnlike, AreSlitted, corners_in, slit_along}
use Rattle.sheet_trace.proofs.Folds.{drop_here, drop_all}
use Rattle.sheet_trace.proofs.Walked.{edges_append, edges_length}

corners_are : (ds : List Drawn) → map (λ l. l.corners) (loops_in ds) ≡ map corners_in ds
corners_are [] = refl
corners_are (d ∷ ds) = ap (λ z. d.corners.items ∷ z) (corners_are ds)

-- ---- the edges of a sheet
pub orderly : (ss : List Strip) → IsSheet ss → AreOrderly ss
orderly ss o = record { shapes = o.shapes; order = o.order }

edges_mapped : (es : List BoundaryEdge) → edges_in es ≡ map edge_of es
unfolding edges_in
edges_mapped [] = refl
edges_mapped (e ∷ es) = ap (λ z. edge_of e ∷ z) (edges_mapped es)

pub edges_permuted : (es fs : List BoundaryEdge) → IsPermutation es fs → IsPermutation (edges_in es) (edges_in fs)
edges_permuted es fs p = subst (λ z. IsPermutation z (edges_in fs)) (sym (edges_mapped es)) (subst (IsPermutation (map edge_of es)) (sym (edges_mapped fs)) (IsPermutation-map edge_of es fs p))

pub edges_listed : (ss : List Strip) (es fs : List BoundaryEdge) → AreBoundary ss (edges_in es) → IsPermutation es fs → AreEdgesOf ss (edges_in fs)
edges_listed ss es fs b p = record { edges = edges_in es; boundary = b; order = edges_permuted es fs p }

pub listed_next : (ss : List Strip) (fs : List Edge) → IsSheet ss → AreEdgesOf ss fs → HasOneNextEach fs
listed_next ss fs o e = next_law ss e.edges fs (orderly ss o) e.boundary e.order

listed_loops : (ss : List Strip) (fs : List Edge) → IsSheet ss → (e : AreEdgesOf ss fs) → AreLoopsOf e.edges (loops_by fs)
listed_loops ss fs o e = loops_by_law ss e.edges fs (orderly ss o) e.boundary e.order

pub listed_unlike : (ss : List Strip) (fs : List Edge) → IsSheet ss → AreEdgesOf ss fs → AreUnlike fs
unfolding loops_by AreUnlike
listed_unlike ss fs o e = subst (AllPairs IsListLess) (loops_corners (drawings_of fs)) ((listed_loops ss fs o e).contours).order

pub loops_found : (ss : List Strip) (fs : List Edge) (loops : List Loop) → IsSheet ss → AreEdgesOf ss fs → loops ≡ loops_by fs → AreLoops ss loops
loops_found ss fs loops o e l = record { edges = e.edges; boundary = e.boundary; are = subst (AreLoopsOf e.edges) (sym l) (listed_loops ss fs o e) }

-- the drawings in order are the program's loops
pub ordered_loops : (es : List BoundaryEdge) (old new : List Drawn) → loops_in old ≡ map loop_along (walks_of (length es) (edges_in es) (edges_in es)) → AreUnlike (edges_in es) → AreLoopsInOrder old new
    → loops_in new ≡ loops_by (edges_in es)
unfolding AreLoopsInOrder AreUnlike loops_by drawings_of
ordered_loops es old new h u m =
    let fs = edges_in es in
    let ws = walks_of (length fs) fs fs in
    let e : loops_in old ≡ map loop_along ws = h ∙ ap (λ n. map loop_along (walks_of n fs fs)) (sym (edges_length es)) in
    m ws (subst (IsPermutation (map loop_along ws)) (sym e) (IsPermutation-refl (map loop_along ws))) u

-- ---- slits
slits_more : (es : List Edge) (cs : List Point) (hole : Bool) (ls : List Loop)
    → slit_along es (record { corners = cs; hole = hole }) ++ both_ways (slits_by es (holes_of ls)) ≡ both_ways (slits_by es (holes_of (record { corners = cs; hole = hole } ∷ ls)))
unfolding slit_along holes_of slits_by both_ways
slits_more es cs false ls = refl
slits_more es [] true ls = refl
slits_more es (c ∷ cs) true ls = refl

pub slits_step : (es : List Edge) (ds : List Drawn) (k : ℕ) (d : Drawn) (x : Drawn) (out new whole : List Edge) → k < length ds → x ≡ get_or ds k d → new ≡ out ++ slit_along es (loop_in x)
    → out ++ both_ways (slits_by es (holes_of (loops_in (drop k ds)))) ≡ whole → new ++ both_ways (slits_by es (holes_of (loops_in (drop (k + 1) ds)))) ≡ whole
slits_step es ds k d x out new whole l e n h =
    let rest = both_ways (slits_by es (holes_of (loops_in (drop (k + 1) ds)))) in
    let q : drop k ds ≡ x ∷ drop (k + 1) ds = drop_here ds k d l ∙ ap (λ z. z ∷ drop (k + 1) ds) (sym e) in
    ap (λ z. z ++ rest) n
    ∙ (append_assoc out (slit_along es (loop_in x)) rest
    ∙ (ap (λ z. out ++ z) (slits_more es x.corners.items x.hole (loops_in (drop (k + 1) ds)))
    ∙ (ap (λ z. out ++ both_ways (slits_by es (holes_of (loops_in z)))) (sym q) ∙ h)))

pub slits_end : (es : List Edge) (ds : List Drawn) (k : ℕ) (out whole : List Edge) → length ds ≤ k → out ++ both_ways (slits_by es (holes_of (loops_in (drop k ds)))) ≡ whole → out ≡ whole
unfolding holes_of slits_by both_ways
slits_end es ds k out whole l h = sym (append-nil out) ∙ (ap (λ z. out ++ both_ways (slits_by es (holes_of (loops_in z)))) (sym (drop_all ds k l)) ∙ h)

pub slits_begun : (es : List BoundaryEdge) (whole : List Edge) → es ≡ [] → edges_in es ++ whole ≡ whole
unfolding edges_in
slits_begun es whole e = ap (λ z. edges_in z ++ whole) e

-- of a loop: its slit if it is a hole
pub slit_if_hole : (es out new : List Edge) (cs : List Point) (hole : Bool) → hole ≡ true → new ≡ out ++ both_ways (slits_by es (cs ∷ [])) → new ≡ out ++ slit_along es (record { corners = cs; hole = hole })
unfolding slit_along
slit_if_hole es out new cs true h n = n
slit_if_hole es out new cs false h n = absurd (false≢true h)

pub no_slit : (es out : List Edge) (cs : List Point) (hole : Bool) → hole ≡ false → out ≡ out ++ slit_along es (record { corners = cs; hole = hole })
unfolding slit_along
no_slit es out cs true h = absurd (false≢true (sym h))
no_slit es out cs false h = sym (append-nil out)

-- of corners
pub no_corner : (es out : List Edge) (cs : List Point) → length cs ≡ 0 → out ≡ out ++ both_ways (slits_by es (cs ∷ []))
unfolding slits_by both_ways
no_corner es out [] h = sym (append-nil out)
no_corner es out (c ∷ cs) h = absurd (omega (arith, h))

drop_none : {X : Type 0} (xs : List X) → drop 0 xs ≡ xs
drop_none [] = refl
drop_none (x ∷ xs) = refl

pub one_slit : (es : List Edge) (old one two : List BoundaryEdge) (cs : List Point) (d : Point) (s : BoundaryEdge) → 0 < length cs → edge_of s ≡ slit_by es (get_or cs 0 d)
    → one ≡ old ++ s ∷ [] → two ≡ one ++ record { start = s.finish; finish = s.start } ∷ [] → edges_in two ≡ edges_in old ++ both_ways (slits_by es (cs ∷ []))
unfolding edges_in turned_back both_ways slits_by
one_slit es old one two cs d s l e f g =
    let t : BoundaryEdge = record { start = s.finish; finish = s.start } in
    let h : cs ≡ get_or cs 0 d ∷ drop (0 + 1) cs = sym (drop_none cs) ∙ drop_here cs 0 d l in
    ap edges_in g
    ∙ (edges_append one (t ∷ [])
    ∙ (ap (λ z. z ++ edge_of t ∷ []) (ap edges_in f ∙ edges_append old (s ∷ []))
    ∙ (append_assoc (edges_in old) (edge_of s ∷ []) (edge_of t ∷ [])
    ∙ (ap (λ z. edges_in old ++ z ∷ turned_back z ∷ []) e ∙ ap (λ z. edges_in old ++ both_ways (slits_by es (z ∷ []))) (sym h)))))

-- ---- rings
pub slits_added : (es slits all sorted : List BoundaryEdge) (loops : List Loop) → edges_in slits ≡ both_ways (slits_by (edges_in es) (holes_of loops)) → all ≡ es ++ slits → IsPermutation all sorted
    → AreSlitted (edges_in es) loops (edges_in sorted)
slits_added es slits all sorted loops s a p =
    record { order = subst (λ z. IsPermutation z (edges_in sorted)) (ap edges_in a ∙ (edges_append es slits ∙ ap (λ z. edges_in es ++ z) s)) (edges_permuted all sorted p) }

-- what is right of them
record AreRightSlits (ss : List Strip) (fs gs : List Edge) (e : AreEdgesOf ss fs) : Type 0 where
  loops : AreLoopsOf e.edges (loops_by fs)
  each : AllZip (IsSlit e.edges) (holes_of (loops_by fs)) (slits_by fs (holes_of (loops_by fs)))
  order : IsPermutation (with_slits e.edges (slits_by fs (holes_of (loops_by fs)))) gs

slits_right : (ss : List Strip) (fs gs : List Edge) → IsSheet ss → (e : AreEdgesOf ss fs) → AreSlitted fs (loops_by fs) gs → AreRightSlits ss fs gs e
unfolding with_slits
slits_right ss fs gs o e p =
    let r = orderly ss o in
    let es = e.edges in
    let l = listed_loops ss fs o e in
    let slits = slits_by fs (holes_of (loops_by fs)) in
    let z = slits_by_law ss es fs (loops_by fs) r e.boundary e.order l in
    let u = uncut_law ss es (loops_by fs) slits r e.boundary l z in
    record {
      loops = l;
      each = z;
      order = IsPermutation-trans (with_slits es slits) (fs ++ both_ways slits) gs
          (subst (λ c. IsPermutation (c ++ both_ways slits) (fs ++ both_ways slits)) (sym u) (IsPermutation-append_left (both_ways slits) es fs e.order)) p.order;
    }

pub slitted_next : (ss : List Strip) (fs gs : List Edge) (loops : List Loop) → IsSheet ss → AreEdgesOf ss fs → loops ≡ loops_by fs → AreSlitted fs loops gs → HasOneNextEach gs
slitted_next ss fs gs loops o e l p =
    let r = slits_right ss fs gs o e (subst (λ z. AreSlitted fs z gs) l p) in
    slits_next_law ss e.edges (loops_by fs) (slits_by fs (holes_of (loops_by fs))) gs (orderly ss o) e.boundary r.loops r.each r.order

slitted_rings : (ss : List Strip) (fs gs : List Edge) → IsSheet ss → (e : AreEdgesOf ss fs) → AreSlitted fs (loops_by fs) gs → AreRingsOf e.edges (map (λ d. d.corners) (drawings_of gs))
slitted_rings ss fs gs o e p =
    let r = slits_right ss fs gs o e p in
    drawn_rings_law ss e.edges (loops_by fs) (slits_by fs (holes_of (loops_by fs))) gs (orderly ss o) e.boundary r.loops r.each r.order

pub slitted_unlike : (ss : List Strip) (fs gs : List Edge) (loops : List Loop) → IsSheet ss → AreEdgesOf ss fs → loops ≡ loops_by fs → AreSlitted fs loops gs → AreUnlike gs
unfolding AreUnlike
slitted_unlike ss fs gs loops o e l p = ((slitted_rings ss fs gs o e (subst (λ z. AreSlitted fs z gs) l p)).contours).order

pub rings_found : (ss : List Strip) (fs gs : List Edge) (loops : List Loop) (ds : List Drawn) (rings : List (List Point)) → IsSheet ss → AreEdgesOf ss fs → loops ≡ loops_by fs → AreSlitted fs loops gs
    → loops_in ds ≡ loops_by gs → rings ≡ map corners_in ds → AreRings ss rings
unfolding loops_by
rings_found ss fs gs loops ds rings o e l p d r =
    let all : rings ≡ map (λ d. d.corners) (drawings_of gs) = r ∙ (sym (corners_are ds) ∙ (ap (map (λ l. l.corners)) d ∙ loops_corners (drawings_of gs))) in
    record { edges = e.edges; boundary = e.boundary; are = subst (AreRingsOf e.edges) (sym all) (slitted_rings ss fs gs o e (subst (λ z. AreSlitted fs z gs) l p)) }
