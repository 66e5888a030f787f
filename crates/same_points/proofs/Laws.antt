-- The laws of lists of strips that have the same points.
use Rattle.std.proofs.Common.{◌≡◌, refl, sym, subst, ap, ◌∙◌, inl, inr, arith, List, [], ◌∷◌, ◌++◌}
use Rattle.std.specs.Prelude.{ℤ, Any}
use Rattle.std.proofs.lemmas.Int.{ints}
use Rattle.std.proofs.lemmas.List.Sorted.{IsPermutation-sym}
use Rattle.grid_num.specs.declared.Point.{Point}
use Rattle.strips.specs.declared.Strip.{Strip}
use Rattle.strips.specs.Strips.{IsInStrip}
use Rattle.strips.specs.Area.{area2_of}
use Rattle.rings.specs.Loops.{Loop}
use Rattle.rings.specs.Sheets.{AreLoops, AreRings}
use Rattle.rings.specs.Laws.{AreOrderly}
use Rattle.rings.proofs.Lists.{Has, has_of, of_has, has_left, has_right}
use Rattle.rings.proofs.Boundary.{boundary_once}
use Rattle.rings.proofs.Slitted.{tidy}
use Rattle.rings.proofs.Permuted.{loops_permuted}
use Rattle.rings.proofs.Laws.{uncut_law, one_loops_law, one_rings_law, some_loops_law, some_rings_law}
use Rattle.same_points.specs.Cuts.{cut, all_cut, strip_rows}
use Rattle.same_points.specs.Edges.{parted}
use Rattle.same_points.specs.Laws.{IsOff, HaveSameOff, HaveSamePoints, CutOrderLaw, CutPointsLaw, CutBoundaryLaw, CutDrawnLaw, SameListLaw, SameOutlinesLaw, SameCoverLaw, SameDrawnLaw}
use Rattle.same_points.proofs.Visits.{loops_parted}
use Rattle.same_points.proofs.Slits.{rings_parted}
use Rattle.same_points.proofs.Pieces.{IsCrossing, IsPiece, Whole, Upper, Lower, piece_of, cut_points}
use Rattle.same_points.proofs.Area.{cut_area}
use Rattle.same_points.proofs.Order.{ordered_of, orderly_of, cut_ordered}
use Rattle.same_points.proofs.Crossed.{boundary_cuttable, cut_boundary}
use Rattle.same_points.proofs.Once.{AreCutUp, one_list}

-- ---- one cut
pub cut_order_law : CutOrderLaw
cut_order_law r ss s = orderly_of (cut r ss) (cut_ordered r ss (ordered_of ss s))

pub cut_points_law : CutPointsLaw
cut_points_law r ss s = cut_points r ss (ordered_of ss s)

cut_area_law : (r : ℤ) (ss : List Strip) → AreOrderly ss → area2_of (cut r ss) ≡ area2_of ss
cut_area_law r ss s = cut_area r ss (ordered_of ss s).shape

pub cut_boundary_law : CutBoundaryLaw
cut_boundary_law r ss es s b = cut_boundary r ss es (ordered_of ss s) b

cut_loops_law : (r : ℤ) (ss : List Strip) (loops : List Loop) → AreOrderly ss → AreLoops ss loops → AreLoops (cut r ss) loops
cut_loops_law r ss loops s a =
    let o = ordered_of ss s in
    let f = cut_boundary r ss a.edges o a.boundary in
    record {
      edges = f.0;
      boundary = f.1;
      are = loops_permuted f.0 (parted r a.edges) loops (IsPermutation-sym (parted r a.edges) f.0 f.2)
          (loops_parted r a.edges loops (boundary_cuttable r ss a.edges o a.boundary) (boundary_once ss a.edges o a.boundary) a.are);
    }

cut_rings_law : (r : ℤ) (ss : List Strip) (rings : List (List Point)) → AreOrderly ss → AreRings ss rings → AreRings (cut r ss) rings
cut_rings_law r ss rings s a =
    let o = ordered_of ss s in
    let f = cut_boundary r ss a.edges o a.boundary in
    record {
      edges = f.0;
      boundary = f.1;
      are = rings_parted r a.edges f.0 rings (tidy ss a.edges o a.boundary) (boundary_cuttable r ss a.edges o a.boundary) f.2 a.are
          (uncut_law ss a.edges (a.are).loops (a.are).slits s a.boundary (a.are).are (a.are).each)
          (λ loops slits b z. uncut_law (cut r ss) f.0 loops slits (cut_order_law r ss s) f.1 b z);
    }

-- ---- all all_cut
pub cuts_order : (rs : List ℤ) (ss : List Strip) → AreOrderly ss → AreOrderly (all_cut rs ss)
unfolding all_cut
cuts_order [] ss s = s
cuts_order (r ∷ rs) ss s = cuts_order rs (cut r ss) (cut_order_law r ss s)

pub cuts_points : (rs : List ℤ) (ss : List Strip) → AreOrderly ss → HaveSamePoints ss (all_cut rs ss)
unfolding all_cut HaveSamePoints
cuts_points [] ss s p = (λ a. a, λ a. a)
cuts_points (r ∷ rs) ss s p =
    let f = cut_points_law r ss s p in
    let g = cuts_points rs (cut r ss) (cut_order_law r ss s) p in
    (λ a. g.0 (f.0 a), λ a. f.1 (g.1 a))

pub cuts_area : (rs : List ℤ) (ss : List Strip) → AreOrderly ss → area2_of (all_cut rs ss) ≡ area2_of ss
unfolding all_cut
cuts_area [] ss s = refl
cuts_area (r ∷ rs) ss s = cuts_area rs (cut r ss) (cut_order_law r ss s) ∙ cut_area_law r ss s

pub cuts_loops : (rs : List ℤ) (ss : List Strip) (loops : List Loop) → AreOrderly ss → AreLoops ss loops → AreLoops (all_cut rs ss) loops
unfolding all_cut
cuts_loops [] ss loops s a = a
cuts_loops (r ∷ rs) ss loops s a = cuts_loops rs (cut r ss) loops (cut_order_law r ss s) (cut_loops_law r ss loops s a)

pub cuts_rings : (rs : List ℤ) (ss : List Strip) (rings : List (List Point)) → AreOrderly ss → AreRings ss rings → AreRings (all_cut rs ss) rings
unfolding all_cut
cuts_rings [] ss rings s a = a
cuts_rings (r ∷ rs) ss rings s a = cuts_rings rs (cut r ss) rings (cut_order_law r ss s) (cut_rings_law r ss rings s a)

-- ---- no strip is crossed by a row at which it was cut
IsClean : ℤ → List Strip → Type 0
IsClean q ss = (s : Strip) → Has ss s → IsCrossing q s → ⊥

clean_cut : (r : ℤ) (ss : List Strip) → IsClean r (cut r ss)
unfolding IsClean
clean_cut r ss x h c = by (piece_of r ss x h)
  where
    by : IsPiece r ss x → ⊥
    by (Whole i l) = let a = c.over in let b = c.under in elim l [ inl m ↦ omega (arith, ints, m, b) | inr m ↦ omega (arith, ints, m, a) ]
    by (Upper s i d k) = let b = c.under in let e = ap (λ (z : Strip). z.bottom) k in omega (arith, ints, b, e)
    by (Lower s i d k) = let a = c.over in let e = ap (λ (z : Strip). z.top) k in omega (arith, ints, a, e)

clean_kept : (q r : ℤ) (ss : List Strip) → IsClean q ss → IsClean q (cut r ss)
unfolding IsClean
clean_kept q r ss f x h c = by (piece_of r ss x h)
  where
    by : IsPiece r ss x → ⊥
    by (Whole i l) = f x i c
    by (Upper s i d k) = let a = c.over in let b = c.under in let e = ap (λ (z : Strip). z.bottom) k in let g = ap (λ (z : Strip). z.top) k in let u = d.under in
        f s i (record { over = omega (arith, ints, a, g); under = omega (arith, ints, b, e, u) })
    by (Lower s i d k) = let a = c.over in let b = c.under in let e = ap (λ (z : Strip). z.bottom) k in let g = ap (λ (z : Strip). z.top) k in let u = d.over in
        f s i (record { over = omega (arith, ints, a, g, u); under = omega (arith, ints, b, e) })

cuts_kept : (q : ℤ) (rs : List ℤ) (ss : List Strip) → IsClean q ss → IsClean q (all_cut rs ss)
unfolding all_cut
cuts_kept q [] ss f = f
cuts_kept q (r ∷ rs) ss f = cuts_kept q rs (cut r ss) (clean_kept q r ss f)

cuts_clean : (q : ℤ) (rs : List ℤ) (ss : List Strip) → Has rs q → IsClean q (all_cut rs ss)
unfolding all_cut Has
cuts_clean q [] ss h = absurd h
cuts_clean q (r ∷ rs) ss (inl k) = cuts_kept q rs (cut r ss) (subst (λ z. IsClean z (cut r ss)) k (clean_cut r ss))
cuts_clean q (r ∷ rs) ss (inr h) = cuts_clean q rs (cut r ss) h

-- ---- and its rows are among those
AreRowsIn : List ℤ → List Strip → Type 0
AreRowsIn qs ss = (s : Strip) → Has ss s → Has qs s.top × Has qs s.bottom

rows_cut : (qs : List ℤ) (r : ℤ) (ss : List Strip) → Has qs r → AreRowsIn qs ss → AreRowsIn qs (cut r ss)
unfolding AreRowsIn
rows_cut qs r ss m f x h = by (piece_of r ss x h)
  where
    by : IsPiece r ss x → Has qs x.top × Has qs x.bottom
    by (Whole i l) = f x i
    by (Upper s i d k) = (subst (λ (z : Strip). Has qs z.top) (sym k) (f s i).0, subst (λ (z : Strip). Has qs z.bottom) (sym k) m)
    by (Lower s i d k) = (subst (λ (z : Strip). Has qs z.top) (sym k) m, subst (λ (z : Strip). Has qs z.bottom) (sym k) (f s i).1)

rows_cuts : (qs rs : List ℤ) (ss : List Strip) → ((r : ℤ) → Has rs r → Has qs r) → AreRowsIn qs ss → AreRowsIn qs (all_cut rs ss)
unfolding all_cut Has
rows_cuts qs [] ss m f = f
rows_cuts qs (r ∷ rs) ss m f = rows_cuts qs rs (cut r ss) (λ q h. m q (inr h)) (rows_cut qs r ss (m r (inl refl)) f)

own_rows : (ss : List Strip) → AreRowsIn (strip_rows ss) ss
unfolding AreRowsIn strip_rows Has
own_rows [] s h = absurd h
own_rows (t ∷ ss) s (inl k) = (inl (ap (λ (z : Strip). z.top) k), inr (inl (ap (λ (z : Strip). z.bottom) k)))
own_rows (t ∷ ss) s (inr h) = let r = own_rows ss s h in (inr (inr r.0), inr (inr r.1))

rows_left : (qs rs : List ℤ) (ss : List Strip) → AreRowsIn qs ss → AreRowsIn (qs ++ rs) ss
unfolding AreRowsIn
rows_left qs rs ss f s h = let r = f s h in (has_left qs rs s.top r.0, has_left qs rs s.bottom r.1)

rows_right : (qs rs : List ℤ) (ss : List Strip) → AreRowsIn rs ss → AreRowsIn (qs ++ rs) ss
unfolding AreRowsIn
rows_right qs rs ss f s h = let r = f s h in (has_right qs rs s.top r.0, has_right qs rs s.bottom r.1)

-- ---- two lists
cut_up : (rs : List ℤ) (ts : List Strip) → AreOrderly ts → AreRowsIn rs ts → AreCutUp rs (all_cut rs ts)
unfolding AreRowsIn IsClean
cut_up rs ts s f = record {
  ordered = ordered_of (all_cut rs ts) (cuts_order rs ts s);
  rows = rows_cuts rs rs ts (λ r i. i) f;
  clean = λ r h. cuts_clean r rs ts h;
}

cuts_off : (rs : List ℤ) (ss ts : List Strip) → AreOrderly ss → AreOrderly ts → HaveSameOff rs ss ts → HaveSameOff rs (all_cut rs ss) (all_cut rs ts)
unfolding HaveSameOff HaveSamePoints
cuts_off rs ss ts s t f p n =
    let a = cuts_points rs ss s p in
    let b = cuts_points rs ts t p in
    let g = f p n in
    (λ i. b.0 (g.0 (a.1 i)), λ i. a.0 (g.1 (b.1 i)))

more_off : (rs qs : List ℤ) (ss ts : List Strip) → HaveSameOff rs ss ts → HaveSameOff (rs ++ qs) ss ts
unfolding HaveSameOff IsOff
more_off rs qs ss ts f p n = f p (λ r c e. n r (of_has (rs ++ qs) r (has_left rs qs r (has_of rs r c))) e)

pub same_list_law : SameListLaw
same_list_law qs ss ts s t p =
    let ks = strip_rows ss ++ strip_rows ts in
    let rs = qs ++ ks in
    one_list rs (all_cut rs ss) (all_cut rs ts)
    (cut_up rs ss s (rows_right qs ks ss (rows_left (strip_rows ss) (strip_rows ts) ss (own_rows ss))))
    (cut_up rs ts t (rows_right qs ks ts (rows_right (strip_rows ss) (strip_rows ts) ts (own_rows ts))))
    (cuts_off rs ss ts s t (more_off qs ks ss ts p))

pub same_points_law : SameOutlinesLaw
unfolding HaveSamePoints
same_points_law qs ss ts s t p q =
    let rs = qs ++ (strip_rows ss ++ strip_rows ts) in
    let e = same_list_law qs ss ts s t p in
    let f = cuts_points rs ss s q in
    let g = cuts_points rs ts t q in
    (λ a. g.1 (subst (λ zs. Any (λ z. IsInStrip z q) zs) e (f.0 a)), λ a. f.1 (subst (λ zs. Any (λ z. IsInStrip z q) zs) (sym e) (g.0 a)))

pub same_cover_law : SameCoverLaw
unfolding HaveSamePoints
same_cover_law os ss ts a b p = let f = a p in let g = b p in (λ i. g.1 (f.0 i), λ i. f.1 (g.0 i))

-- ---- lists with the same points
off_none : (ss ts : List Strip) → HaveSamePoints ss ts → HaveSameOff [] ss ts
unfolding HaveSamePoints HaveSameOff
off_none ss ts f p n = f p

one_cut : (ss ts : List Strip) → AreOrderly ss → AreOrderly ts → HaveSamePoints ss ts → all_cut (strip_rows ss ++ strip_rows ts) ss ≡ all_cut (strip_rows ss ++ strip_rows ts) ts
one_cut ss ts s t p = same_list_law [] ss ts s t (off_none ss ts p)

same_area : (ss ts : List Strip) → AreOrderly ss → AreOrderly ts → HaveSamePoints ss ts → area2_of ss ≡ area2_of ts
same_area ss ts s t p =
    let rs = strip_rows ss ++ strip_rows ts in
    sym (cuts_area rs ss s) ∙ (ap area2_of (one_cut ss ts s t p) ∙ cuts_area rs ts t)

same_loops : (ss ts : List Strip) (loops : List Loop) → AreOrderly ss → AreOrderly ts → HaveSamePoints ss ts → AreLoops ss loops → AreLoops ts loops
same_loops ss ts loops s t p a =
    let rs = strip_rows ss ++ strip_rows ts in
    let b = some_loops_law ts t in
    let c = subst (λ zs. AreLoops zs loops) (one_cut ss ts s t p) (cuts_loops rs ss loops s a) in
    let d = cuts_loops rs ts b.0 t b.1 in
    subst (AreLoops ts) (one_loops_law (all_cut rs ts) b.0 loops (cuts_order rs ts t) d c) b.1

same_rings : (ss ts : List Strip) (rings : List (List Point)) → AreOrderly ss → AreOrderly ts → HaveSamePoints ss ts → AreRings ss rings → AreRings ts rings
same_rings ss ts rings s t p a =
    let rs = strip_rows ss ++ strip_rows ts in
    let b = some_rings_law ts t in
    let c = subst (λ zs. AreRings zs rings) (one_cut ss ts s t p) (cuts_rings rs ss rings s a) in
    let d = cuts_rings rs ts b.0 t b.1 in
    subst (AreRings ts) (one_rings_law (all_cut rs ts) b.0 rings (cuts_order rs ts t) d c) b.1

-- the same points the other way
back : (ss ts : List Strip) → HaveSamePoints ss ts → HaveSamePoints ts ss
unfolding HaveSamePoints
back ss ts f p = ((f p).1, (f p).0)

pub same_drawn_law : SameDrawnLaw
same_drawn_law ss ts s t p =
    let q = back ss ts p in
    record {
      area = same_area ss ts s t p;
      loops = λ l. (λ a. same_loops ss ts l s t p a, λ a. same_loops ts ss l t s q a);
      rings = λ l. (λ a. same_rings ss ts l s t p a, λ a. same_rings ts ss l t s q a);
    }

pub cut_drawn_law : CutDrawnLaw
cut_drawn_law r ss s = same_drawn_law ss (cut r ss) s (cut_order_law r ss s) (cut_points_law r ss s)
