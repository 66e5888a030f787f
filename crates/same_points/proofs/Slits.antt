-- Slits and rings of edges that are cut at a row.
use Rattle.std.proofs.Common.{◌≡◌, refl, sym, subst, ap, ◌∙◌, inl, inr, arith, List, [], ◌∷◌, ◌++◌, true, false}
use Rattle.std.specs.Prelude.{ℤ}
use Rattle.std.specs.List.{AllZip}
use Rattle.std.specs.List.Sorted.{IsPermutation}
use Rattle.std.proofs.lemmas.Int.{ints}
use Rattle.std.proofs.lemmas.List.Sorted.{IsPermutation-sym, IsPermutation-append_left}
use Rattle.plane.specs.Plane.{grid_point}
use Rattle.grid_num.specs.declared.Point.{Point}
use Rattle.plane.specs.Covering.{Edge}
use Rattle.plane.specs.Edges.{turned_back, both_ways}
use Rattle.plane.proofs.Split.{AreAlike, alike_order}
use Rattle.plane.proofs.Chains.{alike_refl, alike_sym, alike_trans, alike_append, straight_alike}
use Rattle.rings.specs.Turning.{direction}
use Rattle.rings.specs.Walks.{AreContours, IsWalk, IsContour}
use Rattle.rings.specs.Loops.{Loop, AreLoopsOf}
use Rattle.rings.specs.Slits.{IsSlit, cut_by, first_part, second_part}
use Rattle.rings.specs.Rings.{holes_of, with_slits, AreRingsOf}
use Rattle.rings.proofs.Lists.{Has, has_of, has_head, has_parts, all_at, zip_right}
use Rattle.rings.proofs.Lines.{IsGood, direction_low, straight_at}
use Rattle.rings.proofs.Parted.{AreGood, parted_apart}
use Rattle.rings.proofs.Unique.{IsDrawn, drawn}
use Rattle.rings.proofs.Permuted.{contours_permuted, loops_permuted}
use Rattle.rings.proofs.Heads.{contour_visit, visit_next}
use Rattle.rings.proofs.Rings.{AreTidy, tidy_with, hole_loop, ways_cases}
use Rattle.same_points.specs.Edges.{is_crossed, crossing_place, final_of, parts_of, parted}
use Rattle.same_points.proofs.Sides.{bool_cases}
use Rattle.same_points.proofs.Edges.{IsCuttable, between_cases, first_true, final_true, parts_true, parts_false, crossed_within, parted_append}
use Rattle.same_points.proofs.Visits.{contours_parted, loops_parted, all_parted}

-- ---- the parts cover what the edges cover
one_alike : (r : ℤ) (e : Edge) → IsGood e → AreAlike (parts_of r e) (e ∷ [])
one_alike r e g = elim (bool_cases (is_crossed r e)) [
  | inl i ↦ (
      let w = crossed_within r e g i in
      let a = w.after in
      let b = w.before in
      subst (λ fs. AreAlike fs (e ∷ [])) (sym (parts_true r e i ∙ ap (λ z. z ∷ final_of r e ∷ []) (first_true r e i) ∙ ap (λ z. first_part e (crossing_place r e) ∷ z ∷ []) (final_true r e i)))
      (alike_sym (e ∷ []) (first_part e (crossing_place r e) ∷ second_part e (crossing_place r e) ∷ [])
      (straight_alike e.start (crossing_place r e) e.finish (straight_at (direction e) (direction_low e) e.start (crossing_place r e) e.finish w.line g.line (omega (arith, ints, a)) (omega (arith, ints, b))))))
  | inr i ↦ subst (λ fs. AreAlike fs (e ∷ [])) (sym (parts_false r e i)) (alike_refl (e ∷ []))
]

pub parted_alike : (r : ℤ) (es : List Edge) → AreGood es → AreAlike (parted r es) es
unfolding parted AreGood Has
parted_alike r [] g = alike_refl []
parted_alike r (e ∷ es) g = alike_append (parts_of r e) (e ∷ []) (parted r es) es (one_alike r e (g e (inl refl))) (parted_alike r es (λ f h. g f (inr h)))

slit_alike : (es fs : List Edge) (cs : List Point) (s : Edge) → AreAlike es fs → IsSlit es cs s → IsSlit fs cs s
slit_alike es fs cs s a i = record {
  others = i.others;
  from = i.from;
  level = i.level;
  left = i.left;
  stops = (a.on (grid_point s.finish.x s.finish.y)).0 i.stops;
  first = λ p y l r h. i.first p y l r ((a.on p).1 h);
}

slits_alike : (es fs : List Edge) (hs : List (List Point)) (ss : List Edge) → AreAlike es fs → AllZip (IsSlit es) hs ss → AllZip (IsSlit fs) hs ss
slits_alike es fs [] [] a z = tt
slits_alike es fs [] (s ∷ ss) a z = absurd z
slits_alike es fs (h ∷ hs) [] a z = absurd z
slits_alike es fs (h ∷ hs) (s ∷ ss) a z = (slit_alike es fs h s a z.0, slits_alike es fs hs ss a z.1)

-- ---- slits are not cut
level_uncrossed : (r : ℤ) (e : Edge) → e.start.y ≡ e.finish.y → is_crossed r e ≡ false
level_uncrossed r e l = elim (bool_cases (is_crossed r e)) [ inl h ↦ absurd (let m = between_cases e.start.y r e.finish.y h in omega (arith, ints, m, l)) | inr h ↦ h ]

AreLevel : List Edge → Type 0
AreLevel es = (e : Edge) → Has es e → e.start.y ≡ e.finish.y

level_parted : (r : ℤ) (es : List Edge) → AreLevel es → parted r es ≡ es
unfolding parted AreLevel Has
level_parted r [] l = refl
level_parted r (e ∷ es) l = ap (λ zs. zs ++ parted r es) (parts_false r e (level_uncrossed r e (l e (inl refl)))) ∙ ap (λ zs. e ∷ zs) (level_parted r es (λ f h. l f (inr h)))

-- each slit begins where an edge begins
record IsLaid (es : List Edge) (s : Edge) : Type 0 where
  level : s.finish.y ≡ s.start.y
  edge : Edge
  one : Has es edge
  begins : edge.start ≡ s.start

laid : (es : List Edge) (loops : List Loop) (slits : List Edge) → AreLoopsOf es loops → AllZip (IsSlit es) (holes_of loops) slits → (s : Edge) → Has slits s → IsLaid es s
laid es loops slits a z s h =
    let c = zip_right (IsSlit es) (holes_of loops) slits z s h in
    let l = hole_loop loops c.0 c.1 in
    let w = zip_right IsDrawn a.walks loops (drawn a.walks loops (a.contours).draw a.holes) l.0 l.1 in
    let i = all_at (IsWalk es) a.walks w.0 (a.contours).next w.1 in
    let v = contour_visit w.0 c.0 s.start (subst (IsContour w.0) l.3 (w.2).contour) (subst (λ zs. Has zs s.start) (sym (c.2).from) (has_head s.start (c.2).others)) in
    record { level = (c.2).level; edge = v.0.goes; one = has_of es v.0.goes (visit_next es w.0 v.0 i v.1).one; begins = v.2 }

ways_level : (es slits : List Edge) → ((s : Edge) → Has slits s → IsLaid es s) → AreLevel (both_ways slits)
unfolding AreLevel turned_back
ways_level es slits f e h =
    let s = ways_cases slits e h in
    let l = (f s.0 s.1).level in
    elim s.2 [ inl k ↦ subst (λ (z : Edge). z.start.y ≡ z.finish.y) (sym k) (sym l) | inr k ↦ subst (λ (z : Edge). z.start.y ≡ z.finish.y) (sym k) l ]

ways_row : (es slits : List Edge) → ((s : Edge) → Has slits s → IsLaid es s) → (e : Edge) → Has (both_ways slits) e → (d : Edge) × Has es d × (d.start.y ≡ e.start.y)
unfolding turned_back
ways_row es slits f e h =
    let s = ways_cases slits e h in
    let l = f s.0 s.1 in
    elim s.2 [
      | inl k ↦ (l.edge, l.one, ap (λ (z : Point). z.y) l.begins ∙ sym (ap (λ (z : Edge). z.start.y) k))
      | inr k ↦ (l.edge, l.one, ap (λ (z : Point). z.y) l.begins ∙ sym l.level ∙ sym (ap (λ (z : Edge). z.start.y) k))
    ]

at_level : (es slits : List Edge) → ((s : Edge) → Has slits s → IsLaid es s) → (d : Edge) → Has (both_ways slits) d → d.start.y ≡ d.finish.y
unfolding AreLevel
at_level es slits f d i = ways_level es slits f d i

tidy_ways : (es : List Edge) (loops : List Loop) (slits : List Edge) → AreTidy es → AreLoopsOf es loops → AllZip (IsSlit es) (holes_of loops) slits → AreTidy (cut_by slits es ++ both_ways slits)
unfolding with_slits
tidy_ways es loops slits t a z = tidy_with es loops slits t a z

contours_ways : (es slits : List Edge) (ws : List (List Edge)) (cs : List (List Point)) → AreContours (with_slits es slits) ws cs → AreContours (cut_by slits es ++ both_ways slits) ws cs
unfolding with_slits
contours_ways es slits ws cs a = a

ways_contours : (es slits : List Edge) (ws : List (List Edge)) (cs : List (List Point)) → AreContours (cut_by slits es ++ both_ways slits) ws cs → AreContours (with_slits es slits) ws cs
unfolding with_slits
ways_contours es slits ws cs a = a

-- so the edges with the slits may be cut where the edges may
slits_cuttable : (r : ℤ) (es : List Edge) (loops : List Loop) (slits : List Edge) → AreTidy es → IsCuttable r es → AreLoopsOf es loops → AllZip (IsSlit es) (holes_of loops) slits
    → cut_by slits es ≡ es → IsCuttable r (es ++ both_ways slits)
slits_cuttable r es loops slits t c a z u =
    let f = laid es loops slits a z in
    let y = subst (λ zs. AreTidy (zs ++ both_ways slits)) u (tidy_ways es loops slits t a z) in
    record {
      good = y.good;
      apart = parted_apart (es ++ both_ways slits) y.good y.parted;
      clear = λ d e h i x k. (
          let h' = of_edges slits f d h x in
          elim (has_parts es (both_ways slits) e i) [
            | inl j ↦ c.clear d e h' j x k
            | inr j ↦ (let q = ways_row es slits f e j in c.clear d q.0 h' q.1 x (q.2 ∙ k))
          ]);
      places = λ d e h i x w k. c.places d e (of_edges slits f d h x) (of_edges slits f e i w) x w k;
    }
  where
    of_edges : (slits : List Edge) → ((s : Edge) → Has slits s → IsLaid es s) → (d : Edge) → Has (es ++ both_ways slits) d → is_crossed r d ≡ true → Has es d
    of_edges slits f d h x = elim (has_parts es (both_ways slits) d h) [
      | inl i ↦ i
      | inr i ↦ absurd (let m = between_cases d.start.y r d.finish.y x in let l = at_level es slits f d i in omega (arith, ints, m, l))
    ]

-- ---- the same rings
pub rings_parted : (r : ℤ) (es fs : List Edge) (rings : List (List Point)) → AreTidy es → IsCuttable r es → IsPermutation (parted r es) fs → (a : AreRingsOf es rings)
    → cut_by a.slits es ≡ es
    → ((loops : List Loop) (slits : List Edge) → AreLoopsOf fs loops → AllZip (IsSlit fs) (holes_of loops) slits → cut_by slits fs ≡ fs)
    → AreRingsOf fs rings
rings_parted r es fs rings t c p a u v =
    let l = loops_permuted fs (parted r es) a.loops (IsPermutation-sym (parted r es) fs p) (loops_parted r es a.loops c t.once a.are) in
    let k = alike_trans fs (parted r es) es (alike_order fs (parted r es) (IsPermutation-sym (parted r es) fs p)) (parted_alike r es t.good) in
    let z = slits_alike es fs (holes_of a.loops) a.slits (alike_sym fs es k) a.each in
    let y = slits_cuttable r es a.loops a.slits t c a.are a.each u in
    record {
      loops = a.loops;
      are = l;
      slits = a.slits;
      each = z;
      walks = all_parted r a.walks;
      contours = drawn_parted a.slits a.walks y (subst (λ zs. AreTidy (zs ++ both_ways a.slits)) u (tidy_ways es a.loops a.slits t a.are a.each)) (laid es a.loops a.slits a.are a.each)
          (subst (λ zs. AreContours (zs ++ both_ways a.slits) a.walks rings) u (contours_ways es a.slits a.walks rings a.contours)) (v a.loops a.slits l z);
    }
  where
    drawn_parted : (slits : List Edge) (ws : List (List Edge)) → IsCuttable r (es ++ both_ways slits) → AreTidy (es ++ both_ways slits) → ((s : Edge) → Has slits s → IsLaid es s)
        → AreContours (es ++ both_ways slits) ws rings → cut_by slits fs ≡ fs → AreContours (with_slits fs slits) (all_parted r ws) rings
    drawn_parted slits ws y t f d w =
        let q = parted_append r es (both_ways slits) ∙ ap (λ zs. parted r es ++ zs) (level_parted r (both_ways slits) (ways_level es slits f)) in
        ways_contours fs slits (all_parted r ws) rings
        (subst (λ zs. AreContours (zs ++ both_ways slits) (all_parted r ws) rings) (sym w)
        (contours_permuted (fs ++ both_ways slits) (parted r es ++ both_ways slits) (all_parted r ws) rings
        (IsPermutation-append_left (both_ways slits) fs (parted r es) (IsPermutation-sym (parted r es) fs p))
        (subst (λ zs. AreContours zs (all_parted r ws) rings) q (contours_parted r (es ++ both_ways slits) ws rings y t.once d))))
