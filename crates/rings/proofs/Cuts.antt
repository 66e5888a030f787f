-- Edges that are cut where slits end: they don't overlap, none stands twice, and they cover the same.
use Rattle.std.proofs.Common.{◌≡◌, refl, sym, subst, ◌∙◌, inl, arith, List, [], ◌∷◌, Bool, true, false}
use Rattle.std.proofs.lemmas.Int.{ints}
use Rattle.grid_num.specs.declared.Point.{Point}
use Rattle.plane.specs.Covering.{Edge}
use Rattle.plane.proofs.Split.{AreAlike}
use Rattle.plane.proofs.Chains.{alike_refl, alike_sym, alike_trans, alike_append, straight_alike}
use Rattle.rings.specs.Turning.{direction}
use Rattle.rings.specs.Slits.{is_inside_edge, first_part, second_part, cut_one, cut_edges, cut_by}
use Rattle.rings.proofs.Lists.{Has, NoRepeats}
use Rattle.rings.proofs.Lines.{IsGood, direction_low, straight_at}
use Rattle.rings.proofs.Unique.{AreSame}
use Rattle.rings.proofs.Parted.{OnHalf, AreGood, AreParted, inside_within, cut_true, cut_false, has_cut, cut_has, part_direction, part_on, good_cut, parted_cut, once_cut, good_tail}

pub good_by : (slits es : List Edge) → AreGood es → AreGood (cut_by slits es)
unfolding cut_by
good_by [] es g = g
good_by (s ∷ slits) es g = good_by slits (cut_edges s.finish es) (good_cut s.finish es g)

pub parted_by : (slits es : List Edge) → AreGood es → AreParted es → AreParted (cut_by slits es)
unfolding cut_by
parted_by [] es g p = p
parted_by (s ∷ slits) es g p = parted_by slits (cut_edges s.finish es) (good_cut s.finish es g) (parted_cut s.finish es g p)

pub once_by : (slits es : List Edge) → AreGood es → AreParted es → NoRepeats es → NoRepeats (cut_by slits es)
unfolding cut_by
once_by [] es g p n = n
once_by (s ∷ slits) es g p n = once_by slits (cut_edges s.finish es) (good_cut s.finish es g) (parted_cut s.finish es g p) (once_cut s.finish es g p n)

same_cut : (es fs : List Edge) (q : Point) → AreSame es fs → AreSame (cut_edges q es) (cut_edges q fs)
same_cut es fs q s = record {
  there = λ f h. (let r = has_cut q es f h in cut_has q fs r.0 f (s.there r.0 r.1) r.2);
  back = λ f h. (let r = has_cut q fs f h in cut_has q es r.0 f (s.back r.0 r.1) r.2);
}

pub same_by : (slits es fs : List Edge) → AreSame es fs → AreSame (cut_by slits es) (cut_by slits fs)
unfolding cut_by
same_by [] es fs s = s
same_by (c ∷ slits) es fs s = same_by slits (cut_edges c.finish es) (cut_edges c.finish fs) (same_cut es fs c.finish s)

-- each goes along one of the edges
pub record IsOf (es : List Edge) (f : Edge) : Type 0 where
  pub edge : Edge
  pub one : Has es edge
  pub same : direction f ≡ direction edge
  pub on : (x : Point) → OnHalf f x → OnHalf edge x

pub by_of : (slits es : List Edge) → AreGood es → (f : Edge) → Has (cut_by slits es) f → IsOf es f
unfolding cut_by AreGood
by_of [] es g f h = record { edge = f; one = h; same = refl; on = λ x o. o }
by_of (s ∷ slits) es g f h =
    let r = by_of slits (cut_edges s.finish es) (good_cut s.finish es g) f h in
    let c = has_cut s.finish es r.edge r.one in
    let a = g c.0 c.1 in
    record { edge = c.0; one = c.1; same = r.same ∙ part_direction s.finish c.0 r.edge a c.2; on = λ x o. part_on s.finish c.0 r.edge x a c.2 (r.on x o) }

-- ---- they cover the same
one_alike : (q : Point) (e : Edge) → IsGood e → AreAlike (cut_one q e) (e ∷ [])
one_alike q e g = at (is_inside_edge e q) refl
  where
    at : (b : Bool) → is_inside_edge e q ≡ b → AreAlike (cut_one q e) (e ∷ [])
    at true i =
        let w = inside_within e q g i in
        let a = w.after in
        let b = w.before in
        subst (λ fs. AreAlike fs (e ∷ [])) (sym (cut_true q e i))
        (alike_sym (e ∷ []) (first_part e q ∷ second_part e q ∷ [])
        (straight_alike e.start q e.finish (straight_at (direction e) (direction_low e) e.start q e.finish w.line g.line (omega (arith, ints, a)) (omega (arith, ints, b)))))
    at false i = subst (λ fs. AreAlike fs (e ∷ [])) (sym (cut_false q e i)) (alike_refl (e ∷ []))

at_alike : (q : Point) (es : List Edge) → AreGood es → AreAlike (cut_edges q es) es
unfolding cut_edges AreGood Has
at_alike q [] g = alike_refl []
at_alike q (e ∷ es) g = alike_append (cut_one q e) (e ∷ []) (cut_edges q es) es (one_alike q e (g e (inl refl))) (at_alike q es (good_tail e es g))

pub by_alike : (slits es : List Edge) → AreGood es → AreAlike (cut_by slits es) es
unfolding cut_by
by_alike [] es g = alike_refl es
by_alike (s ∷ slits) es g =
    alike_trans (cut_by slits (cut_edges s.finish es)) (cut_edges s.finish es) es (by_alike slits (cut_edges s.finish es) (good_cut s.finish es g)) (at_alike s.finish es g)
