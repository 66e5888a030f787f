-- Walks along edges that are cut at a row: they draw the same contours, loops and rings.
use Rattle.std.proofs.Common.{◌≡◌, refl, sym, subst, ap, ◌∙◌, ℕ, ◌⊎◌, inl, inr, arith, List, [], ◌∷◌, ◌++◌, Bool, true, false}
use Rattle.std.specs.Prelude.{ℤ, map, ◌<ℤ◌, ◌↔◌, IsTrue}
use Rattle.std.specs.List.{All, AllZip, filter}
use Rattle.std.specs.List.Sorted.{IsPermutation}
use Rattle.std.proofs.lemmas.Int.{ints}
use Rattle.std.proofs.lemmas.Bool.Decides.{Decides-eqb}
use Rattle.std.proofs.lemmas.List.Sorted.{IsPermutation-sym}
use Rattle.grid_num.specs.declared.Point.{Point}
use Rattle.plane.specs.Covering.{Edge}
use Rattle.rings.specs.Turning.{direction, turn_to, IsNextEdge}
use Rattle.rings.specs.Walks.{Visit, visits, visits_after, last_of, IsWalk, visit_corner, is_bend, bends, IsSameRound, IsLess, IsContour, joined_walks, AreContours}
use Rattle.rings.specs.Loops.{Loop, IsOpenLeft, IsHole, AreLoopsOf}
use Rattle.rings.proofs.Lists.{Has, has_of, of_has, all_at, all_of, no_repeats_permuted, NoRepeats}
use Rattle.rings.proofs.Lines.{IsGood}
use Rattle.rings.proofs.Unique.{AreSame, same_back, edge_test, same_edge}
use Rattle.rings.proofs.Permuted.{permuted_same}
use Rattle.rings.proofs.Bends.{tail_bends, bends_yes, bends_no}
use Rattle.rings.proofs.Heads.{visit_goes, goes_has, comes_has, visit_next, last_in}
use Rattle.same_points.specs.Edges.{is_crossed, crossing_place, begin_of, final_of, parted}
use Rattle.same_points.proofs.Sides.{bool_cases}
use Rattle.same_points.proofs.Edges.{IsCuttable, good_of, first_start, first_way, final_way, first_false, final_true, final_false, parts_true, parts_false, between_cases, next_first, next_within, parted_append, parted_once, permuted_of, first_has, IsCutOf, First, Final, has_parted, cut_has}

-- ---- visits
abbrev visit : Edge → Edge → Visit
visit a b = record { comes = a; goes = b }

-- the visits of the walk along the parts, from the last part of p on
after_true : (r : ℤ) (p x : Edge) (xs : List Edge) → is_crossed r x ≡ true
    → visits_after p (parted r (x ∷ xs)) ≡ visit p (begin_of r x) ∷ visit (begin_of r x) (final_of r x) ∷ visits_after (final_of r x) (parted r xs)
unfolding visits_after parted
after_true r p x xs h = ap (λ zs. visits_after p (zs ++ parted r xs)) (parts_true r x h)

after_false : (r : ℤ) (p x : Edge) (xs : List Edge) → is_crossed r x ≡ false
    → visits_after p (parted r (x ∷ xs)) ≡ visit p (begin_of r x) ∷ visits_after (final_of r x) (parted r xs)
unfolding visits_after parted
after_false r p x xs h =
    ap (λ zs. visits_after p (zs ++ parted r xs)) (parts_false r x h)
    ∙ (ap (λ z. visit p z ∷ visits_after x (parted r xs)) (sym (first_false r x h)) ∙ ap (λ z. visit p (begin_of r x) ∷ visits_after z (parted r xs)) (sym (final_false r x h)))

last_parted : (r : ℤ) (p x : Edge) (xs : List Edge) → last_of p (parted r (x ∷ xs)) ≡ last_of (final_of r x) (parted r xs)
unfolding last_of parted
last_parted r p x xs = elim (bool_cases (is_crossed r x)) [
  | inl h ↦ ap (λ zs. last_of p (zs ++ parted r xs)) (parts_true r x h)
  | inr h ↦ ap (λ zs. last_of p (zs ++ parted r xs)) (parts_false r x h) ∙ ap (λ z. last_of z (parted r xs)) (sym (final_false r x h))
]

last_final : (r : ℤ) (a : Edge) (bs : List Edge) → last_of (final_of r a) (parted r bs) ≡ final_of r (last_of a bs)
unfolding last_of parted
last_final r a [] = refl
last_final r a (b ∷ bs) = last_parted r (final_of r a) b bs ∙ last_final r b bs

visits_parted : (r : ℤ) (a : Edge) (bs : List Edge) → visits (parted r (a ∷ bs)) ≡ visits_after (final_of r (last_of a bs)) (parted r (a ∷ bs))
unfolding visits parted visits_after last_of
visits_parted r a bs = elim (bool_cases (is_crossed r a)) [
  | inl h ↦ at (begin_of r a) (final_of r a ∷ parted r bs) (ap (λ zs. zs ++ parted r bs) (parts_true r a h))
  | inr h ↦ at a (parted r bs) (ap (λ zs. zs ++ parted r bs) (parts_false r a h))
]
  where
    at : (x : Edge) (xs : List Edge) → parted r (a ∷ bs) ≡ x ∷ xs → visits (parted r (a ∷ bs)) ≡ visits_after (final_of r (last_of a bs)) (parted r (a ∷ bs))
    at x xs e =
        ap visits e
        ∙ (ap (λ z. visits_after z (x ∷ xs)) (sym (ap (last_of x) e ∙ refl) ∙ (last_parted r x a bs ∙ last_final r a bs))
        ∙ ap (λ zs. visits_after (final_of r (last_of a bs)) zs) (sym e))

-- ---- which they are
pub data IsVisitOf (r : ℤ) (w : List Edge) (vs : List Visit) (u : Visit) : Type 0 where
  Old : (v : Visit) → Has vs v → u ≡ record { comes = final_of r v.comes; goes = begin_of r v.goes } → IsVisitOf r w vs u
  New : (e : Edge) → Has w e → is_crossed r e ≡ true → u ≡ record { comes = begin_of r e; goes = final_of r e } → IsVisitOf r w vs u

more_visit : (r : ℤ) (w : List Edge) (vs : List Visit) (e : Edge) (v u : Visit) → IsVisitOf r w vs u → IsVisitOf r (e ∷ w) (v ∷ vs) u
unfolding Has
more_visit r w vs e v u (Old z h k) = Old z (inr h) k
more_visit r w vs e v u (New z h c k) = New z (inr h) c k

after_visit : (r : ℤ) (p : Edge) (xs : List Edge) (u : Visit) → Has (visits_after (final_of r p) (parted r xs)) u → IsVisitOf r xs (visits_after p xs) u
unfolding visits_after parted Has
after_visit r p [] u h = absurd h
after_visit r p (x ∷ xs) u h = elim (bool_cases (is_crossed r x)) [
  | inl c ↦ elim (subst (λ zs. Has zs u) (after_true r (final_of r p) x xs c) h) [
    | inl k ↦ Old (visit p x) (inl refl) (sym k)
    | inr i ↦ elim i [
      | inl k ↦ New x (inl refl) c (sym k)
      | inr i ↦ more_visit r xs (visits_after x xs) x (visit p x) u (after_visit r x xs u i)
    ]
  ]
  | inr c ↦ elim (subst (λ zs. Has zs u) (after_false r (final_of r p) x xs c) h) [
    | inl k ↦ Old (visit p x) (inl refl) (sym k)
    | inr i ↦ more_visit r xs (visits_after x xs) x (visit p x) u (after_visit r x xs u i)
  ]
]

visit_after : (r : ℤ) (p : Edge) (xs : List Edge) (v : Visit) → Has (visits_after p xs) v → Has (visits_after (final_of r p) (parted r xs)) (visit (final_of r v.comes) (begin_of r v.goes))
unfolding visits_after parted Has
visit_after r p [] v h = absurd h
visit_after r p (x ∷ xs) v h = elim (bool_cases (is_crossed r x)) [
  | inl c ↦ subst (λ zs. Has zs (visit (final_of r v.comes) (begin_of r v.goes))) (sym (after_true r (final_of r p) x xs c))
      (elim h [ inl k ↦ inl (ap (λ z. visit (final_of r z.comes) (begin_of r z.goes)) k) | inr i ↦ inr (inr (visit_after r x xs v i)) ])
  | inr c ↦ subst (λ zs. Has zs (visit (final_of r v.comes) (begin_of r v.goes))) (sym (after_false r (final_of r p) x xs c))
      (elim h [ inl k ↦ inl (ap (λ z. visit (final_of r z.comes) (begin_of r z.goes)) k) | inr i ↦ inr (visit_after r x xs v i) ])
]

pub visit_of : (r : ℤ) (w : List Edge) (u : Visit) → Has (visits (parted r w)) u → IsVisitOf r w (visits w) u
unfolding visits parted Has
visit_of r [] u h = absurd h
visit_of r (a ∷ bs) u h = after_visit r (last_of a bs) (a ∷ bs) u (subst (λ zs. Has zs u) (visits_parted r a bs) h)

pub old_visit : (r : ℤ) (w : List Edge) (v : Visit) → Has (visits w) v → Has (visits (parted r w)) (visit (final_of r v.comes) (begin_of r v.goes))
unfolding visits parted Has
old_visit r [] v h = absurd h
old_visit r (a ∷ bs) v h = subst (λ zs. Has zs (visit (final_of r v.comes) (begin_of r v.goes))) (sym (visits_parted r a bs)) (visit_after r (last_of a bs) (a ∷ bs) v h)

-- ---- a walk stays a walk
pub walk_in : (es w : List Edge) → IsWalk es w → (e : Edge) → Has w e → Has es e
walk_in es w i e h = let v = visit_goes w e h in subst (Has es) v.2 (has_of es v.0.goes (visit_next es w v.0 i v.1).one)

not_none : (r : ℤ) (w : List Edge) → (w ≡ [] → ⊥) → parted r w ≡ [] → ⊥
unfolding parted Has
not_none r [] n e = n refl
not_none r (a ∷ bs) n e = subst (λ zs. Has zs (begin_of r a)) e (first_has r (a ∷ bs) a (inl refl))

pub walk_parted : (r : ℤ) (es w : List Edge) → IsCuttable r es → IsWalk es w → IsWalk (parted r es) (parted r w)
walk_parted r es w c i = record {
  some = not_none r w i.some;
  next = all_of (λ u. IsNextEdge (parted r es) u.comes u.goes) (visits (parted r w)) (λ u h. at u (visit_of r w u h));
}
  where
    at : (u : Visit) → IsVisitOf r w (visits w) u → IsNextEdge (parted r es) u.comes u.goes
    at u (Old v h k) =
        subst (λ (z : Visit). IsNextEdge (parted r es) z.comes z.goes) (sym k) (next_first r es c v.comes v.goes (walk_in es w i v.comes (comes_has w v h)) (visit_next es w v i h))
    at u (New e h x k) = subst (λ (z : Visit). IsNextEdge (parted r es) z.comes z.goes) (sym k) (next_within r es c e (walk_in es w i e h) x)

-- ---- with the same bends
bend_same : (a b c d : Edge) → direction a ≡ direction c → direction b ≡ direction d → is_bend (visit a b) ≡ is_bend (visit c d)
unfolding is_bend
bend_same a b c d h k = rw h (rw k refl)

no_bend : (a b : Edge) → direction a ≡ direction b → is_bend (visit a b) ≡ false
unfolding is_bend
no_bend a b h = rw h (rw ((Decides-eqb (direction b) (direction b)).1 refl) refl)

pub AllGood : List Edge → Type 0
AllGood xs = (e : Edge) → Has xs e → IsGood e

bends_after : (r : ℤ) (p q : Edge) (xs : List Edge) → direction q ≡ direction p → AllGood xs → tail_bends q (parted r xs) ≡ tail_bends p xs
unfolding tail_bends visits_after parted Has AllGood
bends_after r p q [] d g = refl
bends_after r p q (x ∷ xs) d g = by (bends_after r x (final_of r x) xs (final_way r x (g x (inl refl))) (λ e h. g e (inr h)))
  where
    straight : is_crossed r x ≡ true → map visit_corner (filter is_bend (visit (begin_of r x) (final_of r x) ∷ visits_after (final_of r x) (parted r xs))) ≡ tail_bends (final_of r x) (parted r xs)
    straight c = let k = no_bend (begin_of r x) (final_of r x) (first_way r x (g x (inl refl)) ∙ sym (final_way r x (g x (inl refl)))) in rw k refl

    yes : (vs : List Visit) → is_bend (visit q (begin_of r x)) ≡ true → map visit_corner (filter is_bend (visit q (begin_of r x) ∷ vs)) ≡ (begin_of r x).start ∷ map visit_corner (filter is_bend vs)
    yes vs h = rw h refl

    none : (vs : List Visit) → is_bend (visit q (begin_of r x)) ≡ false → map visit_corner (filter is_bend (visit q (begin_of r x) ∷ vs)) ≡ map visit_corner (filter is_bend vs)
    none vs h = rw h refl

    turn : (b : Bool) → is_bend (visit p x) ≡ b → (vs : List Visit) → map visit_corner (filter is_bend vs) ≡ tail_bends x xs
        → map visit_corner (filter is_bend (visit q (begin_of r x) ∷ vs)) ≡ tail_bends p (x ∷ xs)
    turn true e vs k =
        yes vs (bend_same q (begin_of r x) p x d (first_way r x (g x (inl refl))) ∙ e)
        ∙ (ap (λ z. z ∷ map visit_corner (filter is_bend vs)) (first_start r x) ∙ (ap (λ zs. x.start ∷ zs) k ∙ sym (bends_yes p x xs e)))
    turn false e vs k = none vs (bend_same q (begin_of r x) p x d (first_way r x (g x (inl refl))) ∙ e) ∙ (k ∙ sym (bends_no p x xs e))

    by : tail_bends (final_of r x) (parted r xs) ≡ tail_bends x xs → tail_bends q (parted r (x ∷ xs)) ≡ tail_bends p (x ∷ xs)
    by more = elim (bool_cases (is_crossed r x)) [
      | inl c ↦ ap (λ vs. map visit_corner (filter is_bend vs)) (after_true r q x xs c)
          ∙ turn (is_bend (visit p x)) refl (visit (begin_of r x) (final_of r x) ∷ visits_after (final_of r x) (parted r xs)) (straight c ∙ more)
      | inr c ↦ ap (λ vs. map visit_corner (filter is_bend vs)) (after_false r q x xs c) ∙ turn (is_bend (visit p x)) refl (visits_after (final_of r x) (parted r xs)) more
    ]

pub bends_parted : (r : ℤ) (w : List Edge) → AllGood w → bends (parted r w) ≡ bends w
unfolding bends tail_bends visits parted AllGood
bends_parted r [] g = refl
bends_parted r (a ∷ bs) g =
    ap (λ vs. map visit_corner (filter is_bend vs)) (visits_parted r a bs)
    ∙ bends_after r (last_of a bs) (final_of r (last_of a bs)) (a ∷ bs) (final_way r (last_of a bs) (g (last_of a bs) (last_in a bs))) g

-- ---- the same contours
contour_parted : (r : ℤ) (w : List Edge) (cs : List Point) → AllGood w → IsContour w cs → IsContour (parted r w) cs
contour_parted r w cs g c = record { round = subst (λ zs. IsSameRound zs cs) (sym (bends_parted r w g)) c.round; least = c.least }

unfoldable pub all_parted : ℤ → List (List Edge) → List (List Edge)
all_parted r [] = []
all_parted r (w ∷ ws) = parted r w ∷ all_parted r ws

joined_parted : (r : ℤ) (ws : List (List Edge)) → joined_walks (all_parted r ws) ≡ parted r (joined_walks ws)
unfolding all_parted parted
joined_parted r [] = refl
joined_parted r (w ∷ ws) = ap (λ zs. parted r w ++ zs) (joined_parted r ws) ∙ sym (parted_append r w (joined_walks ws))

has_all : (r : ℤ) (ws : List (List Edge)) (v : List Edge) → Has (all_parted r ws) v → (w : List Edge) × Has ws w × (v ≡ parted r w)
unfolding all_parted Has
has_all r [] v h = absurd h
has_all r (w ∷ ws) v (inl k) = (w, inl refl, sym k)
has_all r (w ∷ ws) v (inr h) = let i = has_all r ws v h in (i.0, inr i.1, i.2)

-- what is in the lists is in the parts
parted_has : (r : ℤ) (xs ys : List Edge) → AreSame xs ys → (e : Edge) → Has (parted r xs) e → Has (parted r ys) e
parted_has r xs ys s e h = at (has_parted r xs e h)
  where
    at : IsCutOf r xs e → Has (parted r ys) e
    at (First d i k) = cut_has r ys e (First d (s.there d i) k)
    at (Final d i c k) = cut_has r ys e (Final d (s.there d i) c k)

pub parted_same : (r : ℤ) (xs ys : List Edge) → AreSame xs ys → AreSame (parted r xs) (parted r ys)
parted_same r xs ys s = record { there = parted_has r xs ys s; back = parted_has r ys xs (same_back xs ys s) }

joined_once : (es : List Edge) (ws : List (List Edge)) → NoRepeats es → IsPermutation (joined_walks ws) es → NoRepeats (joined_walks ws)
joined_once es ws n p = no_repeats_permuted same_edge edge_test es (joined_walks ws) (IsPermutation-sym (joined_walks ws) es p) n

pub parted_perm : (r : ℤ) (es xs : List Edge) → IsCuttable r es → NoRepeats es → IsPermutation xs es → IsPermutation (parted r xs) (parted r es)
parted_perm r es xs c n p =
    let s = permuted_same xs es p in
    permuted_of (parted r xs) (parted r es)
    (parted_once r es xs c (λ e h. s.there e h) (no_repeats_permuted same_edge edge_test es xs (IsPermutation-sym xs es p) n))
    (parted_once r es es c (λ e h. h) n) (parted_same r xs es s)

draw_parted : (r : ℤ) (es : List Edge) (ws : List (List Edge)) (cs : List (List Point)) → ((w : List Edge) → Has ws w → AllGood w) → AllZip IsContour ws cs → AllZip IsContour (all_parted r ws) cs
unfolding all_parted Has
draw_parted r es [] [] g z = tt
draw_parted r es [] (c ∷ cs) g z = absurd z
draw_parted r es (w ∷ ws) [] g z = absurd z
draw_parted r es (w ∷ ws) (c ∷ cs) g z = (contour_parted r w c (g w (inl refl)) z.0, draw_parted r es ws cs (λ v h. g v (inr h)) z.1)

walks_good : (r : ℤ) (es : List Edge) (ws : List (List Edge)) → IsCuttable r es → All (IsWalk es) ws → (w : List Edge) → Has ws w → AllGood w
unfolding AllGood
walks_good r es ws c a w h e i = good_of r es c e (walk_in es w (all_at (IsWalk es) ws w a h) e i)

pub contours_parted : (r : ℤ) (es : List Edge) (ws : List (List Edge)) (cs : List (List Point)) → IsCuttable r es → NoRepeats es → AreContours es ws cs → AreContours (parted r es) (all_parted r ws) cs
contours_parted r es ws cs c n a = record {
  once = subst (λ zs. IsPermutation zs (parted r es)) (sym (joined_parted r ws)) (parted_perm r es (joined_walks ws) c n a.once);
  next = all_of (IsWalk (parted r es)) (all_parted r ws) (λ v h. let i = has_all r ws v h in subst (IsWalk (parted r es)) (sym i.2) (walk_parted r es i.0 c (all_at (IsWalk es) ws i.0 a.next i.1)));
  draw = draw_parted r es ws cs (walks_good r es ws c a.next) a.draw;
  order = a.order;
}

-- ---- the same holes
turn_as : (e f : Edge) (d : ℕ) → direction e ≡ direction f → turn_to e d ≡ turn_to f d
unfolding turn_to
turn_as e f d k = rw k refl

comes_in : (p : Edge) (xs : List Edge) (e : Edge) → Has (p ∷ xs) e → (last_of p xs ≡ e) ⊎ ((u : Visit) × Has (visits_after p xs) u × (u.comes ≡ e))
unfolding visits_after last_of Has
comes_in p [] e (inl k) = inl k
comes_in p [] e (inr h) = absurd h
comes_in p (x ∷ xs) e (inl k) = inr (record { comes = p; goes = x }, inl refl, k)
comes_in p (x ∷ xs) e (inr h) = elim (comes_in x xs e h) [ inl k ↦ inl k | inr r ↦ inr (r.0, inr r.1, r.2) ]

visit_comes : (w : List Edge) (e : Edge) → Has w e → (u : Visit) × Has (visits w) u × (u.comes ≡ e)
unfolding visits visits_after Has
visit_comes [] e h = absurd h
visit_comes (a ∷ bs) e h = elim (comes_in a bs e h) [
  | inl k ↦ (record { comes = last_of a bs; goes = a }, inl refl, k)
  | inr r ↦ (r.0, inr r.1, r.2)
]

-- the crossing_place of a crossing isn't the least corner: one end of the edge is above it
end_above : (r : ℤ) (e : Edge) → is_crossed r e ≡ true → (e.start.y <ℤ r) ⊎ (e.finish.y <ℤ r)
end_above r e h = elim (between_cases e.start.y r e.finish.y h) [ inl k ↦ inl k.0 | inr k ↦ inr k.0 ]

less_place : (r : ℤ) (a : Point) (e : Edge) → a.y <ℤ r → IsLess a (crossing_place r e)
unfolding IsLess crossing_place
less_place r a e l = inl l

-- a corner that isn't before the ends of the edge isn't before its crossing_place
place_after : (r : ℤ) (a c : Point) (e : Edge) → a.y <ℤ r → (IsLess a c → ⊥) → IsLess (crossing_place r e) c → ⊥
unfolding IsLess crossing_place
place_after r a c e l n (inl k) = n (inl (omega (arith, ints, l, k)))
place_after r a c e l n (inr k) = n (inl (let j = k.0 in omega (arith, ints, l, j)))

hole_there : (r : ℤ) (es w : List Edge) → IsCuttable r es → IsWalk es w → IsHole w → IsHole (parted r w)
unfolding IsHole
hole_there r es w c i (v, o) = (
  visit (final_of r v.comes) (begin_of r v.goes),
  record {
    one = of_has (visits (parted r w)) _ (old_visit r w v (has_of (visits w) v o.one));
    least = all_of (λ u. IsLess (visit_corner u) (begin_of r v.goes).start → ⊥) (visits (parted r w)) (λ u h. subst (λ z. IsLess (visit_corner u) z → ⊥) (sym (first_start r v.goes)) (at u (visit_of r w u h)));
    passes =
        let hv = has_of (visits w) v o.one in
        let a = turn_to_same (final_of r v.comes) v.comes 4 (final_way r v.comes (good_of r es c v.comes (walk_in es w i v.comes (comes_has w v hv)))) in
        let b = turn_to_same (final_of r v.comes) v.comes (direction (begin_of r v.goes)) (final_way r v.comes (good_of r es c v.comes (walk_in es w i v.comes (comes_has w v hv)))) in
        let d = ap (turn_to v.comes) (first_way r v.goes (good_of r es c v.goes (walk_in es w i v.goes (goes_has w v hv)))) in
        let p = o.passes in
        omega (arith, a, b, d, p);
  },
)
  where
    turn_to_same : (e f : Edge) (d : ℕ) → direction e ≡ direction f → turn_to e d ≡ turn_to f d
    turn_to_same e f d k = turn_as e f d k

    at : (u : Visit) → IsVisitOf r w (visits w) u → IsLess (visit_corner u) (visit_corner v) → ⊥
    at u (Old z h k) l =
        all_at (λ t. IsLess (visit_corner t) (visit_corner v) → ⊥) (visits w) z o.least h (subst (λ q. IsLess q (visit_corner v)) (ap (λ (y : Visit). y.goes.start) k ∙ first_start r z.goes) l)
    at u (New e h x k) l =
        let q = subst (λ q. IsLess q (visit_corner v)) (ap (λ (y : Visit). y.goes.start) k ∙ ap (λ (y : Edge). y.start) (final_true r e x)) l in
        elim (end_above r e x) [
          | inl m ↦ place_after r e.start (visit_corner v) e m (start_not e h) q
          | inr m ↦ place_after r e.finish (visit_corner v) e m (finish_not e h) q
        ]
      where
        start_not : (e : Edge) → Has w e → IsLess e.start (visit_corner v) → ⊥
        start_not e h l = let y = visit_goes w e h in all_at (λ t. IsLess (visit_corner t) (visit_corner v) → ⊥) (visits w) y.0 o.least y.1 (subst (λ (z : Edge). IsLess z.start (visit_corner v)) (sym y.2) l)

        finish_not : (e : Edge) → Has w e → IsLess e.finish (visit_corner v) → ⊥
        finish_not e h l =
            let y = visit_comes w e h in
            all_at (λ t. IsLess (visit_corner t) (visit_corner v) → ⊥) (visits w) y.0 o.least y.1
            (subst (λ q. IsLess q (visit_corner v)) (sym ((visit_next es w y.0 i y.1).joins ∙ ap (λ (z : Edge). z.finish) y.2)) l)

hole_back : (r : ℤ) (es w : List Edge) → IsCuttable r es → IsWalk es w → IsHole (parted r w) → IsHole w
unfolding IsHole
hole_back r es w c i (u, o) = at (visit_of r w u (has_of (visits (parted r w)) u o.one))
  where
    none_less : (z : Visit) → Has (visits w) z → IsLess z.goes.start (visit_corner u) → ⊥
    none_less z h l =
        all_at (λ t. IsLess (visit_corner t) (visit_corner u) → ⊥) (visits (parted r w)) (visit (final_of r z.comes) (begin_of r z.goes)) o.least (old_visit r w z h)
        (subst (λ q. IsLess q (visit_corner u)) (sym (first_start r z.goes)) l)

    at : IsVisitOf r w (visits w) u → (v : Visit) × IsOpenLeft w v
    at (Old v h k) = (
      v,
      record {
        one = of_has (visits w) v h;
        least = all_of (λ z. IsLess (visit_corner z) (visit_corner v) → ⊥) (visits w)
            (λ z j l. none_less z j (subst (IsLess z.goes.start) (sym (ap (λ (y : Visit). y.goes.start) k ∙ first_start r v.goes)) l));
        passes =
            let a = turn_as u.comes v.comes 4 (ap (λ (y : Visit). direction y.comes) k ∙ final_way r v.comes (good_of r es c v.comes (walk_in es w i v.comes (comes_has w v h)))) in
            let b = turn_as u.comes v.comes (direction u.goes) (ap (λ (y : Visit). direction y.comes) k ∙ final_way r v.comes (good_of r es c v.comes (walk_in es w i v.comes (comes_has w v h)))) in
            let d = ap (turn_to v.comes) (ap (λ (y : Visit). direction y.goes) k ∙ first_way r v.goes (good_of r es c v.goes (walk_in es w i v.goes (goes_has w v h)))) in
            let p = o.passes in
            omega (arith, a, b, d, p);
      },
    )
    at (New e h x k) = absurd (
        let q = ap (λ (y : Visit). y.goes.start) k ∙ ap (λ (y : Edge). y.start) (final_true r e x) in
        elim (end_above r e x) [
          | inl m ↦ (
              let y = visit_goes w e h in
              none_less y.0 y.1 (subst (IsLess y.0.goes.start) (sym q) (subst (λ z. IsLess z (crossing_place r e)) (sym (ap (λ (z : Edge). z.start) y.2)) (less_place r e.start e m))))
          | inr m ↦ (
              let y = visit_comes w e h in
              none_less y.0 y.1 (subst (IsLess y.0.goes.start) (sym q) (subst (λ z. IsLess z (crossing_place r e)) (sym ((visit_next es w y.0 i y.1).joins ∙ ap (λ (z : Edge). z.finish) y.2)) (less_place r e.finish e m))))
        ])

-- ---- the same loops
AreHoles : List (List Edge) → List Loop → Type 0
AreHoles ws ls = AllZip (λ w l. IsTrue l.hole ↔ IsHole w) ws ls

holes_parted : (r : ℤ) (es : List Edge) (ws : List (List Edge)) (ls : List Loop) → IsCuttable r es → ((w : List Edge) → Has ws w → IsWalk es w) → AreHoles ws ls → AreHoles (all_parted r ws) ls
unfolding AreHoles all_parted Has
holes_parted r es [] [] c i z = tt
holes_parted r es [] (l ∷ ls) c i z = absurd z
holes_parted r es (w ∷ ws) [] c i z = absurd z
holes_parted r es (w ∷ ws) (l ∷ ls) c i z =
    ((λ h. hole_there r es w c (i w (inl refl)) ((z.0).0 h), λ h. (z.0).1 (hole_back r es w c (i w (inl refl)) h)), holes_parted r es ws ls c (λ v h. i v (inr h)) z.1)

pub loops_parted : (r : ℤ) (es : List Edge) (ls : List Loop) → IsCuttable r es → NoRepeats es → AreLoopsOf es ls → AreLoopsOf (parted r es) ls
unfolding AreHoles
loops_parted r es ls c n a = record {
  walks = all_parted r a.walks;
  contours = contours_parted r es a.walks (map (λ l. l.corners) ls) c n a.contours;
  holes = holes_parted r es a.walks ls c (λ w h. all_at (IsWalk es) a.walks w (a.contours).next h) a.holes;
}
