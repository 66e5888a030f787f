-- Tests by which a list of loops or rings of a few edges is seen to be right, where the walks are known.
use Rattle.std.proofs.Common.{◌≡◌, refl, sym, subst, ap, ◌∙◌, ◌⊎◌, inl, inr, arith, List, [], ◌∷◌, ◌++◌, length, Bool, true, false, not}
use Rattle.std.specs.Prelude.{ℤ, pos, neg_ℤ, ◌-ℤ◌, ◌*ℤ◌, ◌<ℤ◌, ◌≤ℤ◌, int_lt, int_le, nat_le, nat_lt, ◌&&◌, ◌||◌, Any, AllPairs, if◌then◌else◌, map, IsTrue, ◌↔◌}
use Rattle.std.specs.List.{AllZip, list_all}
use Rattle.std.specs.List.Sorted.{IsPermutation}
use Rattle.std.specs.Ordering.{int_eq}
use Rattle.std.proofs.lemmas.Int.{ints, by_lt_z}
use Rattle.std.proofs.lemmas.Bool.{false≢true, leb-true, ltb-true, lt-ltb}
use Rattle.std.proofs.lemmas.Bool.Decides.{Decides-int_eq}
use Rattle.std.proofs.lemmas.List.{append-nil, append_assoc}
use Rattle.std.proofs.lemmas.List.Kept.{AllPairs-cons}
use Rattle.std.proofs.lemmas.List.Sorted.{IsPermutation-refl, IsPermutation-cons, IsPermutation-trans, IsPermutation-insert}
use lib.IntN.{*ℤ-zero}
use Rattle.plane.specs.Plane.{PlanePoint, grid_point}
use Rattle.grid_num.proofs.Products.{mul_le, mul_lt}
use Rattle.rings.proofs.Parted.{same_factor}
use Rattle.grid_num.specs.declared.Point.{Point}
use Rattle.plane.specs.Covering.{Edge, IsOn, Between}
use Rattle.plane.proofs.Lists.{any_head, any_tail}
use Rattle.plane.proofs.Counts.{less_true, less_false, most_false}
use Rattle.plane.specs.Edges.{turned_back, IsOctilinear}
use Rattle.plane.proofs.On.{at}
use Rattle.plane.proofs.CoverLaws.{on_turned}
use Rattle.rings.specs.Slits.{IsSlit}
use Rattle.rings.specs.Rings.{holes_of, with_slits, AreRingsOf}
use Rattle.rings.proofs.Slits.{any_has}
use Rattle.rings.specs.Turning.{direction, turn_to, IsNextEdge}
use Rattle.rings.specs.Walks.{Visit, visits, IsWalk, visit_corner, bends, IsLess, IsListLess, IsContour, joined_walks, AreContours}
use Rattle.rings.specs.Loops.{Loop, IsHole, AreLoopsOf}
use Rattle.rings.proofs.Lists.{Has, has_of, of_has, all_of, all_at, round_refl}
use Rattle.rings.proofs.Order.{point_same}
use Rattle.rings.proofs.Unique.{same_edge, same_tells, and_both}

-- ---- tests and what they tell
unfoldable pub if_then : Bool → Bool → Bool
if_then a b = if a then b else true

if_told : (a b : Bool) → if_then a b ≡ true → a ≡ true → b ≡ true
unfolding if_then
if_told true b h e = h
if_told false b h e = absurd (false≢true e)

list_told : {X : Type 0} (p : X → Bool) (xs : List X) → list_all p xs ≡ true → (x : X) → Has xs x → p x ≡ true
unfolding Has
list_told p [] h x i = absurd i
list_told p (y ∷ ys) h x (inl e) = ap p (sym e) ∙ (and_both (p y) (list_all p ys) h).0
list_told p (y ∷ ys) h x (inr i) = list_told p ys (and_both (p y) (list_all p ys) h).1 x i

or_told : (a b : Bool) → (a || b) ≡ true → (a ≡ true) ⊎ (b ≡ true)
or_told true b h = inl refl
or_told false b h = inr h

lt_told : (a b : ℤ) → int_lt a b ≡ true → a <ℤ b
lt_told a b h = by_lt_z {P = a <ℤ b} a b (λ l. l) (λ l. absurd (false≢true (sym (less_false a b l) ∙ h)))

le_told : (a b : ℤ) → int_le a b ≡ true → a ≤ℤ b
le_told a b h = by_lt_z {P = a ≤ℤ b} b a (λ l. absurd (false≢true (sym (most_false a b l) ∙ h))) (λ l. l)

eq_told : (a b : ℤ) → int_eq a b ≡ true → a ≡ b
eq_told a b h = (Decides-int_eq a b).0 h

unfoldable pub same_point : Point → Point → Bool
same_point a b = int_eq a.x b.x && int_eq a.y b.y

point_told : (a b : Point) → same_point a b ≡ true → a ≡ b
unfolding same_point
point_told a b h = let s = and_both (int_eq a.x b.x) (int_eq a.y b.y) h in point_same a b (eq_told a.x b.x s.0) (eq_told a.y b.y s.1)

point_meets : (a b : Point) → a ≡ b → same_point a b ≡ true
unfolding same_point
point_meets a b e =
    ap (λ c. c && int_eq a.y b.y) ((Decides-int_eq a.x b.x).1 (ap (λ q. q.x) e)) ∙ (Decides-int_eq a.y b.y).1 (ap (λ q. q.y) e)

-- ---- one of the edges
unfoldable pub has_edge : Edge → List Edge → Bool
has_edge e [] = false
has_edge e (f ∷ fs) = same_edge e f || has_edge e fs

edge_told : (e : Edge) (es : List Edge) → has_edge e es ≡ true → Has es e
unfolding has_edge Has
edge_told e [] h = absurd (false≢true h)
edge_told e (f ∷ fs) h = elim (or_told (same_edge e f) (has_edge e fs) h) [ inl k ↦ inl (same_tells e f k) | inr k ↦ inr (edge_told e fs k) ]

-- ---- the next edge
unfoldable pub later : Edge → Edge → Edge → Bool
later e f g = if_then (same_point g.start e.finish) (nat_le (turn_to e (direction f)) (turn_to e (direction g)))

unfoldable pub is_next : List Edge → Visit → Bool
is_next es v = has_edge v.goes es && (same_point v.goes.start v.comes.finish && list_all (later v.comes v.goes) es)

next_told : (es : List Edge) (v : Visit) → is_next es v ≡ true → IsNextEdge es v.comes v.goes
unfolding is_next later
next_told es v h =
    let a = and_both (has_edge v.goes es) (same_point v.goes.start v.comes.finish && list_all (later v.comes v.goes) es) h in
    let b = and_both (same_point v.goes.start v.comes.finish) (list_all (later v.comes v.goes) es) a.1 in
    record {
      one = of_has es v.goes (edge_told v.goes es a.0);
      joins = point_told v.goes.start v.comes.finish b.0;
      first = λ g c j. leb-true (turn_to v.comes (direction v.goes)) (turn_to v.comes (direction g))
          (if_told (same_point g.start v.comes.finish) (nat_le (turn_to v.comes (direction v.goes)) (turn_to v.comes (direction g)))
          (list_told (later v.comes v.goes) es b.1 g (has_of es g c)) (point_meets g.start v.comes.finish j));
    }

unfoldable pub is_some : List Edge → Bool
is_some [] = false
is_some (e ∷ es) = true

some_told : (w : List Edge) → is_some w ≡ true → w ≡ [] → ⊥
unfolding is_some
some_told [] h e = false≢true h
some_told (a ∷ w) h e = let l = ap length e in omega (arith, l)

unfoldable pub is_walk : List Edge → List Edge → Bool
is_walk es w = is_some w && list_all (is_next es) (visits w)

walk_told : (es w : List Edge) → is_walk es w ≡ true → IsWalk es w
unfolding is_walk
walk_told es w h =
    let a = and_both (is_some w) (list_all (is_next es) (visits w)) h in
    record {
      some = some_told w a.0;
      next = all_of (λ v. IsNextEdge es v.comes v.goes) (visits w) (λ v i. next_told es v (list_told (is_next es) (visits w) a.1 v i));
    }

-- ---- the order of corners and of lists
unfoldable pub less_point : Point → Point → Bool
less_point a b = int_lt a.y b.y || (int_eq a.y b.y && int_lt a.x b.x)

less_meets : (a b : Point) → IsLess a b → less_point a b ≡ true
unfolding IsLess less_point
less_meets a b (inl h) = ap (λ c. c || (int_eq a.y b.y && int_lt a.x b.x)) (less_true a.y b.y h)
less_meets a b (inr (e, h)) =
    ap (λ c. int_lt a.y b.y || (c && int_lt a.x b.x)) ((Decides-int_eq a.y b.y).1 e) ∙ ap (λ c. int_lt a.y b.y || c) (less_true a.x b.x h) ∙ or_true (int_lt a.y b.y)
  where
    or_true : (c : Bool) → (c || true) ≡ true
    or_true true = refl
    or_true false = refl

less_told : (a b : Point) → less_point a b ≡ true → IsLess a b
unfolding IsLess less_point
less_told a b h = elim (or_told (int_lt a.y b.y) (int_eq a.y b.y && int_lt a.x b.x) h) [
  | inl k ↦ inl (lt_told a.y b.y k)
  | inr k ↦ (let s = and_both (int_eq a.y b.y) (int_lt a.x b.x) k in inr (eq_told a.y b.y s.0, lt_told a.x b.x s.1))
]

unfoldable pub less_list : List Point → List Point → Bool
less_list as' [] = false
less_list [] (b ∷ bs) = true
less_list (a ∷ as') (b ∷ bs) = less_point a b || (same_point a b && less_list as' bs)

pub list_meets : (as' bs : List Point) → IsListLess as' bs → less_list as' bs ≡ true
unfolding IsListLess less_list
list_meets as' [] h = absurd h
list_meets [] (b ∷ bs) h = refl
list_meets (a ∷ as') (b ∷ bs) (inl h) = ap (λ c. c || (same_point a b && less_list as' bs)) (less_meets a b h)
list_meets (a ∷ as') (b ∷ bs) (inr (e, h)) =
    ap (λ c. less_point a b || (c && less_list as' bs)) (point_meets a b e) ∙ ap (λ c. less_point a b || c) (list_meets as' bs h) ∙ or_true (less_point a b)
  where
    or_true : (c : Bool) → (c || true) ≡ true
    or_true true = refl
    or_true false = refl

pub less_list_told : (as' bs : List Point) → less_list as' bs ≡ true → IsListLess as' bs
unfolding IsListLess less_list
less_list_told as' [] h = absurd (false≢true h)
less_list_told [] (b ∷ bs) h = tt
less_list_told (a ∷ as') (b ∷ bs) h = elim (or_told (less_point a b) (same_point a b && less_list as' bs) h) [
  | inl k ↦ inl (less_told a b k)
  | inr k ↦ (let s = and_both (same_point a b) (less_list as' bs) k in inr (point_told a b s.0, less_list_told as' bs s.1))
]

-- no list of the round that is begun after the front, or later, is less
unfoldable pub no_less : List Point → List Point → List Point → Bool
no_less cs front [] = not (less_list front cs)
no_less cs front (b ∷ back) = not (less_list (b ∷ back ++ front) cs) && no_less cs (front ++ b ∷ []) back

not_told : (a : Bool) → not a ≡ true → a ≡ true → ⊥
not_told true h e = false≢true h
not_told false h e = false≢true e

no_less_told : (cs front more back : List Point) → no_less cs front (more ++ back) ≡ true → IsListLess (back ++ (front ++ more)) cs → ⊥
unfolding no_less
no_less_told cs front [] [] h l = not_told (less_list front cs) h (list_meets front cs (subst (λ zs. IsListLess zs cs) (append-nil front) l))
no_less_told cs front [] (b ∷ back) h l =
    not_told (less_list (b ∷ back ++ front) cs) (and_both (not (less_list (b ∷ back ++ front) cs)) (no_less cs (front ++ b ∷ []) back) h).0
    (list_meets (b ∷ back ++ front) cs (subst (λ zs. IsListLess (b ∷ back ++ zs) cs) (append-nil front) l))
no_less_told cs front (a ∷ more) back h l =
    no_less_told cs (front ++ a ∷ []) more back (and_both (not (less_list (a ∷ more ++ back ++ front) cs)) (no_less cs (front ++ a ∷ []) (more ++ back)) h).1
    (subst (λ zs. IsListLess (back ++ zs) cs) (sym (append_assoc front (a ∷ []) more)) l)

-- the walk is begun at the least corner
unfoldable pub is_contour : List Edge → Bool
is_contour w = no_less (bends w) [] (bends w)

contour_told : (w : List Edge) → is_contour w ≡ true → IsContour w (bends w)
unfolding is_contour
contour_told w h = record {
  round = round_refl (bends w);
  least = λ others r l. no_less_told (bends w) [] r.front r.back (subst (λ zs. no_less (bends w) [] zs ≡ true) r.was h) (subst (λ zs. IsListLess zs (bends w)) r.is l);
}

-- ---- the same edges in another order
unfoldable pub without : Edge → List Edge → List Edge
without e [] = []
without e (f ∷ fs) = if same_edge e f then fs else f ∷ without e fs

unfoldable pub is_permuted : List Edge → List Edge → Bool
is_permuted [] [] = true
is_permuted [] (f ∷ fs) = false
is_permuted (e ∷ es) fs = has_edge e fs && is_permuted es (without e fs)

swapped : (e f : Edge) (fs : List Edge) → IsPermutation (e ∷ f ∷ fs) (f ∷ e ∷ fs)
swapped e f fs = IsPermutation-insert (f ∷ fs) 1 e

without_yes : (e f : Edge) (fs : List Edge) → same_edge e f ≡ true → without e (f ∷ fs) ≡ fs
unfolding without
without_yes e f fs h = rw h refl

without_no : (e f : Edge) (fs : List Edge) → same_edge e f ≡ false → without e (f ∷ fs) ≡ f ∷ without e fs
unfolding without
without_no e f fs h = rw h refl

without_told : (e : Edge) (fs : List Edge) → has_edge e fs ≡ true → IsPermutation (e ∷ without e fs) fs
unfolding has_edge
without_told e [] h = absurd (false≢true h)
without_told e (f ∷ fs) h = at (λ k. without_told e fs k) (same_edge e f) refl h
  where
    at : (has_edge e fs ≡ true → IsPermutation (e ∷ without e fs) fs) → (b : Bool) → same_edge e f ≡ b → (same_edge e f || has_edge e fs) ≡ true → IsPermutation (e ∷ without e (f ∷ fs)) (f ∷ fs)
    at r true i k =
        subst (λ zs. IsPermutation (e ∷ zs) (f ∷ fs)) (sym (without_yes e f fs i))
        (subst (λ z. IsPermutation (z ∷ fs) (f ∷ fs)) (same_tells e f i) (IsPermutation-refl (f ∷ fs)))
    at r false i k =
        subst (λ zs. IsPermutation (e ∷ zs) (f ∷ fs)) (sym (without_no e f fs i))
        (IsPermutation-trans (e ∷ f ∷ without e fs) (f ∷ e ∷ without e fs) (f ∷ fs) (swapped e f (without e fs))
        (IsPermutation-cons f (e ∷ without e fs) fs (r (elim (or_told (same_edge e f) (has_edge e fs) k) [ inl j ↦ absurd (false≢true (sym i ∙ j)) | inr j ↦ j ]))))

permuted_told : (es fs : List Edge) → is_permuted es fs ≡ true → IsPermutation es fs
unfolding is_permuted
permuted_told [] [] h = IsPermutation-refl []
permuted_told [] (f ∷ fs) h = absurd (false≢true h)
permuted_told (e ∷ es) fs h =
    let s = and_both (has_edge e fs) (is_permuted es (without e fs)) h in
    IsPermutation-trans (e ∷ es) (e ∷ without e fs) fs (IsPermutation-cons e es (without e fs) (permuted_told es (without e fs) s.1)) (without_told e fs s.0)

-- ---- contours
unfoldable pub is_rising : List (List Point) → Bool
is_rising [] = true
is_rising (c ∷ cs) = list_all (less_list c) cs && is_rising cs

rising_told : (cs : List (List Point)) → is_rising cs ≡ true → AllPairs IsListLess cs
unfolding is_rising
rising_told [] h = λ i j d l m. absurd (omega (arith, m))
rising_told (c ∷ cs) h =
    let s = and_both (list_all (less_list c) cs) (is_rising cs) h in
    AllPairs-cons IsListLess c cs (all_of (IsListLess c) cs (λ b i. less_list_told c b (list_told (less_list c) cs s.0 b i))) (rising_told cs s.1)

unfoldable pub is_round : List Edge → List (List Edge) → Bool
is_round es ws = is_permuted (joined_walks ws) es && (list_all (is_walk es) ws && (list_all is_contour ws && is_rising (map bends ws)))

drawn_told : (ws : List (List Edge)) → list_all is_contour ws ≡ true → AllZip IsContour ws (map bends ws)
drawn_told [] h = tt
drawn_told (w ∷ ws) h = let s = and_both (is_contour w) (list_all is_contour ws) h in (contour_told w s.0, drawn_told ws s.1)

pub round_told : (es : List Edge) (ws : List (List Edge)) → is_round es ws ≡ true → AreContours es ws (map bends ws)
unfolding is_round
round_told es ws h =
    let a = and_both (is_permuted (joined_walks ws) es) (list_all (is_walk es) ws && (list_all is_contour ws && is_rising (map bends ws))) h in
    let b = and_both (list_all (is_walk es) ws) (list_all is_contour ws && is_rising (map bends ws)) a.1 in
    let c = and_both (list_all is_contour ws) (is_rising (map bends ws)) b.1 in
    record {
      once = permuted_told (joined_walks ws) es a.0;
      next = all_of (IsWalk es) ws (λ w i. walk_told es w (list_told (is_walk es) ws b.0 w i));
      draw = drawn_told ws c.0;
      order = rising_told (map bends ws) c.1;
    }

-- ---- loops
unfoldable pub is_open_left : List Edge → Visit → Bool
is_open_left w v = nat_lt (turn_to v.comes 4) (turn_to v.comes (direction v.goes)) && list_all (λ u. not (less_point (visit_corner u) (visit_corner v))) (visits w)

unfoldable pub some_visit : (Visit → Bool) → List Visit → Bool
some_visit p [] = false
some_visit p (v ∷ vs) = p v || some_visit p vs

visit_told : (p : Visit → Bool) (vs : List Visit) → some_visit p vs ≡ true → (v : Visit) × Has vs v × (p v ≡ true)
unfolding some_visit Has
visit_told p [] h = absurd (false≢true h)
visit_told p (v ∷ vs) h = elim (or_told (p v) (some_visit p vs) h) [ inl k ↦ (v, inl refl, k) | inr k ↦ (let r = visit_told p vs k in (r.0, inr r.1, r.2)) ]

visit_meets : (p : Visit → Bool) (vs : List Visit) (v : Visit) → Has vs v → p v ≡ true → some_visit p vs ≡ true
unfolding some_visit Has
visit_meets p [] v h k = absurd h
visit_meets p (u ∷ vs) v (inl e) k = ap (λ c. c || some_visit p vs) (ap p e ∙ k)
visit_meets p (u ∷ vs) v (inr h) k = ap (λ c. p u || c) (visit_meets p vs v h k) ∙ or_true (p u)
  where
    or_true : (c : Bool) → (c || true) ≡ true
    or_true true = refl
    or_true false = refl

all_meets : {X : Type 0} (p : X → Bool) (xs : List X) → ((x : X) → Has xs x → p x ≡ true) → list_all p xs ≡ true
unfolding Has
all_meets p [] f = refl
all_meets p (x ∷ xs) f = ap (λ c. c && list_all p xs) (f x (inl refl)) ∙ all_meets p xs (λ y h. f y (inr h))

not_meets : (a : Bool) → (a ≡ true → ⊥) → not a ≡ true
not_meets true f = absurd (f refl)
not_meets false f = refl

unfoldable pub is_hole : List Edge → Bool
is_hole w = some_visit (is_open_left w) (visits w)

pub hole_exact : (w : List Edge) → IsTrue (is_hole w) ↔ IsHole w
unfolding is_hole is_open_left IsHole
hole_exact w = (
  λ h. (
      let r = visit_told (is_open_left w) (visits w) h in
      let s = and_both (nat_lt (turn_to r.0.comes 4) (turn_to r.0.comes (direction r.0.goes))) (list_all (λ u. not (less_point (visit_corner u) (visit_corner r.0))) (visits w)) r.2 in (
        r.0,
        record {
          one = of_has (visits w) r.0 r.1;
          least = all_of (λ u. IsLess (visit_corner u) (visit_corner r.0) → ⊥) (visits w)
              (λ u i l. not_told (less_point (visit_corner u) (visit_corner r.0)) (list_told (λ u. not (less_point (visit_corner u) (visit_corner r.0))) (visits w) s.1 u i) (less_meets (visit_corner u) (visit_corner r.0) l));
          passes = ltb-true (turn_to r.0.comes 4) (turn_to r.0.comes (direction r.0.goes)) s.0;
        },
      )
      ),
  λ k. (
      let v = k.0 in
      let o = k.1 in
      visit_meets (is_open_left w) (visits w) v (has_of (visits w) v o.one)
      (ap (λ c. c && list_all (λ u. not (less_point (visit_corner u) (visit_corner v))) (visits w)) (lt-ltb (turn_to v.comes 4) (turn_to v.comes (direction v.goes)) o.passes)
      ∙ all_meets (λ u. not (less_point (visit_corner u) (visit_corner v))) (visits w)
      (λ u i. not_meets (less_point (visit_corner u) (visit_corner v)) (λ l. all_at (λ u. IsLess (visit_corner u) (visit_corner v) → ⊥) (visits w) u o.least i (less_told (visit_corner u) (visit_corner v) l))))
      ),
)

unfoldable pub loop_of : List Edge → Loop
loop_of w = record { corners = bends w; hole = is_hole w }

loop_corners : (ws : List (List Edge)) → map (λ l. l.corners) (map loop_of ws) ≡ map bends ws
unfolding loop_of
loop_corners [] = refl
loop_corners (w ∷ ws) = ap (λ cs. bends w ∷ cs) (loop_corners ws)

loop_holes : (ws : List (List Edge)) → AllZip (λ w l. IsTrue l.hole ↔ IsHole w) ws (map loop_of ws)
unfolding loop_of
loop_holes [] = tt
loop_holes (w ∷ ws) = (hole_exact w, loop_holes ws)

pub loops_told : (es : List Edge) (ws : List (List Edge)) → is_round es ws ≡ true → AreLoopsOf es (map loop_of ws)
loops_told es ws h = record {
  walks = ws;
  contours = subst (AreContours es ws) (sym (loop_corners ws)) (round_told es ws h);
  holes = loop_holes ws;
}

-- ---- slits
unfoldable pub in_span : ℤ → ℤ → ℤ → Bool
in_span a b z = (int_le a z && int_le z b) || (int_le b z && int_le z a)

span_told : (a b z : ℤ) → in_span a b z ≡ true → Between a b z
unfolding in_span
span_told a b z h = elim (or_told (int_le a z && int_le z b) (int_le b z && int_le z a) h) [
  | inl k ↦ (let s = and_both (int_le a z) (int_le z b) k in inl (le_told a z s.0, le_told z b s.1))
  | inr k ↦ (let s = and_both (int_le b z) (int_le z a) k in inr (le_told b z s.0, le_told z a s.1))
]

unfoldable pub on_edge : Edge → Point → Bool
on_edge e q =
    int_eq ((e.finish.y -ℤ e.start.y) *ℤ (q.x -ℤ pos 1 *ℤ e.start.x)) ((e.finish.x -ℤ e.start.x) *ℤ (q.y -ℤ pos 1 *ℤ e.start.y))
    && (in_span (pos 1 *ℤ e.start.x) (pos 1 *ℤ e.finish.x) q.x && in_span (pos 1 *ℤ e.start.y) (pos 1 *ℤ e.finish.y) q.y)

on_told : (e : Edge) (q : Point) → on_edge e q ≡ true → IsOn e (grid_point q.x q.y)
unfolding on_edge
on_told e q h =
    let a = and_both (int_eq ((e.finish.y -ℤ e.start.y) *ℤ (q.x -ℤ pos 1 *ℤ e.start.x)) ((e.finish.x -ℤ e.start.x) *ℤ (q.y -ℤ pos 1 *ℤ e.start.y)))
    (in_span (pos 1 *ℤ e.start.x) (pos 1 *ℤ e.finish.x) q.x && in_span (pos 1 *ℤ e.start.y) (pos 1 *ℤ e.finish.y) q.y) h in
    let b = and_both (in_span (pos 1 *ℤ e.start.x) (pos 1 *ℤ e.finish.x) q.x) (in_span (pos 1 *ℤ e.start.y) (pos 1 *ℤ e.finish.y) q.y) a.1 in
    record {
      line = eq_told ((e.finish.y -ℤ e.start.y) *ℤ (q.x -ℤ pos 1 *ℤ e.start.x)) ((e.finish.x -ℤ e.start.x) *ℤ (q.y -ℤ pos 1 *ℤ e.start.y)) a.0;
      across = span_told (pos 1 *ℤ e.start.x) (pos 1 *ℤ e.finish.x) q.x b.0;
      along = span_told (pos 1 *ℤ e.start.y) (pos 1 *ℤ e.finish.y) q.y b.1;
    }

unfoldable pub some_on : List Edge → Point → Bool
some_on [] q = false
some_on (e ∷ es) q = on_edge e q || some_on es q

some_on_told : (es : List Edge) (q : Point) → some_on es q ≡ true → Any (λ e. IsOn e (grid_point q.x q.y)) es
unfolding some_on
some_on_told [] q h = absurd (false≢true h)
some_on_told (e ∷ es) q h = elim (or_told (on_edge e q) (some_on es q) h) [
  | inl k ↦ any_head (λ e. IsOn e (grid_point q.x q.y)) e es (on_told e q k)
  | inr k ↦ any_tail (λ e. IsOn e (grid_point q.x q.y)) e es (some_on_told es q k)
]

-- a is on neither side of the open stretch from left to right
unfoldable pub is_aside : ℤ → ℤ → ℤ → Bool
is_aside left right x = int_le x left || int_le right x

aside_told : (left right x : ℤ) → is_aside left right x ≡ true → (x ≤ℤ left) ⊎ (right ≤ℤ x)
unfolding is_aside
aside_told left right x h = elim (or_told (int_le x left) (int_le right x) h) [ inl k ↦ inl (le_told x left k) | inr k ↦ inr (le_told right x k) ]

-- the edge has no point inside the slit: it is above or below, or on the left or on the right, or it has one end alone in
-- the slit's row, and that is not inside
unfoldable pub is_missed : Edge → Edge → Bool
is_missed s e =
    ((int_lt e.start.y s.start.y && int_lt e.finish.y s.start.y) || (int_lt s.start.y e.start.y && int_lt s.start.y e.finish.y))
    || (((int_le e.start.x s.finish.x && int_le e.finish.x s.finish.x) || (int_le s.start.x e.start.x && int_le s.start.x e.finish.x))
    || ((int_eq e.start.y s.start.y && (not (int_eq e.finish.y s.start.y) && is_aside s.finish.x s.start.x e.start.x))
    || (int_eq e.finish.y s.start.y && (not (int_eq e.start.y s.start.y) && is_aside s.finish.x s.start.x e.finish.x))))

off_row : (s e : Edge) (p : PlanePoint) → s.finish.y ≡ s.start.y → p.y ≡ pos p.scale *ℤ s.start.y → (pos p.scale *ℤ s.finish.x) <ℤ p.x → p.x <ℤ (pos p.scale *ℤ s.start.x)
    → (x : ℤ) → p.x ≡ pos p.scale *ℤ x → (x ≤ℤ s.finish.x) ⊎ (s.start.x ≤ℤ x) → ⊥
off_row s e p k y l r x h (inl c) = let m = mul_le p.scale x s.finish.x c in omega (arith, ints, m, l, h)
off_row s e p k y l r x h (inr c) = let m = mul_le p.scale s.start.x x c in omega (arith, ints, m, r, h)

-- on an edge that isn't level the row of an end has that end alone
pub start_alone : (e : Edge) (p : PlanePoint) → (e.finish.y ≡ e.start.y → ⊥) → p.y ≡ pos p.scale *ℤ e.start.y → IsOn e p → p.x ≡ pos p.scale *ℤ e.start.x
start_alone e p n y o =
    elim (same_factor (e.finish.y -ℤ e.start.y) (p.x -ℤ pos p.scale *ℤ e.start.x) (pos 0)
    (o.line ∙ ap (λ (z : ℤ). (e.finish.x -ℤ e.start.x) *ℤ z) (omega (arith, ints, y)) ∙ *ℤ-zero (e.finish.x -ℤ e.start.x) ∙ sym (*ℤ-zero (e.finish.y -ℤ e.start.y)))) [
      | inl z ↦ absurd (n (omega (arith, ints, z)))
      | inr z ↦ omega (arith, ints, z)
    ]

unfoldable pub is_octilinear : Edge → Bool
is_octilinear e =
    int_eq e.start.y e.finish.y || (int_eq e.start.x e.finish.x
    || (int_eq (e.finish.x -ℤ e.start.x) (e.finish.y -ℤ e.start.y) || int_eq (e.finish.x -ℤ e.start.x) (neg_ℤ (e.finish.y -ℤ e.start.y))))

octilinear_told : (e : Edge) → is_octilinear e ≡ true → IsOctilinear e
unfolding is_octilinear IsOctilinear
octilinear_told e h =
    elim (or_told (int_eq e.start.y e.finish.y) (int_eq e.start.x e.finish.x || (int_eq (e.finish.x -ℤ e.start.x) (e.finish.y -ℤ e.start.y) || int_eq (e.finish.x -ℤ e.start.x) (neg_ℤ (e.finish.y -ℤ e.start.y)))) h) [
      | inl k ↦ inl (eq_told e.start.y e.finish.y k)
      | inr h ↦ elim (or_told (int_eq e.start.x e.finish.x) (int_eq (e.finish.x -ℤ e.start.x) (e.finish.y -ℤ e.start.y) || int_eq (e.finish.x -ℤ e.start.x) (neg_ℤ (e.finish.y -ℤ e.start.y))) h) [
        | inl k ↦ inr (inl (eq_told e.start.x e.finish.x k))
        | inr h ↦ elim (or_told (int_eq (e.finish.x -ℤ e.start.x) (e.finish.y -ℤ e.start.y)) (int_eq (e.finish.x -ℤ e.start.x) (neg_ℤ (e.finish.y -ℤ e.start.y))) h) [
          | inl k ↦ inr (inr (inl (eq_told (e.finish.x -ℤ e.start.x) (e.finish.y -ℤ e.start.y) k)))
          | inr k ↦ inr (inr (inr (eq_told (e.finish.x -ℤ e.start.x) (neg_ℤ (e.finish.y -ℤ e.start.y)) k)))
        ]
      ]
    ]

pub finish_alone : (e : Edge) (p : PlanePoint) → IsOctilinear e → (e.start.y ≡ e.finish.y → ⊥) → p.y ≡ pos p.scale *ℤ e.finish.y → IsOn e p → p.x ≡ pos p.scale *ℤ e.finish.x
unfolding turned_back
finish_alone e p q n y o = start_alone (turned_back e) p n y (on_turned p e q o)

not_equal : (a b : ℤ) → not (int_eq a b) ≡ true → a ≡ b → ⊥
not_equal a b h e = not_told (int_eq a b) h ((Decides-int_eq a b).1 e)

-- p is inside the slit
record IsInSlit (s : Edge) (p : PlanePoint) : Type 0 where
  level : s.finish.y ≡ s.start.y
  row : p.y ≡ pos p.scale *ℤ s.start.y
  left : (pos p.scale *ℤ s.finish.x) <ℤ p.x
  right : p.x <ℤ (pos p.scale *ℤ s.start.x)

rows_missed : (s e : Edge) (p : PlanePoint) → IsInSlit s p → IsOn e p
    → ((int_lt e.start.y s.start.y && int_lt e.finish.y s.start.y) || (int_lt s.start.y e.start.y && int_lt s.start.y e.finish.y)) ≡ true → ⊥
rows_missed s e p i o h = elim (or_told (int_lt e.start.y s.start.y && int_lt e.finish.y s.start.y) (int_lt s.start.y e.start.y && int_lt s.start.y e.finish.y) h) [
  | inl k ↦ (
      let a = and_both (int_lt e.start.y s.start.y) (int_lt e.finish.y s.start.y) k in
      let m = mul_lt p.scale e.start.y s.start.y p.positive (lt_told e.start.y s.start.y a.0) in
      let n = mul_lt p.scale e.finish.y s.start.y p.positive (lt_told e.finish.y s.start.y a.1) in
      let y = o.along in let r = i.row in omega (arith, ints, m, n, y, r))
  | inr k ↦ (
      let a = and_both (int_lt s.start.y e.start.y) (int_lt s.start.y e.finish.y) k in
      let m = mul_lt p.scale s.start.y e.start.y p.positive (lt_told s.start.y e.start.y a.0) in
      let n = mul_lt p.scale s.start.y e.finish.y p.positive (lt_told s.start.y e.finish.y a.1) in
      let y = o.along in let r = i.row in omega (arith, ints, m, n, y, r))
]

sides_missed : (s e : Edge) (p : PlanePoint) → IsInSlit s p → IsOn e p
    → ((int_le e.start.x s.finish.x && int_le e.finish.x s.finish.x) || (int_le s.start.x e.start.x && int_le s.start.x e.finish.x)) ≡ true → ⊥
sides_missed s e p i o h = elim (or_told (int_le e.start.x s.finish.x && int_le e.finish.x s.finish.x) (int_le s.start.x e.start.x && int_le s.start.x e.finish.x) h) [
  | inl k ↦ (
      let a = and_both (int_le e.start.x s.finish.x) (int_le e.finish.x s.finish.x) k in
      let m = mul_le p.scale e.start.x s.finish.x (le_told e.start.x s.finish.x a.0) in
      let n = mul_le p.scale e.finish.x s.finish.x (le_told e.finish.x s.finish.x a.1) in
      let x = o.across in let l = i.left in omega (arith, ints, m, n, x, l))
  | inr k ↦ (
      let a = and_both (int_le s.start.x e.start.x) (int_le s.start.x e.finish.x) k in
      let m = mul_le p.scale s.start.x e.start.x (le_told s.start.x e.start.x a.0) in
      let n = mul_le p.scale s.start.x e.finish.x (le_told s.start.x e.finish.x a.1) in
      let x = o.across in let r = i.right in omega (arith, ints, m, n, x, r))
]

ends_missed : (s e : Edge) (p : PlanePoint) → IsInSlit s p → IsOctilinear e → IsOn e p
    → ((int_eq e.start.y s.start.y && (not (int_eq e.finish.y s.start.y) && is_aside s.finish.x s.start.x e.start.x))
    || (int_eq e.finish.y s.start.y && (not (int_eq e.start.y s.start.y) && is_aside s.finish.x s.start.x e.finish.x))) ≡ true → ⊥
ends_missed s e p i q o h =
    elim (or_told (int_eq e.start.y s.start.y && (not (int_eq e.finish.y s.start.y) && is_aside s.finish.x s.start.x e.start.x))
    (int_eq e.finish.y s.start.y && (not (int_eq e.start.y s.start.y) && is_aside s.finish.x s.start.x e.finish.x)) h) [
      | inl k ↦ (
          let a = and_both (int_eq e.start.y s.start.y) (not (int_eq e.finish.y s.start.y) && is_aside s.finish.x s.start.x e.start.x) k in
          let b = and_both (not (int_eq e.finish.y s.start.y)) (is_aside s.finish.x s.start.x e.start.x) a.1 in
          let y = eq_told e.start.y s.start.y a.0 in
          let n = not_equal e.finish.y s.start.y b.0 in
          off_row s e p i.level i.row i.left i.right e.start.x
          (start_alone e p (λ z. n (z ∙ y)) (i.row ∙ at p.scale s.start.y e.start.y (sym y)) o) (aside_told s.finish.x s.start.x e.start.x b.1))
      | inr k ↦ (
          let a = and_both (int_eq e.finish.y s.start.y) (not (int_eq e.start.y s.start.y) && is_aside s.finish.x s.start.x e.finish.x) k in
          let b = and_both (not (int_eq e.start.y s.start.y)) (is_aside s.finish.x s.start.x e.finish.x) a.1 in
          let y = eq_told e.finish.y s.start.y a.0 in
          let n = not_equal e.start.y s.start.y b.0 in
          off_row s e p i.level i.row i.left i.right e.finish.x
          (finish_alone e p q (λ z. n (z ∙ y)) (i.row ∙ at p.scale s.start.y e.finish.y (sym y)) o) (aside_told s.finish.x s.start.x e.finish.x b.1))
    ]

missed_told : (s e : Edge) (p : PlanePoint) → IsInSlit s p → (is_octilinear e && is_missed s e) ≡ true → IsOn e p → ⊥
unfolding is_missed
missed_told s e p i h o =
    let z = and_both (is_octilinear e)
    (((int_lt e.start.y s.start.y && int_lt e.finish.y s.start.y) || (int_lt s.start.y e.start.y && int_lt s.start.y e.finish.y))
    || (((int_le e.start.x s.finish.x && int_le e.finish.x s.finish.x) || (int_le s.start.x e.start.x && int_le s.start.x e.finish.x))
    || ((int_eq e.start.y s.start.y && (not (int_eq e.finish.y s.start.y) && is_aside s.finish.x s.start.x e.start.x))
    || (int_eq e.finish.y s.start.y && (not (int_eq e.start.y s.start.y) && is_aside s.finish.x s.start.x e.finish.x))))) h in
    elim (or_told ((int_lt e.start.y s.start.y && int_lt e.finish.y s.start.y) || (int_lt s.start.y e.start.y && int_lt s.start.y e.finish.y))
    (((int_le e.start.x s.finish.x && int_le e.finish.x s.finish.x) || (int_le s.start.x e.start.x && int_le s.start.x e.finish.x))
    || ((int_eq e.start.y s.start.y && (not (int_eq e.finish.y s.start.y) && is_aside s.finish.x s.start.x e.start.x))
    || (int_eq e.finish.y s.start.y && (not (int_eq e.start.y s.start.y) && is_aside s.finish.x s.start.x e.finish.x)))) z.1) [
      | inl k ↦ rows_missed s e p i o k
      | inr k ↦ elim (or_told ((int_le e.start.x s.finish.x && int_le e.finish.x s.finish.x) || (int_le s.start.x e.start.x && int_le s.start.x e.finish.x))
          ((int_eq e.start.y s.start.y && (not (int_eq e.finish.y s.start.y) && is_aside s.finish.x s.start.x e.start.x))
          || (int_eq e.finish.y s.start.y && (not (int_eq e.start.y s.start.y) && is_aside s.finish.x s.start.x e.finish.x))) k) [
            | inl j ↦ sides_missed s e p i o j
            | inr j ↦ ends_missed s e p i (octilinear_told e z.0) o j
          ]
    ]

-- ---- rings
unfoldable pub is_slit : List Edge → List Point → Edge → Bool
is_slit es [] s = false
is_slit es (c ∷ cs) s =
    same_point c s.start && (int_eq s.finish.y s.start.y && (int_lt s.finish.x s.start.x && (some_on es s.finish && list_all (λ e. is_octilinear e && is_missed s e) es)))

slit_told : (es : List Edge) (cs : List Point) (s : Edge) → is_slit es cs s ≡ true → IsSlit es cs s
unfolding is_slit
slit_told es [] s h = absurd (false≢true h)
slit_told es (c ∷ cs) s h =
    let a = and_both (same_point c s.start) (int_eq s.finish.y s.start.y && (int_lt s.finish.x s.start.x && (some_on es s.finish && list_all (λ e. is_octilinear e && is_missed s e) es))) h in
    let b = and_both (int_eq s.finish.y s.start.y) (int_lt s.finish.x s.start.x && (some_on es s.finish && list_all (λ e. is_octilinear e && is_missed s e) es)) a.1 in
    let d = and_both (int_lt s.finish.x s.start.x) (some_on es s.finish && list_all (λ e. is_octilinear e && is_missed s e) es) b.1 in
    let f = and_both (some_on es s.finish) (list_all (λ e. is_octilinear e && is_missed s e) es) d.1 in
    record {
      others = cs;
      from = ap (λ q. q ∷ cs) (point_told c s.start a.0);
      level = eq_told s.finish.y s.start.y b.0;
      left = lt_told s.finish.x s.start.x d.0;
      stops = some_on_told es s.finish f.0;
      first = λ p y l r i. (
          let e = any_has (λ e. IsOn e p) es i in
          missed_told s e.0 p (record { level = eq_told s.finish.y s.start.y b.0; row = y; left = l; right = r }) (list_told (λ e. is_octilinear e && is_missed s e) es f.1 e.0 e.1) e.2);
    }

unfoldable pub are_slits : List Edge → List (List Point) → List Edge → Bool
are_slits es [] [] = true
are_slits es [] (s ∷ ss) = false
are_slits es (c ∷ cs) [] = false
are_slits es (c ∷ cs) (s ∷ ss) = is_slit es c s && are_slits es cs ss

slits_told : (es : List Edge) (cs : List (List Point)) (ss : List Edge) → are_slits es cs ss ≡ true → AllZip (IsSlit es) cs ss
unfolding are_slits
slits_told es [] [] h = tt
slits_told es [] (s ∷ ss) h = absurd (false≢true h)
slits_told es (c ∷ cs) [] h = absurd (false≢true h)
slits_told es (c ∷ cs) (s ∷ ss) h = let a = and_both (is_slit es c s) (are_slits es cs ss) h in (slit_told es c s a.0, slits_told es cs ss a.1)

pub rings_told : (es : List Edge) (ws : List (List Edge)) (slits : List Edge) (vs : List (List Edge))
    → is_round es ws ≡ true → are_slits es (holes_of (map loop_of ws)) slits ≡ true → is_round (with_slits es slits) vs ≡ true → AreRingsOf es (map bends vs)
rings_told es ws slits vs h k m = record {
  loops = map loop_of ws;
  are = loops_told es ws h;
  slits = slits;
  each = slits_told es (holes_of (map loop_of ws)) slits k;
  walks = vs;
  contours = round_told (with_slits es slits) vs m;
}
