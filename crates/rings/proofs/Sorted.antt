-- Walks with their contours, put into order.
use Rattle.std.proofs.Common.{◌≡◌, refl, sym, subst, ap, inl, inr, arith, List, [], ◌∷◌, ◌++◌}
use Rattle.std.specs.Prelude.{map, AllPairs, IsTrue, ◌↔◌}
use Rattle.std.specs.List.{AllZip}
use Rattle.std.specs.List.Sorted.{IsPermutation}
use Rattle.std.proofs.lemmas.List.{append_assoc}
use Rattle.std.proofs.lemmas.List.Kept.{AllPairs-cons}
use Rattle.std.proofs.lemmas.List.Sorted.{IsPermutation-refl, IsPermutation-cons, IsPermutation-trans, IsPermutation-sym, IsPermutation-insert, IsPermutation-append_right, IsPermutation-append_left, IsPermutation-append_comm}
use Rattle.grid_num.specs.declared.Point.{Point}
use Rattle.plane.specs.Covering.{Edge}
use Rattle.rings.specs.Walks.{IsWalk, IsListLess, IsContour, joined_walks, AreContours}
use Rattle.rings.specs.Loops.{Loop, IsHole, AreLoopsOf}
use Rattle.rings.proofs.Lists.{Has, has_permuted, all_of, NoRepeats, no_repeats_right, no_repeats_apart, no_repeats_permuted, Rising}
use Rattle.rings.proofs.Order.{list_cases, list_order}
use Rattle.rings.proofs.Turning.{AreApart}
use Rattle.rings.proofs.Parted.{AreGood, parted_apart}
use Rattle.rings.proofs.Unique.{edge_test, same_edge, has_joined}
use Rattle.rings.proofs.Contours.{contour_of, contours_differ}
use Rattle.rings.proofs.Checks.{is_hole, hole_exact}
use Rattle.rings.proofs.Rings.{AreTidy}
use Rattle.rings.proofs.Near.{Alternate, near_next, one_to_one}
use Rattle.rings.proofs.Orbits.{orbits}

-- a walk with its contour
record Drawn : Type 0 where
  walk : List Edge
  corners : List Point
  contour : IsContour walk corners

walks_of : List Drawn → List (List Edge)
walks_of ds = map (λ d. d.walk) ds

IsEarlier : Drawn → Drawn → Type 0
IsEarlier d e = IsListLess d.corners e.corners

pub blocks : (p q : List Edge) (js : List Edge) → IsPermutation (p ++ (q ++ js)) (q ++ (p ++ js))
blocks p q js =
    subst (λ zs. IsPermutation zs (q ++ (p ++ js))) (append_assoc p q js)
    (subst (IsPermutation (p ++ q ++ js)) (append_assoc q p js) (IsPermutation-append_left js (p ++ q) (q ++ p) (IsPermutation-append_comm p q)))

-- ---- insertion
record IsInserted (d : Drawn) (ds : List Drawn) : Type 0 where
  list : List Drawn
  perm : IsPermutation (d ∷ ds) list
  edges : IsPermutation (joined_walks (walks_of (d ∷ ds))) (joined_walks (walks_of list))
  rising : Rising IsEarlier list

inserted : (d : Drawn) (ds : List Drawn) → Rising IsEarlier ds → ((e : Drawn) → Has ds e → d.corners ≡ e.corners → ⊥) → IsInserted d ds
unfolding Rising Has IsEarlier walks_of
inserted d [] r f = record { list = d ∷ []; perm = IsPermutation-refl (d ∷ []); edges = IsPermutation-refl (d.walk ++ []); rising = (λ e h. absurd h, tt) }
inserted d (e ∷ ds) r f = elim (list_cases d.corners e.corners) [
  | inl l ↦ record {
    list = d ∷ e ∷ ds;
    perm = IsPermutation-refl (d ∷ e ∷ ds);
    edges = IsPermutation-refl (joined_walks (walks_of (d ∷ e ∷ ds)));
    rising = (λ g h. elim h [ inl k ↦ subst (λ z. IsListLess d.corners z.corners) k l | inr h ↦ list_order.on d.corners e.corners g.corners l (r.0 g h) ], r);
  }
  | inr o ↦ elim o [
    | inl k ↦ absurd (f e (inl refl) k)
    | inr l ↦ (let i = inserted d ds r.1 (λ g h. f g (inr h)) in record {
      list = e ∷ i.list;
      perm = IsPermutation-trans (d ∷ e ∷ ds) (e ∷ d ∷ ds) (e ∷ i.list) (IsPermutation-insert (e ∷ ds) 1 d) (IsPermutation-cons e (d ∷ ds) i.list i.perm);
      edges = IsPermutation-trans (d.walk ++ (e.walk ++ joined_walks (walks_of ds))) (e.walk ++ (d.walk ++ joined_walks (walks_of ds))) (e.walk ++ joined_walks (walks_of i.list)) (blocks d.walk e.walk (joined_walks (walks_of ds)))
          (IsPermutation-append_right e.walk (d.walk ++ joined_walks (walks_of ds)) (joined_walks (walks_of i.list)) i.edges);
      rising = (λ g h. elim (has_permuted i.list (d ∷ ds) g (IsPermutation-sym (d ∷ ds) i.list i.perm) h) [ inl k ↦ subst (λ z. IsListLess e.corners z.corners) k l | inr h ↦ r.0 g h ], i.rising);
    })
  ]
]

-- ---- sorting
unfoldable NoTwins : List Drawn → Type 0
NoTwins [] = Unit {0}
NoTwins (d ∷ ds) = ((e : Drawn) → Has ds e → d.corners ≡ e.corners → ⊥) × NoTwins ds

record IsSorted (ds : List Drawn) : Type 0 where
  list : List Drawn
  perm : IsPermutation ds list
  edges : IsPermutation (joined_walks (walks_of ds)) (joined_walks (walks_of list))
  rising : Rising IsEarlier list

sorted : (ds : List Drawn) → NoTwins ds → IsSorted ds
unfolding NoTwins Rising walks_of
sorted [] n = record { list = []; perm = IsPermutation-refl []; edges = IsPermutation-refl []; rising = tt }
sorted (d ∷ ds) n =
    let s = sorted ds n.1 in
    let i = inserted d s.list s.rising (λ e h k. n.0 e (has_permuted s.list ds e (IsPermutation-sym ds s.list s.perm) h) k) in
    record {
      list = i.list;
      perm = IsPermutation-trans (d ∷ ds) (d ∷ s.list) i.list (IsPermutation-cons d ds s.list s.perm) i.perm;
      edges = IsPermutation-trans (d.walk ++ joined_walks (walks_of ds)) (d.walk ++ joined_walks (walks_of s.list)) (joined_walks (walks_of i.list))
          (IsPermutation-append_right d.walk (joined_walks (walks_of ds)) (joined_walks (walks_of s.list)) s.edges) i.edges;
      rising = i.rising;
    }

-- ---- the contours of all walks
drawn_all : List (List Edge) → List Drawn
drawn_all [] = []
drawn_all (w ∷ ws) = (let c = contour_of w in record { walk = w; corners = c.0; contour = c.1 }) ∷ drawn_all ws

drawn_walks : (ws : List (List Edge)) → walks_of (drawn_all ws) ≡ ws
unfolding drawn_all walks_of
drawn_walks [] = refl
drawn_walks (w ∷ ws) = ap (λ vs. w ∷ vs) (drawn_walks ws)

has_walk : (ds : List Drawn) (d : Drawn) → Has ds d → Has (walks_of ds) d.walk
unfolding walks_of Has
has_walk [] d h = h
has_walk (e ∷ ds) d (inl k) = inl (ap (λ z. z.walk) k)
has_walk (e ∷ ds) d (inr h) = inr (has_walk ds d h)

no_twins : (es : List Edge) (ds : List Drawn) → AreGood es → AreApart es → ((w : List Edge) → Has (walks_of ds) w → IsWalk es w) → NoRepeats (joined_walks (walks_of ds)) → NoTwins ds
unfolding NoTwins walks_of Has
no_twins es [] g a i n = tt
no_twins es (d ∷ ds) g a i n = (
  λ e h k. contours_differ es d.walk e.walk e.corners g a (i d.walk (inl refl)) (i e.walk (inr (has_walk ds e h))) (subst (IsContour d.walk) k d.contour) e.contour
      (λ x p q. no_repeats_apart d.walk (joined_walks (walks_of ds)) x n p (has_joined (walks_of ds) e.walk x (has_walk ds e h) q)),
  no_twins es ds g a (λ w h. i w (inr h)) (no_repeats_right d.walk (joined_walks (walks_of ds)) n),
)

corners_of : List Drawn → List (List Point)
corners_of ds = map (λ d. d.corners) ds

zip_drawn : (ds : List Drawn) → AllZip IsContour (walks_of ds) (corners_of ds)
unfolding walks_of corners_of
zip_drawn [] = tt
zip_drawn (d ∷ ds) = (d.contour, zip_drawn ds)

corners_has : (ds : List Drawn) (c : List Point) → Has (corners_of ds) c → (d : Drawn) × Has ds d × (d.corners ≡ c)
unfolding corners_of Has
corners_has [] c h = absurd h
corners_has (d ∷ ds) c (inl k) = (d, inl refl, k)
corners_has (d ∷ ds) c (inr h) = let r = corners_has ds c h in (r.0, inr r.1, r.2)

rising_pairs : (ds : List Drawn) → Rising IsEarlier ds → AllPairs IsListLess (corners_of ds)
unfolding Rising IsEarlier corners_of
rising_pairs [] r = λ i j d l m. absurd (omega (arith, m))
rising_pairs (d ∷ ds) r =
    AllPairs-cons IsListLess d.corners (corners_of ds)
    (all_of (IsListLess d.corners) (corners_of ds) (λ c h. (let e = corners_has ds c h in subst (IsListLess d.corners) e.2 (r.0 e.0 e.1))))
    (rising_pairs ds r.1)

walk_has_of : (ds : List Drawn) (w : List Edge) → Has (walks_of ds) w → (d : Drawn) × Has ds d × (d.walk ≡ w)
unfolding walks_of Has
walk_has_of [] w h = absurd h
walk_has_of (d ∷ ds) w (inl k) = (d, inl refl, k)
walk_has_of (d ∷ ds) w (inr h) = let r = walk_has_of ds w h in (r.0, inr r.1, r.2)

-- edges with their walks and contours in order
pub record AreDrawn (es : List Edge) : Type 0 where
  pub walks : List (List Edge)
  pub corners : List (List Point)
  pub are : AreContours es walks corners

pub are_drawn : (es : List Edge) → AreTidy es → Alternate es → AreDrawn es
unfolding Alternate
are_drawn es t a =
    let o = orbits es t.once (λ e h. (let n = a e h in (n.0, near_next es e n.0 n.1))) (one_to_one es t a) in
    let ds = drawn_all o.walks in
    let same = drawn_walks o.walks in
    let perm : IsPermutation (joined_walks (walks_of ds)) es = subst (λ ws. IsPermutation (joined_walks ws) es) (sym same) o.perm in
    let walk : (w : List Edge) → Has (walks_of ds) w → IsWalk es w = λ w h. o.are w (subst (λ ws. Has ws w) same h) in
    let n = no_repeats_permuted same_edge edge_test es (joined_walks (walks_of ds)) (IsPermutation-sym (joined_walks (walks_of ds)) es perm) t.once in
    let s = sorted ds (no_twins es ds t.good (parted_apart es t.good t.parted) walk n) in
    record {
      walks = walks_of s.list;
      corners = corners_of s.list;
      are = record {
        once = IsPermutation-trans (joined_walks (walks_of s.list)) (joined_walks (walks_of ds)) es (IsPermutation-sym (joined_walks (walks_of ds)) (joined_walks (walks_of s.list)) s.edges) perm;
        next = all_of (IsWalk es) (walks_of s.list) (λ w h. (let d = walk_has_of s.list w h in
            walk w (subst (Has (walks_of ds)) d.2 (has_walk ds d.0 (has_permuted s.list ds d.0 (IsPermutation-sym ds s.list s.perm) d.1)))));
        draw = zip_drawn s.list;
        order = rising_pairs s.list s.rising;
      };
    }

-- ---- loops
loops_from : List (List Edge) → List (List Point) → List Loop
loops_from [] cs = []
loops_from (w ∷ ws) [] = []
loops_from (w ∷ ws) (c ∷ cs) = record { corners = c; hole = is_hole w } ∷ loops_from ws cs

from_corners : (ws : List (List Edge)) (cs : List (List Point)) → AllZip IsContour ws cs → map (λ l. l.corners) (loops_from ws cs) ≡ cs
unfolding loops_from
from_corners [] [] z = refl
from_corners [] (c ∷ cs) z = absurd z
from_corners (w ∷ ws) [] z = absurd z
from_corners (w ∷ ws) (c ∷ cs) z = ap (λ zs. c ∷ zs) (from_corners ws cs z.1)

from_holes : (ws : List (List Edge)) (cs : List (List Point)) → AllZip IsContour ws cs → AllZip (λ w l. IsTrue l.hole ↔ IsHole w) ws (loops_from ws cs)
unfolding loops_from
from_holes [] [] z = tt
from_holes [] (c ∷ cs) z = absurd z
from_holes (w ∷ ws) [] z = absurd z
from_holes (w ∷ ws) (c ∷ cs) z = (hole_exact w, from_holes ws cs z.1)

pub loops_exist : (es : List Edge) → AreTidy es → Alternate es → (loops : List Loop) × AreLoopsOf es loops
loops_exist es t a =
    let d = are_drawn es t a in (
      loops_from d.walks d.corners,
      record {
        walks = d.walks;
        contours = subst (AreContours es d.walks) (sym (from_corners d.walks d.corners (d.are).draw)) d.are;
        holes = from_holes d.walks d.corners (d.are).draw;
      },
    )
