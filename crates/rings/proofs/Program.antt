-- The program's contours, their order, and its loops are right.
use Rattle.std.proofs.Common.{◌≡◌, refl, sym, subst, ap, ◌∙◌, ◌⊎◌, inl, inr, arith, List, [], ◌∷◌, ◌++◌, length, Bool, true, false, get_or, drop}
use Rattle.std.specs.Prelude.{◌&&◌, ◌||◌, int_lt, map, AllPairs}
use Rattle.std.specs.List.{AllZip}
use Rattle.std.specs.Ordering.{int_eq}
use Rattle.std.specs.List.Sorted.{IsPermutation}
use Rattle.std.proofs.lemmas.Bool.{false≢true}
use Rattle.std.proofs.lemmas.List.{append-nil, append_assoc}
use Rattle.std.proofs.lemmas.List.Kept.{AllPairs-cons}
use Rattle.std.proofs.lemmas.List.Sorted.{IsPermutation-refl, IsPermutation-trans, IsPermutation-sym, IsPermutation-append_right}
use Rattle.grid_num.specs.declared.Point.{Point}
use Rattle.plane.specs.Covering.{Edge}
use Rattle.rings.specs.Walks.{bends, IsWalk, IsListLess, IsSameRound, IsContour, joined_walks, AreContours}
use Rattle.rings.specs.Inner.Tracing.{is_same_point, is_less_point, is_less_list, lesser_list, least_from, contour_of, Drawing, put_in_order, in_corner_order, drawings_of, walks_of}
use Rattle.rings.proofs.Lists.{Has, all_of, NoRepeats, no_repeats_right, no_repeats_apart, no_repeats_permuted, round_trans, Rising}
use Rattle.rings.proofs.Order.{list_cases, list_order}
use Rattle.rings.proofs.Turning.{AreApart}
use Rattle.rings.proofs.Parted.{AreGood, parted_apart}
use Rattle.rings.proofs.Unique.{edge_test, same_edge, has_joined}
use Rattle.rings.proofs.Checks.{same_point, less_point, less_list, less_list_told, list_meets}
use Rattle.rings.proofs.Contours.{contours_differ}
use Rattle.rings.proofs.Sorted.{blocks}
use Rattle.rings.proofs.Rings.{AreTidy, tidy_next}
use Rattle.rings.proofs.Near.{Alternate, near_next, one_to_one}
use Rattle.rings.proofs.Orbits.{IsClosed}
use Rattle.rings.proofs.Tracing.{walks_are}

bool_cases : (b : Bool) → (b ≡ true) ⊎ (b ≡ false)
bool_cases true = inl refl
bool_cases false = inr refl

-- ---- tests
lists_same : (cs ds : List Point) → is_less_list cs ds ≡ less_list cs ds
unfolding is_less_list less_list is_less_point less_point is_same_point same_point
lists_same cs [] = refl
lists_same [] (d ∷ ds) = refl
lists_same (c ∷ cs) (d ∷ ds) = ap (λ b. (int_lt c.y d.y || (int_eq c.y d.y && int_lt c.x d.x)) || ((int_eq c.x d.x && int_eq c.y d.y) && b)) (lists_same cs ds)

list_told : (cs ds : List Point) → is_less_list cs ds ≡ true → IsListLess cs ds
list_told cs ds h = less_list_told cs ds (sym (lists_same cs ds) ∙ h)

list_none : (cs ds : List Point) → is_less_list cs ds ≡ false → IsListLess cs ds → ⊥
list_none cs ds h l = false≢true (sym h ∙ lists_same cs ds ∙ list_meets cs ds l)

-- ---- contours
IsLeast : List Point → List Point → List Point → Type 0
IsLeast front back best = (more rest : List Point) → back ≡ more ++ rest → IsListLess (rest ++ (front ++ more)) best → ⊥

ends_empty : (more rest : List Point) → [] ≡ more ++ rest → (more ≡ []) × (rest ≡ [])
ends_empty [] rest k = (refl, sym k)
ends_empty (a ∷ more) rest k = absurd (let l = ap length k in omega (arith, l))

least_more : (front : List Point) (b : Point) (back r best : List Point) → IsLeast (front ++ b ∷ []) back r → (IsListLess (b ∷ back ++ front) best → ⊥) → ((xs : List Point) → IsListLess xs best → IsListLess xs r) → IsLeast front (b ∷ back) best
unfolding IsLeast
least_more front b back r best f n g [] rest k l = n (subst (λ zs. IsListLess zs best) (ap (λ zs. rest ++ zs) (append-nil front) ∙ ap (λ zs. zs ++ front) (sym k)) l)
least_more front b back r best f n g (m ∷ more) rest k l =
    f more rest (ap (drop 1) k)
    (subst (λ zs. IsListLess (rest ++ zs) r) (ap (λ z. front ++ z ∷ more) (sym (ap (λ zs. get_or zs 0 b) k)) ∙ sym (append_assoc front (b ∷ []) more)) (g (rest ++ (front ++ m ∷ more)) l))

record IsBest (cs front back best : List Point) : Type 0 where
  round : IsSameRound cs best
  least : IsLeast front back best

lesser_yes : (cs ds : List Point) → is_less_list cs ds ≡ true → lesser_list cs ds ≡ cs
unfolding lesser_list
lesser_yes cs ds h = rw h refl

lesser_no : (cs ds : List Point) → is_less_list cs ds ≡ false → lesser_list cs ds ≡ ds
unfolding lesser_list
lesser_no cs ds h = rw h refl

best_is : (cs front back : List Point) → cs ≡ front ++ back → IsBest cs front back (least_from front back)
unfolding least_from IsLeast
best_is cs front [] e = record {
  round = record { front = front; back = []; was = e; is = refl };
  least = λ more rest k l. (let n = ends_empty more rest k in list_order.never front (subst (λ zs. IsListLess zs front) (ap (λ zs. zs ++ (front ++ more)) n.1 ∙ ap (λ zs. front ++ zs) n.0 ∙ append-nil front) l));
}
best_is cs front (b ∷ back) e = at (best_is cs (front ++ b ∷ []) back (e ∙ sym (append_assoc front (b ∷ []) back))) (bool_cases (is_less_list (b ∷ back ++ front) (least_from (front ++ b ∷ []) back)))
  where
    here : List Point
    here = b ∷ back ++ front

    there : List Point
    there = least_from (front ++ b ∷ []) back

    at : IsBest cs (front ++ b ∷ []) back there → (is_less_list here there ≡ true) ⊎ (is_less_list here there ≡ false) → IsBest cs front (b ∷ back) (lesser_list here there)
    at r (inl h) = subst (IsBest cs front (b ∷ back)) (sym (lesser_yes here there h)) (record {
      round = record { front = front; back = b ∷ back; was = e; is = refl };
      least = least_more front b back there here r.least (list_order.never here) (λ xs l. list_order.on xs here there l (list_told here there h));
    })
    at r (inr h) = subst (IsBest cs front (b ∷ back)) (sym (lesser_no here there h)) (record {
      round = r.round;
      least = least_more front b back there there r.least (list_none here there h) (λ xs l. l);
    })

contour_is : (w : List Edge) → IsContour w (contour_of w)
unfolding contour_of IsLeast
contour_is w =
    let b = best_is (bends w) [] (bends w) refl in
    let c = least_from [] (bends w) in
    record {
      round = b.round;
      least = λ others r l. (let q = round_trans (bends w) c others b.round r in b.least q.front q.back q.was (subst (λ zs. IsListLess zs c) q.is l));
    }

-- ---- order
walks_in : List Drawing → List (List Edge)
walks_in ds = map (λ d. d.walk) ds

corners_in : List Drawing → List (List Point)
corners_in ds = map (λ d. d.corners) ds

IsEarlier : Drawing → Drawing → Type 0
IsEarlier d e = IsListLess d.corners e.corners

record IsPut (d : Drawing) (ds new : List Drawing) : Type 0 where
  there : (e : Drawing) → Has new e → Has (d ∷ ds) e
  edges : IsPermutation (joined_walks (walks_in (d ∷ ds))) (joined_walks (walks_in new))
  rising : Rising IsEarlier new

put_yes : (d e : Drawing) (ds : List Drawing) → is_less_list d.corners e.corners ≡ true → put_in_order d (e ∷ ds) ≡ d ∷ e ∷ ds
unfolding put_in_order
put_yes d e ds h = rw h refl

put_no : (d e : Drawing) (ds : List Drawing) → is_less_list d.corners e.corners ≡ false → put_in_order d (e ∷ ds) ≡ e ∷ put_in_order d ds
unfolding put_in_order
put_no d e ds h = rw h refl

put_is : (d : Drawing) (ds : List Drawing) → Rising IsEarlier ds → ((e : Drawing) → Has ds e → d.corners ≡ e.corners → ⊥) → IsPut d ds (put_in_order d ds)
unfolding put_in_order Rising Has IsEarlier walks_in
put_is d [] r f = record { there = λ e h. h; edges = IsPermutation-refl (d.walk ++ []); rising = (λ e h. absurd h, tt) }
put_is d (e ∷ ds) r f = at (bool_cases (is_less_list d.corners e.corners)) (put_is d ds r.1 (λ g h. f g (inr h)))
  where
    later : (is_less_list d.corners e.corners ≡ false) → IsListLess e.corners d.corners
    later h = elim (list_cases d.corners e.corners) [
      | inl l ↦ absurd (list_none d.corners e.corners h l)
      | inr o ↦ elim o [ inl k ↦ absurd (f e (inl refl) k) | inr l ↦ l ]
    ]

    at : (is_less_list d.corners e.corners ≡ true) ⊎ (is_less_list d.corners e.corners ≡ false) → IsPut d ds (put_in_order d ds) → IsPut d (e ∷ ds) (put_in_order d (e ∷ ds))
    at (inl h) i =
        let l = list_told d.corners e.corners h in
        subst (IsPut d (e ∷ ds)) (sym (put_yes d e ds h)) (record {
          there = λ g j. j;
          edges = IsPermutation-refl (joined_walks (walks_in (d ∷ e ∷ ds)));
          rising = (λ g j. elim j [ inl k ↦ subst (λ z. IsListLess d.corners z.corners) k l | inr j ↦ list_order.on d.corners e.corners g.corners l (r.0 g j) ], r);
        })
    at (inr h) i =
        let l = later h in
        subst (IsPut d (e ∷ ds)) (sym (put_no d e ds h)) (record {
          there = λ g j. elim j [ inl k ↦ inr (inl k) | inr j ↦ elim (i.there g j) [ inl k ↦ inl k | inr j ↦ inr (inr j) ] ];
          edges = IsPermutation-trans (d.walk ++ (e.walk ++ joined_walks (walks_in ds))) (e.walk ++ (d.walk ++ joined_walks (walks_in ds))) (e.walk ++ joined_walks (walks_in (put_in_order d ds))) (blocks d.walk e.walk (joined_walks (walks_in ds)))
              (IsPermutation-append_right e.walk (d.walk ++ joined_walks (walks_in ds)) (joined_walks (walks_in (put_in_order d ds))) i.edges);
          rising = (λ g j. elim (i.there g j) [ inl k ↦ subst (λ z. IsListLess e.corners z.corners) k l | inr j ↦ r.0 g j ], i.rising);
        })

-- the drawings of walks, in order
record AreInOrder (ws : List (List Edge)) (ds : List Drawing) : Type 0 where
  pub draw : (d : Drawing) → Has ds d → Has ws d.walk × IsContour d.walk d.corners
  pub edges : IsPermutation (joined_walks ws) (joined_walks (walks_in ds))
  pub rising : Rising IsEarlier ds

in_order_is : (es : List Edge) (ws : List (List Edge)) → AreGood es → AreApart es → ((w : List Edge) → Has ws w → IsWalk es w) → NoRepeats (joined_walks ws) → AreInOrder ws (in_corner_order ws)
unfolding in_corner_order Rising Has walks_in
in_order_is es [] g a i n = record { draw = λ d h. absurd h; edges = IsPermutation-refl []; rising = tt }
in_order_is es (w ∷ ws) g a i n =
    let r = in_order_is es ws g a (λ v h. i v (inr h)) (no_repeats_right w (joined_walks ws) n) in
    let d : Drawing = record { walk = w; corners = contour_of w } in
    let p = put_is d (in_corner_order ws) r.rising
    (λ e h k. (let v = r.draw e h in contours_differ es w e.walk e.corners g a (i w (inl refl)) (i e.walk (inr v.0)) (subst (IsContour w) k (contour_is w)) v.1
    (λ x y z. no_repeats_apart w (joined_walks ws) x n y (has_joined ws e.walk x v.0 z)))) in
    record {
      draw = λ e h. elim (p.there e h) [
        | inl k ↦ (inl (ap (λ z. z.walk) k), subst (λ z. IsContour z.walk z.corners) k (contour_is w))
        | inr h ↦ (let v = r.draw e h in (inr v.0, v.1))
      ];
      edges = IsPermutation-trans (w ++ joined_walks ws) (w ++ joined_walks (walks_in (in_corner_order ws))) (joined_walks (walks_in (put_in_order d (in_corner_order ws)))) (IsPermutation-append_right w (joined_walks ws) (joined_walks (walks_in (in_corner_order ws))) r.edges) p.edges;
      rising = p.rising;
    }

zip_in : (ds : List Drawing) → ((d : Drawing) → Has ds d → IsContour d.walk d.corners) → AllZip IsContour (walks_in ds) (corners_in ds)
unfolding walks_in corners_in Has
zip_in [] f = tt
zip_in (d ∷ ds) f = (f d (inl refl), zip_in ds (λ e h. f e (inr h)))

corners_has : (ds : List Drawing) (c : List Point) → Has (corners_in ds) c → (d : Drawing) × Has ds d × (d.corners ≡ c)
unfolding corners_in Has
corners_has [] c h = absurd h
corners_has (d ∷ ds) c (inl k) = (d, inl refl, k)
corners_has (d ∷ ds) c (inr h) = let r = corners_has ds c h in (r.0, inr r.1, r.2)

walks_has : (ds : List Drawing) (w : List Edge) → Has (walks_in ds) w → (d : Drawing) × Has ds d × (d.walk ≡ w)
unfolding walks_in Has
walks_has [] w h = absurd h
walks_has (d ∷ ds) w (inl k) = (d, inl refl, k)
walks_has (d ∷ ds) w (inr h) = let r = walks_has ds w h in (r.0, inr r.1, r.2)

rising_pairs : (ds : List Drawing) → Rising IsEarlier ds → AllPairs IsListLess (corners_in ds)
unfolding Rising IsEarlier corners_in
rising_pairs [] r = λ i j d l m. absurd (omega (arith, m))
rising_pairs (d ∷ ds) r =
    AllPairs-cons IsListLess d.corners (corners_in ds)
    (all_of (IsListLess d.corners) (corners_in ds) (λ c h. (let e = corners_has ds c h in subst (IsListLess d.corners) e.2 (r.0 e.0 e.1))))
    (rising_pairs ds r.1)

-- ---- the drawings of all edges
pub drawings_are : (es : List Edge) → AreTidy es → Alternate es → AreContours es (map (λ d. d.walk) (drawings_of es)) (map (λ d. d.corners) (drawings_of es))
unfolding Alternate IsClosed drawings_of walks_in corners_in
drawings_are es t a =
    let r = walks_are (length es) es es (tidy_next es t) (one_to_one es t a)
    (record { closed = λ e h. (let n = a e h in (n.0, near_next es e n.0 n.1, (n.1).one)); inside = λ e h. h; once = t.once }) (omega arith) in
    let ws = walks_of (length es) es es in
    let n = no_repeats_permuted same_edge edge_test es (joined_walks ws) (IsPermutation-sym (joined_walks ws) es r.perm) t.once in
    let o = in_order_is es ws t.good (parted_apart es t.good t.parted) r.are n in
    let ds = in_corner_order ws in
    record {
      once = IsPermutation-trans (joined_walks (walks_in ds)) (joined_walks ws) es (IsPermutation-sym (joined_walks ws) (joined_walks (walks_in ds)) o.edges) r.perm;
      next = all_of (IsWalk es) (walks_in ds) (λ w h. (let d = walks_has ds w h in subst (IsWalk es) d.2 (r.are d.0.walk (o.draw d.0 d.1).0)));
      draw = zip_in ds (λ d h. (o.draw d h).1);
      order = rising_pairs ds o.rising;
    }
