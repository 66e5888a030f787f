-- One list of contours alone is right, and one list of loops.
use Rattle.std.proofs.Common.{◌≡◌, refl, sym, subst, ap, ◌∙◌, inl, inr, List, [], ◌∷◌, ◌++◌, Bool, true, false}
use Rattle.std.specs.Prelude.{map, ◌&&◌, ◌↔◌, IsTrue}
use Rattle.std.specs.List.{All, AllZip}
use Rattle.std.specs.Ordering.{int_eq}
use Rattle.std.specs.List.Sorted.{IsPermutation}
use Rattle.std.proofs.lemmas.List.Sorted.{IsPermutation-sym}
use Rattle.std.proofs.lemmas.Bool.Decides.{Decides-int_eq}
use Rattle.std.proofs.lemmas.Bool.{false≢true}
use Rattle.grid_num.specs.declared.Point.{Point}
use Rattle.plane.specs.Covering.{Edge}
use Rattle.rings.specs.Turning.{IsNextEdge}
use Rattle.rings.specs.Walks.{IsWalk, IsSameRound, IsListLess, IsContour, joined_walks, AreContours}
use Rattle.rings.specs.Loops.{Loop, IsHole, AreLoopsOf}
use Rattle.rings.proofs.Lists.{Has, has_head, has_of, of_has, has_left, has_right, has_parts, has_permuted, has_split, all_at, NoRepeats, no_repeats_left, no_repeats_right, no_repeats_round, no_repeats_permuted, IsTest, IsOrder, Rising, rising_of, rising_same, round_sym, zip_left, zip_right}
use Rattle.rings.proofs.Order.{point_same, list_order, contour_same}
use Rattle.rings.proofs.Walks.{HasOneNext, walk_round, walk_same, bends_round, hole_round}

-- ---- equality of edges can be tested
unfoldable pub same_edge : Edge → Edge → Bool
same_edge e f = (int_eq e.start.x f.start.x && int_eq e.start.y f.start.y) && (int_eq e.finish.x f.finish.x && int_eq e.finish.y f.finish.y)

pub edge_same : (e f : Edge) → e.start ≡ f.start → e.finish ≡ f.finish → e ≡ f
edge_same e f p q = ap (λ a. record { start = a; finish = e.finish }) p ∙ ap (λ b. record { start = f.start; finish = b }) q

pub and_both : (a b : Bool) → (a && b) ≡ true → (a ≡ true) × (b ≡ true)
and_both true b h = (refl, h)
and_both false b h = absurd (false≢true h)

both_and : (a b : Bool) → a ≡ true → b ≡ true → (a && b) ≡ true
both_and a b p q = ap (λ c. c && b) p ∙ q

pub same_tells : (e f : Edge) → same_edge e f ≡ true → f ≡ e
unfolding same_edge
same_tells e f h =
    let s = and_both (int_eq e.start.x f.start.x && int_eq e.start.y f.start.y) (int_eq e.finish.x f.finish.x && int_eq e.finish.y f.finish.y) h in
    let p = and_both (int_eq e.start.x f.start.x) (int_eq e.start.y f.start.y) s.0 in
    let q = and_both (int_eq e.finish.x f.finish.x) (int_eq e.finish.y f.finish.y) s.1 in
    sym (edge_same e f
    (point_same e.start f.start ((Decides-int_eq e.start.x f.start.x).0 p.0) ((Decides-int_eq e.start.y f.start.y).0 p.1))
    (point_same e.finish f.finish ((Decides-int_eq e.finish.x f.finish.x).0 q.0) ((Decides-int_eq e.finish.y f.finish.y).0 q.1)))

pub same_meets : (e : Edge) → same_edge e e ≡ true
unfolding same_edge
same_meets e =
    both_and (int_eq e.start.x e.start.x && int_eq e.start.y e.start.y) (int_eq e.finish.x e.finish.x && int_eq e.finish.y e.finish.y)
    (both_and (int_eq e.start.x e.start.x) (int_eq e.start.y e.start.y) ((Decides-int_eq e.start.x e.start.x).1 refl) ((Decides-int_eq e.start.y e.start.y).1 refl))
    (both_and (int_eq e.finish.x e.finish.x) (int_eq e.finish.y e.finish.y) ((Decides-int_eq e.finish.x e.finish.x).1 refl) ((Decides-int_eq e.finish.y e.finish.y).1 refl))

pub edge_test : IsTest same_edge
edge_test = record { tells = same_tells; meets = same_meets }

-- ---- walks that use the same edges
pub has_joined : (ws : List (List Edge)) (w : List Edge) (e : Edge) → Has ws w → Has w e → Has (joined_walks ws) e
unfolding Has
has_joined [] w e h i = absurd h
has_joined (v ∷ ws) w e (inl p) i = has_left v (joined_walks ws) e (subst (λ u. Has u e) (sym p) i)
has_joined (v ∷ ws) w e (inr h) i = has_right v (joined_walks ws) e (has_joined ws w e h i)

joined_has : (ws : List (List Edge)) (e : Edge) → Has (joined_walks ws) e → (w : List Edge) × Has ws w × Has w e
unfolding Has
joined_has [] e h = absurd h
joined_has (v ∷ ws) e h = elim (has_parts v (joined_walks ws) e h) [
  | inl i ↦ (v, inl refl, i)
  | inr i ↦ (let r = joined_has ws e i in (r.0, inr r.1, r.2))
]

no_repeats_joined : (ws : List (List Edge)) (w : List Edge) → NoRepeats (joined_walks ws) → Has ws w → NoRepeats w
unfolding Has
no_repeats_joined [] w n h = absurd h
no_repeats_joined (v ∷ ws) w n (inl p) = subst NoRepeats p (no_repeats_left v (joined_walks ws) n)
no_repeats_joined (v ∷ ws) w n (inr h) = no_repeats_joined ws w (no_repeats_right v (joined_walks ws) n) h

-- two lists have the same elements
pub record AreSame {X : Type 0} (xs ys : List X) : Type 0 where
  pub there : (x : X) → Has xs x → Has ys x
  pub back : (x : X) → Has ys x → Has xs x

pub same_back : {X : Type 0} (xs ys : List X) → AreSame xs ys → AreSame ys xs
same_back xs ys s = record { there = s.back; back = s.there }

next_again : (es fs : List Edge) (e f : Edge) → AreSame es fs → IsNextEdge es e f → IsNextEdge fs e f
next_again es fs e f s n = record {
  one = of_has fs f (s.there f (has_of es f n.one));
  joins = n.joins;
  first = λ g c j. n.first g (of_has es g (s.back g (has_of fs g c))) j;
}

pub walk_again : (es fs w : List Edge) → AreSame es fs → IsWalk es w → IsWalk fs w
walk_again es fs w s h = record { some = h.some; next = λ k d l. next_again es fs _ _ s (h.next k d l) }

-- the walks use each edge once
pub record IsUse (es : List Edge) (ws : List (List Edge)) : Type 0 where
  pub once : IsPermutation (joined_walks ws) es
  pub next : All (IsWalk es) ws

split_round : (us vs : List Edge) (a : Edge) → IsSameRound (us ++ a ∷ vs) (a ∷ vs ++ us)
split_round us vs a = record { front = us; back = a ∷ vs; was = refl; is = refl }

-- each walk of the one is a walk of the other, maybe begun elsewhere
pub walk_there : (es fs : List Edge) (ws vs : List (List Edge)) → HasOneNext es → NoRepeats es → NoRepeats fs → AreSame es fs → IsUse es ws → IsUse fs vs
    → (w : List Edge) → Has ws w → (v : List Edge) × Has vs v × IsSameRound v w
walk_there es fs ws vs o n m s u t w h = begun w h (all_at (IsWalk es) ws w u.next h) (no_repeats_joined ws w (no_repeats_permuted same_edge edge_test es (joined_walks ws) (IsPermutation-sym (joined_walks ws) es u.once) n) h)
  where
    found : (a : Edge) (xs : List Edge) → IsWalk es (a ∷ xs) → NoRepeats (a ∷ xs) → (v : List Edge) → Has vs v → Has v a → IsSameRound v (a ∷ xs)
    found a xs p q v i j =
        let k = has_split v a j in
        let r = subst (λ z. IsSameRound z (a ∷ k.1 ++ k.0)) (sym k.2) (split_round k.0 k.1 a) in
        let b = walk_again fs es v (same_back es fs s) (all_at (IsWalk fs) vs v t.next i) in
        let c = no_repeats_joined vs v (no_repeats_permuted same_edge edge_test fs (joined_walks vs) (IsPermutation-sym (joined_walks vs) fs t.once) m) i in
        subst (λ z. IsSameRound v (a ∷ z))
        (walk_same es o a (k.1 ++ k.0) xs (walk_round es v (a ∷ k.1 ++ k.0) r b) p (no_repeats_round v (a ∷ k.1 ++ k.0) r c) q) r

    begun : (w : List Edge) → Has ws w → IsWalk es w → NoRepeats w → (v : List Edge) × Has vs v × IsSameRound v w
    begun [] h p q = absurd (p.some refl)
    begun (a ∷ xs) h p q =
        let e = s.there a (has_permuted (joined_walks ws) es a u.once (has_joined ws (a ∷ xs) a h (has_head a xs))) in
        let v = joined_has vs a (has_permuted fs (joined_walks vs) a (IsPermutation-sym (joined_walks vs) fs t.once) e) in
        (v.0, v.1, found a xs p q v.0 v.1 v.2)

-- ---- contours
use_of : (es : List Edge) (ws : List (List Edge)) (cs : List (List Point)) → AreContours es ws cs → IsUse es ws
use_of es ws cs a = record { once = a.once; next = a.next }

contour_there : (es fs : List Edge) (ws vs : List (List Edge)) (cs bs : List (List Point)) → HasOneNext es → NoRepeats es → NoRepeats fs → AreSame es fs
    → AreContours es ws cs → AreContours fs vs bs → (c : List Point) → Has cs c → Has bs c
contour_there es fs ws vs cs bs o n m s a b c h =
    let w = zip_right IsContour ws cs a.draw c h in
    let v = walk_there es fs ws vs o n m s (use_of es ws cs a) (use_of fs vs bs b) w.0 w.1 in
    let d = zip_left IsContour vs bs b.draw v.0 v.1 in
    subst (Has bs) (sym (contour_same w.0 v.0 c d.0 (bends_round w.0 v.0 (round_sym v.0 w.0 v.2)) w.2 d.2)) d.1

pub one_next_again : (es fs : List Edge) → AreSame es fs → HasOneNext es → HasOneNext fs
unfolding HasOneNext
one_next_again es fs s o e f g p q = o e f g (next_again fs es e f (same_back es fs s) p) (next_again fs es e g (same_back es fs s) q)

pub contours_one : (es fs : List Edge) (ws vs : List (List Edge)) (cs bs : List (List Point)) → HasOneNext es → NoRepeats es → NoRepeats fs → AreSame es fs
    → AreContours es ws cs → AreContours fs vs bs → cs ≡ bs
contours_one es fs ws vs cs bs o n m s a b =
    rising_same IsListLess list_order cs bs (rising_of IsListLess cs a.order) (rising_of IsListLess bs b.order)
    (contour_there es fs ws vs cs bs o n m s a b)
    (contour_there fs es vs ws bs cs (one_next_again es fs s o) m n (same_back es fs s) b a)

-- ---- loops
abbrev pub corners_of : Loop → List Point
corners_of l = l.corners

LoopLess : Loop → Loop → Type 0
LoopLess l k = IsListLess l.corners k.corners

loop_order : IsOrder LoopLess
unfolding LoopLess
loop_order = record { never = λ l. list_order.never l.corners; on = λ l k m. list_order.on l.corners k.corners m.corners }

has_mapped : (ls : List Loop) (l : Loop) → Has ls l → Has (map corners_of ls) l.corners
unfolding Has
has_mapped [] l h = absurd h
has_mapped (k ∷ ls) l (inl e) = inl (ap corners_of e)
has_mapped (k ∷ ls) l (inr h) = inr (has_mapped ls l h)

loops_rising : (ls : List Loop) → Rising IsListLess (map corners_of ls) → Rising LoopLess ls
unfolding Rising LoopLess
loops_rising [] r = tt
loops_rising (l ∷ ls) r = (λ k h. r.0 k.corners (has_mapped ls k h), loops_rising ls r.1)

-- a loop with its walk
pub record IsDrawn (w : List Edge) (l : Loop) : Type 0 where
  pub contour : IsContour w l.corners
  pub hole : IsTrue l.hole ↔ IsHole w

pub drawn : (ws : List (List Edge)) (ls : List Loop) → AllZip IsContour ws (map corners_of ls) → AllZip (λ w l. IsTrue l.hole ↔ IsHole w) ws ls → AllZip IsDrawn ws ls
drawn [] [] z y = tt
drawn [] (l ∷ ls) z y = absurd y
drawn (w ∷ ws) [] z y = absurd y
drawn (w ∷ ws) (l ∷ ls) z y = (record { contour = z.0; hole = y.0 }, drawn ws ls z.1 y.1)

bool_same : (a b : Bool) → (a ≡ true → b ≡ true) → (b ≡ true → a ≡ true) → a ≡ b
bool_same true b f g = sym (f refl)
bool_same false true f g = g refl
bool_same false false f g = refl

loop_same : (w v : List Edge) (l k : Loop) → IsSameRound v w → IsDrawn w l → IsDrawn v k → l ≡ k
loop_same w v l k r d e =
    let p = contour_same w v l.corners k.corners (bends_round w v (round_sym v w r)) d.contour e.contour in
    let q = bool_same l.hole k.hole (λ h. (e.hole).1 (hole_round w v (round_sym v w r) ((d.hole).0 h))) (λ h. (d.hole).1 (hole_round v w r ((e.hole).0 h))) in
    ap (λ c. record { corners = c; hole = l.hole }) p ∙ ap (λ h. record { corners = k.corners; hole = h }) q

loop_there : (es fs : List Edge) (ls ks : List Loop) → HasOneNext es → NoRepeats es → NoRepeats fs → AreSame es fs → AreLoopsOf es ls → AreLoopsOf fs ks
    → (l : Loop) → Has ls l → Has ks l
loop_there es fs ls ks o n m s a b l h =
    let w = zip_right IsDrawn a.walks ls (drawn a.walks ls (a.contours).draw a.holes) l h in
    let v = walk_there es fs a.walks b.walks o n m s (use_of es a.walks (map corners_of ls) a.contours) (use_of fs b.walks (map corners_of ks) b.contours) w.0 w.1 in
    let k = zip_left IsDrawn b.walks ks (drawn b.walks ks (b.contours).draw b.holes) v.0 v.1 in
    subst (Has ks) (sym (loop_same w.0 v.0 l k.0 v.2 w.2 k.2)) k.1

pub loops_one : (es fs : List Edge) (ls ks : List Loop) → HasOneNext es → NoRepeats es → NoRepeats fs → AreSame es fs → AreLoopsOf es ls → AreLoopsOf fs ks → ls ≡ ks
loops_one es fs ls ks o n m s a b =
    rising_same LoopLess loop_order ls ks
    (loops_rising ls (rising_of IsListLess (map corners_of ls) (a.contours).order))
    (loops_rising ks (rising_of IsListLess (map corners_of ks) (b.contours).order))
    (loop_there es fs ls ks o n m s a b)
    (loop_there fs es ks ls (one_next_again es fs s o) m n (same_back es fs s) b a)
