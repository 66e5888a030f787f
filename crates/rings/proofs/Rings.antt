-- The edges with the slits don't overlap, and none stands twice; so one list of rings alone is right.
use Rattle.std.proofs.Common.{◌≡◌, refl, sym, subst, ap, ◌∙◌, ◌⊎◌, inl, inr, arith, List, [], ◌∷◌, ◌++◌, Bool, true, false}
use Rattle.std.specs.List.{AllZip, filter}
use Rattle.std.proofs.lemmas.Int.{ints}
use Rattle.std.proofs.lemmas.List.Sorted.{IsPermutation-sym}
use Rattle.plane.specs.Plane.{grid_point}
use Rattle.grid_num.specs.declared.Point.{Point}
use Rattle.plane.specs.Covering.{Edge, IsOn}
use Rattle.plane.specs.Edges.{turned_back, both_ways}
use Rattle.plane.proofs.CoverLaws.{start_on}
use Rattle.rings.specs.Turning.{direction}
use Rattle.rings.specs.Walks.{IsWalk, joined_walks, IsContour}
use Rattle.rings.specs.Loops.{Loop, AreLoopsOf}
use Rattle.rings.specs.Slits.{IsSlit, cut_by}
use Rattle.rings.specs.Rings.{holes_of, with_slits, AreRingsOf}
use Rattle.rings.proofs.Lists.{Has, has_of, has_head, has_left, has_right, has_parts, all_at, NoRepeats, no_repeats_right, no_repeats_apart, no_repeats_append, no_repeats_permuted, zip_right}
use Rattle.rings.proofs.Lines.{line, along, GoesOn, IsGood}
use Rattle.rings.proofs.Turning.{AreApart, one_next}
use Rattle.rings.proofs.Walks.{HasOneNext}
use Rattle.rings.proofs.Parted.{IsAlong, OnHalf, AreGood, AreParted, starts_on, parted_apart}
use Rattle.rings.proofs.Cuts.{good_by, parted_by, once_by, same_by, by_of}
use Rattle.rings.proofs.Unique.{edge_test, same_edge, AreSame, has_joined, IsDrawn, drawn, corners_of, contours_one, loops_one}
use Rattle.rings.proofs.Heads.{contour_visit, heads_apart, visit_next, filtered_has, map_has}
use Rattle.rings.proofs.Slits.{OnSome, has_any, slit_goes, back_goes, slit_direction, back_direction, meet, from_one, slits_one, left_free, right_free}

-- ---- each slit starts on the boundary
pub record IsSlitIn (es : List Edge) (s : Edge) : Type 0 where
  pub corners : List Point
  pub slit : IsSlit es corners s
  pub on : OnSome es (grid_point s.start.x s.start.y)

unfoldable pub AreSlitsIn : List Edge → List Edge → Type 0
AreSlitsIn es slits = (s : Edge) → Has slits s → IsSlitIn es s

contour_on : (es w : List Edge) (cs : List Point) (a : Point) → IsWalk es w → IsContour w cs → Has cs a → OnSome es (grid_point a.x a.y)
contour_on es w cs a i c h =
    let v = contour_visit w cs a c h in
    let n = visit_next es w v.0 i v.1 in
    has_any (λ e. IsOn e (grid_point a.x a.y)) es v.0.goes (has_of es v.0.goes n.one)
    (start_on (grid_point a.x a.y) v.0.goes (let k = ap (λ q. q.x) v.2 in omega (arith, ints, k)) (let k = ap (λ q. q.y) v.2 in omega (arith, ints, k)))

-- a hole of the loops
pub hole_loop : (loops : List Loop) (cs : List Point) → Has (holes_of loops) cs → (l : Loop) × Has loops l × (l.hole ≡ true) × (l.corners ≡ cs)
unfolding holes_of
hole_loop loops cs h =
    let r = map_has corners_of (filter (λ l. l.hole) loops) cs h in
    let f = filtered_has (λ l. l.hole) loops r.0 r.1 in
    (r.0, f.0, f.1, r.2)

pub slits_in : (es : List Edge) (loops : List Loop) (slits : List Edge) → AreLoopsOf es loops → AllZip (IsSlit es) (holes_of loops) slits → AreSlitsIn es slits
unfolding AreSlitsIn
slits_in es loops slits a z s h =
    let c = zip_right (IsSlit es) (holes_of loops) slits z s h in
    let l = hole_loop loops c.0 c.1 in
    let w = zip_right IsDrawn a.walks loops (drawn a.walks loops (a.contours).draw a.holes) l.0 l.1 in
    let i = all_at (IsWalk es) a.walks w.0 (a.contours).next w.1 in
    record {
      corners = c.0;
      slit = c.2;
      on = contour_on es w.0 c.0 s.start i (subst (IsContour w.0) l.3 (w.2).contour) (subst (λ zs. Has zs s.start) (sym (c.2).from) (has_head s.start (c.2).others));
    }

-- ---- there and back
pub ways_cases : (ss : List Edge) (e : Edge) → Has (both_ways ss) e → (s : Edge) × Has ss s × ((e ≡ s) ⊎ (e ≡ turned_back s))
unfolding both_ways Has
ways_cases [] e h = absurd h
ways_cases (s ∷ ss) e (inl k) = (s, inl refl, inl (sym k))
ways_cases (s ∷ ss) e (inr (inl k)) = (s, inl refl, inr (sym k))
ways_cases (s ∷ ss) e (inr (inr h)) = let r = ways_cases ss e h in (r.0, inr r.1, r.2)

abbrev goes_left : (es : List Edge) (s : Edge) → IsSlitIn es s → direction s ≡ 4
goes_left es s i = slit_direction s (i.slit).level (i.slit).left

abbrev comes_back : (es : List Edge) (s : Edge) → IsSlitIn es s → direction (turned_back s) ≡ 0
comes_back es s i = back_direction s (i.slit).level (i.slit).left

there_same : (es : List Edge) (s t : Edge) (q : Point) → IsSlitIn es s → IsSlitIn es t → IsAlong 4 s q → IsAlong 4 t q → s ≡ t
unfolding line along
there_same es s t q i j a b =
    let al = a.line in let a0 = a.from in let a1 = a.to in
    let bl = b.line in let b0 = b.from in let b1 = b.to in
    from_one es (i.corners) (j.corners) s t i.slit j.slit (meet es i.corners j.corners s t i.slit j.slit i.on j.on (sym al ∙ bl) (omega (arith, ints, a1, b0)) (omega (arith, ints, b1, a0)))

back_same : (es : List Edge) (s t : Edge) (q : Point) → IsSlitIn es s → IsSlitIn es t → IsAlong 0 (turned_back s) q → IsAlong 0 (turned_back t) q → s ≡ t
unfolding line along turned_back
back_same es s t q i j a b =
    let al = a.line in let a0 = a.from in let a1 = a.to in
    let bl = b.line in let b0 = b.from in let b1 = b.to in
    from_one es (i.corners) (j.corners) s t i.slit j.slit
    (meet es i.corners j.corners s t i.slit j.slit i.on j.on (sym (i.slit).level ∙ sym al ∙ bl ∙ (j.slit).level) (omega (arith, ints, a0, b1)) (omega (arith, ints, b0, a1)))

ways_same : (es : List Edge) (s t e f : Edge) (q : Point) → IsSlitIn es s → IsSlitIn es t → (e ≡ s) ⊎ (e ≡ turned_back s) → (f ≡ t) ⊎ (f ≡ turned_back t)
    → direction e ≡ direction f → OnHalf e q → OnHalf f q → e ≡ f
ways_same es s t e f q i j (inl k) (inl l) d a b =
    k
    ∙ there_same es s t q i j (subst (λ c. IsAlong c s q) (goes_left es s i) (subst (λ z. OnHalf z q) k a)) (subst (λ c. IsAlong c t q) (goes_left es t j) (subst (λ z. OnHalf z q) l b))
    ∙ sym l
ways_same es s t e f q i j (inl k) (inr l) d a b = absurd (let m = goes_left es s i in let n = comes_back es t j in let x = ap direction k in let y = ap direction l in omega (arith, m, n, x, y, d))
ways_same es s t e f q i j (inr k) (inl l) d a b = absurd (let m = comes_back es s i in let n = goes_left es t j in let x = ap direction k in let y = ap direction l in omega (arith, m, n, x, y, d))
ways_same es s t e f q i j (inr k) (inr l) d a b =
    k
    ∙ ap turned_back (back_same es s t q i j (subst (λ c. IsAlong c (turned_back s) q) (comes_back es s i) (subst (λ z. OnHalf z q) k a)) (subst (λ c. IsAlong c (turned_back t) q) (comes_back es t j) (subst (λ z. OnHalf z q) l b)))
    ∙ sym l

ways_parted : (es slits : List Edge) → AreSlitsIn es slits → AreParted (both_ways slits)
unfolding AreSlitsIn AreParted
ways_parted es slits i e f q h k d a b =
    let s = ways_cases slits e h in
    let t = ways_cases slits f k in
    ways_same es s.0 t.0 e f q (i s.0 s.1) (i t.0 t.1) s.2 t.2 d a b

ways_good : (es slits : List Edge) → AreSlitsIn es slits → AreGood (both_ways slits)
unfolding AreSlitsIn AreGood
ways_good es slits i e h =
    let s = ways_cases slits e h in
    let j = i s.0 s.1 in
    elim s.2 [
      | inl k ↦ subst IsGood (sym k) (subst (λ d. GoesOn d s.0) (sym (goes_left es s.0 j)) (slit_goes s.0 (j.slit).level (j.slit).left))
      | inr k ↦ subst IsGood (sym k) (subst (λ d. GoesOn d (turned_back s.0)) (sym (comes_back es s.0 j)) (back_goes s.0 (j.slit).level (j.slit).left))
    ]

turned_once : (s t : Edge) → turned_back s ≡ turned_back t → s ≡ t
unfolding turned_back
turned_once s t k = ap (λ e. record { start = e.finish; finish = e.start }) k

slits_tail : (es : List Edge) (s : Edge) (slits : List Edge) → AreSlitsIn es (s ∷ slits) → AreSlitsIn es slits
unfolding AreSlitsIn Has
slits_tail es s slits i t h = i t (inr h)

ways_once : (es slits : List Edge) → AreSlitsIn es slits → NoRepeats slits → NoRepeats (both_ways slits)
unfolding both_ways NoRepeats AreSlitsIn Has
ways_once es [] i n = tt
ways_once es (s ∷ slits) i n = (
  λ h. elim h [
    | inl k ↦ absurd (let a = goes_left es s (i s (inl refl)) in let b = comes_back es s (i s (inl refl)) in let c = ap direction k in omega (arith, a, b, c))
    | inr h ↦ (let t = ways_cases slits s h in elim t.2 [
      | inl k ↦ n.0 (subst (Has slits) (sym k) t.1)
      | inr k ↦ absurd (let a = goes_left es s (i s (inl refl)) in let b = comes_back es t.0 (i t.0 (inr t.1)) in let c = ap direction k in omega (arith, a, b, c))
    ])
  ],
  (
    λ h. (let t = ways_cases slits (turned_back s) h in elim t.2 [
      | inl k ↦ absurd (let a = comes_back es s (i s (inl refl)) in let b = goes_left es t.0 (i t.0 (inr t.1)) in let c = ap direction k in omega (arith, a, b, c))
      | inr k ↦ n.0 (subst (Has slits) (sym (turned_once s t.0 k)) t.1)
    ]),
    ways_once es slits (slits_tail es s slits i) n.1,
  ),
)

-- ---- no slit twice
-- no two of the lists begin with the same corner
unfoldable pub HeadsApart : List (List Point) → Type 0
HeadsApart [] = Unit {0}
HeadsApart (c ∷ cs) = ((b : List Point) (h : Point) (as' bs : List Point) → Has cs b → c ≡ h ∷ as' → b ≡ h ∷ bs → ⊥) × HeadsApart cs

slits_once : (es : List Edge) (hs : List (List Point)) (ss : List Edge) → HeadsApart hs → AllZip (IsSlit es) hs ss → NoRepeats ss
unfolding HeadsApart NoRepeats
slits_once es [] [] h z = tt
slits_once es [] (s ∷ ss) h z = absurd z
slits_once es (c ∷ hs) [] h z = absurd z
slits_once es (c ∷ hs) (s ∷ ss) h z = (
  λ i. (let b = zip_right (IsSlit es) hs ss z.1 s i in h.0 b.0 s.start (z.0).others (b.2).others b.1 (z.0).from (b.2).from),
  slits_once es hs ss h.1 z.1,
)

holes_yes : (l : Loop) (ls : List Loop) → l.hole ≡ true → holes_of (l ∷ ls) ≡ l.corners ∷ holes_of ls
unfolding holes_of
holes_yes l ls h = rw h refl

holes_no : (l : Loop) (ls : List Loop) → l.hole ≡ false → holes_of (l ∷ ls) ≡ holes_of ls
unfolding holes_of
holes_no l ls h = rw h refl

drawn_apart : (es w v : List Edge) (l k : Loop) (h : Point) (cs bs : List Point) → AreGood es → AreApart es → IsWalk es w → IsWalk es v → IsDrawn w l → IsDrawn v k
    → l.hole ≡ true → k.hole ≡ true → l.corners ≡ h ∷ cs → k.corners ≡ h ∷ bs → ((e : Edge) → Has w e → Has v e → ⊥) → ⊥
drawn_apart es w v l k h cs bs g a i j d e p q r s f =
    heads_apart es w v h cs bs g a i j (subst (IsContour w) r d.contour) (subst (IsContour v) s e.contour) ((d.hole).0 p) ((e.hole).0 q) f

holes_apart : (es : List Edge) (ws : List (List Edge)) (ls : List Loop) → AreGood es → AreApart es → ((w : List Edge) → Has ws w → IsWalk es w) → NoRepeats (joined_walks ws) → AllZip IsDrawn ws ls
    → HeadsApart (holes_of ls)
unfolding HeadsApart Has holes_of
holes_apart es [] [] g a i n z = tt
holes_apart es [] (l ∷ ls) g a i n z = absurd z
holes_apart es (w ∷ ws) [] g a i n z = absurd z
holes_apart es (w ∷ ws) (l ∷ ls) g a i n z = at (holes_apart es ws ls g a (λ v h. i v (inr h)) (no_repeats_right w (joined_walks ws) n) z.1) l.hole refl
  where
    at : HeadsApart (holes_of ls) → (b : Bool) → l.hole ≡ b → HeadsApart (holes_of (l ∷ ls))
    at r false p = subst HeadsApart (sym (holes_no l ls p)) r
    at r true p = subst HeadsApart (sym (holes_yes l ls p)) (
      λ b h as' bs k c d. (
          let m = hole_loop ls b k in
          let v = zip_right IsDrawn ws ls z.1 m.0 m.1 in
          drawn_apart es w v.0 l m.0 h as' bs g a (i w (inl refl)) (i v.0 (inr v.1)) z.0 v.2 p m.2 c (m.3 ∙ d)
          (λ e x y. no_repeats_apart w (joined_walks ws) e n x (has_joined ws v.0 e v.1 y))
          ),
      r,
    )

loops_slits_once : (es : List Edge) (loops : List Loop) (slits : List Edge) → AreGood es → AreParted es → NoRepeats es → AreLoopsOf es loops → AllZip (IsSlit es) (holes_of loops) slits → NoRepeats slits
loops_slits_once es loops slits g p n a z =
    slits_once es (holes_of loops) slits
    (holes_apart es a.walks loops g (parted_apart es g p) (λ w h. all_at (IsWalk es) a.walks w (a.contours).next h)
    (no_repeats_permuted same_edge edge_test es (joined_walks a.walks) (IsPermutation-sym (joined_walks a.walks) es (a.contours).once) n) (drawn a.walks loops (a.contours).draw a.holes))
    z

-- ---- all edges together
cross : (es slits : List Edge) → AreGood es → AreSlitsIn es slits → (e f : Edge) (q : Point) → Has (cut_by slits es) e → Has (both_ways slits) f → direction e ≡ direction f → OnHalf e q → OnHalf f q → ⊥
unfolding AreGood AreSlitsIn
cross es slits g i e f q h k d a b =
    let o = by_of slits es g e h in
    let s = ways_cases slits f k in
    let j = i s.0 s.1 in
    let c = o.edge in
    let u = o.on q a in
    let v = g c o.one in
    elim s.2 [
      | inl l ↦ (let m : direction c ≡ 4 = sym o.same ∙ d ∙ ap direction l ∙ goes_left es s.0 j in
          left_free es j.corners s.0 c q j.slit o.one (subst (λ n. IsAlong n s.0 q) (goes_left es s.0 j) (subst (λ z. OnHalf z q) l b)) (subst (λ n. IsAlong n c q) m u) (subst (λ n. GoesOn n c) m v))
      | inr l ↦ (let m : direction c ≡ 0 = sym o.same ∙ d ∙ ap direction l ∙ comes_back es s.0 j in
          right_free es j.corners s.0 c q j.slit o.one (subst (λ n. IsAlong n (turned_back s.0) q) (comes_back es s.0 j) (subst (λ z. OnHalf z q) l b)) (subst (λ n. IsAlong n c q) m u) (subst (λ n. GoesOn n c) m v))
    ]

parted_append : (xs ys : List Edge) → AreParted xs → AreParted ys → ((e f : Edge) (q : Point) → Has xs e → Has ys f → direction e ≡ direction f → OnHalf e q → OnHalf f q → ⊥) → AreParted (xs ++ ys)
unfolding AreParted
parted_append xs ys p r x e f q h k d a b = elim (has_parts xs ys e h) [
  | inl i ↦ elim (has_parts xs ys f k) [ inl j ↦ p e f q i j d a b | inr j ↦ absurd (x e f q i j d a b) ]
  | inr i ↦ elim (has_parts xs ys f k) [ inl j ↦ absurd (x f e q j i (sym d) b a) | inr j ↦ r e f q i j d a b ]
]

pub slits_good : (es slits : List Edge) → AreGood es → AreSlitsIn es slits → AreGood (with_slits es slits)
unfolding with_slits AreGood
slits_good es slits g i e h = elim (has_parts (cut_by slits es) (both_ways slits) e h) [ inl k ↦ good_by slits es g e k | inr k ↦ ways_good es slits i e k ]

slits_parted : (es slits : List Edge) → AreGood es → AreParted es → AreSlitsIn es slits → AreParted (with_slits es slits)
unfolding with_slits
slits_parted es slits g p i = parted_append (cut_by slits es) (both_ways slits) (parted_by slits es g p) (ways_parted es slits i) (cross es slits g i)

all_once : (es slits : List Edge) → AreGood es → AreParted es → NoRepeats es → AreSlitsIn es slits → NoRepeats slits → NoRepeats (with_slits es slits)
unfolding with_slits AreGood
all_once es slits g p n i m =
    no_repeats_append (cut_by slits es) (both_ways slits) (once_by slits es g p n) (ways_once es slits i m)
    (λ e h k. (let s = starts_on e (good_by slits es g e h) in cross es slits g i e e e.start h k refl s s))

same_append : (xs ys zs : List Edge) → AreSame xs ys → AreSame (xs ++ zs) (ys ++ zs)
same_append xs ys zs s = record {
  there = λ e h. elim (has_parts xs zs e h) [ inl i ↦ has_left ys zs e (s.there e i) | inr i ↦ has_right ys zs e i ];
  back = λ e h. elim (has_parts ys zs e h) [ inl i ↦ has_left xs zs e (s.back e i) | inr i ↦ has_right xs zs e i ];
}

slits_same : (es fs slits : List Edge) → AreSame es fs → AreSame (with_slits es slits) (with_slits fs slits)
unfolding with_slits
slits_same es fs slits s = same_append (cut_by slits es) (cut_by slits fs) (both_ways slits) (same_by slits es fs s)

-- boundary edges that don't overlap
pub record AreTidy (es : List Edge) : Type 0 where
  pub good : AreGood es
  pub parted : AreParted es
  pub once : NoRepeats es

pub tidy_with : (es : List Edge) (loops : List Loop) (slits : List Edge) → AreTidy es → AreLoopsOf es loops → AllZip (IsSlit es) (holes_of loops) slits → AreTidy (with_slits es slits)
tidy_with es loops slits t a z =
    let i = slits_in es loops slits a z in
    record {
      good = slits_good es slits t.good i;
      parted = slits_parted es slits t.good t.parted i;
      once = all_once es slits t.good t.parted t.once i (loops_slits_once es loops slits t.good t.parted t.once a z);
    }

pub tidy_slits : (es : List Edge) (rings : List (List Point)) → AreTidy es → (r : AreRingsOf es rings) → AreTidy (with_slits es r.slits)
tidy_slits es rings t r = tidy_with es r.loops r.slits t r.are r.each

pub tidy_next : (es : List Edge) → AreTidy es → HasOneNext es
tidy_next es t = one_next es (parted_apart es t.good t.parted)

pub rings_one : (es fs : List Edge) (rs os : List (List Point)) → AreTidy es → AreTidy fs → AreSame es fs → AreRingsOf es rs → AreRingsOf fs os → rs ≡ os
rings_one es fs rs os t u s a b =
    let l = loops_one es fs a.loops b.loops (tidy_next es t) t.once u.once s a.are b.are in
    let c = slits_one es fs (holes_of a.loops) a.slits b.slits s a.each (subst (λ ls. AllZip (IsSlit fs) (holes_of ls) b.slits) (sym l) b.each) in
    let x = tidy_slits es rs t a in
    let y = tidy_slits fs os u b in
    contours_one (with_slits es a.slits) (with_slits fs b.slits) a.walks b.walks rs os (tidy_next (with_slits es a.slits) x) x.once y.once
    (subst (λ ss. AreSame (with_slits es a.slits) (with_slits fs ss)) c (slits_same es fs a.slits s)) a.contours b.contours
