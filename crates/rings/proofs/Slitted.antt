-- With the slits of all holes, too, edges that come in and edges that go out alternate around each corner; so rings exist.
use Rattle.std.proofs.Common.{◌≡◌, refl, sym, subst, ap, ◌∙◌, ℕ, zero, suc, ◌<◌, ◌≤◌, ◌+◌, ◌-◌, ◌%◌, ◌⊎◌, inl, inr, arith, List, [], ◌∷◌, ◌++◌, Bool, true, false, get_or}
use Rattle.std.specs.Prelude.{◌<ℤ◌, ◌≤ℤ◌}
use Rattle.std.specs.List.{AllZip}
use Rattle.std.proofs.lemmas.Int.{ints, by_lt_z}
use Rattle.std.proofs.lemmas.Bool.{cases_order, cases_eq}
use Rattle.plane.specs.Plane.{grid_point}
use Rattle.plane.proofs.CoverLaws.{start_on}
use Rattle.grid_num.specs.declared.Point.{Point}
use Rattle.plane.specs.Covering.{Edge, IsOn}
use Rattle.plane.specs.Edges.{turned_back, both_ways}
use Rattle.plane.proofs.On.{level_on}
use Rattle.strips.specs.declared.Strip.{Strip}
use Rattle.rings.specs.Turning.{direction, turn_to}
use Rattle.rings.specs.Walks.{Visit, IsWalk, IsContour}
use Rattle.rings.specs.Loops.{Loop, IsHole, AreLoopsOf}
use Rattle.rings.specs.Slits.{IsSlit, is_inside_edge, cut_edges, cut_by}
use Rattle.rings.specs.Rings.{holes_of, with_slits, AreRingsOf}
use Rattle.rings.specs.Boundary.{left_edge, right_edge, side_edges, IsCorner, IsLevelPart, AreBoundary}
use Rattle.rings.proofs.Lists.{Has, has_of, has_head, has_left, has_right, has_parts, all_at, zip_right, found}
use Rattle.rings.proofs.Order.{point_same}
use Rattle.rings.proofs.Lines.{line, along, direction_low}
use Rattle.rings.proofs.Parted.{IsWithin, AreGood, inside_within, cut_false}
use Rattle.rings.proofs.Unique.{IsDrawn, drawn}
use Rattle.rings.proofs.Bends.{bends_first, tail_bends}
use Rattle.rings.proofs.Heads.{IsHead, hole_head, contour_visit, visit_next}
use Rattle.rings.proofs.Slits.{has_any, slit_direction, back_direction, slits_one}
use Rattle.rings.proofs.Sides.{AreOrdered, LeftAt, RightAt, left_is, right_is}
use Rattle.rings.proofs.Boundary.{Left, Right, IsBound, Side, Level, is_bound, bound_has, left_has, right_has, rightward, leftward, boundary_good, boundary_parted, boundary_once}
use Rattle.rings.proofs.Rows.{of_over, bottom_right, NoCorner, gap}
use Rattle.rings.proofs.Levels.{both_cases, equal_cases, part_above}
use Rattle.rings.proofs.Sectors.{HasCopper, copper_cases}
use Rattle.rings.proofs.Around.{left_of, right_of, above_left, above_right, below_right, in_copper, in_none, out_none, out_there}
use Rattle.rings.proofs.Inside.{IsCopperLeft, copper_left, blocked}
use Rattle.rings.proofs.Rings.{AreTidy, tidy_with, hole_loop, ways_cases}
use Rattle.rings.proofs.Near.{Alternate, corner_of, ray_at, before_ray, boundary_alternate}
use Rattle.rings.proofs.Contours.{started}
use Rattle.rings.proofs.Sorted.{are_drawn, loops_exist}
use Rattle.rings.proofs.Reach.{row_outside, slit_exists}

-- ---- no corner is inside a boundary edge, so slits cut none
left_inside : (d : ℕ) (s : Strip) (q : Point) → LeftAt d s → line d q ≡ line d (left_edge s).start → along d (left_edge s).start <ℤ along d q → along d q <ℤ along d (left_edge s).finish
    → (s.top <ℤ q.y) × (q.y <ℤ s.bottom)
unfolding LeftAt line along
left_inside d s q (inl (e, f)) l m n =
    let l2 = subst (λ d. line d q ≡ line d (left_edge s).start) e l in let m2 = subst (λ d. along d (left_edge s).start <ℤ along d q) e m in let n2 = subst (λ d. along d q <ℤ along d (left_edge s).finish) e n in
    (omega (arith, ints, f, l2, m2, n2), omega (arith, ints, f, l2, m2, n2))
left_inside d s q (inr (inl (e, f))) l m n =
    let m2 = subst (λ d. along d (left_edge s).start <ℤ along d q) e m in let n2 = subst (λ d. along d q <ℤ along d (left_edge s).finish) e n in
    (omega (arith, ints, m2, n2), omega (arith, ints, m2, n2))
left_inside d s q (inr (inr (e, f))) l m n =
    let m2 = subst (λ d. along d (left_edge s).start <ℤ along d q) e m in let n2 = subst (λ d. along d q <ℤ along d (left_edge s).finish) e n in
    (omega (arith, ints, m2, n2), omega (arith, ints, m2, n2))

right_inside : (d : ℕ) (s : Strip) (q : Point) → RightAt d s → along d (right_edge s).start <ℤ along d q → along d q <ℤ along d (right_edge s).finish → (s.top <ℤ q.y) × (q.y <ℤ s.bottom)
unfolding RightAt along
right_inside d s q (inl (e, f)) m n =
    let m2 = subst (λ d. along d (right_edge s).start <ℤ along d q) e m in let n2 = subst (λ d. along d q <ℤ along d (right_edge s).finish) e n in (m2, n2)
right_inside d s q (inr (inl (e, f))) m n =
    let m2 = subst (λ d. along d (right_edge s).start <ℤ along d q) e m in let n2 = subst (λ d. along d q <ℤ along d (right_edge s).finish) e n in (m2, n2)
right_inside d s q (inr (inr (e, f))) m n =
    let m2 = subst (λ d. along d (right_edge s).start <ℤ along d q) e m in let n2 = subst (λ d. along d q <ℤ along d (right_edge s).finish) e n in (m2, n2)

none_within : (ss : List Strip) (e : Edge) (q : Point) → AreOrdered ss → IsCorner ss q → IsBound ss e → IsWithin e q → ⊥
unfolding IsLevelPart line along
none_within ss e q o i (Side (Left s h k)) w =
    let v = subst (λ z. IsWithin z q) k w in
    let r = left_inside (direction (left_edge s)) s q (left_is s (o.shape s h)).0 v.line v.after v.before in
    row_outside ss q s o i h r.0 r.1
none_within ss e q o i (Side (Right s h k)) w =
    let v = subst (λ z. IsWithin z q) k w in
    let r = right_inside (direction (right_edge s)) s q (right_is s (o.shape s h)).0 v.after v.before in
    row_outside ss q s o i h r.0 r.1
none_within ss e q o i (Level (inl (n, f))) w =
    let d = (rightward ss e n).0 in
    let l = subst (λ d. line d q ≡ line d e.start) d w.line in let m = subst (λ d. along d e.start <ℤ along d q) d w.after in let k = subst (λ d. along d q <ℤ along d e.finish) d w.before in
    n.next q i l m k
none_within ss e q o i (Level (inr (n, f))) w =
    let d = (leftward ss e n).0 in
    let l = subst (λ d. line d q ≡ line d e.start) d w.line in let m = subst (λ d. along d e.start <ℤ along d q) d w.after in let k = subst (λ d. along d q <ℤ along d e.finish) d w.before in
    n.next q i (l ∙ sym n.level) (omega (arith, ints, k)) (omega (arith, ints, m))

bool_cases : (b : Bool) → (b ≡ true) ⊎ (b ≡ false)
bool_cases true = inl refl
bool_cases false = inr refl

not_cut : (q : Point) (es : List Edge) → ((e : Edge) → Has es e → is_inside_edge e q ≡ false) → cut_edges q es ≡ es
unfolding cut_edges Has
not_cut q [] f = refl
not_cut q (e ∷ es) f = ap (λ zs. zs ++ cut_edges q es) (cut_false q e (f e (inl refl))) ∙ ap (λ zs. e ∷ zs) (not_cut q es (λ g h. f g (inr h)))

outside : (ss : List Strip) (es : List Edge) (q : Point) → AreOrdered ss → AreBoundary ss es → IsCorner ss q → (e : Edge) → Has es e → is_inside_edge e q ≡ false
unfolding AreGood
outside ss es q o b i e h = elim (bool_cases (is_inside_edge e q)) [
  | inl t ↦ absurd (none_within ss e q o i (is_bound ss es b e h) (inside_within e q (boundary_good ss es o b e h) t))
  | inr f ↦ f
]

slits_cut_none : (ss : List Strip) (es slits : List Edge) → AreOrdered ss → AreBoundary ss es → ((s : Edge) → Has slits s → IsCorner ss s.finish) → cut_by slits es ≡ es
unfolding cut_by Has
slits_cut_none ss es [] o b f = refl
slits_cut_none ss es (s ∷ slits) o b f =
    ap (cut_by slits) (not_cut s.finish es (outside ss es s.finish o b (f s (inl refl)))) ∙ slits_cut_none ss es slits o b (λ t h. f t (inr h))

-- ---- there is copper on both sides of a slit
pub record HasSlitCopper (ss : List Strip) (s : Edge) : Type 0 where
  pub level : s.finish.y ≡ s.start.y
  pub left : s.finish.x <ℤ s.start.x
  pub start : IsCorner ss s.start
  pub finish : IsCorner ss s.finish
  pub above : HasCopper ss s.start 3
  pub below : HasCopper ss s.start 4
  pub end_above : HasCopper ss s.finish 0
  pub end_below : HasCopper ss s.finish 7

start_below : (ss : List Strip) (es w : List Edge) (h : Point) (u : Visit) → AreOrdered ss → AreBoundary ss es → IsHead es w h u → IsCorner ss h → HasCopper ss h 3 → HasCopper ss h 4
unfolding turn_to
start_below ss es w h u o b k i c = elim (copper_cases ss h 4) [
  | inl d ↦ d
  | inr n ↦ absurd (
      let f = out_there 4 (omega arith) ss h o i c n in
      let d = ap (λ (z : ℕ). (z + 11 - direction u.comes) % 8 + 1) f.way in
      blocked es w h u f.edge k (bound_has ss es b f.edge f.bound) f.start (omega (arith, d)))
]

finish_below : (ss : List Strip) (es : List Edge) (cs : List Point) (s : Edge) (v : Strip) → AreOrdered ss → AreBoundary ss es → IsSlit es cs s → IsCorner ss s.finish → IsCopperLeft ss s.start v
    → HasCopper ss s.finish 0 → HasCopper ss s.finish 7
unfolding right_of NoCorner
finish_below ss es cs s v o b t i c a = elim (copper_cases ss s.finish 7) [
  | inl d ↦ d
  | inr n ↦ absurd (
      let q = s.finish in
      let p = right_of q in
      let tl = t.left in let ty = t.level in
      let vr = c.row in let vt = c.to in
      let g = gap ss q.y p q (record { x = v.right_end; y = v.bottom }) (λ d j z e. omega (arith, ints, e)) i refl (omega (arith, ints)) (bottom_right ss v c.one) (vr ∙ sym ty) (omega (arith, ints, tl, vt)) in
      let x = g.0 in
      let y = g.1 in
      let gl = (g.2).left in
      let gr = (g.2).right in
      let gy = (g.2).row in
      let yl = ((g.2).are).level in
      let part = part_above ss x y p o (g.2).are (record { row = omega (arith, ints, gy); after = gl; before = gr }) ((above_right ss q o).0 a) (λ u. n ((below_right ss q o).1 u)) in
      let e : Edge = record { start = y; finish = x } in
      t.first p (omega (arith, ints, ty)) (omega (arith, ints)) (omega (arith, ints, tl))
      (has_any (λ e. IsOn e p) es e (bound_has ss es b e (Level part)) (level_on e p (sym yl) (omega (arith, ints, gy, yl)) (inr (omega (arith, ints, gl), omega (arith, ints, gr))))))
]

slit_copper : (ss : List Strip) (es w : List Edge) (cs : List Point) (s : Edge) (u : Visit) → AreOrdered ss → AreBoundary ss es → IsWalk es w → IsHead es w s.start u → IsSlit es cs s → IsCorner ss s.start → IsCorner ss s.finish
    → HasSlitCopper ss s
unfolding left_of right_of
slit_copper ss es w cs s u o b i k t f g =
    let c = copper_left ss es w s.start u o b i k in
    let v = c.0 in
    let vr = (c.1).row in let vf = (c.1).from in let vt = (c.1).to in
    let tl = t.left in let ty = t.level in
    let a = (above_left ss s.start o).1 (of_over ss (left_of s.start) v o (record { one = (c.1).one; row = omega (arith, ints, vr); from = omega (arith, ints, vf); to = omega (arith, ints, vt) })) in
    let stop : v.left_end ≤ℤ s.finish.x = by_lt_z {P = v.left_end ≤ℤ s.finish.x} s.finish.x v.left_end
    (λ m. absurd (t.first (grid_point v.left_end v.bottom) (omega (arith, ints, vr)) (omega (arith, ints, m)) (omega (arith, ints, vf))
    (has_any (λ e. IsOn e (grid_point v.left_end v.bottom)) es (left_edge v) (bound_has ss es b (left_edge v) (Side (Left v (c.1).one refl))) (start_on (grid_point v.left_end v.bottom) (left_edge v) (omega (arith, ints)) (omega (arith, ints))))))
    (λ m. m) in
    let e = (above_right ss s.finish o).1 (of_over ss (right_of s.finish) v o (record { one = (c.1).one; row = omega (arith, ints, vr, ty); from = omega (arith, ints, stop); to = omega (arith, ints, vt, tl) })) in
    record {
      level = t.level;
      left = t.left;
      start = f;
      finish = g;
      above = a;
      below = start_below ss es w s.start u o b k f a;
      end_above = e;
      end_below = finish_below ss es cs s v o b t g c.1 e;
    }

-- ---- the directions of slits at a corner
-- a slit starts at v and goes to the left, or ends there and comes back to the right
unfoldable IsSlitWay : Point → ℕ → Edge → Type 0
IsSlitWay v j s = ((s.start.x ≡ v.x) × ((s.start.y ≡ v.y) × (j ≡ 4))) ⊎ ((s.finish.x ≡ v.x) × ((s.finish.y ≡ v.y) × (j ≡ 0)))

record HasSlitWay (slits : List Edge) (v : Point) (j : ℕ) : Type 0 where
  slit : Edge
  one : Has slits slit
  is : IsSlitWay v j slit

either_cases : {A B : Type 0} → A ⊎ (A → ⊥) → B ⊎ (B → ⊥) → (A ⊎ B) ⊎ (A ⊎ B → ⊥)
either_cases (inl a) b = inl (inl a)
either_cases (inr n) (inl b) = inl (inr b)
either_cases (inr n) (inr m) = inr (λ p. elim p [ inl a ↦ n a | inr b ↦ m b ])

way_cases : (slits : List Edge) (v : Point) (j : ℕ) → HasSlitWay slits v j ⊎ (HasSlitWay slits v j → ⊥)
unfolding IsSlitWay
way_cases slits v j = elim (found (IsSlitWay v j) (λ s. either_cases
    (both_cases (equal_cases s.start.x v.x) (both_cases (equal_cases s.start.y v.y) (cases_eq j 4)))
    (both_cases (equal_cases s.finish.x v.x) (both_cases (equal_cases s.finish.y v.y) (cases_eq j 0)))) slits) [
      | inl f ↦ inl (record { slit = f.0; one = f.1; is = f.2 })
      | inr f ↦ inr (λ h. f h.slit h.one h.is)
    ]

ways_has : (slits : List Edge) (s : Edge) → Has slits s → Has (both_ways slits) s × Has (both_ways slits) (turned_back s)
unfolding both_ways Has
ways_has [] s h = absurd h
ways_has (t ∷ slits) s (inl k) = (inl k, inr (inl (ap turned_back k)))
ways_has (t ∷ slits) s (inr h) = let r = ways_has slits s h in (inr (inr r.0), inr (inr r.1))

-- the edge that goes out there
record IsWayOut (slits : List Edge) (v : Point) (j : ℕ) : Type 0 where
  edge : Edge
  one : Has (both_ways slits) edge
  start : edge.start ≡ v
  way : direction edge ≡ j

unfoldable pub AllSlits : List Strip → List Edge → Type 0
AllSlits ss slits = (s : Edge) → Has slits s → HasSlitCopper ss s

way_out : (ss : List Strip) (slits : List Edge) (v : Point) (j : ℕ) → AllSlits ss slits → HasSlitWay slits v j → IsWayOut slits v j
unfolding IsSlitWay AllSlits turned_back
way_out ss slits v j a h = at h.is
  where
    c : HasSlitCopper ss h.slit
    c = a h.slit h.one

    at : IsSlitWay v j h.slit → IsWayOut slits v j
    at (inl (x, (y, e))) = record { edge = h.slit; one = (ways_has slits h.slit h.one).0; start = point_same h.slit.start v x y; way = slit_direction h.slit c.level c.left ∙ sym e }
    at (inr (x, (y, e))) = record { edge = turned_back h.slit; one = (ways_has slits h.slit h.one).1; start = point_same h.slit.finish v x y; way = back_direction h.slit c.level c.left ∙ sym e }

way_copper : (ss : List Strip) (slits : List Edge) (v : Point) (j : ℕ) → AllSlits ss slits → HasSlitWay slits v j → HasCopper ss v j
unfolding IsSlitWay AllSlits
way_copper ss slits v j a h = at h.is
  where
    c : HasSlitCopper ss h.slit
    c = a h.slit h.one

    at : IsSlitWay v j h.slit → HasCopper ss v j
    at (inl (x, (y, e))) = subst (HasCopper ss v) (sym e) (subst (λ z. HasCopper ss z 4) (point_same h.slit.start v x y) c.below)
    at (inr (x, (y, e))) = subst (HasCopper ss v) (sym e) (subst (λ z. HasCopper ss z 0) (point_same h.slit.finish v x y) c.end_above)

-- an edge of a slit goes out, or comes in, in such a direction
slit_goes_way : (ss : List Strip) (slits : List Edge) (e : Edge) → AllSlits ss slits → Has (both_ways slits) e → HasSlitWay slits e.start (direction e)
unfolding IsSlitWay AllSlits turned_back
slit_goes_way ss slits e a h =
    let s = ways_cases slits e h in
    let c = a s.0 s.1 in
    record {
      slit = s.0;
      one = s.1;
      is = elim s.2 [
        | inl k ↦ inl (ap (λ z. z.start.x) (sym k), (ap (λ z. z.start.y) (sym k), ap direction k ∙ slit_direction s.0 c.level c.left))
        | inr k ↦ inr (ap (λ z. z.start.x) (sym k), (ap (λ z. z.start.y) (sym k), ap direction k ∙ back_direction s.0 c.level c.left))
      ];
    }

slit_comes_way : (ss : List Strip) (slits : List Edge) (e : Edge) → AllSlits ss slits → Has (both_ways slits) e → HasSlitWay slits e.finish ((direction e + 4) % 8)
unfolding IsSlitWay AllSlits turned_back
slit_comes_way ss slits e a h =
    let s = ways_cases slits e h in
    let c = a s.0 s.1 in
    record {
      slit = s.0;
      one = s.1;
      is = elim s.2 [
        | inl k ↦ inr (ap (λ z. z.finish.x) (sym k), (ap (λ z. z.finish.y) (sym k), (let d = ap direction k ∙ slit_direction s.0 c.level c.left in omega (arith, d))))
        | inr k ↦ inl (ap (λ z. z.finish.x) (sym k), (ap (λ z. z.finish.y) (sym k), (let d = ap direction k ∙ back_direction s.0 c.level c.left in omega (arith, d))))
      ];
    }

-- ---- copper from the direction r on over k sectors without a slit, and then none, or a slit
record IsSpan (ss : List Strip) (slits : List Edge) (v : Point) (r k : ℕ) : Type 0 where
  low : 1 ≤ k
  high : k ≤ 8
  copper : (j : ℕ) → j < k → HasCopper ss v ((r + j) % 8)
  free : (j : ℕ) → 1 ≤ j → j < k → HasSlitWay slits v ((r + j) % 8) → ⊥
  stop : HasSlitWay slits v ((r + k) % 8) ⊎ (HasCopper ss v ((r + k) % 8) → ⊥)

record IsFront (ss : List Strip) (slits : List Edge) (v : Point) (r k : ℕ) : Type 0 where
  low : 1 ≤ k
  copper : (j : ℕ) → j < k → HasCopper ss v ((r + j) % 8)
  free : (j : ℕ) → 1 ≤ j → j < k → HasSlitWay slits v ((r + j) % 8) → ⊥

front_more : (ss : List Strip) (slits : List Edge) (v : Point) (r k : ℕ) → IsFront ss slits v r k → HasCopper ss v ((r + k) % 8) → (HasSlitWay slits v ((r + k) % 8) → ⊥) → IsFront ss slits v r (k + 1)
front_more ss slits v r k f h n = record {
  low = omega arith;
  copper = λ j i. elim (cases_order j k) [
    | inl q ↦ subst (λ z. HasCopper ss v ((r + z) % 8)) (sym q) h
    | inr o ↦ elim o [ inl l ↦ f.copper j l | inr l ↦ absurd (omega (arith, i, l)) ]
  ];
  free = λ j m i w. elim (cases_order j k) [
    | inl q ↦ n (subst (λ z. HasSlitWay slits v ((r + z) % 8)) q w)
    | inr o ↦ elim o [ inl l ↦ f.free j m l w | inr l ↦ omega (arith, i, l) ]
  ];
}

span_from : (ss : List Strip) (slits : List Edge) (v : Point) (r left k : ℕ) → left + k ≡ 8 → IsFront ss slits v r k → (HasCopper ss v ((r + 7) % 8) → HasSlitWay slits v ((r + 8) % 8)) → (m : ℕ) × IsSpan ss slits v r m
span_from ss slits v r zero k e f w =
    let q : k ≡ 8 = omega (arith, e) in
    (k, record { low = f.low; high = omega (arith, e); copper = f.copper; free = f.free; stop = inl (subst (λ z. HasSlitWay slits v ((r + z) % 8)) (sym q) (w (f.copper 7 (omega (arith, q))))) })
span_from ss slits v r (suc left) k e f w = elim (way_cases slits v ((r + k) % 8)) [
  | inl h ↦ (k, record { low = f.low; high = omega (arith, e); copper = f.copper; free = f.free; stop = inl h })
  | inr n ↦ elim (copper_cases ss v ((r + k) % 8)) [
    | inr c ↦ (k, record { low = f.low; high = omega (arith, e); copper = f.copper; free = f.free; stop = inr c })
    | inl h ↦ span_from ss slits v r left (k + 1) (omega (arith, e)) (front_more ss slits v r k f h n) w
  ]
]

-- ---- the edge that is met first
out_turn : (d k x : ℕ) → d < 8 → 1 ≤ k → k ≤ 8 → x ≡ ((d + 4) % 8 + k) % 8 → (x + 11 - d) % 8 + 1 ≡ k
out_turn d k x h l m e = omega (arith, h, l, m, e)

not_before : (x k j d : ℕ) → (x + 11 - d) % 8 + 1 ≡ k → (j < k → ⊥) → (x + 11 - d) % 8 + 1 ≤ j
not_before x k j d t n = elim (cases_order k j) [
  | inl q ↦ omega (arith, t, q)
  | inr o ↦ elim o [ inl l ↦ omega (arith, t, l) | inr l ↦ absurd (n l) ]
]

record IsMet (all : List Edge) (v : Point) (r : ℕ) : Type 0 where
  edge : Edge
  one : Has all edge
  start : edge.start ≡ v
  way : direction edge ≡ r

met : (ss : List Strip) (es slits : List Edge) (v : Point) (d k : ℕ) → AreOrdered ss → AreBoundary ss es → AllSlits ss slits → IsCorner ss v → d < 8 → IsSpan ss slits v ((d + 4) % 8) k
    → IsMet (es ++ both_ways slits) v (((d + 4) % 8 + k) % 8)
met ss es slits v d k o b a i h s = elim s.stop [
  | inl w ↦ (let f = way_out ss slits v (((d + 4) % 8 + k) % 8) a w in record { edge = f.edge; one = has_right es (both_ways slits) f.edge f.one; start = f.start; way = f.way })
  | inr n ↦ (
      let l = s.low in
      let m = s.high in
      let f = out_there (((d + 4) % 8 + k) % 8) (omega arith) ss v o i (subst (λ z. HasCopper ss v z) (omega (arith, h, l, m)) (s.copper (k - 1) (omega (arith, l)))) n in
      record { edge = f.edge; one = has_left es (both_ways slits) f.edge (bound_has ss es b f.edge f.bound); start = f.start; way = f.way })
]

-- an edge that goes out is not within the span
not_out : (ss : List Strip) (es slits : List Edge) (v : Point) (d k : ℕ) (g : Edge) → AreOrdered ss → AreBoundary ss es → AllSlits ss slits → d < 8 → IsSpan ss slits v ((d + 4) % 8) k
    → Has (es ++ both_ways slits) g → g.start ≡ v → (direction g + 11 - d) % 8 + 1 < k → ⊥
not_out ss es slits v d k g o b a h s i e l = elim (has_parts es (both_ways slits) g i) [
  | inl j ↦ out_none ss g v o (is_bound ss es b g j) e (subst (HasCopper ss v) (sym (ray_at d (direction g) h (direction_low g))) (s.copper ((direction g + 11 - d) % 8 + 1) l))
  | inr j ↦ s.free ((direction g + 11 - d) % 8 + 1) (omega arith) l
      (subst (HasSlitWay slits v) (ray_at d (direction g) h (direction_low g)) (subst (λ z. HasSlitWay slits z (direction g)) e (slit_goes_way ss slits g a j)))
]

back_ray : (d x : ℕ) → d < 8 → x < 8 → (x + 4) % 8 ≡ ((d + 4) % 8 + (((x + 4) % 8 + 11 - d) % 8 + 1)) % 8
back_ray d x h i = omega (arith, h, i)

-- nor is one that comes in
not_in : (ss : List Strip) (es slits : List Edge) (v : Point) (d k : ℕ) (g : Edge) → AreOrdered ss → AreBoundary ss es → AllSlits ss slits → d < 8 → IsSpan ss slits v ((d + 4) % 8) k
    → Has (es ++ both_ways slits) g → g.finish ≡ v → ((direction g + 4) % 8 + 11 - d) % 8 + 1 < k → ⊥
not_in ss es slits v d k g o b a h s i e l = elim (has_parts es (both_ways slits) g i) [
  | inl j ↦ in_none ss g v o (is_bound ss es b g j) e (subst (HasCopper ss v) (sym (before_ray d (direction g) h (direction_low g))) (s.copper (((direction g + 4) % 8 + 11 - d) % 8) (omega (arith, l))))
  | inr j ↦ s.free (((direction g + 4) % 8 + 11 - d) % 8 + 1) (omega arith) l
      (subst (HasSlitWay slits v) (back_ray d (direction g) h (direction_low g)) (subst (λ z. HasSlitWay slits z ((direction g + 4) % 8)) e (slit_comes_way ss slits g a j)))
]

-- where an edge comes in, copper begins; and where it goes all around, a slit comes in
record IsArrival (ss : List Strip) (slits : List Edge) (v : Point) (d : ℕ) : Type 0 where
  corner : IsCorner ss v
  copper : HasCopper ss v ((d + 4) % 8)
  around : HasCopper ss v (((d + 4) % 8 + 7) % 8) → HasSlitWay slits v (((d + 4) % 8 + 8) % 8)

way_corner : (ss : List Strip) (slits : List Edge) (v : Point) (j : ℕ) → AllSlits ss slits → HasSlitWay slits v j → IsCorner ss v
unfolding IsSlitWay AllSlits
way_corner ss slits v j a h = at h.is
  where
    c : HasSlitCopper ss h.slit
    c = a h.slit h.one

    at : IsSlitWay v j h.slit → IsCorner ss v
    at (inl (x, (y, e))) = subst (IsCorner ss) (point_same h.slit.start v x y) c.start
    at (inr (x, (y, e))) = subst (IsCorner ss) (point_same h.slit.finish v x y) c.finish

arrival : (ss : List Strip) (es slits : List Edge) (e : Edge) → AreOrdered ss → AreBoundary ss es → AllSlits ss slits → Has (es ++ both_ways slits) e → IsArrival ss slits e.finish (direction e)
arrival ss es slits e o b a h = elim (has_parts es (both_ways slits) e h) [
  | inl i ↦ (
      let d = direction_low e in
      let j = is_bound ss es b e i in
      record {
        corner = corner_of ss e j;
        copper = in_copper ss e e.finish o j refl;
        around = λ c. absurd (in_none ss e e.finish o j refl (subst (λ z. HasCopper ss e.finish z) (omega (arith, d)) c));
      })
  | inr i ↦ (
      let w = slit_comes_way ss slits e a i in
      record {
        corner = way_corner ss slits e.finish ((direction e + 4) % 8) a w;
        copper = way_copper ss slits e.finish ((direction e + 4) % 8) a w;
        around = λ c. subst (HasSlitWay slits e.finish) (omega arith) w;
      })
]

all_alternate : (ss : List Strip) (es slits : List Edge) → AreOrdered ss → AreBoundary ss es → AllSlits ss slits → Alternate (es ++ both_ways slits)
unfolding Alternate turn_to
all_alternate ss es slits o b a e h =
    let d = direction e in
    let low = direction_low e in
    let v = e.finish in
    let r = arrival ss es slits e o b a h in
    let s = span_from ss slits v ((d + 4) % 8) 7 1 refl
    (record { low = omega arith; copper = λ j l. subst (λ z. HasCopper ss v z) (omega (arith, l, low)) r.copper; free = λ j m l w. omega (arith, m, l) })
    r.around in
    let k = s.0 in
    let f = met ss es slits v d k o b a r.corner low s.1 in
    let t = out_turn d k (direction f.edge) low (s.1).low (s.1).high f.way in (
      f.edge,
      record {
        one = f.one;
        joins = f.start;
        out = λ g j q. not_before (direction f.edge) k ((direction g + 11 - d) % 8 + 1) d t (not_out ss es slits v d k g o b a low s.1 j q);
        back = λ g j q. not_before (direction f.edge) k (((direction g + 4) % 8 + 11 - d) % 8 + 1) d t (not_in ss es slits v d k g o b a low s.1 j q);
      },
    )

-- ---- rings
pub record AreSlits (ss : List Strip) (es : List Edge) (holes : List (List Point)) : Type 0 where
  pub slits : List Edge
  pub each : AllZip (IsSlit es) holes slits
  pub copper : AllSlits ss slits

slits_for : (ss : List Strip) (es : List Edge) (holes : List (List Point)) → ((c : List Point) → Has holes c → (s : Edge) × IsSlit es c s × HasSlitCopper ss s) → AreSlits ss es holes
unfolding AllSlits Has
slits_for ss es [] f = record { slits = []; each = tt; copper = λ s h. absurd h }
slits_for ss es (c ∷ holes) f =
    let s = f c (inl refl) in
    let r = slits_for ss es holes (λ d h. f d (inr h)) in
    record { slits = s.0 ∷ r.slits; each = (s.1, r.each); copper = λ t h. elim h [ inl k ↦ subst (HasSlitCopper ss) k s.2 | inr h ↦ r.copper t h ] }

start_corner : (ss : List Strip) (e : Edge) → IsBound ss e → IsCorner ss e.start
unfolding IsCorner IsLevelPart
start_corner ss e (Side (Left s h k)) = has_any (λ f. (e.start ≡ f.start) ⊎ (e.start ≡ f.finish)) (side_edges ss) (left_edge s) (left_has ss s h) (inl (ap (λ z. z.start) k))
start_corner ss e (Side (Right s h k)) = has_any (λ f. (e.start ≡ f.start) ⊎ (e.start ≡ f.finish)) (side_edges ss) (right_edge s) (right_has ss s h) (inl (ap (λ z. z.start) k))
start_corner ss e (Level (inl (n, g))) = n.first
start_corner ss e (Level (inr (n, g))) = n.second

first_corner : (ss : List Strip) (es w : List Edge) (h : Point) (cs : List Point) → AreOrdered ss → AreBoundary ss es → IsWalk es w → IsContour w (h ∷ cs) → IsCorner ss h
first_corner ss es w h cs o b i k =
    let v = contour_visit w (h ∷ cs) h k (has_head h cs) in
    let n = visit_next es w v.0 i v.1 in
    subst (IsCorner ss) v.2 (start_corner ss v.0.goes (is_bound ss es b v.0.goes (has_of es v.0.goes n.one)))

head_slit : (ss : List Strip) (es w : List Edge) (h : Point) (cs : List Point) → AreOrdered ss → AreBoundary ss es → IsWalk es w → IsContour w (h ∷ cs) → IsHole w
    → (s : Edge) × IsSlit es (h ∷ cs) s × HasSlitCopper ss s
head_slit ss es w h cs o b i k t =
    let u = hole_head es w h cs (boundary_good ss es o b) i k t in
    let c = first_corner ss es w h cs o b i k in
    let s = slit_exists ss es w h cs u.0 o b i u.1 c in
    let e : h ≡ s.0.start = ap (λ zs. get_or zs 0 h) (s.1).from in
    (s.0, s.1, slit_copper ss es w (h ∷ cs) s.0 u.0 o b i (subst (λ z. IsHead es w z u.0) e u.1) s.1 (subst (IsCorner ss) e c) s.2)

hole_slit : (ss : List Strip) (es w : List Edge) (c : List Point) → AreOrdered ss → AreBoundary ss es → IsWalk es w → IsContour w c → IsHole w → (s : Edge) × IsSlit es c s × HasSlitCopper ss s
hole_slit ss es w c o b i k t =
    let a = started es w c (boundary_good ss es o b) i k in
    let e = sym a.are ∙ bends_first a.first a.others a.bend in
    let r = head_slit ss es w a.first.start (tail_bends a.first a.others) o b i (subst (IsContour w) e k) t in
    (r.0, subst (λ z. IsSlit es z r.0) (sym e) r.1, r.2)

pub slits_of : (ss : List Strip) (es : List Edge) (loops : List Loop) → AreOrdered ss → AreBoundary ss es → AreLoopsOf es loops → AreSlits ss es (holes_of loops)
slits_of ss es loops o b a =
    slits_for ss es (holes_of loops) (λ c h. (
    let l = hole_loop loops c h in
    let w = zip_right IsDrawn a.walks loops (drawn a.walks loops (a.contours).draw a.holes) l.0 l.1 in
    hole_slit ss es w.0 c o b (all_at (IsWalk es) a.walks w.0 (a.contours).next w.1) (subst (IsContour w.0) l.3 (w.2).contour) ((w.2).hole.0 l.2)))

pub tidy : (ss : List Strip) (es : List Edge) → AreOrdered ss → AreBoundary ss es → AreTidy es
tidy ss es o b = record { good = boundary_good ss es o b; parted = boundary_parted ss es o b; once = boundary_once ss es o b }

pub boundary_loops : (ss : List Strip) (es : List Edge) → AreOrdered ss → AreBoundary ss es → (loops : List Loop) × AreLoopsOf es loops
boundary_loops ss es o b = loops_exist es (tidy ss es o b) (boundary_alternate ss es o b)

pub boundary_rings : (ss : List Strip) (es : List Edge) → AreOrdered ss → AreBoundary ss es → (rings : List (List Point)) × AreRingsOf es rings
unfolding with_slits AllSlits
boundary_rings ss es o b =
    let l = boundary_loops ss es o b in
    let s = slits_of ss es l.0 o b l.1 in
    let c = slits_cut_none ss es s.slits o b (λ t h. (s.copper t h).finish) in
    let a = subst (λ zs. Alternate (zs ++ both_ways s.slits)) (sym c) (all_alternate ss es s.slits o b s.copper) in
    let d = are_drawn (with_slits es s.slits) (tidy_with es l.0 s.slits (tidy ss es o b) l.1 s.each) a in
    (d.corners, record { loops = l.0; are = l.1; slits = s.slits; each = s.each; walks = d.walks; contours = d.are })

-- ---- any right slits
pub boundary_slits : (ss : List Strip) (es : List Edge) (loops : List Loop) → AreOrdered ss → AreBoundary ss es → AreLoopsOf es loops → (slits : List Edge) × AllZip (IsSlit es) (holes_of loops) slits
boundary_slits ss es loops o b a = let s = slits_of ss es loops o b a in (s.slits, s.each)

pub slits_alternate : (ss : List Strip) (es : List Edge) (loops : List Loop) (slits : List Edge) → AreOrdered ss → AreBoundary ss es → AreLoopsOf es loops → AllZip (IsSlit es) (holes_of loops) slits
    → Alternate (with_slits es slits) × (cut_by slits es ≡ es)
unfolding with_slits AllSlits
slits_alternate ss es loops slits o b a z =
    let s = slits_of ss es loops o b a in
    let k = slits_one es es (holes_of loops) s.slits slits (record { there = λ e h. h; back = λ e h. h }) s.each z in
    let c = slits_cut_none ss es s.slits o b (λ t h. (s.copper t h).finish) in
    let d = subst (λ zs. Alternate (zs ++ both_ways s.slits)) (sym c) (all_alternate ss es s.slits o b s.copper) in
    (subst (λ ts. Alternate (cut_by ts es ++ both_ways ts)) k d, subst (λ ts. cut_by ts es ≡ es) k c)
