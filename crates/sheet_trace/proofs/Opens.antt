-- The least corner of a walk, and whether one of the visits to it passes due left.
use Rattle.std.proofs.Common.{◌≡◌, refl, sym, subst, ap, ◌∙◌, ℕ, zero, suc, ◌+◌, ◌-◌, ◌<◌, ◌≤◌, ◌⊎◌, inl, inr, arith, List, [], ◌∷◌, length, get_or, drop, Bool, true, false, not}
use Rattle.std.specs.Prelude.{◌<ℤ◌, ◌&&◌, ◌||◌, nat_lt, nat_eq}
use Rattle.std.specs.List.{list_all}
use Rattle.std.specs.Ordering.{int_eq}
use Rattle.std.proofs.lemmas.Int.{ints, by_lt_z}
use Rattle.std.proofs.lemmas.Bool.{false≢true, eqb-true, false_from_ne_true}
use Rattle.std.proofs.lemmas.Bool.Decides.{Decides-int_eq}
use Rattle.grid_num.specs.declared.Point.{Point}
use Rattle.plane.specs.Covering.{Edge}
use Rattle.rings.specs.Turning.{direction, turn_to}
use Rattle.rings.specs.Walks.{Visit, visits, visits_after, last_of, visit_corner, IsLess}
use Rattle.rings.specs.Inner.Tracing.{is_same_point, is_less_point, is_open_left, some_visit}
use Rattle.rings.proofs.Lists.{Has}
use Rattle.rings.proofs.Order.{point_same, less_never, less_on, less_cases}
use Rattle.rings.proofs.Unique.{and_both}
use Rattle.rings.proofs.Heads.{goes_has, visit_goes}
use Rattle.sheet_trace.specs.declared.edge.BoundaryEdge.{BoundaryEdge}
use Rattle.sheet_trace.specs.Edges.{edge_of, edges_in}
use Rattle.sheet_trace.specs.Next.{is_before, heading, turn_between}
use Rattle.sheet_trace.specs.Inner.Turns.{lesser_corner, least_start, turn_left, opens_at}
use Rattle.sheet_trace.specs.Inner.Visits.{visit_of}
use Rattle.sheet_trace.proofs.Found.{bool_cases}
use Rattle.sheet_trace.proofs.Folds.{drop_here, drop_all}
use Rattle.sheet_trace.proofs.Ranges.{turn_is}

-- ---- tests
pub same_told : (a b : Point) → is_same_point a b ≡ true → a ≡ b
unfolding is_same_point
same_told a b h = let s = and_both (int_eq a.x b.x) (int_eq a.y b.y) h in point_same a b ((Decides-int_eq a.x b.x).0 s.0) ((Decides-int_eq a.y b.y).0 s.1)

pub same_meets : (a b : Point) → a ≡ b → is_same_point a b ≡ true
unfolding is_same_point
same_meets a b e = ap (λ c. c && int_eq a.y b.y) ((Decides-int_eq a.x b.x).1 (ap (λ q. q.x) e)) ∙ (Decides-int_eq a.y b.y).1 (ap (λ q. q.y) e)

pub before_is : (a b : Point) → is_before a b ≡ is_less_point a b
unfolding is_before is_less_point
before_is a b = refl

pub less_told : (a b : Point) → is_less_point a b ≡ true → IsLess a b
unfolding is_less_point IsLess
less_told a b h = by_lt_z {P = (a.y <ℤ b.y) ⊎ ((a.y ≡ b.y) × (a.x <ℤ b.x))} a.y b.y (λ l. inl l) (λ l. inr (grind (arith, ints, l, h), grind (arith, ints, l, h)))

pub less_meets : (a b : Point) → IsLess a b → is_less_point a b ≡ true
unfolding is_less_point IsLess
less_meets a b (inl l) = grind (arith, ints)
less_meets a b (inr m) = let m0 = m.0 in let m1 = m.1 in grind (arith, ints, m0, m1)

-- ---- the least corner
abbrev IsNotLess : Point → Point → Type 0
IsNotLess a b = IsLess a b → ⊥

not_less_on : (a b c : Point) → IsNotLess a b → IsNotLess b c → IsNotLess a c
not_less_on a b c f g l = elim (less_cases a b) [
  | inl h ↦ f h
  | inr o ↦ elim o [ inl e ↦ g (subst (λ z. IsLess z c) e l) | inr h ↦ g (less_on b a c h l) ]
]

record IsLesser (a b c : Point) : Type 0 where
  one : IsNotLess a c
  other : IsNotLess b c
  is : (c ≡ a) ⊎ (c ≡ b)

lesser_is : (a b : Point) → IsLesser a b (lesser_corner a b)
unfolding lesser_corner
lesser_is a b = at (bool_cases (is_before b a))
  where
    at : (is_before b a ≡ true) ⊎ (is_before b a ≡ false) → IsLesser a b (lesser_corner a b)
    at (inl h) =
        let l = less_told b a (sym (before_is b a) ∙ h) in
        rw h (record { one = λ k. less_never a (less_on a b a k l); other = less_never b; is = inr refl })
    at (inr h) = rw h (record { one = less_never a; other = λ k. false≢true (sym h ∙ (before_is b a ∙ less_meets b a k)); is = inl refl })

record IsLeast (first : Point) (es : List BoundaryEdge) (c : Point) : Type 0 where
  front : IsNotLess first c
  low : (e : BoundaryEdge) → Has es e → IsNotLess e.start c
  is : (c ≡ first) ⊎ ((e : BoundaryEdge) × Has es e × (e.start ≡ c))

least_is : (first : Point) (es : List BoundaryEdge) → IsLeast first es (least_start first es)
unfolding least_start Has
least_is first [] = record { front = less_never first; low = λ e h. absurd h; is = inl refl }
least_is first (e ∷ es) =
    let l = lesser_is first e.start in
    let c = lesser_corner first e.start in
    let r = least_is c es in
    let end = least_start c es in
    record {
      front = not_less_on first c end l.one r.front;
      low = λ f h. elim h [
        | inl q ↦ subst (λ (z : BoundaryEdge). IsNotLess z.start end) q (not_less_on e.start c end l.other r.front)
        | inr h ↦ r.low f h
      ];
      is = elim r.is [
        | inl k ↦ elim l.is [ inl m ↦ inl (k ∙ m) | inr m ↦ inr (e, inl refl, sym (k ∙ m)) ]
        | inr k ↦ inr (k.0, inr k.1, k.2)
      ];
    }

-- of the starts of the edges none is less, and it is one of them
record IsLow (w : List Edge) (c : Point) : Type 0 where
  low : (e : Edge) → Has w e → IsNotLess e.start c
  one : (e : Edge) × Has w e × (e.start ≡ c)

in_edges : (es : List BoundaryEdge) (e : Edge) → Has (edges_in es) e → (f : BoundaryEdge) × Has es f × (edge_of f ≡ e)
unfolding edges_in Has
in_edges [] e h = absurd h
in_edges (f ∷ fs) e (inl k) = (f, inl refl, k)
in_edges (f ∷ fs) e (inr h) = let r = in_edges fs e h in (r.0, inr r.1, r.2)

edges_have : (es : List BoundaryEdge) (e : BoundaryEdge) → Has es e → Has (edges_in es) (edge_of e)
unfolding edges_in Has
edges_have [] e h = absurd h
edges_have (f ∷ fs) e (inl k) = inl (ap edge_of k)
edges_have (f ∷ fs) e (inr h) = inr (edges_have fs e h)

low_is : (e : BoundaryEdge) (es : List BoundaryEdge) → IsLow (edges_in (e ∷ es)) (least_start e.start (e ∷ es))
unfolding Has
low_is e es =
    let r = least_is e.start (e ∷ es) in
    record {
      low = λ f h. (let k = in_edges (e ∷ es) f h in subst (λ (z : Edge). IsNotLess z.start (least_start e.start (e ∷ es))) k.2 (r.low k.0 k.1));
      one = elim r.is [
        | inl k ↦ (edge_of e, edges_have (e ∷ es) e (inl refl), sym k)
        | inr k ↦ (edge_of k.0, edges_have (e ∷ es) k.0 k.1, k.2)
      ];
    }

-- ---- a visit is to the least corner just where no other is to a lesser one
all_told : {X : Type 0} (p : X → Bool) (xs : List X) → list_all p xs ≡ true → (x : X) → Has xs x → p x ≡ true
unfolding Has
all_told p [] a x h = absurd h
all_told p (y ∷ ys) a x (inl e) = ap p (sym e) ∙ (and_both (p y) (list_all p ys) a).0
all_told p (y ∷ ys) a x (inr h) = all_told p ys (and_both (p y) (list_all p ys) a).1 x h

all_meets : {X : Type 0} (p : X → Bool) (xs : List X) → ((x : X) → Has xs x → p x ≡ true) → list_all p xs ≡ true
unfolding Has
all_meets p [] f = refl
all_meets p (y ∷ ys) f = ap (λ b. b && list_all p ys) (f y (inl refl)) ∙ all_meets p ys (λ x h. f x (inr h))

same_bool : (b c : Bool) → (b ≡ true → c ≡ true) → (c ≡ true → b ≡ true) → b ≡ c
same_bool true c f g = sym (f refl)
same_bool false true f g = g refl
same_bool false false f g = refl

not_true : (b : Bool) → not b ≡ true → b ≡ true → ⊥
not_true true h k = false≢true h
not_true false h k = false≢true k

least_test : (w : List Edge) (c : Point) (v : Visit) → IsLow w c → Has (visits w) v → list_all (λ u. not (is_less_point (visit_corner u) (visit_corner v))) (visits w) ≡ is_same_point (visit_corner v) c
least_test w c v l h = same_bool (list_all (λ u. not (is_less_point (visit_corner u) (visit_corner v))) (visits w)) (is_same_point (visit_corner v) c) there back
  where
    there : list_all (λ u. not (is_less_point (visit_corner u) (visit_corner v))) (visits w) ≡ true → is_same_point (visit_corner v) c ≡ true
    there a =
        let u = visit_goes w l.one.0 l.one.1 in
        let k : visit_corner u.0 ≡ c = ap (λ (e : Edge). e.start) u.2 ∙ l.one.2 in
        let n = not_true (is_less_point (visit_corner u.0) (visit_corner v)) (all_told (λ u. not (is_less_point (visit_corner u) (visit_corner v))) (visits w) a u.0 u.1) in
        same_meets (visit_corner v) c (elim (less_cases (visit_corner v) c) [
          | inl m ↦ absurd (l.low v.goes (goes_has w v h) m)
          | inr o ↦ elim o [ inl e ↦ e | inr m ↦ absurd (n (less_meets (visit_corner u.0) (visit_corner v) (subst (λ z. IsLess z (visit_corner v)) (sym k) m))) ]
        ])

    back : is_same_point (visit_corner v) c ≡ true → list_all (λ u. not (is_less_point (visit_corner u) (visit_corner v))) (visits w) ≡ true
    back s =
        let e = same_told (visit_corner v) c s in
        all_meets (λ u. not (is_less_point (visit_corner u) (visit_corner v))) (visits w)
        (λ u i. ap not (false_from_ne_true (is_less_point (visit_corner u) (visit_corner v)) (λ t. l.low u.goes (goes_has w u i) (subst (IsLess (visit_corner u)) e (less_told (visit_corner u) (visit_corner v) t)))))

and_turned : (a b : Bool) → (a && b) ≡ (b && a)
and_turned true true = refl
and_turned true false = refl
and_turned false true = refl
and_turned false false = refl

opens_same : (w : List Edge) (c : Point) (v : Visit) → IsLow w c → Has (visits w) v → opens_at c v ≡ is_open_left w v
unfolding opens_at is_open_left
opens_same w c v l h =
    let t = nat_lt (turn_to v.comes 4) (turn_to v.comes (direction v.goes)) in
    and_turned (is_same_point (visit_corner v) c) t ∙ ap (λ b. t && b) (sym (least_test w c v l h))

some_same : (p q : Visit → Bool) (vs : List Visit) → ((v : Visit) → Has vs v → p v ≡ q v) → some_visit p vs ≡ some_visit q vs
unfolding some_visit Has
some_same p q [] f = refl
some_same p q (v ∷ vs) f = ap (λ b. b || some_visit p vs) (f v (inl refl)) ∙ ap (λ b. q v || b) (some_same p q vs (λ u h. f u (inr h)))

last_is : (e : BoundaryEdge) (es : List BoundaryEdge) (d : BoundaryEdge) → last_of (edge_of e) (edges_in es) ≡ edge_of (get_or (e ∷ es) (length es) d)
unfolding last_of edges_in
last_is e [] d = refl
last_is e (f ∷ es) d = last_is f es d

-- the walk's visits, begun with the last edge
pub visits_by : (es : List BoundaryEdge) (d : BoundaryEdge) → 0 < length es → visits (edges_in es) ≡ visits_after (edge_of (get_or es (length es - 1) d)) (edges_in es)
unfolding visits edges_in
visits_by [] d l = absurd (omega (arith, l))
visits_by (e ∷ es) d l =
    let k : length (e ∷ es) - 1 ≡ length es = omega arith in
    ap (λ z. visits_after z (edges_in (e ∷ es))) (last_is e es d ∙ ap (λ n. edge_of (get_or (e ∷ es) n d)) (sym k))

hole_is : (es : List BoundaryEdge) (a b : BoundaryEdge) → 0 < length es
    → some_visit (opens_at (least_start (get_or es 0 a).start es)) (visits_after (edge_of (get_or es (length es - 1) b)) (edges_in es)) ≡ some_visit (is_open_left (edges_in es)) (visits (edges_in es))
hole_is [] a b l = absurd (omega (arith, l))
hole_is (e ∷ es) a b l =
    let w = edges_in (e ∷ es) in
    let c = least_start e.start (e ∷ es) in
    ap (λ vs. some_visit (opens_at c) vs) (sym (visits_by (e ∷ es) b l)) ∙ some_same (opens_at c) (is_open_left w) (visits w) (λ v h. opens_same w c v (low_is e es) h)

pub hole_by : (es : List BoundaryEdge) (a b : BoundaryEdge) (at : Point) (r : Bool) → 0 < length es → at ≡ least_start (get_or es 0 a).start es
    → r ≡ some_visit (opens_at at) (visits_after (edge_of (get_or es (length es - 1) b)) (edges_in es)) → r ≡ some_visit (is_open_left (edges_in es)) (visits (edges_in es))
hole_by es a b at r l e h = h ∙ (ap (λ c. some_visit (opens_at c) (visits_after (edge_of (get_or es (length es - 1) b)) (edges_in es))) e ∙ hole_is es a b l)

pub empty_told : (n : ℕ) (b : Bool) → b ≡ nat_eq n 0 → b ≡ true → n ≤ 0
empty_told n b e t = let k = eqb-true n 0 (sym e ∙ t) in omega (arith, k)

pub some_told : (n : ℕ) (b : Bool) → b ≡ nat_eq n 0 → b ≡ false → 0 < n
some_told zero b e t = absurd (false≢true (sym t ∙ e))
some_told (suc n) b e t = omega arith

pub no_hole : (es : List BoundaryEdge) → length es ≤ 0 → false ≡ some_visit (is_open_left (edges_in es)) (visits (edges_in es))
unfolding some_visit visits edges_in
no_hole [] l = refl
no_hole (e ∷ es) l = absurd (omega (arith, l))

-- ---- steps of the passes
pub least_step : (es : List BoundaryEdge) (k : ℕ) (d : BoundaryEdge) (c new all : Point) → k < length es → new ≡ lesser_corner c (get_or es k d).start → least_start c (drop k es) ≡ all
    → least_start new (drop (k + 1) es) ≡ all
unfolding least_start
least_step es k d c new all l e h = ap (λ z. least_start z (drop (k + 1) es)) e ∙ (ap (least_start c) (sym (drop_here es k d l)) ∙ h)

pub least_end : (es : List BoundaryEdge) (k : ℕ) (c all : Point) → length es ≤ k → least_start c (drop k es) ≡ all → c ≡ all
unfolding least_start
least_end es k c all l h = ap (least_start c) (sym (drop_all es k l)) ∙ h

abbrev some_from : Point → Edge → List BoundaryEdge → Bool
some_from at e es = some_visit (opens_at at) (visits_after e (edges_in es))

some_step : (at : Point) (es : List BoundaryEdge) (k : ℕ) (d : BoundaryEdge) (e : Edge) → k < length es
    → some_from at e (drop k es) ≡ (opens_at at (record { comes = e; goes = edge_of (get_or es k d) }) || some_from at (edge_of (get_or es k d)) (drop (k + 1) es))
unfolding some_visit visits_after edges_in
some_step at es k d e l = ap (some_from at e) (drop_here es k d l)

pub some_yes : (at : Point) (es : List BoundaryEdge) (k : ℕ) (d e : BoundaryEdge) (b all : Bool) → k < length es → b ≡ opens_at at (visit_of e (get_or es k d)) → b ≡ true
    → some_from at (edge_of e) (drop k es) ≡ all → true ≡ all
some_yes at es k d e b all l o t h =
    let rest = some_from at (edge_of (get_or es k d)) (drop (k + 1) es) in
    ap (λ c. c || rest) (sym t ∙ o) ∙ (sym (some_step at es k d (edge_of e) l) ∙ h)

pub some_no : (at : Point) (es : List BoundaryEdge) (k : ℕ) (d e new : BoundaryEdge) (b all : Bool) → k < length es → b ≡ opens_at at (visit_of e (get_or es k d)) → b ≡ false → new ≡ get_or es k d
    → some_from at (edge_of e) (drop k es) ≡ all → some_from at (edge_of new) (drop (k + 1) es) ≡ all
some_no at es k d e new b all l o t n h =
    let rest = some_from at (edge_of (get_or es k d)) (drop (k + 1) es) in
    ap (λ z. some_from at (edge_of z) (drop (k + 1) es)) n ∙ (ap (λ c. c || rest) (sym t ∙ o) ∙ (sym (some_step at es k d (edge_of e) l) ∙ h))

pub some_end : (at : Point) (es : List BoundaryEdge) (k : ℕ) (e : Edge) (all : Bool) → length es ≤ k → some_from at e (drop k es) ≡ all → false ≡ all
unfolding some_visit visits_after edges_in
some_end at es k e all l h = ap (some_from at e) (sym (drop_all es k l)) ∙ h

-- ---- turns
pub turn_left_is : (e : BoundaryEdge) → turn_left e ≡ turn_to (edge_of e) 4
unfolding turn_left heading turn_to direction
turn_left_is e = refl

pub opens_by : (at : Point) (e f : BoundaryEdge) (s : Bool) (x y : ℕ) → s ≡ is_same_point f.start at → x ≡ turn_left e → y ≡ turn_between e f → (s && nat_lt x y) ≡ opens_at at (visit_of e f)
unfolding opens_at
opens_by at e f s x y p q r = rw (p, q ∙ turn_left_is e, r ∙ turn_is e f) refl

pub opens_no : (at : Point) (e f : BoundaryEdge) (s : Bool) → s ≡ is_same_point f.start at → s ≡ false → s ≡ opens_at at (visit_of e f)
unfolding opens_at
opens_no at e f s p n = n ∙ sym (ap (λ b. b && nat_lt (turn_to (edge_of e) 4) (turn_to (edge_of e) (direction (edge_of f)))) (sym p ∙ n))
