-- A slit goes as far as the last edge that begins before its corner, if that begins in the same row.
use Rattle.std.proofs.Common.{◌≡◌, refl, sym, subst, ap, ◌∙◌, ℕ, zero, suc, ◌+◌, ◌-◌, ◌<◌, ◌≤◌, inl, inr, arith, List, [], ◌∷◌, length, get_or, drop, drop-cons, Bool, true, false, not}
use Rattle.std.specs.Prelude.{ℤ, ◌≤ℤ◌, ◌&&◌, ◌||◌, int_lt, if◌then◌else◌}
use Rattle.std.specs.Ordering.{int_eq}
use Rattle.std.specs.List.Sorted.{IsPartitionPoint}
use Rattle.std.proofs.lemmas.Int.{ints, by_lt_z}
use Rattle.std.proofs.lemmas.Bool.{false≢true, or_parts}
use Rattle.std.proofs.lemmas.Bool.Decides.{Decides-int_eq}
use Rattle.std.proofs.lemmas.List.{get_or-drop, length-drop}
use Rattle.grid_num.specs.declared.Point.{Point}
use Rattle.plane.specs.Covering.{Edge}
use Rattle.plane.proofs.Counts.{less_true, less_false}
use Rattle.rings.specs.Inner.Tracing.{Reach, reach_more, slit_reach}
use Rattle.sheet_trace.specs.declared.edge.BoundaryEdge.{BoundaryEdge}
use Rattle.sheet_trace.specs.Edges.{edge_of, edges_in}
use Rattle.sheet_trace.specs.Next.{AreByStart, is_before}
use Rattle.sheet_trace.specs.Inner.Turns.{x_by, reached}
use Rattle.sheet_trace.proofs.Found.{bool_cases}
use Rattle.sheet_trace.proofs.Ranges.{NotLater, before_told, start_at, in_order}

abbrev nothing : Point → Reach
nothing h = record { some = false; x = h.x }

abbrev as_far : ℤ → Reach
as_far x = record { some = true; x = x }

-- what is reached when the last of the edges before h begins at s
unfoldable reach_by : Point → Point → Reach
reach_by h s = if int_eq s.y h.y then as_far s.x else nothing h

by_row : (h s : Point) → int_eq s.y h.y ≡ true → reach_by h s ≡ as_far s.x
unfolding reach_by
by_row h s e = rw e refl

by_none : (h s : Point) → int_eq s.y h.y ≡ false → reach_by h s ≡ nothing h
unfolding reach_by
by_none h s e = rw e refl

-- ---- one more edge
more_by : (h : Point) (r : Reach) (e : Edge) (p q s t : Bool) → int_eq e.start.y h.y ≡ p → int_lt e.start.x h.x ≡ q → r.some ≡ s → int_lt r.x e.start.x ≡ t
    → reach_more h r e ≡ (if (p && q) && (not s || t) then as_far e.start.x else r)
unfolding reach_more
more_by h r e p q s t a b c d = rw (a, b, c, d) refl

other_row : (h : Point) (r : Reach) (e : Edge) → int_eq e.start.y h.y ≡ false → reach_more h r e ≡ r
other_row h r e a = more_by h r e false (int_lt e.start.x h.x) r.some (int_lt r.x e.start.x) a refl refl refl

not_left : (h : Point) (r : Reach) (e : Edge) → int_eq e.start.y h.y ≡ true → int_lt e.start.x h.x ≡ false → reach_more h r e ≡ r
not_left h r e a b = more_by h r e true false r.some (int_lt r.x e.start.x) a b refl refl

not_reached : (h : Point) (r : Reach) (e : Edge) → is_before e.start h ≡ false → reach_more h r e ≡ r
unfolding is_before
not_reached h r e n = elim (bool_cases (int_eq e.start.y h.y)) [
  | inr a ↦ other_row h r e a
  | inl a ↦ not_left h r e a (sym (ap (λ b. b && int_lt e.start.x h.x) a) ∙ (or_parts (int_lt e.start.y h.y) (int_eq e.start.y h.y && int_lt e.start.x h.x) n).1)
]

first_in : (h : Point) (e : Edge) → int_eq e.start.y h.y ≡ true → int_lt e.start.x h.x ≡ true → reach_more h (nothing h) e ≡ as_far e.start.x
first_in h e a b = more_by h (nothing h) e true true false (int_lt h.x e.start.x) a b refl refl

next_in : (h : Point) (x : ℤ) (e : Edge) → x ≤ℤ e.start.x → int_eq e.start.y h.y ≡ true → int_lt e.start.x h.x ≡ true → reach_more h (as_far x) e ≡ as_far e.start.x
next_in h x e l a b = elim (bool_cases (int_lt x e.start.x)) [
  | inl t ↦ more_by h (as_far x) e true true true true a b refl t
  | inr t ↦ more_by h (as_far x) e true true true false a b refl t ∙ ap as_far (by_lt_z {P = x ≡ e.start.x} x e.start.x (λ k. absurd (false≢true (sym t ∙ less_true x e.start.x k))) (λ k. omega (arith, ints, l, k)))
]

-- the edge begins before h: in its row on the left, or above
left_of : (s h : Point) → is_before s h ≡ true → int_eq s.y h.y ≡ true → int_lt s.x h.x ≡ true
unfolding is_before
left_of s h b e =
    let y = (Decides-int_eq s.y h.y).0 e in
    sym (ap (λ c. c || (int_eq s.y h.y && int_lt s.x h.x)) (less_false s.y h.y (omega (arith, ints, y))) ∙ ap (λ c. c && int_lt s.x h.x) e) ∙ b

not_below : (s h : Point) → is_before s h ≡ true → s.y ≤ℤ h.y
not_below s h b = elim (before_told s h b) [ inl l ↦ omega (arith, ints, l) | inr m ↦ (let k = m.0 in omega (arith, ints, k)) ]

first_step : (h : Point) (e : Edge) → is_before e.start h ≡ true → reach_more h (nothing h) e ≡ reach_by h e.start
first_step h e b = elim (bool_cases (int_eq e.start.y h.y)) [
  | inr a ↦ other_row h (nothing h) e a ∙ sym (by_none h e.start a)
  | inl a ↦ first_in h e a (left_of e.start h b a) ∙ sym (by_row h e.start a)
]

above : (h s t : Point) → NotLater s t → t.y ≤ℤ h.y → int_eq t.y h.y ≡ false → int_eq s.y h.y ≡ true → ⊥
above h s t (inl l) b n e = let k = (Decides-int_eq s.y h.y).0 e in omega (arith, ints, l, b, k)
above h s t (inr m) b n e = false≢true (sym n ∙ ap (λ y. int_eq y h.y) (sym m.0) ∙ e)

before_in_row : (h s t : Point) → NotLater s t → int_eq t.y h.y ≡ true → int_eq s.y h.y ≡ true → s.x ≤ℤ t.x
before_in_row h s t (inl l) a b = let k = (Decides-int_eq t.y h.y).0 a in let m = (Decides-int_eq s.y h.y).0 b in absurd (omega (arith, ints, l, k, m))
before_in_row h s t (inr m) a b = m.1

next_step : (h s : Point) (e : Edge) → NotLater s e.start → is_before e.start h ≡ true → reach_more h (reach_by h s) e ≡ reach_by h e.start
next_step h s e n b = elim (bool_cases (int_eq e.start.y h.y)) [
  | inr a ↦ elim (bool_cases (int_eq s.y h.y)) [
    | inl c ↦ absurd (above h s e.start n (not_below e.start h b) a c)
    | inr c ↦ other_row h (reach_by h s) e a ∙ by_none h s c ∙ sym (by_none h e.start a)
  ]
  | inl a ↦ elim (bool_cases (int_eq s.y h.y)) [
    | inl c ↦ ap (λ r. reach_more h r e) (by_row h s c) ∙ next_in h s.x e (before_in_row h s e.start n a c) a (left_of e.start h b a) ∙ sym (by_row h e.start a)
    | inr c ↦ ap (λ r. reach_more h r e) (by_none h s c) ∙ first_in h e a (left_of e.start h b a) ∙ sym (by_row h e.start a)
  ]
]

-- ---- all of them
so_far : Point → List BoundaryEdge → BoundaryEdge → ℕ → Reach
so_far h es d zero = nothing h
so_far h es d (suc k) = reach_by h (start_at es k d)

one_more : (h : Point) (es : List BoundaryEdge) (d : BoundaryEdge) (k : ℕ) → AreByStart es → k < length es → is_before (start_at es k d) h ≡ true
    → reach_more h (so_far h es d k) (edge_of (get_or es k d)) ≡ reach_by h (start_at es k d)
unfolding so_far
one_more h es d zero o l b = first_step h (edge_of (get_or es 0 d)) b
one_more h es d (suc k) o l b = next_step h (start_at es k d) (edge_of (get_or es (suc k) d)) (in_order es o k (suc k) d (omega arith) l) b

front_is : (h : Point) (es : List BoundaryEdge) (d : BoundaryEdge) (i : ℕ) → AreByStart es → i ≤ length es → ((k : ℕ) → k < i → is_before (start_at es k d) h ≡ true)
    → slit_reach h (so_far h es d i) (edges_in (drop i es)) ≡ slit_reach h (nothing h) (edges_in es)
unfolding so_far slit_reach edges_in
front_is h es d zero o l f = refl
front_is h es d (suc k) o l f =
    ap (λ r. slit_reach h r (edges_in (drop (suc k) es))) (sym (one_more h es d k o (omega (arith, l)) (f k (omega arith))))
    ∙ (ap (λ zs. slit_reach h (so_far h es d k) (edges_in zs)) (sym (drop-cons es k d (omega (arith, l))))
    ∙ front_is h es d k o (omega (arith, l)) (λ j m. f j (omega (arith, m))))

back_is : (h : Point) (r : Reach) (es : List BoundaryEdge) → ((k : ℕ) (d : BoundaryEdge) → k < length es → is_before (start_at es k d) h ≡ false) → slit_reach h r (edges_in es) ≡ r
unfolding slit_reach edges_in
back_is h r [] f = refl
back_is h r (e ∷ es) f =
    ap (λ q. slit_reach h q (edges_in es)) (not_reached h r (edge_of e) (f 0 e (omega arith))) ∙ back_is h r es (λ k d l. f (suc k) d (omega (arith, l)))

abbrev IsSplit : Point → List BoundaryEdge → ℕ → Type 0
IsSplit h es i = IsPartitionPoint (λ (e : BoundaryEdge). is_before e.start h ≡ true) (λ (e : BoundaryEdge). is_before e.start h ≡ false) es i

all_is : (h : Point) (es : List BoundaryEdge) (d : BoundaryEdge) (i : ℕ) → AreByStart es → i ≤ length es → IsSplit h es i → slit_reach h (nothing h) (edges_in es) ≡ so_far h es d i
all_is h es d i o l p =
    sym (front_is h es d i o l (λ k m. p.0 k d (omega arith) m))
    ∙ back_is h (so_far h es d i) (drop i es)
    (λ k c m. (let n = length-drop i es in ap (λ (e : BoundaryEdge). is_before e.start h) (get_or-drop i es k c) ∙ p.1 (i + k) c (omega arith) (omega (arith, m, n, l))))

pub none_before : (h : Point) (es : List BoundaryEdge) (d : BoundaryEdge) (i : ℕ) → AreByStart es → IsSplit h es i → i ≡ 0 → h.x ≡ reached (edges_in es) h
unfolding reached so_far
none_before h es d i o p z =
    let q = subst (IsSplit h es) z p in
    ap (λ (r : Reach). r.x) (sym (all_is h es d 0 o (omega arith) q))

last_is : (h : Point) (es : List BoundaryEdge) (d : BoundaryEdge) (i : ℕ) → AreByStart es → i ≤ length es → IsSplit h es i → (i ≡ 0 → ⊥) → slit_reach h (nothing h) (edges_in es) ≡ reach_by h (start_at es (i - 1) d)
unfolding so_far
last_is h es d i o l p z =
    let e : i ≡ suc (i - 1) = omega (arith, z) in
    all_is h es d i o l p ∙ ap (so_far h es d) e

reach_x : (h s : Point) → (reach_by h s).x ≡ x_by h s
unfolding x_by
reach_x h s = at (int_eq s.y h.y) refl
  where
    at : (b : Bool) → int_eq s.y h.y ≡ b → (reach_by h s).x ≡ (if int_eq s.y h.y then s.x else h.x)
    at true e = ap (λ (r : Reach). r.x) (by_row h s e) ∙ sym (rw e refl)
    at false e = ap (λ (r : Reach). r.x) (by_none h s e) ∙ sym (rw e refl)

pub last_before : (h : Point) (es : List BoundaryEdge) (d : BoundaryEdge) (i : ℕ) → AreByStart es → i ≤ length es → IsSplit h es i → (i ≡ 0 → ⊥) → x_by h (start_at es (i - 1) d) ≡ reached (edges_in es) h
unfolding reached
last_before h es d i o l p z = sym (ap (λ (r : Reach). r.x) (last_is h es d i o l p z) ∙ reach_x h (start_at es (i - 1) d))
