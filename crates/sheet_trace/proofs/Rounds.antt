-- The bends of a walk, and the least of the lists of them that begin at one of them.
use Rattle.std.proofs.Common.{◌≡◌, refl, sym, subst, ap, ◌∙◌, ℕ, ◌+◌, ◌-◌, ◌<◌, ◌≤◌, ◌⊎◌, inl, inr, arith, List, [], ◌∷◌, ◌++◌, length, get_or, drop, take, Bool, true, false, not}
use Rattle.std.specs.Prelude.{◌&&◌, ◌||◌, nat_lt, nat_eq, map, if◌then◌else◌}
use Rattle.std.specs.List.{filter}
use Rattle.std.proofs.lemmas.Bool.{cases_lt, lt-ltb, ltb-true, eq-eqb, ne_eqb, false_from_ne_true}
use Rattle.std.proofs.lemmas.List.{append-nil, append_assoc, length-append, length-drop, length-take, get_or_append_left, get_or-append_right, get_or-drop, get_or-take, take_more}
use Rattle.grid_num.specs.declared.Point.{Point}
use Rattle.plane.specs.Covering.{Edge}
use Rattle.rings.specs.Turning.{direction}
use Rattle.rings.specs.Walks.{Visit, visits, visits_after, visit_corner, is_bend, bends, IsLess}
use Rattle.rings.specs.Inner.Tracing.{is_same_point, is_less_point, is_less_list, lesser_list, least_from, contour_of}
use Rattle.rings.proofs.Order.{less_never}
use Rattle.sheet_trace.specs.declared.edge.BoundaryEdge.{BoundaryEdge}
use Rattle.sheet_trace.specs.Edges.{edge_of, edges_in}
use Rattle.sheet_trace.specs.Next.{is_before, heading}
use Rattle.sheet_trace.specs.Inner.Visits.{visit_of, bend_at, bends_after, place_around, begun_at}
use Rattle.sheet_trace.proofs.Folds.{drop_here, drop_all}
use Rattle.sheet_trace.proofs.Opens.{same_told, before_is, less_told, visits_by}

-- ---- bends
heading_is : (e : BoundaryEdge) → heading e ≡ direction (edge_of e)
unfolding heading direction
heading_is e = refl

bend_is : (v : Visit) (b : Bool) → is_bend v ≡ b → bend_at v ≡ (if b then visit_corner v ∷ [] else [])
unfolding bend_at
bend_is v b e = rw e refl

test_is : (e f : BoundaryEdge) (x y : ℕ) → x ≡ heading e → y ≡ heading f → is_bend (visit_of e f) ≡ not (nat_eq x y)
unfolding is_bend
test_is e f x y p q = rw (p ∙ heading_is e, q ∙ heading_is f) refl

pub no_bend : (e f : BoundaryEdge) (x y : ℕ) (old : List Point) → x ≡ heading e → y ≡ heading f → x ≡ y → old ≡ old ++ bend_at (visit_of e f)
no_bend e f x y old p q h = sym (ap (λ zs. old ++ zs) (bend_is (visit_of e f) false (test_is e f x y p q ∙ ap not (eq-eqb x y h))) ∙ append-nil old)

pub some_bend : (e f : BoundaryEdge) (x y : ℕ) (old new : List Point) → x ≡ heading e → y ≡ heading f → (x ≡ y → ⊥) → new ≡ old ++ f.start ∷ [] → new ≡ old ++ bend_at (visit_of e f)
some_bend e f x y old new p q h n = n ∙ sym (ap (λ zs. old ++ zs) (bend_is (visit_of e f) true (test_is e f x y p q ∙ ap not (ne_eqb x y h))))

filter_one : (p : Visit → Bool) (v : Visit) (vs : List Visit) (b : Bool) → p v ≡ b → map visit_corner (filter p (v ∷ vs)) ≡ (if b then visit_corner v ∷ [] else []) ++ map visit_corner (filter p vs)
filter_one p v vs true e = rw e refl
filter_one p v vs false e = rw e refl

bends_next : (e f : Edge) (fs : List Edge) → bends_after e (f ∷ fs) ≡ bend_at (record { comes = e; goes = f }) ++ bends_after f fs
unfolding bends_after visits_after bend_at
bends_next e f fs = let v : Visit = record { comes = e; goes = f } in filter_one is_bend v (visits_after f fs) (is_bend v) refl

pub bends_step : (es : List BoundaryEdge) (k : ℕ) (d e next : BoundaryEdge) (out new all : List Point) → k < length es → new ≡ out ++ bend_at (visit_of e (get_or es k d)) → next ≡ get_or es k d
    → out ++ bends_after (edge_of e) (edges_in (drop k es)) ≡ all → new ++ bends_after (edge_of next) (edges_in (drop (k + 1) es)) ≡ all
unfolding edges_in
bends_step es k d e next out new all l n q h =
    let f = get_or es k d in
    let rest = bends_after (edge_of f) (edges_in (drop (k + 1) es)) in
    ap (λ z. new ++ bends_after (edge_of z) (edges_in (drop (k + 1) es))) q
    ∙ (ap (λ zs. zs ++ rest) n
    ∙ (append_assoc out (bend_at (visit_of e f)) rest
    ∙ (ap (λ zs. out ++ zs) (sym (bends_next (edge_of e) (edge_of f) (edges_in (drop (k + 1) es))))
    ∙ (ap (λ zs. out ++ bends_after (edge_of e) (edges_in zs)) (sym (drop_here es k d l)) ∙ h))))

pub bends_end : (es : List BoundaryEdge) (k : ℕ) (e : Edge) (out all : List Point) → length es ≤ k → out ++ bends_after e (edges_in (drop k es)) ≡ all → out ≡ all
unfolding edges_in bends_after visits_after
bends_end es k e out all l h = sym (append-nil out) ∙ (ap (λ zs. out ++ bends_after e (edges_in zs)) (sym (drop_all es k l)) ∙ h)

-- ---- a list, begun elsewhere
pub begun_length : (cs : List Point) (k : ℕ) → k ≤ length cs → length (begun_at cs k) ≡ length cs
begun_length cs k l =
    let a = length-append (drop k cs) (take k cs) in
    let b = length-drop k cs in
    let c = length-take k cs in
    omega (arith, a, b, c, l)

pub begun_get : (cs : List Point) (k step : ℕ) (d : Point) → k < length cs → step < length cs → get_or (begun_at cs k) step d ≡ get_or cs (place_around (length cs) k step) d
begun_get cs k step d l m = at (cases_lt step (length cs - k))
  where
    at : (step < length cs - k) ⊎ (length cs - k ≤ step) → get_or (begun_at cs k) step d ≡ get_or cs (place_around (length cs) k step) d
    at (inl h) =
        let n = length-drop k cs in
        let t : nat_lt step (length cs - k) ≡ true = lt-ltb step (length cs - k) h in
        get_or_append_left (drop k cs) (take k cs) d step (omega (arith, n, h)) ∙ get_or-drop k cs step d ∙ ap (λ z. get_or cs z d) (sym (rw t refl))
    at (inr h) =
        let n = length-drop k cs in
        let t : nat_lt step (length cs - k) ≡ false = false_from_ne_true (nat_lt step (length cs - k)) (λ e. not_less step (length cs - k) h e) in
        get_or-append_right (drop k cs) (take k cs) (length cs - k) step d n h ∙ get_or-take k cs (step - (length cs - k)) d (omega (arith, l, m, h)) ∙ ap (λ z. get_or cs z d) (sym (rw t refl))
      where
        not_less : (a b : ℕ) → b ≤ a → nat_lt a b ≡ true → ⊥
        not_less a b l e = let k = ltb-true a b e in omega (arith, l, k)

-- ---- which of two is less
less_self : (a b : Point) → a ≡ b → is_less_point a b ≡ false
less_self a b e = false_from_ne_true (is_less_point a b) (λ h. less_never a (subst (λ z. IsLess a z) (sym e) (less_told a b h)))

pub less_next : (a b : Point) (as' bs : List Point) → is_same_point a b ≡ true → is_less_list (a ∷ as') (b ∷ bs) ≡ is_less_list as' bs
unfolding is_less_list
less_next a b as' bs s =
    ap (λ c. c || (is_same_point a b && is_less_list as' bs)) (less_self a b (same_told a b s)) ∙ ap (λ c. c && is_less_list as' bs) s

pub less_here : (a b : Point) (as' bs : List Point) → is_same_point a b ≡ false → is_less_list (a ∷ as') (b ∷ bs) ≡ is_before a b
unfolding is_less_list
less_here a b as' bs s =
    ap (λ c. is_less_point a b || (c && is_less_list as' bs)) s ∙ (or_false (is_less_point a b) ∙ sym (before_is a b))
  where
    or_false : (c : Bool) → (c || false) ≡ c
    or_false true = refl
    or_false false = refl

begun_drop : (cs : List Point) (k step : ℕ) (d a : Point) → k < length cs → step < length cs → a ≡ get_or cs (place_around (length cs) k step) d
    → drop step (begun_at cs k) ≡ a ∷ drop (step + 1) (begun_at cs k)
begun_drop cs k step d a l m e =
    let n = begun_length cs k (omega (arith, l)) in
    drop_here (begun_at cs k) step d (omega (arith, n, m)) ∙ ap (λ z. z ∷ drop (step + 1) (begun_at cs k)) (begun_get cs k step d l m ∙ sym e)

abbrev less_after : List Point → ℕ → ℕ → ℕ → Bool
less_after cs one other step = is_less_list (drop step (begun_at cs one)) (drop step (begun_at cs other))

less_split : (cs : List Point) (one other step : ℕ) (c d a b : Point) → one < length cs → other < length cs → step < length cs
    → a ≡ get_or cs (place_around (length cs) one step) c → b ≡ get_or cs (place_around (length cs) other step) d
    → less_after cs one other step ≡ is_less_list (a ∷ drop (step + 1) (begun_at cs one)) (b ∷ drop (step + 1) (begun_at cs other))
less_split cs one other step c d a b l m n p q =
    ap (λ zs. is_less_list zs (drop step (begun_at cs other))) (begun_drop cs one step c a l n p)
    ∙ ap (λ zs. is_less_list (a ∷ drop (step + 1) (begun_at cs one)) zs) (begun_drop cs other step d b m n q)

pub less_step : (cs : List Point) (one other step : ℕ) (c d a b : Point) (all : Bool) → one < length cs → other < length cs → step < length cs
    → a ≡ get_or cs (place_around (length cs) one step) c → b ≡ get_or cs (place_around (length cs) other step) d → is_same_point a b ≡ true
    → less_after cs one other step ≡ all → less_after cs one other (step + 1) ≡ all
less_step cs one other step c d a b all l m n p q s h =
    sym (less_next a b (drop (step + 1) (begun_at cs one)) (drop (step + 1) (begun_at cs other)) s) ∙ (sym (less_split cs one other step c d a b l m n p q) ∙ h)

pub less_told_here : (cs : List Point) (one other step : ℕ) (c d a b : Point) (r all : Bool) → one < length cs → other < length cs → step < length cs
    → a ≡ get_or cs (place_around (length cs) one step) c → b ≡ get_or cs (place_around (length cs) other step) d → is_same_point a b ≡ false → r ≡ is_before a b
    → less_after cs one other step ≡ all → r ≡ all
less_told_here cs one other step c d a b r all l m n p q s e h =
    e ∙ (sym (less_here a b (drop (step + 1) (begun_at cs one)) (drop (step + 1) (begun_at cs other)) s) ∙ (sym (less_split cs one other step c d a b l m n p q) ∙ h))

pub less_end : (cs : List Point) (one other step : ℕ) (all : Bool) → one < length cs → other < length cs → length cs ≤ step → less_after cs one other step ≡ all → false ≡ all
unfolding is_less_list
less_end cs one other step all l m n h =
    let a = begun_length cs one (omega (arith, l)) in
    let b = begun_length cs other (omega (arith, m)) in
    sym (ap (λ zs. is_less_list zs (drop step (begun_at cs other))) (drop_all (begun_at cs one) step (omega (arith, n, a)))
    ∙ ap (λ zs. is_less_list [] zs) (drop_all (begun_at cs other) step (omega (arith, n, b)))) ∙ h

-- ---- the least of all
abbrev least_at : List Point → ℕ → List Point
least_at cs i = least_from (take i cs) (drop i cs)

take_all : (cs : List Point) → take (length cs) cs ≡ cs
take_all [] = refl
take_all (c ∷ cs) = ap (λ zs. c ∷ zs) (take_all cs)

least_whole : (cs : List Point) → begun_at cs 0 ≡ least_at cs (length cs)
unfolding least_from
least_whole cs =
    append-nil cs ∙ sym (ap (λ zs. least_from (take (length cs) cs) zs) (drop_all cs (length cs) (omega arith)) ∙ take_all cs)

pub least_first : (cs : List Point) (n : ℕ) → n ≡ length cs → begun_at cs 0 ≡ least_at cs n
least_first cs n e = least_whole cs ∙ ap (least_at cs) (sym e)

least_next : (cs : List Point) (i : ℕ) → i < length cs → least_at cs i ≡ lesser_list (begun_at cs i) (least_at cs (i + 1))
unfolding least_from
least_next [] i l = absurd (omega (arith, l))
least_next (d ∷ ds) i l =
    let cs = d ∷ ds in
    let c = get_or cs i d in
    let e = drop_here cs i d l in
    ap (λ zs. least_from (take i cs) zs) e
    ∙ (ap (λ zs. lesser_list (zs ++ take i cs) (least_from (take i cs ++ c ∷ []) (drop (i + 1) cs))) (sym e)
    ∙ ap (λ zs. lesser_list (begun_at cs i) (least_from zs (drop (i + 1) cs))) (sym (take_more cs i d l)))

lesser_by : (as' bs : List Point) (b : Bool) → is_less_list as' bs ≡ b → lesser_list as' bs ≡ (if b then as' else bs)
unfolding lesser_list
lesser_by as' bs b e = rw e refl

least_on : (cs : List Point) (step best i : ℕ) → step < length cs → i ≡ length cs - 1 - step → begun_at cs best ≡ least_at cs (length cs - step)
    → least_at cs (length cs - (step + 1)) ≡ lesser_list (begun_at cs i) (begun_at cs best)
least_on cs step best i l e h =
    let a : length cs - (step + 1) ≡ i = omega (arith, e) in
    let b : length cs - step ≡ i + 1 = omega (arith, e, l) in
    ap (least_at cs) a ∙ (least_next cs i (omega (arith, e, l)) ∙ ap (lesser_list (begun_at cs i)) (sym (h ∙ ap (least_at cs) b)))

pub least_new : (cs : List Point) (step best i : ℕ) (b : Bool) → step < length cs → i ≡ length cs - 1 - step → b ≡ is_less_list (begun_at cs i) (begun_at cs best) → b ≡ true
    → begun_at cs best ≡ least_at cs (length cs - step) → begun_at cs i ≡ least_at cs (length cs - (step + 1))
least_new cs step best i b l e t y h = sym (least_on cs step best i l e h ∙ lesser_by (begun_at cs i) (begun_at cs best) true (sym t ∙ y))

pub least_old : (cs : List Point) (step best i : ℕ) (b : Bool) → step < length cs → i ≡ length cs - 1 - step → b ≡ is_less_list (begun_at cs i) (begun_at cs best) → b ≡ false
    → begun_at cs best ≡ least_at cs (length cs - step) → begun_at cs best ≡ least_at cs (length cs - (step + 1))
least_old cs step best i b l e t y h = sym (least_on cs step best i l e h ∙ lesser_by (begun_at cs i) (begun_at cs best) false (sym t ∙ y))

pub least_end : (cs : List Point) (step best : ℕ) → length cs ≤ step → begun_at cs best ≡ least_at cs (length cs - step) → begun_at cs best ≡ least_from [] cs
least_end cs step best l h = let e : length cs - step ≡ 0 = omega (arith, l) in h ∙ ap (least_at cs) e

-- ---- the contour
pub contour_is : (es : List BoundaryEdge) (d : BoundaryEdge) (place : ℕ) (cs list : List Point) → 0 < length es → cs ≡ bends_after (edge_of (get_or es (length es - 1) d)) (edges_in es)
    → begun_at cs place ≡ least_from [] cs → list ≡ begun_at cs place → list ≡ contour_of (edges_in es)
unfolding contour_of bends bends_after
contour_is es d place cs list l c b e =
    e ∙ (b ∙ ap (least_from []) (c ∙ ap (λ vs. map visit_corner (filter is_bend vs)) (sym (visits_by es d l))))

pub no_contour : (es : List BoundaryEdge) (list : List Point) → length es ≤ 0 → list ≡ [] → list ≡ contour_of (edges_in es)
unfolding contour_of bends visits edges_in least_from
no_contour [] list l e = e
no_contour (d ∷ es) list l e = absurd (omega (arith, l))
