-- The flags of used edges, and the steps of walks.
use Rattle.std.proofs.Common.{◌≡◌, refl, sym, subst, ap, ◌∙◌, ℕ, zero, suc, ◌+◌, ◌-◌, ◌<◌, ◌≤◌, ◌⊎◌, inl, inr, arith, List, [], ◌∷◌, ◌++◌, length, get_or, set, drop, replicate, Bool, true, false, not}
use Rattle.std.specs.Prelude.{◌||◌, map, AllPairs}
use Rattle.std.specs.List.{filter}
use Rattle.std.proofs.lemmas.Bool.{cases_order}
use Rattle.std.proofs.lemmas.List.{append-nil, append_assoc, length-append, get_or_default}
use Rattle.grid_num.specs.declared.Point.{Point}
use Rattle.plane.specs.Covering.{Edge}
use Rattle.rings.specs.Loops.{Loop}
use Rattle.rings.specs.Laws.{HasOneNextEach}
use Rattle.rings.specs.Walks.{visits}
use Rattle.rings.specs.Inner.Tracing.{is_same_edge, is_one_of, next_of, follow, walk_of, walks_of, contour_of, is_open_left, some_visit, loop_of}
use Rattle.rings.proofs.Lists.{Has, of_has, has_right, NoRepeats}
use Rattle.rings.proofs.Tracing.{edge_told, edge_meets, one_meets, next_is, filter_yes, filter_no}
use Rattle.sheet_trace.specs.declared.edge.BoundaryEdge.{BoundaryEdge}
use Rattle.sheet_trace.specs.Edges.{edge_of, edges_in}
use Rattle.sheet_trace.specs.Next.{HasNext, IsNextAt}
use Rattle.sheet_trace.specs.declared.order.Drawn.{Drawn}
use Rattle.sheet_trace.specs.Inner.Order.{loop_in, loops_in}
use Rattle.sheet_trace.specs.Inner.Walked.{no_edge, edge_at, unused, marked, loop_along, drawn_from, IsWalking}
use Rattle.sheet_trace.proofs.Folds.{drop_here, drop_all}
use Rattle.sheet_trace.proofs.Parts.{index_has}

bool_cases : (b : Bool) → (b ≡ true) ⊎ (b ≡ false)
bool_cases true = inl refl
bool_cases false = inr refl

or_false : (b : Bool) → (b || false) ≡ b
or_false true = refl
or_false false = refl

or_true : (b : Bool) → (b || true) ≡ true
or_true true = refl
or_true false = refl

or_assoc : (a b c : Bool) → ((a || b) || c) ≡ (a || (b || c))
or_assoc true b c = refl
or_assoc false b c = refl

-- ---- edges by their places
pub edges_length : (es : List BoundaryEdge) → length (edges_in es) ≡ length es
unfolding edges_in
edges_length [] = refl
edges_length (e ∷ es) = let r = edges_length es in omega (arith, r)

pub edges_append : (es fs : List BoundaryEdge) → edges_in (es ++ fs) ≡ edges_in es ++ edges_in fs
unfolding edges_in
edges_append [] fs = refl
edges_append (e ∷ es) fs = ap (λ z. edge_of e ∷ z) (edges_append es fs)

edges_index : (es : List BoundaryEdge) (k : ℕ) (d : BoundaryEdge) → k < length es → get_or (edges_in es) k no_edge ≡ edge_of (get_or es k d)
unfolding edges_in
edges_index [] k d l = absurd (omega (arith, l))
edges_index (e ∷ es) zero d l = refl
edges_index (e ∷ es) (suc k) d l = edges_index es k d (omega (arith, l))

pub edge_at_is : (es : List BoundaryEdge) (k : ℕ) (d : BoundaryEdge) → k < length es → edge_at es k ≡ edge_of (get_or es k d)
unfolding edge_at
edge_at_is es k d l = edges_index es k d l

at_has : (es : List BoundaryEdge) (k : ℕ) → k < length es → Has (edges_in es) (edge_at es k)
unfolding edge_at
at_has es k l = index_has (edges_in es) k no_edge (let q = edges_length es in omega (arith, l, q))

-- an edge has a next one
pub has_next : (es : List BoundaryEdge) (k : ℕ) (d : BoundaryEdge) → HasOneNextEach (edges_in es) → k < length es → HasNext es (get_or es k d)
has_next es k d n l = n.some (edge_of (get_or es k d)) (subst (λ e. (i : ℕ) × (i < length (edges_in es)) × (get_or (edges_in es) i e ≡ e)) (edge_at_is es k d l) (of_has (edges_in es) (edge_at es k) (at_has es k l)))

-- and the place that was found for it is that of the program's next edge
pub next_found : (es : List BoundaryEdge) (k j : ℕ) (d : BoundaryEdge) → HasOneNextEach (edges_in es) → k < length es → j < length es → IsNextAt es (get_or es k d) j → edge_at es j ≡ next_of (edges_in es) (edge_at es k)
unfolding IsNextAt
next_found es k j d n l m h =
    let e = edge_of (get_or es k d) in
    let f = h d in
    edge_at_is es j d m ∙ (n.one e (edge_of (get_or es j d)) (next_of (edges_in es) e) f (next_is (edges_in es) e (edge_of (get_or es j d)) f) ∙ ap (next_of (edges_in es)) (sym (edge_at_is es k d l)))

no_repeats_pairs : {X : Type 0} (xs : List X) → AllPairs (λ e f. e ≡ f → ⊥) xs → NoRepeats xs
unfolding NoRepeats
no_repeats_pairs [] a = tt
no_repeats_pairs (x ∷ xs) a = (
  λ h. (let c = of_has xs x h in let l = c.1 in a 0 (suc c.0) x (omega arith) (omega (arith, l)) (sym c.2)),
  no_repeats_pairs xs (λ i j d l m. a (suc i) (suc j) d (omega (arith, l)) (omega (arith, m))),
)

one_place : (es : List Edge) (i j : ℕ) (d : Edge) → AllPairs (λ e f. e ≡ f → ⊥) es → i < length es → j < length es → get_or es i d ≡ get_or es j d → i ≡ j
one_place es i j d a l m e = elim (cases_order i j) [ inl q ↦ q | inr o ↦ elim o [ inl k ↦ absurd (a i j d k m e) | inr k ↦ absurd (a j i d k l (sym e)) ] ]

apart : (es : List BoundaryEdge) (i j : ℕ) → HasOneNextEach (edges_in es) → i < length es → j < length es → (i ≡ j → ⊥) → is_same_edge (edge_at es i) (edge_at es j) ≡ false
unfolding edge_at
apart es i j n l m f = elim (bool_cases (is_same_edge (edge_at es i) (edge_at es j))) [
  | inr h ↦ h
  | inl h ↦ (let q = edges_length es in absurd (f (one_place (edges_in es) i j no_edge n.once (omega (arith, l, q)) (omega (arith, m, q)) (edge_told (edge_at es i) (edge_at es j) h))))
]

-- ---- flags
marked_nil : (es : List Edge) (bs : List Bool) → marked [] es bs ≡ bs
unfolding marked is_one_of
marked_nil [] bs = refl
marked_nil (e ∷ es) [] = refl
marked_nil (e ∷ es) (b ∷ bs) = ap (λ z. z ∷ marked [] es bs) (or_false b) ∙ ap (λ zs. b ∷ zs) (marked_nil es bs)

one_of_append : (w : List Edge) (x e : Edge) → is_one_of (w ++ x ∷ []) e ≡ (is_one_of w e || is_same_edge e x)
unfolding is_one_of
one_of_append [] x e = or_false (is_same_edge e x)
one_of_append (f ∷ w) x e = ap (λ b. is_same_edge e f || b) (one_of_append w x e) ∙ sym (or_assoc (is_same_edge e f) (is_one_of w e) (is_same_edge e x))

same_not : (e x : Edge) → (e ≡ x → ⊥) → is_same_edge e x ≡ false
same_not e x f = elim (bool_cases (is_same_edge e x)) [ inr h ↦ h | inl h ↦ absurd (f (edge_told e x h)) ]

one_of_other : (w : List Edge) (x e : Edge) → (e ≡ x → ⊥) → is_one_of w e ≡ is_one_of (w ++ x ∷ []) e
one_of_other w x e f = sym (one_of_append w x e ∙ (ap (λ b. is_one_of w e || b) (same_not e x f) ∙ or_false (is_one_of w e)))

marked_other : (w : List Edge) (x : Edge) (es : List Edge) (bs : List Bool) → (Has es x → ⊥) → marked w es bs ≡ marked (w ++ x ∷ []) es bs
unfolding marked Has
marked_other w x [] bs f = refl
marked_other w x (e ∷ es) [] f = refl
marked_other w x (e ∷ es) (b ∷ bs) f =
    ap (λ z. (b || z) ∷ marked w es bs) (one_of_other w x e (λ q. f (inl q)))
    ∙ ap (λ zs. (b || is_one_of (w ++ x ∷ []) e) ∷ zs) (marked_other w x es bs (λ h. f (inr h)))

set_marked : (w : List Edge) (es : List Edge) (bs : List Bool) (k : ℕ) (x : Edge) → NoRepeats es → k < length es → length bs ≡ length es → get_or es k x ≡ x → set (marked w es bs) k true ≡ marked (w ++ x ∷ []) es bs
unfolding marked NoRepeats Has
set_marked w [] bs k x n l s e = absurd (omega (arith, l))
set_marked w (f ∷ es) [] k x n l s e = absurd (omega (arith, s))
set_marked w (f ∷ es) (b ∷ bs) zero x n l s e =
    ap (λ z. z ∷ marked w es bs) (sym (ap (λ z. b || z) (one_meets (w ++ x ∷ []) f (has_right w (x ∷ []) f (inl (sym e)))) ∙ or_true b))
    ∙ ap (λ zs. (b || is_one_of (w ++ x ∷ []) f) ∷ zs) (marked_other w x es bs (λ h. n.0 (subst (Has es) (sym e) h)))
set_marked w (f ∷ es) (b ∷ bs) (suc k) x n l s e =
    let h : Has es x = subst (Has es) e (index_has es k x (omega (arith, l))) in
    ap (λ z. (b || z) ∷ set (marked w es bs) k true) (one_of_other w x f (λ q. n.0 (subst (Has es) (sym q) h)))
    ∙ ap (λ zs. (b || is_one_of (w ++ x ∷ []) f) ∷ zs) (set_marked w es bs k x n.1 (omega (arith, l)) (omega (arith, s)) e)

marked_length : (w es : List Edge) (bs : List Bool) → length bs ≡ length es → length (marked w es bs) ≡ length es
unfolding marked
marked_length w [] bs s = s
marked_length w (e ∷ es) [] s = absurd (omega (arith, s))
marked_length w (e ∷ es) (b ∷ bs) s = let r = marked_length w es bs (omega (arith, s)) in omega (arith, r)

marked_none : (w es : List Edge) → marked w es [] ≡ []
unfolding marked
marked_none w [] = refl
marked_none w (e ∷ es) = refl

drop_marked : (k : ℕ) (w es : List Edge) (bs : List Bool) → drop k (marked w es bs) ≡ marked w (drop k es) (drop k bs)
unfolding marked
drop_marked zero w [] bs = refl
drop_marked zero w (e ∷ es) [] = refl
drop_marked zero w (e ∷ es) (b ∷ bs) = refl
drop_marked (suc k) w [] bs = refl
drop_marked (suc k) w (e ∷ es) [] = sym (marked_none w (drop k es))
drop_marked (suc k) w (e ∷ es) (b ∷ bs) = drop_marked k w es bs

unused_marked : (w es : List Edge) (bs : List Bool) → unused (marked w es bs) es ≡ filter (λ e. not (is_one_of w e)) (unused bs es)
unfolding marked unused
unused_marked w [] [] = refl
unused_marked w [] (b ∷ bs) = refl
unused_marked w (e ∷ es) [] = refl
unused_marked w (e ∷ es) (true ∷ bs) = unused_marked w es bs
unused_marked w (e ∷ es) (false ∷ bs) = at (bool_cases (is_one_of w e)) (unused_marked w es bs)
  where
    at : (is_one_of w e ≡ true) ⊎ (is_one_of w e ≡ false) → unused (marked w es bs) es ≡ filter (λ e. not (is_one_of w e)) (unused bs es)
        → unused (is_one_of w e ∷ marked w es bs) (e ∷ es) ≡ filter (λ e. not (is_one_of w e)) (e ∷ unused bs es)
    at (inl h) r = ap (λ z. unused (z ∷ marked w es bs) (e ∷ es)) h ∙ (r ∙ sym (filter_no (λ e. not (is_one_of w e)) e (unused bs es) (ap not h)))
    at (inr h) r = ap (λ z. unused (z ∷ marked w es bs) (e ∷ es)) h ∙ (ap (λ zs. e ∷ zs) r ∙ sym (filter_yes (λ e. not (is_one_of w e)) e (unused bs es) (ap not h)))

unused_all : (es : List Edge) → unused (replicate (length es) false) es ≡ es
unfolding unused
unused_all [] = refl
unused_all (e ∷ es) = ap (λ zs. e ∷ zs) (unused_all es)

pub size_set : (old new : List Bool) (k n : ℕ) → new ≡ set old k true → length old ≡ n → length new ≡ n
size_set old new k n e s = ap length e ∙ (set_length old k ∙ s)
  where
    set_length : (bs : List Bool) (k : ℕ) → length (set bs k true) ≡ length bs
    set_length [] k = refl
    set_length (b ∷ bs) zero = refl
    set_length (b ∷ bs) (suc k) = let r = set_length bs k in omega (arith, r)

-- ---- a walk
pub walk_pushed : (es : List BoundaryEdge) (k : ℕ) (d : BoundaryEdge) (old new : List BoundaryEdge) → k < length es → new ≡ old ++ get_or es k d ∷ [] → edges_in new ≡ edges_in old ++ edge_at es k ∷ []
unfolding edges_in
walk_pushed es k d old new l n = ap edges_in n ∙ (edges_append old (get_or es k d ∷ []) ∙ ap (λ z. edges_in old ++ z ∷ []) (sym (edge_at_is es k d l)))

follow_on : (k : ℕ) (es : List Edge) (a e : Edge) → is_same_edge e a ≡ false → follow (suc k) es a e ≡ e ∷ follow k es a (next_of es e)
unfolding follow
follow_on k es a e h = rw h refl

follow_stop : (k : ℕ) (es : List Edge) (a e : Edge) → is_same_edge e a ≡ true → follow k es a e ≡ []
unfolding follow
follow_stop zero es a e h = refl
follow_stop (suc k) es a e h = rw h refl

follow_none : (k : ℕ) (es : List Edge) (a e : Edge) → k ≡ 0 → follow k es a e ≡ []
unfolding follow
follow_none zero es a e h = refl
follow_none (suc k) es a e h = absurd (omega (arith, h))

-- after the first edge
pub walk_begun : (es : List BoundaryEdge) (flags used : List Bool) (first place : ℕ) (old : List BoundaryEdge) (walk : List Edge) → HasOneNextEach (edges_in es) → length flags ≡ length es → first < length es
    → old ≡ [] → walk ≡ edges_in old ++ edge_at es first ∷ [] → used ≡ set flags first true → place < length es → edge_at es place ≡ next_of (edges_in es) (edge_at es first) → IsWalking es flags first 0 place walk used
unfolding walk_of edge_at edges_in
walk_begun es flags used first place old walk n s l o v u p q =
    let w : walk ≡ [] ++ edge_at es first ∷ [] = v ∙ ap (λ z. edges_in z ++ edge_at es first ∷ []) o in
    let a = edge_at es first in
    let fs = edges_in es in
    let c = edges_length es in
    record {
      whole = ap (λ z. z ++ follow (length es - 0) fs a (edge_at es place)) w
          ∙ (ap (λ z. a ∷ follow (length es - 0) fs a z) q ∙ ap (λ k. a ∷ follow k fs a (next_of fs a)) (let e : length es - 0 ≡ length fs = omega (arith, c) in e));
      flags = u ∙ (ap (λ z. set z first true) (sym (marked_nil fs flags))
          ∙ (set_marked [] fs flags first a (no_repeats_pairs fs n.once) (omega (arith, l, c)) (omega (arith, s, c)) (get_or_default fs first a no_edge (omega (arith, l, c))) ∙ ap (λ z. marked z fs flags) (sym w)));
      within = p;
    }

-- after one more
pub walk_more : (es : List BoundaryEdge) (flags used old : List Bool) (first i place next : ℕ) (walk before : List Edge) → HasOneNextEach (edges_in es) → length flags ≡ length es → first < length es → i < length es → (place ≡ first → ⊥)
    → walk ≡ before ++ edge_at es place ∷ [] → used ≡ set old place true → next < length es → edge_at es next ≡ next_of (edges_in es) (edge_at es place)
    → IsWalking es flags first i place before old → IsWalking es flags first (i + 1) next walk used
unfolding edge_at
walk_more es flags used old first i place next walk before n s l g f w u p q b =
    let a = edge_at es first in
    let e = edge_at es place in
    let fs = edges_in es in
    let c = edges_length es in
    let t = b.within in
    let k = length es - (i + 1) in
    let m : length es - i ≡ suc k = omega (arith, g) in
    record {
      whole = ap (λ z. z ++ follow k fs a (edge_at es next)) w
          ∙ (ap (λ z. (before ++ e ∷ []) ++ follow k fs a z) q
          ∙ (append_assoc before (e ∷ []) (follow k fs a (next_of fs e))
          ∙ (ap (λ z. before ++ z) (sym (follow_on k fs a e (apart es place first n t l f))) ∙ (ap (λ z. before ++ follow z fs a e) (sym m) ∙ b.whole))));
      flags = u ∙ (ap (λ z. set z place true) b.flags
          ∙ (set_marked before fs flags place e (no_repeats_pairs fs n.once) (omega (arith, t, c)) (omega (arith, s, c)) (get_or_default fs place e no_edge (omega (arith, t, c))) ∙ ap (λ z. marked z fs flags) (sym w)));
      within = p;
    }

-- at the end
pub walk_closed : (es : List BoundaryEdge) (flags used : List Bool) (first i place : ℕ) (walk : List Edge) → place ≡ first → IsWalking es flags first i place walk used → walk ≡ walk_of (edges_in es) (edge_at es first)
walk_closed es flags used first i place walk e b =
    let a = edge_at es first in
    sym (append-nil walk) ∙ (ap (λ z. walk ++ z) (sym (follow_stop (length es - i) (edges_in es) a (edge_at es place) (edge_meets (edge_at es place) a (ap (edge_at es) e)))) ∙ b.whole)

pub walk_whole : (es : List BoundaryEdge) (flags used : List Bool) (first i place : ℕ) (walk : List Edge) → length es ≤ i → IsWalking es flags first i place walk used → walk ≡ walk_of (edges_in es) (edge_at es first)
walk_whole es flags used first i place walk l b =
    let a = edge_at es first in
    sym (append-nil walk) ∙ (ap (λ z. walk ++ z) (sym (follow_none (length es - i) (edges_in es) a (edge_at es place) (omega (arith, l)))) ∙ b.whole)

-- ---- all walks
pub drawn_same : (es : List Edge) (k : ℕ) (bs : List Bool) (ds : List Loop) (d : Bool) → k < length es → length bs ≡ length es → get_or bs k d ≡ true → drawn_from es (k + 1) bs ds ≡ drawn_from es k bs ds
unfolding drawn_from unused
drawn_same es k bs ds d l s h =
    let p : drop k bs ≡ true ∷ drop (k + 1) bs = drop_here bs k d (omega (arith, l, s)) ∙ ap (λ z. z ∷ drop (k + 1) bs) h in
    let q : drop k es ≡ get_or es k no_edge ∷ drop (k + 1) es = drop_here es k no_edge l in
    sym (ap (λ z. ds ++ map loop_along (walks_of (length es - length ds) es (unused z (drop k es)))) p ∙ ap (λ z. ds ++ map loop_along (walks_of (length es - length ds) es (unused (true ∷ drop (k + 1) bs) z))) q)

walks_more : (n m : ℕ) (es left : List Edge) (a : Edge) → n ≡ suc m → walks_of n es (a ∷ left) ≡ walk_of es a ∷ walks_of m es (filter (λ e. not (is_one_of (walk_of es a) e)) left)
unfolding walks_of
walks_more n m es left a e = ap (λ k. walks_of k es (a ∷ left)) e

pub drawn_more : (es : List Edge) (k : ℕ) (old new : List Bool) (ds more : List Loop) (w : List Edge) (d : Bool) → k < length es → length old ≡ length es → get_or old k d ≡ false → length ds ≤ k
    → w ≡ walk_of es (get_or es k no_edge) → new ≡ marked w es old → more ≡ ds ++ loop_along w ∷ [] → drawn_from es (k + 1) new more ≡ drawn_from es k old ds
unfolding drawn_from unused
drawn_more es k old new ds more w d l s h c e u m =
    let a = get_or es k no_edge in
    let bs = drop (k + 1) old in
    let rest = drop (k + 1) es in
    let n = length es - (length ds + 1) in
    let left = unused bs rest in
    let p : drop k old ≡ false ∷ bs = drop_here old k d (omega (arith, l, s)) ∙ ap (λ z. z ∷ bs) h in
    let q : drop k es ≡ a ∷ rest = drop_here es k no_edge l in
    let size : length es - length more ≡ n = (let r = ap length m in let t = length-append ds (loop_along w ∷ []) in omega (arith, r, t)) in
    let flags : unused (drop (k + 1) new) rest ≡ filter (λ e. not (is_one_of w e)) left = ap (λ z. unused (drop (k + 1) z) rest) u ∙ (ap (λ z. unused z rest) (drop_marked (k + 1) w es old) ∙ unused_marked w rest bs) in
    let tail = map loop_along (walks_of n es (filter (λ e. not (is_one_of w e)) left)) in
    let after : map loop_along (walks_of (length es - length ds) es (a ∷ left)) ≡ loop_along w ∷ tail =
    ap (map loop_along) (walks_more (length es - length ds) n es left a (omega (arith, l, c)))
    ∙ ap (λ z. loop_along z ∷ map loop_along (walks_of n es (filter (λ e. not (is_one_of z e)) left))) (sym e) in
    ap (λ z. z ++ map loop_along (walks_of (length es - length more) es (unused (drop (k + 1) new) rest))) m
    ∙ (ap (λ z. (ds ++ loop_along w ∷ []) ++ map loop_along (walks_of z es (unused (drop (k + 1) new) rest))) size
    ∙ (ap (λ z. (ds ++ loop_along w ∷ []) ++ map loop_along (walks_of n es z)) flags
    ∙ (append_assoc ds (loop_along w ∷ []) tail
    ∙ (ap (λ z. ds ++ z) (sym after)
    ∙ (ap (λ z. ds ++ map loop_along (walks_of (length es - length ds) es (unused (false ∷ bs) z))) (sym q)
    ∙ ap (λ z. ds ++ map loop_along (walks_of (length es - length ds) es (unused z (drop k es)))) (sym p))))))

walks_none : (n : ℕ) (es : List Edge) → walks_of n es [] ≡ []
unfolding walks_of
walks_none zero es = refl
walks_none (suc n) es = refl

unused_none : (bs : List Bool) → unused bs [] ≡ []
unfolding unused
unused_none [] = refl
unused_none (b ∷ bs) = refl

pub drawn_all : (es : List Edge) (k : ℕ) (bs : List Bool) (ds : List Loop) → length es ≤ k → drawn_from es k bs ds ≡ ds
unfolding drawn_from
drawn_all es k bs ds l =
    let n = length es - length ds in
    ap (λ z. ds ++ map loop_along (walks_of n es (unused (drop k bs) z))) (drop_all es k l)
    ∙ (ap (λ z. ds ++ map loop_along (walks_of n es z)) (unused_none (drop k bs)) ∙ (ap (λ z. ds ++ map loop_along z) (walks_none n es) ∙ append-nil ds))

drop_none : {X : Type 0} (xs : List X) → drop 0 xs ≡ xs
drop_none [] = refl
drop_none (x ∷ xs) = refl

pub drawn_none : (es : List Edge) (bs : List Bool) (ds : List Loop) → ds ≡ [] → bs ≡ replicate (length es) false → drawn_from es 0 bs ds ≡ map loop_along (walks_of (length es) es es)
unfolding drawn_from
drawn_none es bs ds e b =
    let n = length es - length ds in
    let size : n ≡ length es = (let q = ap length e in omega (arith, q)) in
    ap (λ z. z ++ map loop_along (walks_of n es (unused (drop 0 bs) (drop 0 es)))) e
    ∙ (ap (λ k. map loop_along (walks_of k es (unused (drop 0 bs) (drop 0 es)))) size
    ∙ (ap (λ z. map loop_along (walks_of (length es) es (unused z (drop 0 es)))) (drop_none bs ∙ b)
    ∙ (ap (λ z. map loop_along (walks_of (length es) es (unused (replicate (length es) false) z))) (drop_none es) ∙ ap (λ z. map loop_along (walks_of (length es) es z)) (unused_all es))))

-- ---- the same of the code's lists
drawn_length : (ds : List Drawn) → length (loops_in ds) ≡ length ds
drawn_length [] = refl
drawn_length (d ∷ ds) = let r = drawn_length ds in omega (arith, r)

drawn_append : (ds es : List Drawn) → loops_in (ds ++ es) ≡ loops_in ds ++ loops_in es
drawn_append [] es = refl
drawn_append (d ∷ ds) es = ap (λ z. loop_in d ∷ z) (drawn_append ds es)

pub all_begun : (es : List BoundaryEdge) (bs : List Bool) (ds : List Drawn) → ds ≡ [] → bs ≡ replicate (length es) false
    → drawn_from (edges_in es) 0 bs (loops_in ds) ≡ map loop_along (walks_of (length es) (edges_in es) (edges_in es))
all_begun es bs ds d b =
    let fs = edges_in es in
    drawn_none fs bs (loops_in ds) (ap loops_in d) (b ∙ ap (λ n. replicate n false) (sym (edges_length es))) ∙ ap (λ n. map loop_along (walks_of n fs fs)) (edges_length es)

pub all_drawn : (es : List BoundaryEdge) (k : ℕ) (bs : List Bool) (ds : List Drawn) (whole : List Loop) → length es ≤ k → drawn_from (edges_in es) k bs (loops_in ds) ≡ whole → loops_in ds ≡ whole
all_drawn es k bs ds whole l h = sym (drawn_all (edges_in es) k bs (loops_in ds) (let c = edges_length es in omega (arith, c, l))) ∙ h

pub put_none : (es : List BoundaryEdge) (k : ℕ) (bs : List Bool) (ds : List Drawn) (d : Bool) → k < length es → length bs ≡ length es → get_or bs k d ≡ true
    → drawn_from (edges_in es) (k + 1) bs (loops_in ds) ≡ drawn_from (edges_in es) k bs (loops_in ds)
put_none es k bs ds d l s h = let c = edges_length es in drawn_same (edges_in es) k bs (loops_in ds) d (omega (arith, l, c)) (omega (arith, s, c)) h

pub put_one : (es : List BoundaryEdge) (k : ℕ) (old new : List Bool) (ds more : List Drawn) (x : Drawn) (w : List Edge) (d : Bool) → k < length es → length old ≡ length es → get_or old k d ≡ false → length ds ≤ k
    → w ≡ walk_of (edges_in es) (edge_at es k) → new ≡ marked w (edges_in es) old → loop_in x ≡ loop_along w → more ≡ ds ++ x ∷ []
    → drawn_from (edges_in es) (k + 1) new (loops_in more) ≡ drawn_from (edges_in es) k old (loops_in ds)
unfolding edge_at
put_one es k old new ds more x w d l s h c e u a m =
    let n = edges_length es in
    let q = drawn_length ds in
    drawn_more (edges_in es) k old new (loops_in ds) (loops_in more) w d (omega (arith, l, n)) (omega (arith, s, n)) h (omega (arith, c, q)) e u
    (ap loops_in m ∙ (drawn_append ds (x ∷ []) ∙ ap (λ z. loops_in ds ++ z ∷ []) a))

-- ---- what a walk draws
pub drawn_is : (w : List Edge) (cs : List Point) (hole : Bool) → cs ≡ contour_of w → hole ≡ some_visit (is_open_left w) (visits w) → record { corners = cs; hole = hole } ≡ loop_along w
unfolding loop_of
drawn_is w cs hole e f = ap (λ z. record { corners = z; hole = hole }) e ∙ ap (λ b. record { corners = contour_of w; hole = b }) f
