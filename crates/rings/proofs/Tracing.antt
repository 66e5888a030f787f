-- The program's walks are walks, and use each edge once.
use Rattle.std.proofs.Common.{◌≡◌, refl, sym, subst, ap, ◌∙◌, ℕ, zero, suc, ◌≤◌, ◌⊎◌, inl, inr, arith, List, [], ◌∷◌, ◌++◌, length, Bool, true, false, not}
use Rattle.std.specs.Prelude.{◌&&◌, ◌||◌, nat_lt, if◌then◌else◌}
use Rattle.std.specs.List.{filter}
use Rattle.std.specs.Ordering.{int_eq}
use Rattle.std.specs.List.Sorted.{IsPermutation}
use Rattle.std.proofs.lemmas.Bool.{false≢true, ltb-true, lt-ltb, cases_order}
use Rattle.std.proofs.lemmas.Bool.Decides.{Decides-int_eq}
use Rattle.std.proofs.lemmas.List.{length-append}
use Rattle.std.proofs.lemmas.List.Sorted.{IsPermutation-refl, IsPermutation-cons, IsPermutation-trans, IsPermutation-sym, IsPermutation-append_right, length_permutation}
use Rattle.grid_num.specs.declared.Point.{Point}
use Rattle.plane.specs.Covering.{Edge}
use Rattle.rings.specs.Turning.{direction, turn_to, IsNextEdge}
use Rattle.rings.specs.Walks.{IsWalk, joined_walks}
use Rattle.rings.specs.Inner.Tracing.{is_same_point, is_same_edge, is_one_of, Best, better, best_of, next_of, follow, walk_of, walks_of}
use Rattle.rings.proofs.Lists.{Has, has_of, of_has, has_left, has_right, has_parts, has_split, has_permuted, NoRepeats, no_repeats_left, no_repeats_apart, no_repeats_permuted}
use Rattle.rings.proofs.Order.{point_same}
use Rattle.rings.proofs.Unique.{AreSame, edge_same, and_both, edge_test, same_edge}
use Rattle.rings.proofs.Walks.{HasOneNext, LeadsTo}
use Rattle.rings.proofs.Heads.{filtered_has, has_filtered}
use Rattle.rings.proofs.Near.{OneToOne}
use Rattle.rings.proofs.Orbits.{middle, IsPool, IsClosed, IsOrbit, orbit_from, orbit_walk, pool_rest, first_next}

-- ---- tests
point_told : (a b : Point) → is_same_point a b ≡ true → a ≡ b
unfolding is_same_point
point_told a b h = let s = and_both (int_eq a.x b.x) (int_eq a.y b.y) h in point_same a b ((Decides-int_eq a.x b.x).0 s.0) ((Decides-int_eq a.y b.y).0 s.1)

point_meets : (a b : Point) → a ≡ b → is_same_point a b ≡ true
unfolding is_same_point
point_meets a b e = ap (λ c. c && int_eq a.y b.y) ((Decides-int_eq a.x b.x).1 (ap (λ q. q.x) e)) ∙ (Decides-int_eq a.y b.y).1 (ap (λ q. q.y) e)

pub edge_told : (e f : Edge) → is_same_edge e f ≡ true → e ≡ f
unfolding is_same_edge
edge_told e f h = let s = and_both (is_same_point e.start f.start) (is_same_point e.finish f.finish) h in edge_same e f (point_told e.start f.start s.0) (point_told e.finish f.finish s.1)

pub edge_meets : (e f : Edge) → e ≡ f → is_same_edge e f ≡ true
unfolding is_same_edge
edge_meets e f k = ap (λ c. c && is_same_point e.finish f.finish) (point_meets e.start f.start (ap (λ z. z.start) k)) ∙ point_meets e.finish f.finish (ap (λ z. z.finish) k)

bool_cases : (b : Bool) → (b ≡ true) ⊎ (b ≡ false)
bool_cases true = inl refl
bool_cases false = inr refl

pub one_told : (es : List Edge) (e : Edge) → is_one_of es e ≡ true → Has es e
unfolding is_one_of Has
one_told [] e h = absurd (false≢true h)
one_told (f ∷ fs) e h = at (bool_cases (is_same_edge e f)) (one_told fs e)
  where
    at : (is_same_edge e f ≡ true) ⊎ (is_same_edge e f ≡ false) → (is_one_of fs e ≡ true → Has fs e) → (f ≡ e) ⊎ Has fs e
    at (inl k) r = inl (sym (edge_told e f k))
    at (inr k) r = inr (r (ap (λ c. c || is_one_of fs e) (sym k) ∙ h))

pub one_meets : (es : List Edge) (e : Edge) → Has es e → is_one_of es e ≡ true
unfolding is_one_of Has
one_meets [] e h = absurd h
one_meets (f ∷ fs) e (inl k) = ap (λ c. c || is_one_of fs e) (edge_meets e f (sym k))
one_meets (f ∷ fs) e (inr h) = ap (λ c. is_same_edge e f || c) (one_meets fs e h) ∙ or_true (is_same_edge e f)
  where
    or_true : (c : Bool) → (c || true) ≡ true
    or_true true = refl
    or_true false = refl

-- ---- the best so far: of the edges that were seen and go out, none has a lesser turn
record IsBest (es seen : List Edge) (e : Edge) (b : Best) : Type 0 where
  found : (b.turn ≡ 9) ⊎ (Has es b.edge × (b.edge.start ≡ e.finish) × (b.turn ≡ turn_to e (direction b.edge)))
  least : (g : Edge) → Has seen g → g.start ≡ e.finish → b.turn ≤ turn_to e (direction g)

better_yes : (e : Edge) (b : Best) (g : Edge) → (is_same_point g.start e.finish && nat_lt (turn_to e (direction g)) b.turn) ≡ true → better e b g ≡ record { turn = turn_to e (direction g); edge = g }
unfolding better
better_yes e b g h = rw h refl

better_no : (e : Edge) (b : Best) (g : Edge) → (is_same_point g.start e.finish && nat_lt (turn_to e (direction g)) b.turn) ≡ false → better e b g ≡ b
unfolding better
better_no e b g h = rw h refl

better_best : (es seen : List Edge) (e : Edge) (b : Best) (g : Edge) → Has es g → IsBest es seen e b → IsBest es (g ∷ seen) e (better e b g)
unfolding Has
better_best es seen e b g i r = at (bool_cases (is_same_point g.start e.finish && nat_lt (turn_to e (direction g)) b.turn))
  where
    at : ((is_same_point g.start e.finish && nat_lt (turn_to e (direction g)) b.turn) ≡ true) ⊎ ((is_same_point g.start e.finish && nat_lt (turn_to e (direction g)) b.turn) ≡ false)
        → IsBest es (g ∷ seen) e (better e b g)
    at (inl h) =
        let s = and_both (is_same_point g.start e.finish) (nat_lt (turn_to e (direction g)) b.turn) h in
        let l = ltb-true (turn_to e (direction g)) b.turn s.1 in
        subst (IsBest es (g ∷ seen) e) (sym (better_yes e b g h)) (record {
          found = inr (i, point_told g.start e.finish s.0, refl);
          least = λ f k j. elim k [ inl q ↦ (let z = ap (λ c. turn_to e (direction c)) q in omega (arith, z)) | inr k ↦ (let m = r.least f k j in omega (arith, m, l)) ];
        })
    at (inr h) = subst (IsBest es (g ∷ seen) e) (sym (better_no e b g h)) (record {
      found = r.found;
      least = λ f k j. elim k [ inl q ↦ not_less f (subst (λ z. z.start ≡ e.finish) (sym q) j) (ap (λ c. turn_to e (direction c)) q) | inr k ↦ r.least f k j ];
    })
      where
        not_less : (f : Edge) → g.start ≡ e.finish → turn_to e (direction g) ≡ turn_to e (direction f) → b.turn ≤ turn_to e (direction f)
        not_less f j q = elim (bool_cases (nat_lt (turn_to e (direction g)) b.turn)) [
          | inl t ↦ absurd (false≢true (sym h ∙ (ap (λ c. c && nat_lt (turn_to e (direction g)) b.turn) (point_meets g.start e.finish j) ∙ t)))
          | inr t ↦ elim (cases_order b.turn (turn_to e (direction g))) [
            | inl z ↦ omega (arith, z, q)
            | inr o ↦ elim o [ inl z ↦ omega (arith, z, q) | inr z ↦ absurd (false≢true (sym t ∙ lt-ltb (turn_to e (direction g)) b.turn z)) ]
          ]
        ]

has_of_head : (g f : Edge) (seen : List Edge) → g ≡ f → Has (g ∷ seen) f
unfolding Has
has_of_head g f seen q = inl q

better_least : (e : Edge) (b : Best) (g : Edge) → (better e b g).turn ≤ b.turn
better_least e b g = at (bool_cases (is_same_point g.start e.finish && nat_lt (turn_to e (direction g)) b.turn))
  where
    at : ((is_same_point g.start e.finish && nat_lt (turn_to e (direction g)) b.turn) ≡ true) ⊎ ((is_same_point g.start e.finish && nat_lt (turn_to e (direction g)) b.turn) ≡ false) → (better e b g).turn ≤ b.turn
    at (inl h) =
        let l = ltb-true (turn_to e (direction g)) b.turn (and_both (is_same_point g.start e.finish) (nat_lt (turn_to e (direction g)) b.turn) h).1 in
        let k = ap (λ c. c.turn) (better_yes e b g h) in
        omega (arith, l, k)
    at (inr h) = let k = ap (λ c. c.turn) (better_no e b g h) in omega (arith, k)

best_is : (es seen : List Edge) (e : Edge) (b : Best) (gs : List Edge) → ((g : Edge) → Has gs g → Has es g) → IsBest es seen e b → ((g : Edge) → Has gs g → g.start ≡ e.finish → (best_of e b gs).turn ≤ turn_to e (direction g))
    × (((best_of e b gs).turn ≡ 9) ⊎ (Has es (best_of e b gs).edge × ((best_of e b gs).edge.start ≡ e.finish) × ((best_of e b gs).turn ≡ turn_to e (direction (best_of e b gs).edge))))
    × ((best_of e b gs).turn ≤ b.turn)
unfolding best_of Has
best_is es seen e b [] i r = (λ g h. absurd h, r.found, omega arith)
best_is es seen e b (g ∷ gs) i r =
    let s = better_best es seen e b g (i g (inl refl)) r in
    let t = best_is es (g ∷ seen) e (better e b g) gs (λ f h. i f (inr h)) s in
    let l = t.2 in (
      λ f h j. elim h [ inl q ↦ (let m = s.least f (has_of_head g f seen q) j in omega (arith, m, l)) | inr h ↦ t.0 f h j ],
      t.1,
      (let m = better_least e b g in omega (arith, m, l)),
    )

-- the program's next edge is the next edge, where there is one
turn_low : (e : Edge) (d : ℕ) → turn_to e d ≤ 8
unfolding turn_to
turn_low e d = omega arith

pub next_is : (es : List Edge) (e f : Edge) → IsNextEdge es e f → IsNextEdge es e (next_of es e)
unfolding next_of Has
next_is es e f n =
    let b : Best = record { turn = 9; edge = e } in
    let r = best_is es [] e b es (λ g h. h) (record { found = inl refl; least = λ g h. absurd h }) in
    let l = r.0 f (has_of es f n.one) n.joins in
    let m = turn_low e (direction f) in
    elim r.1 [
      | inl q ↦ absurd (omega (arith, q, l, m))
      | inr q ↦ record {
        one = of_has es (best_of e b es).edge q.0;
        joins = q.1;
        first = λ g c j. (let k = r.0 g (has_of es g c) j in let z = q.2 in omega (arith, k, z));
      }
    ]

next_same : (es : List Edge) (e f : Edge) → HasOneNext es → IsNextEdge es e f → next_of es e ≡ f
unfolding HasOneNext
next_same es e f o n = o e (next_of es e) f (next_is es e f n) n

-- ---- the walk
follow_same : (k : ℕ) (es : List Edge) (a c : Edge) (bs : List Edge) → HasOneNext es → LeadsTo es a c bs → (Has bs a → ⊥) → length bs ≤ k → follow k es a (next_of es c) ≡ bs
unfolding LeadsTo follow Has
follow_same zero es a c [] o l n s = refl
follow_same zero es a c (b ∷ bs) o l n s = absurd (omega (arith, s))
follow_same (suc k) es a c [] o l n s = let e = edge_meets (next_of es c) a (next_same es c a o l) in rw e refl
follow_same (suc k) es a c (b ∷ bs) o l n s = at (bool_cases (is_same_edge (next_of es c) a)) (follow_same k es a b bs o l.1 (λ h. n (inr h)) (omega (arith, s)))
  where
    q : next_of es c ≡ b
    q = next_same es c b o l.0

    at : (is_same_edge (next_of es c) a ≡ true) ⊎ (is_same_edge (next_of es c) a ≡ false) → follow k es a (next_of es b) ≡ bs
        → (if is_same_edge (next_of es c) a then [] else next_of es c ∷ follow k es a (next_of es (next_of es c))) ≡ b ∷ bs
    at (inl t) r = absurd (n (inl (sym q ∙ edge_told (next_of es c) a t)))
    at (inr t) r = rw t (ap (λ z. z ∷ follow k es a (next_of es z)) q ∙ ap (λ zs. b ∷ zs) r)

walk_is : (es : List Edge) (a : Edge) (bs : List Edge) → HasOneNext es → LeadsTo es a a bs → NoRepeats (a ∷ bs) → length bs ≤ length es → walk_of es a ≡ a ∷ bs
unfolding walk_of NoRepeats
walk_is es a bs o l n s = ap (λ zs. a ∷ zs) (follow_same (length es) es a a bs o l n.0 s)

-- ---- lists with the same edges, none twice, are the same in another order
same_permuted : (xs ys : List Edge) → NoRepeats xs → NoRepeats ys → AreSame xs ys → IsPermutation xs ys
unfolding NoRepeats Has
same_permuted [] [] n m s = IsPermutation-refl []
same_permuted [] (y ∷ ys) n m s = absurd (s.back y (inl refl))
same_permuted (x ∷ xs) ys n m s = at (has_split ys x (s.there x (inl refl)))
    (λ us vs k l. same_permuted xs (us ++ vs) n.1 k l)
  where
    at : (us : List Edge) × (vs : List Edge) × (ys ≡ us ++ x ∷ vs) → ((us vs : List Edge) → NoRepeats (us ++ vs) → AreSame xs (us ++ vs) → IsPermutation xs (us ++ vs)) → IsPermutation (x ∷ xs) ys
    at (us, vs, e) f =
        let p : IsPermutation (x ∷ (us ++ vs)) ys = subst (IsPermutation (x ∷ (us ++ vs))) (sym e) (middle x us vs) in
        let c = no_repeats_permuted same_edge edge_test ys (x ∷ (us ++ vs)) (IsPermutation-sym (x ∷ (us ++ vs)) ys p) m in
        IsPermutation-trans (x ∷ xs) (x ∷ (us ++ vs)) ys
        (IsPermutation-cons x xs (us ++ vs) (f us vs c.1 (record {
          there = λ z h. elim (has_permuted ys (x ∷ (us ++ vs)) z (IsPermutation-sym (x ∷ (us ++ vs)) ys p) (s.there z (inr h))) [ inl q ↦ absurd (n.0 (subst (Has xs) (sym q) h)) | inr h ↦ h ];
          back = λ z h. elim (s.back z (has_permuted (x ∷ (us ++ vs)) ys z p (inr h))) [ inl q ↦ absurd (c.0 (subst (Has (us ++ vs)) (sym q) h)) | inr h ↦ h ];
        })))
        p

-- ---- all walks
unfoldable left_over : List Edge → List Edge → List Edge
left_over w left = filter (λ e. not (is_one_of w e)) left

not_true : (b : Bool) → not b ≡ true → b ≡ true → ⊥
not_true true h k = false≢true h
not_true false h k = false≢true k

not_meets : (b : Bool) → (b ≡ true → ⊥) → not b ≡ true
not_meets true f = absurd (f refl)
not_meets false f = refl

left_has : (w left : List Edge) (e : Edge) → Has (left_over w left) e → Has left e × (Has w e → ⊥)
unfolding left_over
left_has w left e h = let r = filtered_has (λ e. not (is_one_of w e)) left e h in (r.0, λ i. not_true (is_one_of w e) r.1 (one_meets w e i))

has_left_over : (w left : List Edge) (e : Edge) → Has left e → (Has w e → ⊥) → Has (left_over w left) e
unfolding left_over
has_left_over w left e h n = has_filtered (λ e. not (is_one_of w e)) left e h (not_meets (is_one_of w e) (λ t. n (one_told w e t)))

pub filter_yes : (p : Edge → Bool) (x : Edge) (xs : List Edge) → p x ≡ true → filter p (x ∷ xs) ≡ x ∷ filter p xs
filter_yes p x xs h = rw h refl

pub filter_no : (p : Edge → Bool) (x : Edge) (xs : List Edge) → p x ≡ false → filter p (x ∷ xs) ≡ filter p xs
filter_no p x xs h = rw h refl

once_filtered : (p : Edge → Bool) (xs : List Edge) → NoRepeats xs → NoRepeats (filter p xs)
unfolding NoRepeats
once_filtered p [] n = tt
once_filtered p (x ∷ xs) n = at (bool_cases (p x)) (once_filtered p xs n.1)
  where
    at : (p x ≡ true) ⊎ (p x ≡ false) → NoRepeats (filter p xs) → NoRepeats (filter p (x ∷ xs))
    at (inl h) r = subst NoRepeats (sym (filter_yes p x xs h)) (λ i. n.0 (filtered_has p xs x i).0, r)
    at (inr h) r = subst NoRepeats (sym (filter_no p x xs h)) r

-- what an orbit leaves is what the program leaves
left_same : (es : List Edge) (a : Edge) (left : List Edge) → NoRepeats (a ∷ left) → (r : IsOrbit es (a ∷ left) a) → AreSame r.rest (left_over (a ∷ r.others) left)
unfolding Has NoRepeats
left_same es a left n r =
    let w = a ∷ r.others in
    let m = no_repeats_permuted same_edge edge_test (a ∷ left) (w ++ r.rest) (IsPermutation-sym (w ++ r.rest) (a ∷ left) r.perm) n in
    record {
      there = λ e h. (
          let apart : Has w e → ⊥ = λ i. no_repeats_apart w r.rest e m i h in
          elim (has_permuted (w ++ r.rest) (a ∷ left) e r.perm (has_right w r.rest e h)) [
            | inl k ↦ absurd (apart (inl k))
            | inr i ↦ has_left_over w left e i apart
          ]);
      back = λ e h. (
          let i = left_has w left e h in
          elim (has_parts w r.rest e (has_permuted (a ∷ left) (w ++ r.rest) e (IsPermutation-sym (w ++ r.rest) (a ∷ left) r.perm) (inr i.0))) [ inl k ↦ absurd (i.1 k) | inr k ↦ k ]);
    }

pool_same : (es xs ys : List Edge) → AreSame xs ys → NoRepeats ys → IsPool es xs → IsPool es ys
unfolding IsClosed
pool_same es xs ys s n p = record {
  closed = λ e h. (let f = p.closed e (s.back e h) in (f.0, f.1, s.there f.0 f.2));
  inside = λ e h. p.inside e (s.back e h);
  once = n;
}

fewer : (xs ys : List Edge) → NoRepeats xs → ((e : Edge) → Has xs e → Has ys e) → length xs ≤ length ys
unfolding NoRepeats Has
fewer [] ys n f = omega arith
fewer (x ∷ xs) ys n f = at (has_split ys x (f x (inl refl))) (λ us vs g. fewer xs (us ++ vs) n.1 g)
  where
    at : (us : List Edge) × (vs : List Edge) × (ys ≡ us ++ x ∷ vs) → ((us vs : List Edge) → ((e : Edge) → Has xs e → Has (us ++ vs) e) → length xs ≤ length (us ++ vs)) → length (x ∷ xs) ≤ length ys
    at (us, vs, e) g =
        let l = g us vs (λ z h. elim (has_permuted ys (x ∷ (us ++ vs)) z (IsPermutation-sym (x ∷ (us ++ vs)) ys (subst (IsPermutation (x ∷ (us ++ vs))) (sym e) (middle x us vs))) (f z (inr h))) [
          | inl q ↦ absurd (n.0 (subst (Has xs) (sym q) h))
          | inr h ↦ h
        ]) in
        let q = ap length e in let t = length-append us (x ∷ vs) in let u = length-append us vs in omega (arith, l, q, t, u)

-- the program's walks
pub record AreWalked (es all : List Edge) (walks : List (List Edge)) : Type 0 where
  pub perm : IsPermutation (joined_walks walks) all
  pub are : (w : List Edge) → Has walks w → IsWalk es w

step : (es : List Edge) (a : Edge) (left : List Edge) (k : ℕ) (bs rest : List Edge) → walk_of es a ≡ a ∷ bs → NoRepeats (a ∷ bs) → LeadsTo es a a bs → IsPermutation (a ∷ bs ++ rest) (a ∷ left) → NoRepeats (a ∷ left)
    → AreSame rest (left_over (a ∷ bs) left) → IsPool es rest → length (a ∷ left) ≤ suc k
    → (IsPool es (left_over (a ∷ bs) left) → length (left_over (a ∷ bs) left) ≤ k → AreWalked es (left_over (a ∷ bs) left) (walks_of k es (left_over (a ∷ bs) left)))
    → AreWalked es (a ∷ left) (walk_of es a ∷ walks_of k es (left_over (walk_of es a) left))
unfolding NoRepeats Has left_over
step es a left k bs rest is nw l p n s q t f =
    let w = a ∷ bs in
    let once = once_filtered (λ e. not (is_one_of w e)) left n.1 in
    let perm = same_permuted rest (left_over w left) q.once once s in
    let len = length_permutation (w ++ rest) (a ∷ left) p in
    let len2 = length_permutation rest (left_over w left) perm in
    let len3 = length-append bs rest in
    let r = f (pool_same es rest (left_over w left) s once q) (omega (arith, len, len2, len3, t)) in
    subst (λ z. AreWalked es (a ∷ left) (z ∷ walks_of k es (left_over z left))) (sym is) (record {
      perm = IsPermutation-trans (w ++ joined_walks (walks_of k es (left_over w left))) (w ++ left_over w left) (a ∷ left) (IsPermutation-append_right w (joined_walks (walks_of k es (left_over w left))) (left_over w left) r.perm)
          (IsPermutation-trans (w ++ left_over w left) (w ++ rest) (a ∷ left) (IsPermutation-append_right w (left_over w left) rest (IsPermutation-sym rest (left_over w left) perm)) p);
      are = λ v h. elim h [ inl e ↦ subst (IsWalk es) e (orbit_walk es a bs l) | inr h ↦ r.are v h ];
    })

pub walks_are : (k : ℕ) (es left : List Edge) → HasOneNext es → OneToOne es → IsPool es left → length left ≤ k → AreWalked es left (walks_of k es left)
unfolding walks_of Has left_over
walks_are zero es [] o u p s = record { perm = IsPermutation-refl []; are = λ w h. absurd h }
walks_are zero es (a ∷ left) o u p s = absurd (omega (arith, s))
walks_are (suc k) es [] o u p s = record { perm = IsPermutation-refl []; are = λ w h. absurd h }
walks_are (suc k) es (a ∷ left) o u p s =
    let n = first_next es a left p in
    let r = orbit_from (length left) es (a ∷ left) a n.0 [] left u p n.1 (IsPermutation-refl (a ∷ left)) n.2 (omega arith) in
    let w = a ∷ r.others in
    let m = no_repeats_permuted same_edge edge_test (a ∷ left) (w ++ r.rest) (IsPermutation-sym (w ++ r.rest) (a ∷ left) r.perm) p.once in
    let nw = no_repeats_left w r.rest m in
    let inside : (e : Edge) → Has w e → Has es e = λ e h. p.inside e (has_permuted (w ++ r.rest) (a ∷ left) e r.perm (has_left w r.rest e h)) in
    let is = walk_is es a r.others o r.leads nw (let l = fewer w es nw inside in omega (arith, l)) in
    step es a left k r.others r.rest is nw r.leads r.perm p.once (left_same es a left p.once r) (pool_rest es (a ∷ left) a u p r) s
    (λ q t. walks_are k es (left_over w left) o u q t)
