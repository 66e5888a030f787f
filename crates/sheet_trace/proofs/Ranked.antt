-- Drawings in the order of their lists of corners: of walks whose contours all differ, just one list is in order.
use Rattle.std.proofs.Common.{◌≡◌, refl, sym, subst, ap, ◌∙◌, ℕ, suc, ◌+◌, ◌<◌, ◌≤◌, ◌⊎◌, inl, inr, arith, List, [], ◌∷◌, length, get_or, drop, Bool, true, false, not, Ordering}
use Rattle.std.specs.Prelude.{◌&&◌, ◌||◌, int_lt, nat_lt, map, AllPairs}
use Rattle.std.specs.Ordering.{int_eq, is_lt}
use Rattle.std.specs.Cmp.{IsStrictWeakOrder}
use Rattle.std.specs.Fn.{Called, ComparesAs}
use Rattle.std.specs.List.Sorted.{IsPermutation, IsSortedBy}
use Rattle.std.proofs.lemmas.Bool.{false≢true, and_from, false_from_ne_true, cases_lt, lt-ltb, ltb-true}
use Rattle.std.proofs.lemmas.Fn.{always_returns_same}
use Rattle.std.proofs.lemmas.List.Sorted.{IsPermutation-refl, IsPermutation-cons, IsPermutation-trans, IsPermutation-sym, IsPermutation-map, IsPermutation-middle}
use Rattle.grid_num.specs.declared.Point.{Point}
use Rattle.plane.specs.Covering.{Edge}
use Rattle.rings.specs.Walks.{IsListLess}
use Rattle.rings.specs.Loops.{Loop}
use Rattle.rings.specs.Inner.Tracing.{is_same_point, is_less_point, is_less_list, Drawing, put_in_order, in_corner_order, loop_of}
use Rattle.rings.proofs.Lists.{Has, has_permuted, IsTest, NoRepeats, no_repeats_permuted, IsOrder, Rising, rising_of, rising_same}
use Rattle.rings.proofs.Order.{list_cases, list_order}
use Rattle.rings.proofs.Checks.{same_point, less_point, less_list, less_list_told, list_meets}
use Rattle.rings.proofs.Heads.{has_map, map_has}
use Rattle.sheet_trace.specs.declared.order.Drawn.{Drawn}
use Rattle.sheet_trace.specs.Next.{is_before}
use Rattle.sheet_trace.specs.Inner.Order.{loop_in, loops_in, is_less_drawn, drawing_of, AreLoopsInOrder}
use Rattle.sheet_trace.proofs.Folds.{drop_here, drop_all}
use Rattle.sheet_trace.proofs.Rounds.{less_next, less_here}
use denote.Param.Members.{Mut}
use denote.Ref.{Bor}

-- ---- the test of lists of corners is a strict total order
lists_same : (cs ds : List Point) → is_less_list cs ds ≡ less_list cs ds
unfolding is_less_list less_list is_less_point less_point is_same_point same_point
lists_same cs [] = refl
lists_same [] (d ∷ ds) = refl
lists_same (c ∷ cs) (d ∷ ds) = ap (λ b. (int_lt c.y d.y || (int_eq c.y d.y && int_lt c.x d.x)) || ((int_eq c.x d.x && int_eq c.y d.y) && b)) (lists_same cs ds)

list_told : (cs ds : List Point) → is_less_list cs ds ≡ true → IsListLess cs ds
list_told cs ds h = less_list_told cs ds (sym (lists_same cs ds) ∙ h)

list_none : (cs ds : List Point) → is_less_list cs ds ≡ false → IsListLess cs ds → ⊥
list_none cs ds h l = false≢true (sym h ∙ lists_same cs ds ∙ list_meets cs ds l)

none_list : (cs ds : List Point) → (IsListLess cs ds → ⊥) → is_less_list cs ds ≡ false
none_list cs ds f = false_from_ne_true (is_less_list cs ds) (λ h. f (list_told cs ds h))

pub weak_order : IsStrictWeakOrder is_less_drawn
weak_order = record {
  one_way = λ a b h. none_list b.corners.items a.corners.items
      (λ l. list_order.never a.corners.items (list_order.on a.corners.items b.corners.items a.corners.items (list_told a.corners.items b.corners.items h) l));
  chain = λ a b c h k. none_list a.corners.items c.corners.items (no_chain a.corners.items b.corners.items c.corners.items (list_none a.corners.items b.corners.items h) (list_none b.corners.items c.corners.items k));
}
  where
    no_chain : (as' bs cs : List Point) → (IsListLess as' bs → ⊥) → (IsListLess bs cs → ⊥) → IsListLess as' cs → ⊥
    no_chain as' bs cs f g l = elim (list_cases as' bs) [
      | inl h ↦ f h
      | inr o ↦ elim o [ inl e ↦ g (subst (λ zs. IsListLess zs cs) e l) | inr h ↦ g (list_order.on bs as' cs h l) ]
    ]

pub sorted_by_compare : {F : Type 0} {g : Mut F (Bor Drawn × (Bor Drawn × Unit {0})) Ordering} {f : F} (ds : List Drawn)
    → ((lt : Drawn → Drawn → Bool) → IsStrictWeakOrder lt → ComparesAs g lt f → IsSortedBy lt ds)
    → ((a : Bor Drawn × (Bor Drawn × Unit {0})) (r : Ordering) (f' : F) → Called g f a r f' → (is_lt r ≡ is_less_drawn a.0.now a.1.0.now) × (f' ≡ f)) → IsSortedBy is_less_drawn ds
sorted_by_compare {g = g} {f = f} ds up h = up is_less_drawn weak_order (always_returns_same g (λ a r. is_lt r ≡ is_less_drawn a.0.now a.1.0.now) f h)

-- ---- from corner to corner
abbrev less_from : List Point → List Point → ℕ → Bool
less_from cs ds i = is_less_list (drop i cs) (drop i ds)

less_split : (cs ds : List Point) (i : ℕ) (c d : Point) → i < length cs → i < length ds → less_from cs ds i ≡ is_less_list (get_or cs i c ∷ drop (i + 1) cs) (get_or ds i d ∷ drop (i + 1) ds)
less_split cs ds i c d l m = ap (λ zs. is_less_list zs (drop i ds)) (drop_here cs i c l) ∙ ap (λ zs. is_less_list (get_or cs i c ∷ drop (i + 1) cs) zs) (drop_here ds i d m)

pub less_step : (cs ds : List Point) (i : ℕ) (c d : Point) (all : Bool) → i < length cs → i < length ds → is_same_point (get_or cs i c) (get_or ds i d) ≡ true → less_from cs ds i ≡ all → less_from cs ds (i + 1) ≡ all
less_step cs ds i c d all l m s h = sym (less_next (get_or cs i c) (get_or ds i d) (drop (i + 1) cs) (drop (i + 1) ds) s) ∙ (sym (less_split cs ds i c d l m) ∙ h)

pub less_told_here : (cs ds : List Point) (i : ℕ) (c d : Point) (r all : Bool) → i < length cs → i < length ds → is_same_point (get_or cs i c) (get_or ds i d) ≡ false → r ≡ is_before (get_or cs i c) (get_or ds i d)
    → less_from cs ds i ≡ all → r ≡ all
less_told_here cs ds i c d r all l m s e h = e ∙ (sym (less_here (get_or cs i c) (get_or ds i d) (drop (i + 1) cs) (drop (i + 1) ds) s) ∙ (sym (less_split cs ds i c d l m) ∙ h))

pub less_short : (cs ds : List Point) (i : ℕ) (all : Bool) → length ds ≤ i → less_from cs ds i ≡ all → false ≡ all
unfolding is_less_list
less_short cs ds i all l h = sym (ap (λ zs. is_less_list (drop i cs) zs) (drop_all ds i l)) ∙ h

pub less_ends : (cs ds : List Point) (i : ℕ) (all : Bool) → length cs ≡ i → i ≤ length ds → less_from cs ds i ≡ all → nat_lt (length cs) (length ds) ≡ all
unfolding is_less_list
less_ends cs ds i all e l h = at ds l h (cases_lt i (length ds))
  where
    at : (ds : List Point) → i ≤ length ds → less_from cs ds i ≡ all → (i < length ds) ⊎ (length ds ≤ i) → nat_lt (length cs) (length ds) ≡ all
    at ds l h (inr g) = false_from_ne_true (nat_lt (length cs) (length ds)) (λ t. (let k = ltb-true (length cs) (length ds) t in omega (arith, k, e, g))) ∙ less_short cs ds i all g h
    at [] l h (inl g) = absurd (omega (arith, g))
    at (d ∷ ds) l h (inl g) =
        lt-ltb (length cs) (length (d ∷ ds)) (omega (arith, e, g))
        ∙ (sym (ap (λ zs. is_less_list zs (drop i (d ∷ ds))) (drop_all cs i (omega (arith, e))) ∙ ap (λ zs. is_less_list [] zs) (drop_here (d ∷ ds) i d g)) ∙ h)

-- ---- sorted lists of different corners rise
same_list : List Point → List Point → Bool
same_list cs ds = not (is_less_list cs ds) && not (is_less_list ds cs)

not_true : (b : Bool) → not b ≡ true → b ≡ false
not_true true h = absurd (false≢true h)
not_true false h = refl

both : (a b : Bool) → (a && b) ≡ true → (a ≡ true) × (b ≡ true)
both true b h = (refl, h)
both false b h = absurd (false≢true h)

list_test : IsTest same_list
unfolding same_list
list_test = record {
  tells = λ cs ds h. (let s = both (not (is_less_list cs ds)) (not (is_less_list ds cs)) h in elim (list_cases cs ds) [
    | inl l ↦ absurd (list_none cs ds (not_true (is_less_list cs ds) s.0) l)
    | inr o ↦ elim o [ inl e ↦ sym e | inr l ↦ absurd (list_none ds cs (not_true (is_less_list ds cs) s.1) l) ]
  ]);
  meets = λ cs. (let n = ap not (none_list cs cs (list_order.never cs)) in and_from (not (is_less_list cs cs)) (not (is_less_list cs cs)) n n);
}

rising_apart : (cs : List (List Point)) → Rising IsListLess cs → NoRepeats cs
unfolding Rising NoRepeats
rising_apart [] r = tt
rising_apart (c ∷ cs) r = (λ h. list_order.never c (r.0 c h), rising_apart cs r.1)

module _ {X : Type 0} (f : X → List Point) where
  abbrev IsUnder : X → X → Type 0
  IsUnder a b = IsListLess (f a) (f b)

  under_order : IsOrder IsUnder
  under_order = record { never = λ x. list_order.never (f x); on = λ x y z. list_order.on (f x) (f y) (f z) }

  sorted_tail : (x : X) (xs : List X) → IsSortedBy (λ a b. is_less_list (f a) (f b)) (x ∷ xs) → IsSortedBy (λ a b. is_less_list (f a) (f b)) xs
  sorted_tail x xs s k d l m =
      let e : suc k + 1 ≡ suc (k + 1) = omega arith in
      subst (λ n. is_less_list (f (get_or (x ∷ xs) n d)) (f (get_or xs k d)) ≡ false) e (s (suc k) d (omega arith) (omega (arith, m)))

  sorted_rises : (xs : List X) → IsSortedBy (λ a b. is_less_list (f a) (f b)) xs → NoRepeats (map f xs) → Rising IsUnder xs
  unfolding Rising NoRepeats Has
  sorted_rises [] s n = tt
  sorted_rises (x ∷ []) s n = (λ y h. absurd h, tt)
  sorted_rises (x ∷ y ∷ zs) s n =
      let r = sorted_rises (y ∷ zs) (sorted_tail x (y ∷ zs) s) n.1 in
      let l : IsUnder x y = elim (list_cases (f x) (f y)) [
        | inl l ↦ l
        | inr o ↦ elim o [ inl e ↦ absurd (n.0 (inl (sym e))) | inr l ↦ absurd (list_none (f y) (f x) (s 0 x (omega arith) (omega arith)) l) ]
      ] in
      (λ z h. elim h [ inl e ↦ subst (λ w. IsUnder x w) e l | inr h ↦ list_order.on (f x) (f y) (f z) l (r.0 z h) ], r)

  rising_back : (xs : List X) → Rising IsListLess (map f xs) → Rising IsUnder xs
  unfolding Rising
  rising_back [] r = tt
  rising_back (x ∷ xs) r = (λ y h. r.0 (f y) (has_map f xs y h), rising_back xs r.1)

map_twice : {X Y Z : Type 0} (f : X → Y) (g : Y → Z) (xs : List X) → map g (map f xs) ≡ map (λ x. g (f x)) xs
map_twice f g [] = refl
map_twice f g (x ∷ xs) = ap (λ zs. g (f x) ∷ zs) (map_twice f g xs)

rising_map : {X Y : Type 0} (f : X → Y) (g : Y → List Point) (xs : List X) → Rising (IsUnder (λ x. g (f x))) xs → Rising (IsUnder g) (map f xs)
unfolding Rising
rising_map f g [] r = tt
rising_map f g (x ∷ xs) r = (λ y h. (let k = map_has f xs y h in subst (λ z. IsListLess (g (f x)) (g z)) k.2 (r.0 k.0 k.1)), rising_map f g xs r.1)

-- ---- the rule's order only moves the drawings
put_by : (d e : Drawing) (ds : List Drawing) (b : Bool) → is_less_list d.corners e.corners ≡ b → IsPermutation (d ∷ ds) (put_in_order d ds) → IsPermutation (d ∷ e ∷ ds) (put_in_order d (e ∷ ds))
unfolding put_in_order
put_by d e ds true h p = rw h (IsPermutation-refl (d ∷ e ∷ ds))
put_by d e ds false h p =
    rw h (IsPermutation-trans (d ∷ e ∷ ds) (e ∷ d ∷ ds) (e ∷ put_in_order d ds) (IsPermutation-sym (e ∷ d ∷ ds) (d ∷ e ∷ ds) (IsPermutation-middle (e ∷ []) d ds)) (IsPermutation-cons e (d ∷ ds) (put_in_order d ds) p))

put_moves : (d : Drawing) (ds : List Drawing) → IsPermutation (d ∷ ds) (put_in_order d ds)
unfolding put_in_order
put_moves d [] = IsPermutation-refl (d ∷ [])
put_moves d (e ∷ ds) = put_by d e ds (is_less_list d.corners e.corners) refl (put_moves d ds)

order_moves : (ws : List (List Edge)) → IsPermutation (map drawing_of ws) (in_corner_order ws)
unfolding in_corner_order
order_moves [] = IsPermutation-refl []
order_moves (w ∷ ws) =
    IsPermutation-trans (drawing_of w ∷ map drawing_of ws) (drawing_of w ∷ in_corner_order ws) (put_in_order (drawing_of w) (in_corner_order ws))
    (IsPermutation-cons (drawing_of w) (map drawing_of ws) (in_corner_order ws) (order_moves ws)) (put_moves (drawing_of w) (in_corner_order ws))

loops_corners : (ds : List Drawing) → map (λ (l : Loop). l.corners) (map loop_of ds) ≡ map (λ d. d.corners) ds
unfolding loop_of
loops_corners [] = refl
loops_corners (d ∷ ds) = ap (λ cs. d.corners ∷ cs) (loops_corners ds)

-- ---- just one list is in order
abbrev corners_in : Loop → List Point
corners_in l = l.corners

one_order : (ls : List Loop) (ds : List Drawn) → IsPermutation ls (loops_in ds) → Rising IsListLess (map corners_in ls) → IsSortedBy is_less_drawn ds → loops_in ds ≡ ls
one_order ls ds p r s =
    let q : IsPermutation (map corners_in ls) (map (λ (d : Drawn). d.corners.items) ds) =
    subst (IsPermutation (map corners_in ls)) (map_twice loop_in corners_in ds) (IsPermutation-map corners_in ls (loops_in ds) p) in
    let n = no_repeats_permuted same_list list_test (map corners_in ls) (map (λ (d : Drawn). d.corners.items) ds) q (rising_apart (map corners_in ls) r) in
    rising_same (IsUnder corners_in) (under_order corners_in) (loops_in ds) ls
    (rising_map loop_in corners_in ds (sorted_rises (λ (d : Drawn). d.corners.items) ds s n)) (rising_back corners_in ls r)
    (λ l h. has_permuted (loops_in ds) ls l (IsPermutation-sym ls (loops_in ds) p) h) (λ l h. has_permuted ls (loops_in ds) l p h)

pub loops_in_order : (old new : List Drawn) → IsPermutation old new → IsSortedBy is_less_drawn new → AreLoopsInOrder old new
unfolding AreLoopsInOrder
loops_in_order old new p s = λ ws q a.
    let ls = map loop_of (in_corner_order ws) in
    let walks = map (λ w. loop_of (drawing_of w)) ws in
    let m : IsPermutation walks ls = subst (λ zs. IsPermutation zs ls) (map_twice drawing_of loop_of ws) (IsPermutation-map loop_of (map drawing_of ws) (in_corner_order ws) (order_moves ws)) in
    let t = IsPermutation-trans ls walks (loops_in new) (IsPermutation-sym walks ls m) (IsPermutation-trans walks (loops_in old) (loops_in new) q (IsPermutation-map loop_in old new p)) in
    one_order ls new t (subst (Rising IsListLess) (sym (loops_corners (in_corner_order ws))) (rising_of IsListLess (map (λ d. d.corners) (in_corner_order ws)) a)) s

-- where the drawings are those of the walks in their order
pub loops_told : (ws : List (List Edge)) (old new : List Drawn) → AreLoopsInOrder old new → loops_in old ≡ map (λ w. loop_of (drawing_of w)) ws → AllPairs IsListLess (map (λ d. d.corners) (in_corner_order ws))
    → loops_in new ≡ map loop_of (in_corner_order ws)
unfolding AreLoopsInOrder
loops_told ws old new o e a = o ws (subst (IsPermutation (map (λ w. loop_of (drawing_of w)) ws)) (sym e) (IsPermutation-refl (map (λ w. loop_of (drawing_of w)) ws))) a
