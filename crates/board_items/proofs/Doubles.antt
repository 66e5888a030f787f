-- Whether a name stands twice, told from the last name to the first by those behind it.
use Rattle.std.proofs.Common.{◌≡◌, ℕ, zero, suc, ◌+◌, ◌-◌, ◌<◌, ◌≤◌, Bool, true, false, not, ◌||◌, if◌then◌else◌, List, [], ◌∷◌, ◌++◌, length, map, drop, get_or, refl, sym, ap, subst, ◌∙◌, arith}
use Rattle.std.specs.List.{list_any}
use Rattle.std.specs.Str.{bytes_eq}
use Rattle.std.specs.Cmp.Lexicographic.{nat_list_eq_equiv, same_text}
use Rattle.std.proofs.lemmas.Bool.{true≢false}
use Rattle.std.proofs.lemmas.List.{map-append}
use Rattle.std.proofs.lemmas.List.Folds.{list_any-append}
use Rattle.board_text.specs.Layers.{Name, is_among, has_double}
use Rattle.board_text.proofs.Walks.{drop_here, drop_past}

-- ---- names that were seen

same : (a b : Name) → bytes_eq a b ≡ bytes_eq b a
same a b = nat_list_eq_equiv.symm a b

-- a set finds a name among its keys
pub found_is : {V : Type 0} (f : V → Name) (ks : List V) (q : Name) → list_any (λ k. bytes_eq q (f k)) ks ≡ is_among (map f ks) q
found_is f [] q = refl
found_is f (k ∷ ks) q = λ i. same q (f k) i || found_is f ks q i

or_false : (b : Bool) → (b || false) ≡ b
or_false true = refl
or_false false = refl

or_swap : (a b : Bool) → (a || b) ≡ (b || a)
or_swap true true = refl
or_swap true false = refl
or_swap false true = refl
or_swap false false = refl

or_known : (a b : Bool) → (a ≡ true → b ≡ true) → b ≡ (a || b)
or_known true b k = k refl
or_known false b k = refl

-- with one name more
pub more_seen : {V : Type 0} (f : V → Name) (ks new : List V) (v : V) (q : Name) → new ≡ (if list_any (λ k. bytes_eq (f v) (f k)) ks then ks else ks ++ v ∷ [])
    → is_among (map f new) q ≡ (bytes_eq (f v) q || is_among (map f ks) q)
more_seen f ks new v q h = ap (λ xs. is_among (map f xs) q) h ∙ by_case (list_any (λ k. bytes_eq (f v) (f k)) ks) refl
  where
    by_case : (b : Bool) → list_any (λ k. bytes_eq (f v) (f k)) ks ≡ b → is_among (map f (if b then ks else ks ++ v ∷ [])) q ≡ (bytes_eq (f v) q || is_among (map f ks) q)
    by_case true e =
        or_known (bytes_eq (f v) q) (is_among (map f ks) q) (λ s. ap (is_among (map f ks)) (sym (same_text (f v) q (sym s))) ∙ sym (found_is f ks (f v)) ∙ e)
    by_case false e =
        ap (list_any (λ other. bytes_eq other q)) (map-append f ks (v ∷ []))
        ∙ list_any-append (λ other. bytes_eq other q) (map f ks) (f v ∷ [])
        ∙ ap (λ b. is_among (map f ks) q || b) (or_false (bytes_eq (f v) q))
        ∙ or_swap (is_among (map f ks) q) (bytes_eq (f v) q)

-- ---- from the last name to the first

-- the set has just the names behind a place, and none of these stands twice
pub record AreBehind {V : Type 0} (f : V → Name) (xs : List V) (k : ℕ) (seen : List Name) : Type 0 where
  pub found : (q : Name) → is_among seen q ≡ is_among (map f (drop k xs)) q
  pub once : has_double (map f (drop k xs)) ≡ false

-- one place nearer to the front
next_place : (n step : ℕ) → step < n → (n - 1 - step) + 1 ≡ n - step
next_place n step l = omega (arith, l)

split : {V : Type 0} (f : V → Name) (xs : List V) (k : ℕ) (x : V) → k < length xs → ((d : V) → x ≡ get_or xs k d)
    → has_double (map f (drop k xs)) ≡ (is_among (map f (drop (k + 1) xs)) (f x) || has_double (map f (drop (k + 1) xs)))
unfolding has_double
split f xs k x l e = ap (λ ys. has_double (map f ys)) (drop_here xs k x l e)

or_true : (b : Bool) → (b || true) ≡ true
or_true true = refl
or_true false = refl

-- what stands twice behind a place stands twice
wholly : {V : Type 0} (f : V → Name) (xs : List V) (k : ℕ) → has_double (map f (drop k xs)) ≡ true → has_double (map f xs) ≡ true
unfolding has_double
wholly f xs zero e = e
wholly f [] (suc k) e = e
wholly f (x ∷ xs) (suc k) e = ap (λ b. is_among (map f xs) (f x) || b) (wholly f xs k e) ∙ or_true (is_among (map f xs) (f x))

pub none_behind : {V : Type 0} (f : V → Name) (xs : List V) (k : ℕ) → length xs ≤ k → AreBehind f xs k []
unfolding has_double
none_behind f xs k l =
    record { found = λ q. ap (λ ys. is_among (map f ys) q) (sym (drop_past xs k l)); once = ap (λ ys. has_double (map f ys)) (drop_past xs k l) }

not_true : (a b : Bool) → a ≡ not b → a ≡ false → b ≡ true
not_true a true e n = refl
not_true a false e n = absurd (true≢false (sym e ∙ n))

not_false : (a b : Bool) → a ≡ not b → a ≡ true → b ≡ false
not_false a true e n = absurd (true≢false (sym n ∙ e))
not_false a false e n = refl

-- the name at a place stands behind it too
pub stands_twice : {V : Type 0} (f : V → Name) (xs : List V) (step : ℕ) (x : V) (seen : List Name) (new : Bool) → step < length xs → ((d : V) → x ≡ get_or xs (length xs - 1 - step) d)
    → AreBehind f xs (length xs - step) seen → new ≡ not (is_among seen (f x)) → new ≡ false → true ≡ has_double (map f xs)
stands_twice f xs step x seen new l e b n old =
    let k = length xs - 1 - step in
    let below : k < length xs = omega (arith, l) in
    let found : is_among (map f (drop (k + 1) xs)) (f x) ≡ true = ap (λ m. is_among (map f (drop m xs)) (f x)) (next_place (length xs) step l) ∙ sym (b.found (f x)) ∙ not_true new (is_among seen (f x)) n old in
    sym (wholly f xs k (split f xs k x below e ∙ ap (λ c. c || has_double (map f (drop (k + 1) xs))) found))

-- it doesn't, and so none stands twice from there on
pub stands_once : {V : Type 0} (f : V → Name) (xs : List V) (step : ℕ) (x : V) (seen more : List Name) (new : Bool) → step < length xs → ((d : V) → x ≡ get_or xs (length xs - 1 - step) d)
    → AreBehind f xs (length xs - step) seen → new ≡ not (is_among seen (f x)) → new ≡ true → ((q : Name) → is_among more q ≡ (bytes_eq (f x) q || is_among seen q))
    → AreBehind f xs (length xs - (step + 1)) more
stands_once {V} f xs step x seen more new l e b n first h =
    let k = length xs - 1 - step in
    let below : k < length xs = omega (arith, l) in
    let at : k ≡ length xs - (step + 1) = omega arith in
    let next = next_place (length xs) step l in
    let fails : is_among (map f (drop (k + 1) xs)) (f x) ≡ false = ap (λ m. is_among (map f (drop m xs)) (f x)) next ∙ sym (b.found (f x)) ∙ not_false new (is_among seen (f x)) n first in
    let rest : has_double (map f (drop (k + 1) xs)) ≡ false = ap (λ m. has_double (map f (drop m xs))) next ∙ b.once in
    subst (λ m. AreBehind f xs m more) at (record {
      found = λ q.
          h q ∙ ap (λ c. bytes_eq (f x) q || c) (b.found q ∙ ap (λ m. is_among (map f (drop m xs)) q) (sym next))
          ∙ ap (λ ys. is_among (map f ys) q) (sym (drop_here xs k x below e));
      once = split f xs k x below e ∙ ap (λ c. c || has_double (map f (drop (k + 1) xs))) fails ∙ rest;
    })

-- all were seen
pub all_once : {V : Type 0} (f : V → Name) (xs : List V) (step : ℕ) (seen : List Name) → length xs ≤ step → AreBehind f xs (length xs - step) seen → false ≡ has_double (map f xs)
all_once f xs step seen l b =
    let none : length xs - step ≡ 0 = omega (arith, l) in
    sym (ap (λ m. has_double (map f (drop m xs))) (sym none) ∙ b.once)
