-- Walking over items by their places.
use Rattle.std.proofs.Common.{◌≡◌, ℕ, suc, ◌+◌, ◌<◌, ◌≤◌, Bool, true, false, ◌&&◌, ◌||◌, cond, List, [], ◌∷◌, ◌++◌, length, map, filter, drop, get_or, refl, sym, ap, ◌∙◌, arith, append_assoc, append-nil, subst}
use Rattle.std.specs.List.{list_all, list_any}
use Rattle.board_language.specs.Copper.{has_layer}
use Rattle.board_text.proofs.Walks.{drop_here, drop_past}
use Rattle.fill_rules.specs.Tasks.{layers_below}

-- ---- whether all pass

all_split : {V : Type 0} (test : V → Bool) (xs : List V) (k : ℕ) (x : V) → k < length xs → ((d : V) → x ≡ get_or xs k d) → list_all test (drop k xs) ≡ (test x && list_all test (drop (k + 1) xs))
all_split test xs k x l e = ap (list_all test) (drop_here xs k x l e)

pub all_stop : {V : Type 0} (test : V → Bool) (xs : List V) (k : ℕ) (x : V) (all : Bool) → k < length xs → ((d : V) → x ≡ get_or xs k d) → test x ≡ false → list_all test (drop k xs) ≡ all → false ≡ all
all_stop test xs k x all l e fails h = ap (λ b. b && list_all test (drop (k + 1) xs)) (sym fails) ∙ sym (all_split test xs k x l e) ∙ h

pub all_next : {V : Type 0} (test : V → Bool) (xs : List V) (k : ℕ) (x : V) (all : Bool) → k < length xs → ((d : V) → x ≡ get_or xs k d) → test x ≡ true → list_all test (drop k xs) ≡ all → list_all test (drop (k + 1) xs) ≡ all
all_next test xs k x all l e passes h = ap (λ b. b && list_all test (drop (k + 1) xs)) (sym passes) ∙ sym (all_split test xs k x l e) ∙ h

pub all_passed : {V : Type 0} (test : V → Bool) (xs : List V) (k : ℕ) (all : Bool) → length xs ≤ k → list_all test (drop k xs) ≡ all → true ≡ all
all_passed test xs k all l h = sym (ap (list_all test) (drop_past xs k l)) ∙ h

-- ---- one more is read

pub read_more : {V W : Type 0} (f : V → W) (xs : List V) (k : ℕ) (x : V) (y : W) (done all : List W) → k < length xs → ((d : V) → x ≡ get_or xs k d) → y ≡ f x → done ++ map f (drop k xs) ≡ all
    → (done ++ y ∷ []) ++ map f (drop (k + 1) xs) ≡ all
read_more f xs k x y done all l e i h =
    append_assoc done (y ∷ []) (map f (drop (k + 1) xs)) ∙ ap (λ z. done ++ z ∷ map f (drop (k + 1) xs)) i ∙ ap (λ ys. done ++ map f ys) (sym (drop_here xs k x l e)) ∙ h

pub read_all : {V W : Type 0} (f : V → W) (xs : List V) (k : ℕ) (done all : List W) → length xs ≤ k → done ++ map f (drop k xs) ≡ all → done ≡ all
read_all f xs k done all l h = sym (append-nil done) ∙ ap (λ ys. done ++ map f ys) (sym (drop_past xs k l)) ∙ h

-- ---- those that pass

filter_yes : {V : Type 0} (p : V → Bool) (x : V) (xs : List V) → p x ≡ true → filter p (x ∷ xs) ≡ x ∷ filter p xs
filter_yes p x xs e = rw e refl

filter_no : {V : Type 0} (p : V → Bool) (x : V) (xs : List V) → p x ≡ false → filter p (x ∷ xs) ≡ filter p xs
filter_no p x xs e = rw e refl

pub passing_here : {V : Type 0} (p : V → Bool) (xs : List V) (k : ℕ) (x : V) (all : List V) → k < length xs → ((d : V) → x ≡ get_or xs k d) → p x ≡ true → filter p (drop k xs) ≡ all → all ≡ x ∷ filter p (drop (k + 1) xs)
passing_here p xs k x all l e passes h = sym h ∙ ap (filter p) (drop_here xs k x l e) ∙ filter_yes p x (drop (k + 1) xs) passes

pub passing_later : {V : Type 0} (p : V → Bool) (xs : List V) (k : ℕ) (x : V) (all : List V) → k < length xs → ((d : V) → x ≡ get_or xs k d) → p x ≡ false → filter p (drop k xs) ≡ all → filter p (drop (k + 1) xs) ≡ all
passing_later p xs k x all l e fails h = sym (ap (filter p) (drop_here xs k x l e) ∙ filter_no p x (drop (k + 1) xs) fails) ∙ h

pub passing_none : {V : Type 0} (p : V → Bool) (xs : List V) (k : ℕ) (all : List V) → length xs ≤ k → filter p (drop k xs) ≡ all → all ≡ []
passing_none p xs k all l h = sym h ∙ ap (filter p) (drop_past xs k l)

pub taken_more : {V W : Type 0} (f : V → W) (p : V → Bool) (xs : List V) (k : ℕ) (x : V) (y : W) (done all : List W) → k < length xs → ((d : V) → x ≡ get_or xs k d) → p x ≡ true → y ≡ f x
    → done ++ map f (filter p (drop k xs)) ≡ all → (done ++ y ∷ []) ++ map f (filter p (drop (k + 1) xs)) ≡ all
taken_more f p xs k x y done all l e passes i h =
    append_assoc done (y ∷ []) (map f (filter p (drop (k + 1) xs))) ∙ ap (λ z. done ++ z ∷ map f (filter p (drop (k + 1) xs))) i
    ∙ ap (λ ys. done ++ map f ys) (sym (ap (filter p) (drop_here xs k x l e) ∙ filter_yes p x (drop (k + 1) xs) passes)) ∙ h

pub taken_not : {V W : Type 0} (f : V → W) (p : V → Bool) (xs : List V) (k : ℕ) (x : V) (done all : List W) → k < length xs → ((d : V) → x ≡ get_or xs k d) → p x ≡ false
    → done ++ map f (filter p (drop k xs)) ≡ all → done ++ map f (filter p (drop (k + 1) xs)) ≡ all
taken_not f p xs k x done all l e fails h = ap (λ ys. done ++ map f ys) (sym (ap (filter p) (drop_here xs k x l e) ∙ filter_no p x (drop (k + 1) xs) fails)) ∙ h

pub taken_all : {V W : Type 0} (f : V → W) (p : V → Bool) (xs : List V) (k : ℕ) (done all : List W) → length xs ≤ k → done ++ map f (filter p (drop k xs)) ≡ all → done ≡ all
taken_all f p xs k done all l h = sym (append-nil done) ∙ ap (λ ys. done ++ map f (filter p ys)) (sym (drop_past xs k l)) ∙ h

-- ---- the layers of a set, one after another

any_push : {V W : Type 0} (test : W → Bool) (f : V → W) (xs : List V) (wanted : Bool) (x : V) → list_any test (map f (xs ++ cond wanted (x ∷ []) [])) ≡ (list_any test (map f xs) || (wanted && test (f x)))
any_push test f [] true x = or_false (test (f x))
  where
    or_false : (b : Bool) → (b || false) ≡ b
    or_false true = refl
    or_false false = refl
any_push test f [] false x = refl
any_push test f (y ∷ xs) wanted x = ap (λ b. test (f y) || b) (any_push test f xs wanted x) ∙ sym (or_assoc (test (f y)) (list_any test (map f xs)) (wanted && test (f x)))
  where
    or_assoc : (a b c : Bool) → ((a || b) || c) ≡ (a || (b || c))
    or_assoc true b c = refl
    or_assoc false b c = refl

pub any_layer : {W : Type 0} (test : W → Bool) (f : ℕ → W) (set l : ℕ) → list_any test (map f (layers_below set (l + 1))) ≡ (list_any test (map f (layers_below set l)) || (has_layer set l && test (f l)))
any_layer test f set l =
    subst (λ (n : ℕ). list_any test (map f (layers_below set n)) ≡ (list_any test (map f (layers_below set l)) || (has_layer set l && test (f l)))) (next l)
    (any_push test f (layers_below set l) (has_layer set l) l)
  where
    next : (l : ℕ) → suc l ≡ l + 1
    next l = omega arith

pub layer_tried : {W : Type 0} (test : W → Bool) (f : ℕ → W) (set l : ℕ) (found named : Bool) → found ≡ list_any test (map f (layers_below set l)) → named ≡ (has_layer set l && test (f l))
    → (found || named) ≡ list_any test (map f (layers_below set (l + 1)))
layer_tried test f set l found named h e = ap (λ b. b || named) h ∙ ap (λ b. list_any test (map f (layers_below set l)) || b) e ∙ sym (any_layer test f set l)
