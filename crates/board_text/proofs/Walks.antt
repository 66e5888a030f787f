-- Walking over the items of a list by their places.
use Rattle.std.proofs.Common.{◌≡◌, ℕ, zero, suc, ◌+◌, ◌-◌, ◌<◌, ◌≤◌, Bool, true, false, ◌||◌, List, [], ◌∷◌, ◌++◌, length, map, drop, get_or, slice_get, filter, find, refl, sym, ap, ◌∙◌, arith, append_assoc, append-nil, Option, Some, None, option_map, is_some, filter_map}
use Rattle.std.proofs.lemmas.List.{drop_all, map-append}
use Rattle.std.specs.List.{cons_option, list_any}
use Rattle.std.specs.Option.{option_or}
use Rattle.std.proofs.lemmas.Bool.{false≢true}
use Rattle.grid_num.specs.declared.read.NumFault.{NumFault}
use Rattle.sexpr_text.specs.Items.{Item, children_of}
use Rattle.board_text.specs.Lists.{behind_head}
use Rattle.board_text.specs.Fields.{text_of}
use Rattle.board_text.specs.Numbers.{first_of}
use Rattle.sexpr_text.specs.Parts.{Part, part_of}

drop_here' : {X : Type 0} (xs : List X) (k : ℕ) (d : X) → k < length xs → drop k xs ≡ get_or xs k d ∷ drop (suc k) xs
drop_here' [] k d l = absurd (omega (arith, l))
drop_here' (x ∷ xs) zero d l = refl
drop_here' (x ∷ xs) (suc k) d l = drop_here' xs k d (omega (arith, l))

-- at a place the rest begins with the item there
pub drop_here : {X : Type 0} (xs : List X) (k : ℕ) (x : X) → k < length xs → ((d : X) → x ≡ get_or xs k d) → drop k xs ≡ x ∷ drop (k + 1) xs
drop_here xs k x l e =
    let n : suc k ≡ k + 1 = omega arith in
    drop_here' xs k x l ∙ ap (λ y. y ∷ drop (suc k) xs) (sym (e x)) ∙ ap (λ m. x ∷ drop m xs) n

pub drop_past : {X : Type 0} (xs : List X) (k : ℕ) → length xs ≤ k → drop k xs ≡ []
drop_past xs k l = drop_all k xs l

pub slice_here : {X : Type 0} (xs : List X) (k : ℕ) (x : X) → k < length xs → ((d : X) → x ≡ get_or xs k d) → slice_get xs k ≡ Some x
slice_here [] k x l e = absurd (omega (arith, l))
slice_here (y ∷ ys) zero x l e = ap (λ z. Some z) (sym (e x))
slice_here (y ∷ ys) (suc k) x l e = slice_here ys k x (omega (arith, l)) e

pub slice_past : {X : Type 0} (xs : List X) (k : ℕ) → length xs ≤ k → slice_get xs k ≡ None
slice_past [] k l = refl
slice_past (y ∷ ys) zero l = absurd (omega (arith, l))
slice_past (y ∷ ys) (suc k) l = slice_past ys k (omega (arith, l))

-- the item behind the head at a place
pub behind_here : (bytes : List ℕ) (item : Item) (k : ℕ) (p : Part) → p.bytes ≡ bytes → k < length (children_of item) - 1 → ((d : Item) → p.item ≡ get_or (children_of item) (k + 1) d)
    → Some p ≡ option_map (part_of bytes) (slice_get (behind_head item) k)
behind_here bytes item k p b l e = by_children (children_of item) l e
  where
    by_children : (cs : List Item) → k < length cs - 1 → ((d : Item) → p.item ≡ get_or cs (k + 1) d) → Some p ≡ option_map (part_of bytes) (slice_get (drop 1 cs) k)
    by_children [] l e = absurd (omega (arith, l))
    by_children (c ∷ cs) l e =
        let n : suc k ≡ k + 1 = omega arith in
        ap (λ bs. Some (part_of bs p.item)) b
        ∙ ap (option_map (part_of bytes)) (sym (slice_here cs k p.item (omega (arith, l)) (λ d. e d ∙ ap (λ m. get_or (c ∷ cs) m d) (sym n))))

pub behind_none : (bytes : List ℕ) (item : Item) (k : ℕ) → length (children_of item) - 1 ≤ k → None ≡ option_map (part_of bytes) (slice_get (behind_head item) k)
behind_none bytes item k l = by_children (children_of item) l
  where
    by_children : (cs : List Item) → length cs - 1 ≤ k → None ≡ option_map (part_of bytes) (slice_get (drop 1 cs) k)
    by_children [] l = refl
    by_children (c ∷ cs) l = ap (option_map (part_of bytes)) (sym (slice_past cs k (omega (arith, l))))

filter_yes : (p : Item → Bool) (x : Item) (xs : List Item) → p x ≡ true → filter p (x ∷ xs) ≡ x ∷ filter p xs
filter_yes p x xs e = rw e refl

filter_no : (p : Item → Bool) (x : Item) (xs : List Item) → p x ≡ false → filter p (x ∷ xs) ≡ filter p xs
filter_no p x xs e = rw e refl

-- of the items from a place on, those that pass are kept as parts
pub kept_more : (bytes : List ℕ) (p : Item → Bool) (xs : List Item) (k : ℕ) (done all : List Part) (x : Part) → k < length xs → x.bytes ≡ bytes → ((d : Item) → x.item ≡ get_or xs k d) → p x.item ≡ true
    → done ++ map (part_of bytes) (filter p (drop k xs)) ≡ all → (done ++ x ∷ []) ++ map (part_of bytes) (filter p (drop (k + 1) xs)) ≡ all
kept_more bytes p xs k done all x l b e passes h =
    append_assoc done (x ∷ []) (map (part_of bytes) (filter p (drop (k + 1) xs)))
    ∙ ap (λ bs. done ++ part_of bs x.item ∷ map (part_of bytes) (filter p (drop (k + 1) xs))) b
    ∙ ap (λ ys. done ++ map (part_of bytes) ys) (sym (ap (filter p) (drop_here xs k x.item l e) ∙ filter_yes p x.item (drop (k + 1) xs) passes)) ∙ h

pub kept_not : (bytes : List ℕ) (p : Item → Bool) (xs : List Item) (k : ℕ) (done all : List Part) (x : Item) → k < length xs → ((d : Item) → x ≡ get_or xs k d) → p x ≡ false
    → done ++ map (part_of bytes) (filter p (drop k xs)) ≡ all → done ++ map (part_of bytes) (filter p (drop (k + 1) xs)) ≡ all
kept_not bytes p xs k done all x l e fails h =
    ap (λ ys. done ++ map (part_of bytes) ys) (sym (ap (filter p) (drop_here xs k x l e) ∙ filter_no p x (drop (k + 1) xs) fails)) ∙ h

pub kept_all : (bytes : List ℕ) (p : Item → Bool) (xs : List Item) (k : ℕ) (done all : List Part) → length xs ≤ k → done ++ map (part_of bytes) (filter p (drop k xs)) ≡ all → done ≡ all
kept_all bytes p xs k done all l h = sym (append-nil done) ∙ ap (λ ys. done ++ map (part_of bytes) (filter p ys)) (sym (drop_past xs k l)) ∙ h

-- ---- the first fault

fault_split : (xs : List (Option NumFault)) (k : ℕ) → k < length xs → first_of (drop k xs) ≡ option_or (get_or xs k None) (first_of (drop (k + 1) xs))
fault_split xs k l = ap first_of (drop_here xs k (get_or xs k None) l (λ d. same_get xs k None d l))
  where
    same_get : (xs : List (Option NumFault)) (k : ℕ) (d e : Option NumFault) → k < length xs → get_or xs k d ≡ get_or xs k e
    same_get [] k d e l = absurd (omega (arith, l))
    same_get (x ∷ xs) zero d e l = refl
    same_get (x ∷ xs) (suc k) d e l = same_get xs k d e (omega (arith, l))

pub fault_here : (xs : List (Option NumFault)) (k : ℕ) (all : Option NumFault) → k < length xs → is_some (get_or xs k None) ≡ true → first_of (drop k xs) ≡ all → get_or xs k None ≡ all
fault_here xs k all l some h = by_cases (get_or xs k None) some ∙ sym (fault_split xs k l) ∙ h
  where
    by_cases : (o : Option NumFault) → is_some o ≡ true → o ≡ option_or o (first_of (drop (k + 1) xs))
    by_cases None e = absurd (false≢true e)
    by_cases (Some f) e = refl

pub fault_next : (xs : List (Option NumFault)) (k : ℕ) (all : Option NumFault) → k < length xs → is_some (get_or xs k None) ≡ false → first_of (drop k xs) ≡ all → first_of (drop (k + 1) xs) ≡ all
fault_next xs k all l none h = by_cases (get_or xs k None) none ∙ sym (fault_split xs k l) ∙ h
  where
    by_cases : (o : Option NumFault) → is_some o ≡ false → first_of (drop (k + 1) xs) ≡ option_or o (first_of (drop (k + 1) xs))
    by_cases None e = refl
    by_cases (Some f) e = absurd (false≢true (sym e))

pub fault_none : (xs : List (Option NumFault)) (k : ℕ) (all : Option NumFault) → length xs ≤ k → first_of (drop k xs) ≡ all → None ≡ all
fault_none xs k all l h = sym (ap first_of (drop_past xs k l)) ∙ h

-- ---- the texts behind the head

pub texts_more : {V : Type 0} (content : V → List ℕ) (bytes : List ℕ) (xs : List Item) (k : ℕ) (done : List V) (all : List (List ℕ)) (x : Item) (t : V) → k < length xs → ((d : Item) → x ≡ get_or xs k d)
    → Some (content t) ≡ text_of bytes x → map content done ++ filter_map (text_of bytes) (drop k xs) ≡ all → map content (done ++ t ∷ []) ++ filter_map (text_of bytes) (drop (k + 1) xs) ≡ all
texts_more content bytes xs k done all x t l e s h =
    ap (λ ys. ys ++ filter_map (text_of bytes) (drop (k + 1) xs)) (map-append content done (t ∷ []))
    ∙ append_assoc (map content done) (content t ∷ []) (filter_map (text_of bytes) (drop (k + 1) xs))
    ∙ ap (λ o. map content done ++ cons_option o (filter_map (text_of bytes) (drop (k + 1) xs))) s
    ∙ ap (λ ys. map content done ++ filter_map (text_of bytes) ys) (sym (drop_here xs k x l e)) ∙ h

pub texts_same : {V : Type 0} (content : V → List ℕ) (bytes : List ℕ) (xs : List Item) (k : ℕ) (done : List V) (all : List (List ℕ)) (x : Item) → k < length xs → ((d : Item) → x ≡ get_or xs k d)
    → None ≡ text_of bytes x → map content done ++ filter_map (text_of bytes) (drop k xs) ≡ all → map content done ++ filter_map (text_of bytes) (drop (k + 1) xs) ≡ all
texts_same content bytes xs k done all x l e s h =
    ap (λ o. map content done ++ cons_option o (filter_map (text_of bytes) (drop (k + 1) xs))) s
    ∙ ap (λ ys. map content done ++ filter_map (text_of bytes) ys) (sym (drop_here xs k x l e)) ∙ h

pub texts_all : {V : Type 0} (content : V → List ℕ) (bytes : List ℕ) (xs : List Item) (k : ℕ) (done : List V) (all : List (List ℕ)) → length xs ≤ k
    → map content done ++ filter_map (text_of bytes) (drop k xs) ≡ all → map content done ≡ all
texts_all content bytes xs k done all l h = sym (append-nil (map content done)) ∙ ap (λ ys. map content done ++ filter_map (text_of bytes) ys) (sym (drop_past xs k l)) ∙ h

-- ---- whether one passes

any_split : {V : Type 0} (test : V → Bool) (xs : List V) (k : ℕ) (x : V) → k < length xs → ((d : V) → x ≡ get_or xs k d) → list_any test (drop k xs) ≡ (test x || list_any test (drop (k + 1) xs))
any_split test xs k x l e = ap (list_any test) (drop_here xs k x l e)

any_map : {V W : Type 0} (test : W → Bool) (f : V → W) (xs : List V) → list_any test (map f xs) ≡ list_any (λ x. test (f x)) xs
any_map test f [] = refl
any_map test f (x ∷ xs) = ap (λ b. test (f x) || b) (any_map test f xs)

pub any_here : {V : Type 0} (test : V → Bool) (xs : List V) (k : ℕ) (x : V) (all : Bool) → k < length xs → ((d : V) → x ≡ get_or xs k d) → test x ≡ true → list_any test (drop k xs) ≡ all → true ≡ all
any_here test xs k x all l e passes h = ap (λ b. b || list_any test (drop (k + 1) xs)) (sym passes) ∙ sym (any_split test xs k x l e) ∙ h

pub any_next : {V : Type 0} (test : V → Bool) (xs : List V) (k : ℕ) (x : V) (all : Bool) → k < length xs → ((d : V) → x ≡ get_or xs k d) → test x ≡ false → list_any test (drop k xs) ≡ all → list_any test (drop (k + 1) xs) ≡ all
any_next test xs k x all l e fails h = ap (λ b. b || list_any test (drop (k + 1) xs)) (sym fails) ∙ sym (any_split test xs k x l e) ∙ h

pub any_none : {V : Type 0} (test : V → Bool) (xs : List V) (k : ℕ) (all : Bool) → length xs ≤ k → list_any test (drop k xs) ≡ all → false ≡ all
any_none test xs k all l h = sym (ap (list_any test) (drop_past xs k l)) ∙ h

pub any_of_map : {V W : Type 0} (test : W → Bool) (f : V → W) (xs : List V) (b : Bool) → b ≡ list_any (λ x. test (f x)) xs → b ≡ list_any test (map f xs)
any_of_map test f xs b h = h ∙ sym (any_map test f xs)

pub get_same : {V : Type 0} (xs : List V) (k : ℕ) (d e : V) → k < length xs → get_or xs k d ≡ get_or xs k e
get_same [] k d e l = absurd (omega (arith, l))
get_same (x ∷ xs) zero d e l = refl
get_same (x ∷ xs) (suc k) d e l = get_same xs k d e (omega (arith, l))

-- ---- the first that passes

pub found_here : (bytes : List ℕ) (p : Item → Bool) (xs : List Item) (k : ℕ) (x : Part) (all : Option Item) → k < length xs → x.bytes ≡ bytes → ((d : Item) → x.item ≡ get_or xs k d) → p x.item ≡ true
    → find p (drop k xs) ≡ all → Some x ≡ option_map (part_of bytes) all
found_here bytes p xs k x all l b e passes h =
    ap (λ bs. Some (part_of bs x.item)) b
    ∙ ap (option_map (part_of bytes)) (sym (ap (find p) (drop_here xs k x.item l e) ∙ find_yes p x.item (drop (k + 1) xs) passes) ∙ h)
  where
    find_yes : (p : Item → Bool) (x : Item) (xs : List Item) → p x ≡ true → find p (x ∷ xs) ≡ Some x
    find_yes p x xs e = rw e refl

pub found_later : (p : Item → Bool) (xs : List Item) (k : ℕ) (x : Item) (all : Option Item) → k < length xs → ((d : Item) → x ≡ get_or xs k d) → p x ≡ false
    → find p (drop k xs) ≡ all → find p (drop (k + 1) xs) ≡ all
found_later p xs k x all l e fails h = sym (ap (find p) (drop_here xs k x l e) ∙ find_no p x (drop (k + 1) xs) fails) ∙ h
  where
    find_no : (p : Item → Bool) (x : Item) (xs : List Item) → p x ≡ false → find p (x ∷ xs) ≡ find p xs
    find_no p x xs e = rw e refl

pub found_none : (bytes : List ℕ) (p : Item → Bool) (xs : List Item) (k : ℕ) (all : Option Item) → length xs ≤ k → find p (drop k xs) ≡ all → None ≡ option_map (part_of bytes) all
found_none bytes p xs k all l h = ap (option_map (part_of bytes)) (sym (ap (find p) (drop_past xs k l)) ∙ h)

pub has_first : (a b : Bool) → a ≡ true → (a || b) ≡ true
has_first a b e = rw e refl

pub has_second : (a b : Bool) → b ≡ true → (a || b) ≡ true
has_second true b e = refl
has_second false b e = e

pub has_neither : (a b : Bool) → a ≡ false → b ≡ false → (a || b) ≡ false
has_neither a b e f = rw e f
