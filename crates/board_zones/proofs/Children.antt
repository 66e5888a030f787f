-- Walking over the child lists of an item by their places.
use Rattle.std.proofs.Common.{◌≡◌, ℕ, suc, ◌+◌, ◌<◌, ◌≤◌, Bool, true, false, List, [], ◌∷◌, ◌++◌, length, map, filter, find, drop, get_or, refl, sym, ap, ◌∙◌, arith, append_assoc, append-nil, Option, Some, None, option_map}
use Rattle.sexpr_text.specs.Items.{Item}
use Rattle.sexpr_text.specs.Parts.{Part, part_of}
use Rattle.board_text.proofs.Walks.{drop_here, drop_past}

filter_yes : {V : Type 0} (q : V → Bool) (x : V) (xs : List V) → q x ≡ true → filter q (x ∷ xs) ≡ x ∷ filter q xs
filter_yes q x xs e = rw e refl

filter_no : {V : Type 0} (q : V → Bool) (x : V) (xs : List V) → q x ≡ false → filter q (x ∷ xs) ≡ filter q xs
filter_no q x xs e = rw e refl

find_yes : {V : Type 0} (p : V → Bool) (x : V) (xs : List V) → p x ≡ true → find p (x ∷ xs) ≡ Some x
find_yes p x xs e = rw e refl

find_no : {V : Type 0} (p : V → Bool) (x : V) (xs : List V) → p x ≡ false → find p (x ∷ xs) ≡ find p xs
find_no p x xs e = rw e refl

-- ---- the first child that passes both

pub found_here : (bytes : List ℕ) (p q : Item → Bool) (xs : List Item) (k : ℕ) (x : Part) (all : Option Item) → k < length xs → x.bytes ≡ bytes → ((d : Item) → x.item ≡ get_or xs k d) → q x.item ≡ true → p x.item ≡ true
    → find p (filter q (drop k xs)) ≡ all → Some x ≡ option_map (part_of bytes) all
found_here bytes p q xs k x all l b e keeps passes h =
    ap (λ bs. Some (part_of bs x.item)) b
    ∙ ap (option_map (part_of bytes)) (sym (ap (λ ys. find p (filter q ys)) (drop_here xs k x.item l e) ∙ ap (find p) (filter_yes q x.item (drop (k + 1) xs) keeps) ∙ find_yes p x.item (filter q (drop (k + 1) xs)) passes) ∙ h)

pub found_not_q : (p q : Item → Bool) (xs : List Item) (k : ℕ) (x : Item) (all : Option Item) → k < length xs → ((d : Item) → x ≡ get_or xs k d) → q x ≡ false
    → find p (filter q (drop k xs)) ≡ all → find p (filter q (drop (k + 1) xs)) ≡ all
found_not_q p q xs k x all l e fails h = sym (ap (λ ys. find p (filter q ys)) (drop_here xs k x l e) ∙ ap (find p) (filter_no q x (drop (k + 1) xs) fails)) ∙ h

pub found_not_p : (p q : Item → Bool) (xs : List Item) (k : ℕ) (x : Item) (all : Option Item) → k < length xs → ((d : Item) → x ≡ get_or xs k d) → p x ≡ false
    → find p (filter q (drop k xs)) ≡ all → find p (filter q (drop (k + 1) xs)) ≡ all
found_not_p p q xs k x all l e fails h = by_cases (q x) refl
  where
    by_cases : (b : Bool) → q x ≡ b → find p (filter q (drop (k + 1) xs)) ≡ all
    by_cases false n = found_not_q p q xs k x all l e n h
    by_cases true y =
        sym (ap (λ ys. find p (filter q ys)) (drop_here xs k x l e) ∙ ap (find p) (filter_yes q x (drop (k + 1) xs) y) ∙ find_no p x (filter q (drop (k + 1) xs)) fails) ∙ h

pub found_none : (p q : Item → Bool) (xs : List Item) (k : ℕ) (all : Option Item) → length xs ≤ k → find p (filter q (drop k xs)) ≡ all → None ≡ all
found_none p q xs k all l h = sym (ap (λ ys. find p (filter q ys)) (drop_past xs k l)) ∙ h

-- ---- all children that pass both

pub taken_more : {W : Type 0} (f : Item → W) (p q : Item → Bool) (xs : List Item) (k : ℕ) (x : Item) (done all : List W) → k < length xs → ((d : Item) → x ≡ get_or xs k d) → q x ≡ true → p x ≡ true
    → done ++ map f (filter p (filter q (drop k xs))) ≡ all → (done ++ f x ∷ []) ++ map f (filter p (filter q (drop (k + 1) xs))) ≡ all
taken_more f p q xs k x done all l e keeps passes h =
    append_assoc done (f x ∷ []) (map f (filter p (filter q (drop (k + 1) xs))))
    ∙ ap (λ ys. done ++ map f ys)
    (sym (ap (λ ys. filter p (filter q ys)) (drop_here xs k x l e) ∙ ap (filter p) (filter_yes q x (drop (k + 1) xs) keeps) ∙ filter_yes p x (filter q (drop (k + 1) xs)) passes))
    ∙ h

pub taken_not_q : {W : Type 0} (f : Item → W) (p q : Item → Bool) (xs : List Item) (k : ℕ) (x : Item) (done all : List W) → k < length xs → ((d : Item) → x ≡ get_or xs k d) → q x ≡ false
    → done ++ map f (filter p (filter q (drop k xs))) ≡ all → done ++ map f (filter p (filter q (drop (k + 1) xs))) ≡ all
taken_not_q f p q xs k x done all l e fails h =
    ap (λ ys. done ++ map f ys) (sym (ap (λ ys. filter p (filter q ys)) (drop_here xs k x l e) ∙ ap (filter p) (filter_no q x (drop (k + 1) xs) fails))) ∙ h

pub taken_not_p : {W : Type 0} (f : Item → W) (p q : Item → Bool) (xs : List Item) (k : ℕ) (x : Item) (done all : List W) → k < length xs → ((d : Item) → x ≡ get_or xs k d) → p x ≡ false
    → done ++ map f (filter p (filter q (drop k xs))) ≡ all → done ++ map f (filter p (filter q (drop (k + 1) xs))) ≡ all
taken_not_p f p q xs k x done all l e fails h = by_cases (q x) refl
  where
    by_cases : (b : Bool) → q x ≡ b → done ++ map f (filter p (filter q (drop (k + 1) xs))) ≡ all
    by_cases false n = taken_not_q f p q xs k x done all l e n h
    by_cases true y =
        ap (λ ys. done ++ map f ys)
        (sym (ap (λ ys. filter p (filter q ys)) (drop_here xs k x l e) ∙ ap (filter p) (filter_yes q x (drop (k + 1) xs) y) ∙ filter_no p x (filter q (drop (k + 1) xs)) fails))
        ∙ h

pub taken_all : {W : Type 0} (f : Item → W) (p q : Item → Bool) (xs : List Item) (k : ℕ) (done all : List W) → length xs ≤ k → done ++ map f (filter p (filter q (drop k xs))) ≡ all → done ≡ all
taken_all f p q xs k done all l h = sym (append-nil done) ∙ ap (λ ys. done ++ map f (filter p (filter q ys))) (sym (drop_past xs k l)) ∙ h

-- ---- how many pass

pub counted_one : (p : Item → Bool) (xs : List Item) (k : ℕ) (x : Item) (count all : ℕ) → k < length xs → ((d : Item) → x ≡ get_or xs k d) → p x ≡ true
    → count + length (filter p (drop k xs)) ≡ all → (count + 1) + length (filter p (drop (k + 1) xs)) ≡ all
counted_one p xs k x count all l e passes h =
    let s : length (filter p (drop k xs)) ≡ suc (length (filter p (drop (k + 1) xs))) = ap length (ap (filter p) (drop_here xs k x l e) ∙ filter_yes p x (drop (k + 1) xs) passes) in
    omega (arith, h, s)

pub counted_not : (p : Item → Bool) (xs : List Item) (k : ℕ) (x : Item) (count all : ℕ) → k < length xs → ((d : Item) → x ≡ get_or xs k d) → p x ≡ false
    → count + length (filter p (drop k xs)) ≡ all → count + length (filter p (drop (k + 1) xs)) ≡ all
counted_not p xs k x count all l e fails h = ap (λ ys. count + length ys) (sym (ap (filter p) (drop_here xs k x l e) ∙ filter_no p x (drop (k + 1) xs) fails)) ∙ h

pub counted_all : (p : Item → Bool) (xs : List Item) (k count all : ℕ) → length xs ≤ k → count + length (filter p (drop k xs)) ≡ all → count ≡ all
counted_all p xs k count all l h =
    let s : length (filter p (drop k xs)) ≡ 0 = ap (λ ys. length (filter p ys)) (drop_past xs k l) in
    omega (arith, h, s)
