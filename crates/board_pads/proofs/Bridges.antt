-- The first of the lists that pass.
use Rattle.std.proofs.Common.{◌≡◌, ℕ, ◌+◌, ◌<◌, ◌≤◌, Bool, true, false, ◌&&◌, cond, List, [], ◌∷◌, length, drop, filter, get_or, refl, sym, ap, ◌∙◌, Option, Some, None}
use Rattle.std.specs.Prelude.{find, option_map}
use Rattle.sexpr_text.specs.Items.{Item}
use Rattle.sexpr_text.specs.Parts.{Part, part_of}
use Rattle.board_text.proofs.Walks.{drop_here, drop_past}

find_yes : (test : Item → Bool) (x : Item) (xs : List Item) → test x ≡ true → find test (x ∷ xs) ≡ Some x
find_yes test x xs e = rw e refl

find_no : (test : Item → Bool) (x : Item) (xs : List Item) → test x ≡ false → find test (x ∷ xs) ≡ find test xs
find_no test x xs e = rw e refl

pub find_kept : (keep test : Item → Bool) (xs : List Item) → find (λ x. keep x && test x) xs ≡ find test (filter keep xs)
find_kept keep test [] = refl
find_kept keep test (x ∷ xs) = by_case (keep x) (test x) refl refl (find_kept keep test xs)
  where
    by_case : (k t : Bool) → keep x ≡ k → test x ≡ t → find (λ x. keep x && test x) xs ≡ find test (filter keep xs) → find (λ x. keep x && test x) (x ∷ xs) ≡ find test (filter keep (x ∷ xs))
    by_case true true e f h = rw (e, f) refl
    by_case true false e f h = rw (e, f) h
    by_case false t e f h = rw e h

pub found_here : (bytes : List ℕ) (test : Item → Bool) (xs : List Item) (k : ℕ) (p : Part) (all : Option Item) → k < length xs → p.bytes ≡ bytes → ((d : Item) → p.item ≡ get_or xs k d) → test p.item ≡ true
    → find test (drop k xs) ≡ all → Some p ≡ option_map (part_of bytes) all
found_here bytes test xs k p all l b e passes h =
    ap (λ bs. Some (part_of bs p.item)) b
    ∙ ap (option_map (part_of bytes)) (sym (ap (find test) (drop_here xs k p.item l e) ∙ find_yes test p.item (drop (k + 1) xs) passes) ∙ h)

pub found_next : (test : Item → Bool) (xs : List Item) (k : ℕ) (x : Item) (all : Option Item) → k < length xs → ((d : Item) → x ≡ get_or xs k d) → test x ≡ false → find test (drop k xs) ≡ all → find test (drop (k + 1) xs) ≡ all
found_next test xs k x all l e fails h = sym (ap (find test) (drop_here xs k x l e) ∙ find_no test x (drop (k + 1) xs) fails) ∙ h

pub found_none : (bytes : List ℕ) (test : Item → Bool) (xs : List Item) (k : ℕ) (all : Option Item) → length xs ≤ k → find test (drop k xs) ≡ all → None ≡ option_map (part_of bytes) all
found_none bytes test xs k all l h = ap (option_map (part_of bytes)) (sym (ap (find test) (drop_past xs k l)) ∙ h)
