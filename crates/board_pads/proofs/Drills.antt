-- The numbers of a drill stand at the first two places behind `oval`.
use Rattle.std.proofs.Common.{◌≡◌, ℕ, ◌+◌, Bool, true, false, cond, List, [], ◌∷◌, map, take, refl, sym, ap, ◌∙◌, Option, Some, None}
use Rattle.std.specs.Prelude.{slice_get, codes, ℤ}
use Rattle.grid_num.specs.declared.read.NumFault.{NumFault}
use Rattle.sexpr_text.specs.Items.{Item}
use Rattle.board_text.specs.Lists.{is_list}
use Rattle.sexpr_text.specs.Parts.{Part, part_of}
use Rattle.board_text.specs.Fields.{is_text, text_of}
use Rattle.board_text.specs.Numbers.{first_of, item_fault, length_fault}
use Rattle.board_language.specs.Pads.{without_oval, drill_items, drill_width, drill_height}
use Rattle.board_pads.specs.Drills.{leaves_of, first_text, length_shown, fault_shown, shown_or}

without_is : (bytes : List ℕ) (x : Item) (xs : List Item) → without_oval bytes (x ∷ xs) ≡ cond (is_text (codes "oval") (text_of bytes x)) xs (x ∷ xs)
without_is bytes x xs = by_case (is_list x) refl
  where
    by_case : (b : Bool) → is_list x ≡ b → without_oval bytes (x ∷ xs) ≡ cond (is_text (codes "oval") (text_of bytes x)) xs (x ∷ xs)
    by_case true e = rw e refl
    by_case false e = rw e refl

abbrev first_place : List Part → ℕ
first_place ps = cond (is_text (codes "oval") (first_text ps)) 1 0

items_are : (bytes : List ℕ) (list : Option Item) → drill_items bytes list ≡ take 2 (without_oval bytes (leaves_of list))
items_are bytes None = refl
items_are bytes (Some list) = refl

width_law : (bytes : List ℕ) (xs : List Item) → length_shown (slice_get (map (part_of bytes) xs) (first_place (map (part_of bytes) xs))) ≡ drill_width bytes (take 2 (without_oval bytes xs))
width_law bytes [] = refl
width_law bytes (x ∷ xs) = rw (without_is bytes x xs) (by_oval (is_text (codes "oval") (text_of bytes x)) xs)
  where
    by_oval : (o : Bool) (xs : List Item) → length_shown (slice_get (map (part_of bytes) (x ∷ xs)) (cond o 1 0)) ≡ drill_width bytes (take 2 (cond o xs (x ∷ xs)))
    by_oval true [] = refl
    by_oval true (y ∷ ys) = refl
    by_oval false xs = refl

height_law : (bytes : List ℕ) (xs : List Item)
    → shown_or (length_shown (slice_get (map (part_of bytes) xs) (first_place (map (part_of bytes) xs)))) (slice_get (map (part_of bytes) xs) (first_place (map (part_of bytes) xs) + 1))
    ≡ drill_height bytes (take 2 (without_oval bytes xs))
height_law bytes [] = refl
height_law bytes (x ∷ xs) = rw (without_is bytes x xs) (by_oval (is_text (codes "oval") (text_of bytes x)) xs)
  where
    by_oval : (o : Bool) (xs : List Item) → shown_or (length_shown (slice_get (map (part_of bytes) (x ∷ xs)) (cond o 1 0))) (slice_get (map (part_of bytes) (x ∷ xs)) (cond o 1 0 + 1))
        ≡ drill_height bytes (take 2 (cond o xs (x ∷ xs)))
    by_oval true [] = refl
    by_oval true (y ∷ []) = refl
    by_oval true (y ∷ z ∷ zs) = refl
    by_oval false [] = refl
    by_oval false (y ∷ ys) = refl

fault_law : (bytes : List ℕ) (xs : List Item)
    → first_of (fault_shown (slice_get (map (part_of bytes) xs) (first_place (map (part_of bytes) xs))) ∷ fault_shown (slice_get (map (part_of bytes) xs) (first_place (map (part_of bytes) xs) + 1)) ∷ [])
    ≡ first_of (map (item_fault length_fault bytes) (take 2 (without_oval bytes xs)))
fault_law bytes [] = refl
fault_law bytes (x ∷ xs) = rw (without_is bytes x xs) (by_oval (is_text (codes "oval") (text_of bytes x)) xs)
  where
    by_oval : (o : Bool) (xs : List Item)
        → first_of (fault_shown (slice_get (map (part_of bytes) (x ∷ xs)) (cond o 1 0)) ∷ fault_shown (slice_get (map (part_of bytes) (x ∷ xs)) (cond o 1 0 + 1)) ∷ [])
        ≡ first_of (map (item_fault length_fault bytes) (take 2 (cond o xs (x ∷ xs))))
    by_oval true [] = refl
    by_oval true (y ∷ []) = refl
    by_oval true (y ∷ z ∷ zs) = refl
    by_oval false [] = refl
    by_oval false (y ∷ ys) = refl

pub width_is : (bytes : List ℕ) (list : Option Item) (leaves : List Part) (first : ℕ) (width : ℤ) → leaves ≡ map (part_of bytes) (leaves_of list) → first ≡ first_place leaves
    → width ≡ length_shown (slice_get leaves first) → width ≡ drill_width bytes (drill_items bytes list)
width_is bytes list leaves first width e f h =
    h ∙ ap (λ k. length_shown (slice_get leaves k)) f ∙ ap (λ ls. length_shown (slice_get ls (first_place ls))) e ∙ width_law bytes (leaves_of list) ∙ ap (drill_width bytes) (sym (items_are bytes list))

pub height_is : (bytes : List ℕ) (list : Option Item) (leaves : List Part) (first : ℕ) (height : ℤ) → leaves ≡ map (part_of bytes) (leaves_of list) → first ≡ first_place leaves
    → height ≡ shown_or (length_shown (slice_get leaves first)) (slice_get leaves (first + 1)) → height ≡ drill_height bytes (drill_items bytes list)
height_is bytes list leaves first height e f h =
    h ∙ ap (λ k. shown_or (length_shown (slice_get leaves k)) (slice_get leaves (k + 1))) f
    ∙ ap (λ ls. shown_or (length_shown (slice_get ls (first_place ls))) (slice_get ls (first_place ls + 1))) e ∙ height_law bytes (leaves_of list) ∙ ap (drill_height bytes) (sym (items_are bytes list))

pub fault_is : (bytes : List ℕ) (list : Option Item) (leaves : List Part) (first : ℕ) (width height fault : Option NumFault) → leaves ≡ map (part_of bytes) (leaves_of list) → first ≡ first_place leaves
    → width ≡ fault_shown (slice_get leaves first) → height ≡ fault_shown (slice_get leaves (first + 1)) → fault ≡ first_of (width ∷ height ∷ [])
    → fault ≡ first_of (map (item_fault length_fault bytes) (drill_items bytes list))
fault_is bytes list leaves first width height fault e f w h g =
    g ∙ ap (λ o. first_of (o ∷ height ∷ [])) w ∙ ap (λ o. first_of (fault_shown (slice_get leaves first) ∷ o ∷ [])) h
    ∙ ap (λ k. first_of (fault_shown (slice_get leaves k) ∷ fault_shown (slice_get leaves (k + 1)) ∷ [])) f
    ∙ ap (λ ls. first_of (fault_shown (slice_get ls (first_place ls)) ∷ fault_shown (slice_get ls (first_place ls + 1)) ∷ [])) e
    ∙ fault_law bytes (leaves_of list) ∙ ap (λ is. first_of (map (item_fault length_fault bytes) is)) (sym (items_are bytes list))
