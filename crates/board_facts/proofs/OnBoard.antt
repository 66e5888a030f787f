-- What a footprint has nothing of is read of a board's own lists alone.
use Rattle.std.proofs.Common.{◌≡◌, refl, ap, ◌∙◌, ℕ, Bool, true, false, cond, List, [], ◌∷◌, ◌++◌, ◌||◌, map, Option, None}
use Rattle.std.specs.Prelude.{codes, if◌then◌else◌, filter_map, flat_map}
use Rattle.std.specs.List.{cons_option}
use Rattle.std.proofs.lemmas.List.Elements.{filter_map-append}
use Rattle.sexpr_text.specs.Items.{Item, is_headed}
use Rattle.board_text.specs.Lists.{lists_of}
use Rattle.board_text.specs.Fields.{head_begins}
use Rattle.board_text.specs.Things.{Placed, Thing, InFootprint, Pad, FootprintZone, FootprintDrawing, Other, thing_of, on_board, in_footprint, with_own}

-- nothing is got of what stands in a footprint
pub record IsOfBoard {Y : Type 0} (get : Item → Thing → Option Y) : Type 0 where
  pub pad : (item footprint : Item) → get item (Pad footprint) ≡ None
  pub zone : (item : Item) → get item FootprintZone ≡ None
  pub drawing : (item : Item) → get item FootprintDrawing ≡ None
  pub other : (item : Item) → get item Other ≡ None

abbrev got : {Y : Type 0} → List ℕ → (Item → Thing → Option Y) → List Placed → List Y
got bytes get items = filter_map (λ (p : Placed). get p.item (thing_of bytes p)) items

in_none : {Y : Type 0} (bytes : List ℕ) (get : Item → Thing → Option Y) (footprint : Item) (items : List Item) → IsOfBoard get
    → got bytes get (map (λ i. record { item = i; site = InFootprint footprint }) items) ≡ []
unfolding thing_of
in_none bytes get footprint [] n = refl
in_none bytes get footprint (i ∷ items) n =
    ap (λ o. cons_option o (got bytes get (map (λ j. record { item = j; site = InFootprint footprint }) items)))
    (by_tests (is_headed bytes (codes "pad") i) (is_headed bytes (codes "zone") i) (head_begins bytes (codes "fp_") i || is_headed bytes (codes "image") i))
    ∙ in_none bytes get footprint items n
  where
    by_tests : (x y w : Bool) → get i (if x then Pad footprint else (if y then FootprintZone else (if w then FootprintDrawing else Other))) ≡ None
    by_tests true y w = n.pad i footprint
    by_tests false true w = n.zone i
    by_tests false false true = n.drawing i
    by_tests false false false = n.other i

own_none : {Y : Type 0} (bytes : List ℕ) (get : Item → Thing → Option Y) (list : Item) → IsOfBoard get → got bytes get (in_footprint bytes list) ≡ []
own_none bytes get list n = by_head (is_headed bytes (codes "footprint") list)
  where
    by_head : (b : Bool) → got bytes get (cond b (map (λ i. record { item = i; site = InFootprint list }) (lists_of list)) []) ≡ []
    by_head true = in_none bytes get list (lists_of list) n
    by_head false = refl

-- of a list and those behind it: what is got of the list itself, and of those behind it
pub next_got : {Y : Type 0} (bytes : List ℕ) (get : Item → Thing → Option Y) (list : Item) (lists : List Item) → IsOfBoard get
    → got bytes get (flat_map (with_own bytes) (list ∷ lists)) ≡ cons_option (get list (on_board bytes list)) (got bytes get (flat_map (with_own bytes) lists))
unfolding thing_of
next_got bytes get list lists n =
    ap (cons_option (get list (on_board bytes list)))
    (filter_map-append (λ (p : Placed). get p.item (thing_of bytes p)) (in_footprint bytes list) (flat_map (with_own bytes) lists)
    ∙ ap (λ ys. ys ++ got bytes get (flat_map (with_own bytes) lists)) (own_none bytes get list n))
