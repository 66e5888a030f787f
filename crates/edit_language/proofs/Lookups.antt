-- The lists that edits look for stand whole in the board's text.
use Rattle.std.proofs.Common.{◌≡◌, ◌∙◌, refl, ap, sym, subst, ℕ, ◌+◌, ◌-◌, ◌<◌, ◌⊎◌, inl, inr, Bool, true, false, not, cond, List, [], ◌∷◌, ◌++◌, map, flat_map, filter, take, Option, None, Some, option_map, arith}
use Rattle.std.specs.Prelude.{if◌then◌else◌}
use Rattle.std.specs.List.{prefix_len}
use Rattle.std.proofs.lemmas.Bool.{false≢true}
use Rattle.classes.specs.Classes.{IsOneOf}
use Rattle.sexpr_text.specs.Items.{Item, items_of, children_of, is_headed}
use Rattle.sexpr_text.specs.Trees.{IsRoot}
use Rattle.sexpr_text.specs.declared.NodeKind.{NodeKind}
use Rattle.sexpr_text.specs.declared.NodeKind.TheVariants as kinds
use Rattle.board_text.specs.Lists.{is_list, is_list_kind, lists_of}
use Rattle.board_text.specs.Fields.{list_of, is_text}
use Rattle.board_text.specs.Things.{Placed, Site, Root, OnBoard, InFootprint, Thing, FootprintZone, FootprintDrawing, Other, thing_of, of_footprint, in_footprint, with_own, items_of_board}
use Rattle.board_text.specs.Things as things
use Rattle.board_language.specs.Offences.{stamp_as, stamp_of_placed}
use Rattle.board_text.specs.Items.{context_of}
use Rattle.board_text.specs.declared.stamped.Stamped.{Stamped}
use Rattle.board_language.specs.Stamps.{has_stamp, bearer_in, bearer_of, stamp_of}
use Rattle.edit_language.proofs.Stamps.{found, one_of_middle, bearer}
use Rattle.edit_language.proofs.Standing.{IsListKind, IsListIn, in_list, headed_kind, board_list}

-- ---- lists of items

one_of_append : {X : Type 0} (x : X) (xs ys : List X) → IsOneOf x (xs ++ ys) → IsOneOf x xs ⊎ IsOneOf x ys
unfolding IsOneOf
one_of_append x [] ys m = inr m
one_of_append x (y ∷ xs) ys (inl e) = inl (inl e)
one_of_append x (y ∷ xs) ys (inr m) = elim (one_of_append x xs ys m) [ inl h ↦ inl (inr h) | inr h ↦ inr h ]

one_of_flat : {X Y : Type 0} (f : X → List Y) (y : Y) (xs : List X) → IsOneOf y (flat_map f xs) → (x : X) × IsOneOf x xs × IsOneOf y (f x)
unfolding IsOneOf
one_of_flat f y [] m = absurd m
one_of_flat f y (x ∷ xs) m = elim (one_of_append y (f x) (flat_map f xs) m) [
  | inl h ↦ (x, inl refl, h)
  | inr h ↦ let r = one_of_flat f y xs h in (r.0, inr r.1, r.2)
]

one_of_map : {X Y : Type 0} (f : X → Y) (y : Y) (xs : List X) → IsOneOf y (map f xs) → (x : X) × IsOneOf x xs × (y ≡ f x)
unfolding IsOneOf
one_of_map f y [] m = absurd m
one_of_map f y (x ∷ xs) (inl e) = (x, inl refl, e)
one_of_map f y (x ∷ xs) (inr m) = let r = one_of_map f y xs m in (r.0, inr r.1, r.2)

kept : {X : Type 0} (p : X → Bool) (y : X) (ys : List X) (x : X) (b : Bool) → p y ≡ b → (IsOneOf x (filter p ys) → IsOneOf x ys × (p x ≡ true))
    → IsOneOf x (cond b (y ∷ filter p ys) (filter p ys)) → IsOneOf x (y ∷ ys) × (p x ≡ true)
unfolding IsOneOf
kept p y ys x true e ih (inl s) = (inl s, ap p s ∙ e)
kept p y ys x true e ih (inr m) = (inr (ih m).0, (ih m).1)
kept p y ys x false e ih m = (inr (ih m).0, (ih m).1)

filtered : {X : Type 0} (p : X → Bool) (xs : List X) (x : X) → IsOneOf x (filter p xs) → IsOneOf x xs × (p x ≡ true)
unfolding IsOneOf
filtered p [] x m = absurd m
filtered p (y ∷ ys) x m = kept p y ys x (p y) refl (filtered p ys x) m

list_kind : (kind : NodeKind) → is_list_kind kind ≡ true → IsListKind kind
list_kind kinds.List e = tt
list_kind kinds.Word e = absurd (false≢true e)
list_kind kinds.Text e = absurd (false≢true e)

-- a list that is found by its head
pub looked_up : (text name : List ℕ) (item list : Item) → list_of text name item ≡ Some list → IsOneOf list (items_of item.inner) × IsListKind list.kind
looked_up text name item list e =
    let f = found (is_headed text name) (children_of item) list e in
    let m : IsOneOf list (children_of item) =
    subst (IsOneOf list) (sym f.is) (one_of_middle (take (prefix_len (λ y. not (is_headed text name y)) (children_of item)) (children_of item)) f.after list) in
    (m, headed_kind text name item.inner list m f.passes)

-- ---- what has a stamp is a list of the board

no_stamp : (text stamp : List ℕ) (p : Placed) → stamp_of_placed text p ≡ None → has_stamp text stamp p ≡ true → ⊥
no_stamp text stamp p e h = false≢true (sym (ap (is_text stamp) e) ∙ h)

of_footprint_by : (text : List ℕ) (footprint item : Item) (a b c : Bool)
    → stamp_as text item (if a then things.Pad footprint else (if b then FootprintZone else (if c then FootprintDrawing else Other))) ≡ None
of_footprint_by text footprint item true b c = refl
of_footprint_by text footprint item false true c = refl
of_footprint_by text footprint item false false true = refl
of_footprint_by text footprint item false false false = refl

in_footprint_none : (text : List ℕ) (footprint item : Item) → stamp_of_placed text (record { item = item; site = InFootprint footprint }) ≡ None
unfolding thing_of
in_footprint_none text footprint item = of_footprint_by text footprint item _ _ _

root_none : (text : List ℕ) (root : Item) → stamp_of_placed text (record { item = root; site = Root }) ≡ None
unfolding thing_of
root_none text root = refl

own_items : (text stamp : List ℕ) (item : Item) (p : Placed) (b : Bool) → IsOneOf p (cond b (map (λ i. record { item = i; site = InFootprint item }) (lists_of item)) [])
    → has_stamp text stamp p ≡ true → ⊥
unfolding IsOneOf
own_items text stamp item p false m h = m
own_items text stamp item p true m h =
    let f = one_of_map (λ (i : Item). record { item = i; site = InFootprint item }) p (lists_of item) m in
    no_stamp text stamp p (ap (stamp_of_placed text) f.2 ∙ in_footprint_none text item f.0) h

with_own_item : (text stamp : List ℕ) (item : Item) (p : Placed) → IsOneOf p (with_own text item) → has_stamp text stamp p ≡ true → p.item ≡ item
unfolding IsOneOf
with_own_item text stamp item p (inl e) h = ap (λ (q : Placed). q.item) e
with_own_item text stamp item p (inr m) h = absurd (own_items text stamp item p _ m h)

on_board : (text stamp : List ℕ) (root : Item) (p : Placed) → IsOneOf p (items_of_board text root) → has_stamp text stamp p ≡ true → IsOneOf p.item (lists_of root)
unfolding IsOneOf items_of_board
on_board text stamp root p (inl e) h = absurd (no_stamp text stamp p (ap (stamp_of_placed text) e ∙ root_none text root) h)
on_board text stamp root p (inr m) h =
    let f = one_of_flat (with_own text) p (lists_of root) m in
    subst (λ (x : Item). IsOneOf x (lists_of root)) (sym (with_own_item text stamp f.0 p f.2 h)) f.1

pub bearer_list : (text stamp : List ℕ) (root : Item) (p : Placed) → IsRoot text root → bearer_of text root stamp ≡ Some p → IsListIn text 63 p.item
bearer_list text stamp root p r e =
    let b = bearer text root stamp p e in
    let m = filtered is_list (children_of root) p.item (on_board text stamp root p b.0 b.1) in
    let l = board_list text root r in
    in_list text 63 (root.from + 1) (root.to - 1) root.inner (omega arith) l.inner l.begun p.item m.0 (list_kind p.item.kind m.1)

-- where a stamp is something's, an item has it
some_bearer : (o : Option Placed) (f : Placed → Stamped) → (option_map f o ≡ None → ⊥) → (p : Placed) × (o ≡ Some p)
some_bearer None f h = absurd (h refl)
some_bearer (Some p) f h = (p, refl)

pub borne : (text stamp : List ℕ) (root : Item) → (stamp_of text root stamp ≡ None → ⊥) → (p : Placed) × (bearer_of text root stamp ≡ Some p)
unfolding stamp_of bearer_of context_of
borne text stamp root h = some_bearer (bearer_in text stamp (items_of_board text root)) _ h

-- ---- lists in a list

pub list_within : (text name : List ℕ) (room : ℕ) (item list : Item) → room < 64 → IsListIn text room item → list_of text name item ≡ Some list → IsListIn text (room - 1) list
list_within text name room item list low l e =
    let m = looked_up text name item list e in
    in_list text (room - 1) (item.from + 1) (item.to - 1) item.inner (omega (arith, low)) l.inner l.begun list m.0 m.1
