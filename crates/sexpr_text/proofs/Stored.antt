-- Nodes as they are kept, and as they are seen.
use Rattle.std.proofs.Common.{◌≡◌, ℕ, suc, ◌+◌, ◌-◌, ◌<◌, ◌≤◌, List, [], ◌∷◌, ◌++◌, length, take, drop, map, All, refl, sym, ◌∙◌, ap, arith, length-append, get_or, Some, slice_get}
use Rattle.std.proofs.lemmas.List.{drop-append-le, take-append-le, length-drop, drop_at, take_all, length-map}
use Rattle.std.proofs.lemmas.Option.{slice_get-map, slice_get_read}
use Rattle.std.specs.Option.{option_map}
use Rattle.sexpr_text.specs.Flat.{Shown}
use Rattle.sexpr_text.specs.Inner.Built.{Built}
use Rattle.sexpr_text.specs.Inner.Storage.{shown, all_shown, IsRange}
use Rattle.sexpr_text.specs.declared.store.Node.{Node}
use Rattle.sexpr_text.specs.declared.NodeKind.TheVariants as kind
use Rattle.sexpr_text.proofs.Steps.{node}

-- a range stays as it is where the common list grows
range_more : (xs ys : List ℕ) (a b : ℕ) → a ≤ b → b ≤ length xs → take (b - a) (drop a (xs ++ ys)) ≡ take (b - a) (drop a xs)
range_more xs ys a b h k =
    let e : length (drop a xs) ≡ length xs - a = length-drop a xs in
    ap (take (b - a)) (drop-append-le a xs ys (omega arith)) ∙ take-append-le (b - a) (drop a xs) ys (omega arith)

-- the part that was put behind
range_last : (xs ys : List ℕ) (a b : ℕ) → a ≡ length xs → b ≡ length (xs ++ ys) → take (b - a) (drop a (xs ++ ys)) ≡ ys
range_last xs ys a b h k =
    let e : length (xs ++ ys) ≡ length xs + length ys = length-append xs ys in
    ap (take (b - a)) (drop_at xs ys a (sym h)) ∙ take_all (b - a) ys (omega arith)

pub shown_more : (xs ys : List ℕ) (nodes : List Node) → All (IsRange xs) nodes → all_shown (xs ++ ys) nodes ≡ all_shown xs nodes
shown_more xs ys [] h = refl
shown_more xs ys (n ∷ nodes) h =
    let r : IsRange xs n = h 0 n (omega arith) in
    let e : take (n.children_end - n.first_child) (drop n.first_child (xs ++ ys)) ≡ take (n.children_end - n.first_child) (drop n.first_child xs) = range_more xs ys n.first_child n.children_end r.order r.within in
    let f : all_shown (xs ++ ys) nodes ≡ all_shown xs nodes = shown_more xs ys nodes (λ k d less. h (suc k) d (omega arith)) in
    ap (λ c. node n.kind n.from n.to c ∷ all_shown (xs ++ ys) nodes) e ∙ ap (λ ns. shown xs n ∷ ns) f

map-push : {X Y : Type 0} (f : X → Y) (xs : List X) (x : X) → map f (xs ++ x ∷ []) ≡ map f xs ++ f x ∷ []
map-push f [] x = refl
map-push f (y ∷ xs) x = ap (λ ys. f y ∷ ys) (map-push f xs x)

-- a list's node behind the others
pub list_nodes : (old : Built) (nodes nodes' : List Node) (numbers numbers' waiting part : List ℕ) (from to first last mark : ℕ)
    → all_shown numbers nodes ≡ old.nodes → waiting ≡ old.waiting → All (IsRange numbers) nodes → part ≡ drop mark waiting → numbers' ≡ numbers ++ part
    → first ≡ length numbers → last ≡ length numbers' → nodes' ≡ nodes ++ record { kind = kind.List; from = from; to = to; first_child = first; children_end = last } ∷ []
    → all_shown numbers' nodes' ≡ old.nodes ++ node kind.List from to (drop mark old.waiting) ∷ []
list_nodes old nodes nodes' numbers numbers' waiting part from to first last mark v w ranges p e a b f =
    let l : Node = record { kind = kind.List; from = from; to = to; first_child = first; children_end = last } in
    let s : all_shown numbers' (nodes ++ l ∷ []) ≡ all_shown numbers' nodes ++ shown numbers' l ∷ [] = map-push (shown numbers') nodes l in
    let o : all_shown numbers' nodes ≡ old.nodes = ap (λ ns. all_shown ns nodes) e ∙ shown_more numbers part nodes ranges ∙ v in
    let r : take (last - first) (drop first numbers') ≡ drop mark old.waiting =
    ap (λ ns. take (last - first) (drop first ns)) e ∙ range_last numbers part first last a (b ∙ ap length e) ∙ p ∙ ap (drop mark) w in
    ap (all_shown numbers') f ∙ s ∙ ap (λ ns. ns ++ shown numbers' l ∷ []) o ∙ ap (λ c. old.nodes ++ node kind.List from to c ∷ []) r

-- what is kept at a number is what is seen there
pub stored_length : (value : List Shown) (nodes : List Node) (numbers : List ℕ) → all_shown numbers nodes ≡ value → length value ≡ length nodes
stored_length value nodes numbers e = ap length (sym e) ∙ length-map nodes (shown numbers)

pub shown_at : (value : List Shown) (nodes : List Node) (numbers : List ℕ) (id : ℕ) (n : Node) → all_shown numbers nodes ≡ value → id < length value → n ≡ get_or nodes id n → slice_get value id ≡ Some (shown numbers n)
shown_at value nodes numbers id n e h r =
    let l : length value ≡ length nodes = stored_length value nodes numbers e in
    ap (λ v. slice_get v id) (sym e) ∙ slice_get-map (shown numbers) nodes id ∙ ap (option_map (shown numbers)) (slice_get_read nodes (length nodes) id n refl (omega arith) r)
