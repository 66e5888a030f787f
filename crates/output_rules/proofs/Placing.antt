-- The pieces that the fills of a board replace lie in order within its text.
use Rattle.std.proofs.Common.{◌≡◌, ◌∙◌, refl, ap, sym, subst, ℕ, zero, suc, ◌+◌, ◌-◌, ◌<◌, ◌≤◌, ◌⊎◌, inl, inr, arith, Bool, true, false, List, [], ◌∷◌, ◌++◌, map, length, take, drop, length-append, Option, None, Some}
use Rattle.std.specs.Prelude.{codes, ◌||◌, cond, filter, filter_map, flat_map, slice_index, if◌then◌else◌}
use Rattle.std.specs.List.{cons_option}
use Rattle.std.proofs.lemmas.Bool.{cases_eq}
use Rattle.std.proofs.lemmas.List.Elements.{filter_map-append}
use Rattle.sexpr_text.specs.declared.NodeKind.TheVariants as kinds
use Rattle.sexpr_text.specs.Grammar.{Forest, Items, is_space}
use Rattle.sexpr_text.specs.Grammar.Forest.{Nil, Word, Text, Group}
use Rattle.sexpr_text.specs.Items.{Item, items_of, is_headed}
use Rattle.sexpr_text.specs.Trees.{IsRoot}
use Rattle.board_text.specs.Lists.{is_list, lists_of}
use Rattle.board_language.specs.declared.board.Zone as zones
use Rattle.board_language.specs.declared.board.Rules.{Rules}
use Rattle.board_language.specs.Board.{Board}
use Rattle.board_text.specs.Fields.{head_begins}
use Rattle.board_text.specs.Items.{Context, solid_end, span_of, context_of}
use Rattle.board_text.specs.Things.{Placed, Thing, InFootprint, Zone, Pad, FootprintDrawing, FootprintZone, Other, thing_of, on_board, in_footprint, with_own, items_of_board}
use Rattle.board_language.specs.Zones.{is_fill, is_read_zone, zone_of, spans_of}
use Rattle.board_language.specs.Reading.{zone_from, all_of, board_of}
use Rattle.output_rules.specs.Pieces.{Piece, ArePiecesInOrder, replaced}
use Rattle.rings.specs.Rings.{Traced}
use Rattle.output_rules.specs.Output.{old_fill, zone_pieces, rings_text, pieces_from, board_pieces, text_with_rings}
use Rattle.output_rules.specs.Laws.{PlacedLaw, SomeBytesLaw}
use Rattle.board_text.proofs.Solid.{solid}
use Rattle.output_rules.proofs.Replacing.{order}

-- ---- white space

-- the byte before the place isn't white space
record IsSolid (bytes : List ℕ) (n : ℕ) : Type 0 where
  some : 1 ≤ n
  byte : is_space (slice_index bytes (n - 1)) ≡ false

less : (n : ℕ) → suc n - 1 ≡ n
less n = omega arith

solid_within : (bytes : List ℕ) (n : ℕ) → solid_end bytes n ≤ n
unfolding solid_end
solid_within bytes zero = omega arith
solid_within bytes (suc n) = pick (is_space (slice_index bytes n)) (solid_within bytes n)
  where
    pick : (b : Bool) → solid_end bytes n ≤ n → (if b then solid_end bytes n else suc n) ≤ suc n
    pick true l = omega (arith, l)
    pick false l = omega arith

solid_below : (bytes : List ℕ) (lower n : ℕ) → IsSolid bytes lower → lower ≤ n → lower ≤ solid_end bytes n
unfolding solid_end
solid_below bytes lower zero s l = absurd (omega (arith, s.some, l))
solid_below bytes lower (suc n) s l = elim (cases_eq lower (suc n)) [
  | inl e ↦ let h : suc n ≡ solid_end bytes (suc n) = solid bytes (suc n) (omega arith) (subst (λ (m : ℕ). is_space (slice_index bytes (m - 1)) ≡ false) e s.byte) in omega (arith, e, h)
  | inr ne ↦ let h : lower ≤ solid_end bytes n = solid_below bytes lower n s (omega (arith, ne, l)) in
      let k : solid_end bytes n ≤ n = solid_within bytes n in
      pick (is_space (slice_index bytes n)) h k
]
  where
    pick : (b : Bool) → lower ≤ solid_end bytes n → solid_end bytes n ≤ n → lower ≤ (if b then solid_end bytes n else suc n)
    pick true h k = h
    pick false h k = omega (arith, h, k)

behind : (bytes : List ℕ) (n byte : ℕ) → 1 ≤ n → slice_index bytes (n - 1) ≡ byte → is_space byte ≡ false → IsSolid bytes n
behind bytes n byte s e f = record { some = s; byte = subst (λ (c : ℕ). is_space c ≡ false) (sym e) f }

-- ---- lists of pieces

pub weaken : (a b : ℕ) (end last : ℕ) (ps : List Piece) → a ≤ b → end ≤ last → ArePiecesInOrder b end ps → ArePiecesInOrder a last ps
unfolding ArePiecesInOrder
weaken a b end last [] l k h = omega (arith, l, k, h)
weaken a b end last (p ∷ ps) l k h = (omega (arith, l, h.0), h.1, weaken p.to p.to end last ps (omega arith) k h.2)

joined : (a b c : ℕ) (ps qs : List Piece) → ArePiecesInOrder a b ps → ArePiecesInOrder b c qs → ArePiecesInOrder a c (ps ++ qs)
unfolding ArePiecesInOrder
joined a b c [] qs h g = weaken a b c c qs h (omega arith) g
joined a b c (p ∷ ps) qs h g = (h.0, h.1, joined p.to b c ps qs h.2 g)

one_more : (a b c : ℕ) (put : List ℕ) (ps : List Piece) → a ≤ b → ArePiecesInOrder b c ps → ArePiecesInOrder a c (record { from = b; to = b; put = put } ∷ ps)
unfolding ArePiecesInOrder
one_more a b c put ps l h = (l, omega arith, h)

ends : (n end : ℕ) → n ≤ end → ArePiecesInOrder n end []
unfolding ArePiecesInOrder
ends n end l = l

-- ---- the fills of a zone

abbrev fills_among : List ℕ → Forest → List Piece
fills_among bytes f = map (old_fill bytes) (map span_of (filter (is_fill bytes) (filter is_list (items_of f))))

abbrev list_item : ℕ → ℕ → Forest → Item
list_item from to inner = record { kind = kinds.List; from = from; to = to; inner = inner }

fills_in_order : (bytes : List ℕ) (room at end lower : ℕ) (f : Forest) → Items bytes room at end f → IsSolid bytes lower → lower ≤ at → ArePiecesInOrder lower (solid_end bytes end) (fills_among bytes f)
unfolding ArePiecesInOrder
fills_in_order bytes room at end lower Nil i s l = solid_below bytes lower end s (omega (arith, l, i.order))
fills_in_order bytes room at end lower (Word from to rest) i s l = fills_in_order bytes room to end lower rest i.2 s (omega (arith, l, i.0.order, i.1.order))
fills_in_order bytes room at end lower (Text from to rest) i s l = fills_in_order bytes room to end lower rest i.2 s (omega (arith, l, i.0.order, i.1.order))
fills_in_order bytes room at end lower (Group from to inner rest) i s l =
    let close : IsSolid bytes to = behind bytes to 41 (omega (arith, i.1.order)) i.1.closing refl in
    let from_low : lower ≤ from = omega (arith, l, i.0.order) in
    let start : lower ≤ solid_end bytes from = solid_below bytes lower from s from_low in
    let short : solid_end bytes from ≤ from = solid_within bytes from in
    pick (is_fill bytes (list_item from to inner)) start (omega (arith, short, i.1.order))
    (fills_in_order bytes room to end to rest i.3 close (omega arith)) (fills_in_order bytes room to end lower rest i.3 s (omega (arith, from_low, i.1.order)))
  where
    pick : (b : Bool) → lower ≤ solid_end bytes from → solid_end bytes from ≤ to → ArePiecesInOrder to (solid_end bytes end) (fills_among bytes rest) → ArePiecesInOrder lower (solid_end bytes end) (fills_among bytes rest)
        → ArePiecesInOrder lower (solid_end bytes end)
        (map (old_fill bytes) (map span_of (cond b (list_item from to inner ∷ filter (is_fill bytes) (filter is_list (items_of rest))) (filter (is_fill bytes) (filter is_list (items_of rest))))))
    pick true p q gone kept = (p, q, gone)
    pick false p q gone kept = kept

-- ---- the zones of a board

abbrev zones_among : Context → List Item → List zones.Zone
zones_among c items = filter_map (λ item. zone_from c item (on_board c.bytes item)) items

as_zone : (c : Context) (item : Item) (thing : Thing) → (zone_from c item thing ≡ None) ⊎ (zone_from c item thing ≡ Some (zone_of c item))
as_zone c item Zone = pick (is_read_zone c item)
  where
    pick : (b : Bool) → (cond b (Some (zone_of c item)) None ≡ None) ⊎ (cond b (Some (zone_of c item)) None ≡ Some (zone_of c item))
    pick true = inr refl
    pick false = inl refl
as_zone c item _ = inl refl

-- what is written of a zone lies inside it, behind its opening parenthesis and before its closing one
one_zone : (c : Context) (room from to : ℕ) (inner : Forest) (rings : List ℕ) → slice_index c.bytes from ≡ 40 → from + 1 < to → Items c.bytes room (from + 1) (to - 1) inner
    → ArePiecesInOrder (from + 1) to (zone_pieces c.bytes (zone_of c (list_item from to inner)).spans rings)
unfolding zone_of spans_of
one_zone c room from to inner rings opening order i =
    let back : from + 1 - 1 ≡ from = omega arith in
    let opened : IsSolid c.bytes (from + 1) = behind c.bytes (from + 1) 40 (omega arith) (ap (slice_index c.bytes) back ∙ opening) refl in
    let tail = solid_end c.bytes (to - 1) in
    let short : tail ≤ to - 1 = solid_within c.bytes (to - 1) in
    let fills : ArePiecesInOrder (from + 1) tail (fills_among c.bytes inner) = fills_in_order c.bytes room (from + 1) (to - 1) (from + 1) inner i opened (omega arith) in
    joined (from + 1) tail to (fills_among c.bytes inner) (record { from = tail; to = tail; put = rings } ∷ []) fills (one_more tail tail to rings [] (omega arith) (ends tail to (omega (arith, short))))

zones_in_order : (c : Context) (b : Board) (traced : List Traced) (room at end lower z : ℕ) (f : Forest) → Items c.bytes room at end f → lower ≤ at
    → ArePiecesInOrder lower end (pieces_from c.bytes b traced z (zones_among c (filter is_list (items_of f))))
zones_in_order c b traced room at end lower z Nil i l = ends lower end (omega (arith, l, i.order))
zones_in_order c b traced room at end lower z (Word from to rest) i l = zones_in_order c b traced room to end lower z rest i.2 (omega (arith, l, i.0.order, i.1.order))
zones_in_order c b traced room at end lower z (Text from to rest) i l = zones_in_order c b traced room to end lower z rest i.2 (omega (arith, l, i.0.order, i.1.order))
zones_in_order c b traced room at end lower z (Group from to inner rest) i l =
    let item = list_item from to inner in
    let others = zones_among c (filter is_list (items_of rest)) in
    let low : lower ≤ from + 1 = omega (arith, l, i.0.order) in
    elim (as_zone c item (on_board c.bytes item)) [
      | inl none ↦ subst (λ o. ArePiecesInOrder lower end (pieces_from c.bytes b traced z (cons_option o others))) (sym none)
          (zones_in_order c b traced room to end lower z rest i.3 (omega (arith, low, i.1.order)))
      | inr some ↦ subst (λ o. ArePiecesInOrder lower end (pieces_from c.bytes b traced z (cons_option o others))) (sym some)
          (joined lower to end (zone_pieces c.bytes (zone_of c item).spans (rings_text b traced z (zone_of c item))) (pieces_from c.bytes b traced (suc z) others)
          (weaken lower (from + 1) to to (zone_pieces c.bytes (zone_of c item).spans (rings_text b traced z (zone_of c item))) low (omega arith)
          (one_zone c (room - 1) from to inner (rings_text b traced z (zone_of c item)) i.1.opening i.1.order i.2))
          (zones_in_order c b traced room to end to (suc z) rest i.3 (omega arith)))
    ]

-- ---- a board's zones are those among its own lists

abbrev zone_at : Context → Placed → Option zones.Zone
zone_at c p = zone_from c p.item (thing_of c.bytes p)

in_no_footprint : (c : Context) (footprint item : Item) → zone_at c (record { item = item; site = InFootprint footprint }) ≡ None
unfolding thing_of
in_no_footprint c footprint item =
    pick (is_headed c.bytes (codes "pad") item) (is_headed c.bytes (codes "zone") item) (head_begins c.bytes (codes "fp_") item || is_headed c.bytes (codes "image") item)
  where
    pick : (x y w : Bool) → zone_from c item (if x then Pad footprint else (if y then FootprintZone else (if w then FootprintDrawing else Other))) ≡ None
    pick true y w = refl
    pick false true w = refl
    pick false false true = refl
    pick false false false = refl

footprint_items : (c : Context) (footprint : Item) (items : List Item) → filter_map (zone_at c) (map (λ i. record { item = i; site = InFootprint footprint }) items) ≡ []
footprint_items c footprint [] = refl
footprint_items c footprint (i ∷ items) =
    ap (λ o. cons_option o (filter_map (zone_at c) (map (λ j. record { item = j; site = InFootprint footprint }) items))) (in_no_footprint c footprint i) ∙ footprint_items c footprint items

footprint_none : (c : Context) (item : Item) → filter_map (zone_at c) (in_footprint c.bytes item) ≡ []
footprint_none c item = pick (is_headed c.bytes (codes "footprint") item)
  where
    pick : (b : Bool) → filter_map (zone_at c) (cond b (map (λ i. record { item = i; site = InFootprint item }) (lists_of item)) []) ≡ []
    pick true = footprint_items c item (lists_of item)
    pick false = refl

own_zones : (c : Context) (items : List Item) → filter_map (zone_at c) (flat_map (with_own c.bytes) items) ≡ zones_among c items
unfolding thing_of
own_zones c [] = refl
own_zones c (i ∷ items) =
    let more : filter_map (zone_at c) (in_footprint c.bytes i ++ flat_map (with_own c.bytes) items) ≡ zones_among c items =
    filter_map-append (zone_at c) (in_footprint c.bytes i) (flat_map (with_own c.bytes) items) ∙ ap (λ xs. xs ++ filter_map (zone_at c) (flat_map (with_own c.bytes) items)) (footprint_none c i) ∙ own_zones c items in
    ap (cons_option (zone_from c i (on_board c.bytes i))) more

board_zones : (c : Context) (root : Item) → all_of zone_from c (items_of_board c.bytes root) ≡ zones_among c (lists_of root)
unfolding items_of_board thing_of
board_zones c root = own_zones c (lists_of root)

-- so they lie between the parentheses of the board's list
placed_in : (c : Context) (root : Item) (b : Board) (traced : List Traced) → IsRoot c.bytes root
    → ArePiecesInOrder (root.from + 1) (root.to - 1) (pieces_from c.bytes b traced 0 (all_of zone_from c (items_of_board c.bytes root)))
placed_in c root b traced r =
    let i = r.spelt.items in
    subst (λ zs. ArePiecesInOrder (root.from + 1) (root.to - 1) (pieces_from c.bytes b traced 0 zs)) (sym (board_zones c root))
    (zones_in_order c b traced 63 (root.from + 1) (root.to - 1) (root.from + 1) 0 root.inner i.2 (omega arith))

placed_inside : (text : List ℕ) (root : Item) (rules : Rules) (traced : List Traced) → IsRoot text root
    → ArePiecesInOrder (root.from + 1) (root.to - 1) (board_pieces text (board_of text root rules) traced)
unfolding board_of context_of board_pieces
placed_inside text root rules traced r = placed_in (context_of text root) root (board_of text root rules) traced r

root_within : (text : List ℕ) (root : Item) → IsRoot text root → root.to - 1 ≤ length text
root_within text root r = let i = r.spelt.items in omega (arith, i.1.within)

pub placed : PlacedLaw
placed = record {
  inside = placed_inside;
  within = λ text root rules traced r. weaken 0 (root.from + 1) (root.to - 1) (length text) (board_pieces text (board_of text root rules) traced) (omega arith) (root_within text root r)
      (placed_inside text root rules traced r);
}

-- ---- the first byte stays

some_left : (text : List ℕ) (n : ℕ) → 0 < length text → 1 ≤ n → 0 < length (take n text)
some_left [] n l m = absurd (omega (arith, l))
some_left (c ∷ cs) zero l m = absurd (omega (arith, m))
some_left (c ∷ cs) (suc n) l m = omega arith

some_replaced : (at end : ℕ) (ps : List Piece) (text : List ℕ) → ArePiecesInOrder (at + 1) end ps → 0 < length text → 0 < length (replaced 0 ps text)
unfolding ArePiecesInOrder replaced
some_replaced at end [] text h l = l
some_replaced at end (p ∷ ps) text h l =
    let from = h.0 in
    let front : 0 < length (take (p.from - 0) text) = some_left text (p.from - 0) l (omega (arith, from)) in
    let whole = length-append (take (p.from - 0) text) (p.put ++ replaced p.to ps (drop (p.to - 0) text)) in
    omega (arith, front, whole)

some_text : (text : List ℕ) (root : Item) → IsRoot text root → 0 < length text
some_text text root r = let i = r.spelt.items in omega (arith, i.1.order, i.1.within)

pub some_bytes : SomeBytesLaw
unfolding text_with_rings
some_bytes text root rules traced r = some_replaced root.from (root.to - 1) (board_pieces text (board_of text root rules) traced) text (placed_inside text root rules traced r) (some_text text root r)
