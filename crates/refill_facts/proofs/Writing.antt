-- The text with rings is that of the spelling which is refilled.
use Rattle.std.proofs.Common.{◌≡◌, ◌∙◌, refl, ap, sym, subst, ℕ, zero, suc, ◌+◌, ◌-◌, ◌<◌, ◌≤◌, ◌⊎◌, inl, inr, Bool, true, false, ◌&&◌, ◌||◌, not, cond, List, [], ◌∷◌, ◌++◌, map, length, take, drop, slice_index, codes, arith, length-append, append_assoc, Option, None, Some}
use Rattle.std.specs.Prelude.{filter, filter_map, flat_map, if◌then◌else◌}
use Rattle.std.specs.List.{list_all, cons_option}
use Rattle.std.proofs.lemmas.Bool.{false≢true, true≢false}
use Rattle.std.proofs.lemmas.List.Elements.{filter_map-append}
use Rattle.std.proofs.Math.Seq.{take-append-add, drop-append-add, drop-append_seam}
use Rattle.grid_num.specs.declared.Point.{Point}
use Rattle.sexpr_text.specs.declared.NodeKind.TheVariants as kinds
use Rattle.sexpr_text.specs.declared.Span.{Span}
use Rattle.sexpr_text.specs.Grammar.{Forest, is_space, is_word}
use Rattle.sexpr_text.specs.Grammar.Forest.{Group}
use Rattle.sexpr_text.specs.Items.{Item, items_of, is_headed}
use Rattle.board_text.specs.Lists.{is_list, lists_of}
use Rattle.board_text.specs.Fields.{head_begins}
use Rattle.board_text.specs.Items.{Context, context_of, solid_end, span_of}
use Rattle.board_text.specs.Things.{Placed, Thing, InFootprint, Zone, Pad, FootprintDrawing, FootprintZone, Other, thing_of, on_board, in_footprint, with_own, items_of_board}
use Rattle.board_text.proofs.Solid.{white, solid}
use Rattle.board_language.specs.declared.board.Zone as zones
use Rattle.board_language.specs.declared.board.Rules.{Rules}
use Rattle.board_language.specs.Board as boards
use Rattle.board_language.specs.Zones.{is_fill, is_read_zone, zone_of, spans_of}
use Rattle.board_language.specs.Reading.{zone_from, all_of, board_of}
use Rattle.fill_rules.specs.Tasks.{layers_below}
use Rattle.rings.specs.Rings.{Traced}
use Rattle.output_rules.specs.Pieces.{Piece, ArePiecesInOrder, replaced}
use Rattle.output_rules.specs.Rings.{ring_text}
use Rattle.output_rules.specs.Output.{traced_of, layer_name, old_fill, rings_text, zone_pieces, pieces_from, board_pieces, text_with_rings}
use Rattle.output_rules.proofs.Replacing.{in_order}
use Rattle.output_rules.proofs.Placing.{weaken}
use Rattle.text_shapes.specs.Shapes.{Shape, forest_shape}
use Rattle.text_shapes.specs.Shapes.Shape.{Over, Bare, Quoted, Inside}
use Rattle.text_shapes.specs.Seen.{is_named}
use Rattle.text_shapes.specs.Spellings.{Spelling, spelt_bytes, width, contents, placed, IsTextSpelling}
use Rattle.text_shapes.specs.Spellings.Spelling.{Ends, Named, Strung, Nested}
use Rattle.text_shapes.proofs.Layouts.{holds_mid, next_byte}
use Rattle.text_shapes.proofs.Spellings.{length-bytes}
use Rattle.text_shapes.proofs.Seen.{heads_seen}
use Rattle.same_boards.specs.Contents.{fill_heads, is_named_among}
use Rattle.refill_facts.proofs.Refill.{Ring, ring_bytes, put_rings, put_bytes, bytes_with, is_old, drop_fills, Plan, refill}

-- ---- white space before a place

record IsSolid (bytes : List ℕ) (n : ℕ) : Type 0 where
  some : 1 ≤ n
  byte : is_space (slice_index bytes (n - 1)) ≡ false

white_end : (bytes : List ℕ) (at k n : ℕ) → k ≤ n → IsSolid bytes at → ((i : ℕ) → at ≤ i → i < at + n → is_space (slice_index bytes i) ≡ true) → solid_end bytes (at + k) ≡ at
white_end bytes at zero n l s h =
    let e : at + 0 ≡ at = omega arith in
    ap (solid_end bytes) e ∙ sym (solid bytes at (omega (arith, s.some)) s.byte)
white_end bytes at (suc k) n l s h =
    let e : at + suc k - 1 ≡ at + k = omega arith in
    sym (white bytes (at + suc k) (omega arith) (ap (λ i. is_space (slice_index bytes i)) e ∙ h (at + k) (omega arith) (omega (arith, l))))
    ∙ ap (solid_end bytes) e ∙ white_end bytes at k n (omega (arith, l)) s h

white_before : (bytes front w back : List ℕ) (at : ℕ) → bytes ≡ front ++ (w ++ back) → length front ≡ at → IsSolid bytes at → list_all is_space w ≡ true → solid_end bytes (at + length w) ≡ at
white_before bytes front w back at e l s h = white_end bytes at (length w) (length w) (omega arith) s (holds_mid is_space bytes front w back at (at + length w) e l refl h)

word_solid : (c : ℕ) → is_word c ≡ true → is_space c ≡ false
word_solid c h = grind arith

behind_word : (bytes front t back : List ℕ) (at to : ℕ) → bytes ≡ front ++ (t ++ back) → length front ≡ at → at + length t ≡ to → 0 < length t → list_all is_word t ≡ true → IsSolid bytes to
behind_word bytes front t back at to e l m some h =
    record { some = omega (arith, some); byte = word_solid (slice_index bytes (to - 1)) (holds_mid is_word bytes front t back at to e l m h (to - 1) (omega (arith, some)) (omega (arith, some))) }

behind_byte : (bytes front back : List ℕ) (c n to : ℕ) → bytes ≡ front ++ c ∷ back → length front ≡ n → n + 1 ≡ to → is_space c ≡ false → IsSolid bytes to
behind_byte bytes front back c n to e l m h =
    let k : to - 1 ≡ n = omega arith in
    record { some = omega arith; byte = ap (λ i. is_space (slice_index bytes i)) k ∙ ap is_space (next_byte bytes front back c n e l) ∙ h }

-- ---- walks over pieces

-- the pieces lie in order from a place on, and make the new text of the old one
record Walked (at end : ℕ) (ps : List Piece) (old new : List ℕ) : Type 0 where
  order : ArePiecesInOrder at end ps
  made : replaced at ps old ≡ new

skipped : (x old : List ℕ) (at end : ℕ) (ps : List Piece) → ArePiecesInOrder (at + length x) end ps → replaced at ps (x ++ old) ≡ x ++ replaced (at + length x) ps old
unfolding ArePiecesInOrder replaced
skipped x old at end [] h = refl
skipped x old at end (p ∷ ps) h =
    let a : p.from - at ≡ length x + (p.from - (at + length x)) = omega (arith, h.0) in
    let b : p.to - at ≡ length x + (p.to - (at + length x)) = omega (arith, h.0, h.1) in
    ap (λ n. take n (x ++ old) ++ (p.put ++ replaced p.to ps (drop (p.to - at) (x ++ old)))) a
    ∙ ap (λ z. z ++ (p.put ++ replaced p.to ps (drop (p.to - at) (x ++ old)))) (take-append-add x old (p.from - (at + length x)))
    ∙ ap (λ n. (x ++ take (p.from - (at + length x)) old) ++ (p.put ++ replaced p.to ps (drop n (x ++ old)))) b
    ∙ ap (λ z. (x ++ take (p.from - (at + length x)) old) ++ (p.put ++ replaced p.to ps z)) (drop-append-add x old (p.to - (at + length x)))
    ∙ append_assoc x (take (p.from - (at + length x)) old) (p.put ++ replaced p.to ps (drop (p.to - (at + length x)) old))

walk_skip : (x old new : List ℕ) (at to end : ℕ) (ps : List Piece) → at + length x ≡ to → Walked to end ps old new → Walked at end ps (x ++ old) (x ++ new)
walk_skip x old new at to end ps e w =
    let o : ArePiecesInOrder (at + length x) end ps = subst (λ n. ArePiecesInOrder n end ps) (sym e) w.order in
    record {
      order = weaken at to end end ps (omega (arith, e)) (omega arith) w.order;
      made = skipped x old at end ps o ∙ ap (λ n. x ++ replaced n ps old) e ∙ ap (λ z. x ++ z) w.made;
    }

walk_by : (old new other last : List ℕ) (at end : ℕ) (ps : List Piece) → old ≡ other → new ≡ last → Walked at end ps other last → Walked at end ps old new
walk_by old new other last at end ps e f w = record { order = w.order; made = ap (replaced at ps) e ∙ w.made ∙ sym f }

none_taken : (n : ℕ) (xs : List ℕ) → n ≡ 0 → take n xs ≡ []
none_taken n xs e = ap (λ m. take m xs) e ∙ nothing xs
  where
    nothing : (xs : List ℕ) → take 0 xs ≡ []
    nothing [] = refl
    nothing (x ∷ xs) = refl

-- a piece that begins right here
walk_piece : (y put old new : List ℕ) (from at to end : ℕ) (ps : List Piece) → from ≡ at → at + length y ≡ to → Walked to end ps old new
    → Walked at end (record { from = from; to = to; put = put } ∷ ps) (y ++ old) (put ++ new)
unfolding replaced
walk_piece y put old new from at to end ps e f w =
    let a : from - at ≡ 0 = omega (arith, e) in
    let b : to - at ≡ length y = omega (arith, f) in
    record {
      order = in_order at end (record { from = from; to = to; put = put }) ps (omega (arith, e)) (omega (arith, e, f)) w.order;
      made = ap (λ z. z ++ (put ++ replaced to ps (drop (to - at) (y ++ old)))) (none_taken (from - at) (y ++ old) a)
          ∙ ap (λ n. put ++ replaced to ps (drop n (y ++ old))) b ∙ ap (λ z. put ++ replaced to ps z) (drop-append_seam y old) ∙ ap (λ z. put ++ z) w.made;
    }

walk_front : (old new : List ℕ) (a b end : ℕ) (ps : List Piece) (x : List ℕ) → a + length x ≡ b → Walked b end ps old new → Walked a end ps (x ++ old) (x ++ new)
walk_front old new a b end ps x e w = walk_skip x old new a b end ps e w

-- ---- the fills of a zone

fill_pieces : List ℕ → Forest → List Piece
fill_pieces text f = map (old_fill text) (map span_of (filter (is_fill text) (filter is_list (items_of f))))

abbrev list_item : ℕ → ℕ → Forest → Item
list_item from to inner = record { kind = kinds.List; from = from; to = to; inner = inner }

pub fill_is : (text : List ℕ) (from to : ℕ) (f : Forest) (s : Shape) → forest_shape text f ≡ s → is_fill text (list_item from to f) ≡ is_named_among fill_heads s
fill_is text from to f s e =
    two_heads (is_headed text (codes "filled_polygon") (list_item from to f)) (is_headed text (codes "fill_segments") (list_item from to f))
    (is_named (codes "filled_polygon") s) (is_named (codes "fill_segments") s)
    (heads_seen text (codes "filled_polygon") (list_item from to f) ∙ ap (is_named (codes "filled_polygon")) e)
    (heads_seen text (codes "fill_segments") (list_item from to f) ∙ ap (is_named (codes "fill_segments")) e)
  where
    two_heads : (a b c d : Bool) → a ≡ c → b ≡ d → (a || b) ≡ (c || (d || false))
    two_heads a b true d e f = rw e refl
    two_heads a b false true e f = rw (e, f) refl
    two_heads a b false false e f = rw (e, f) refl

inner_of : Shape → Shape
inner_of Over = Over
inner_of (Bare t rest) = Over
inner_of (Quoted t rest) = Over
inner_of (Inside inner rest) = inner

rest_of : Shape → Shape
rest_of Over = Over
rest_of (Bare t rest) = rest
rest_of (Quoted t rest) = rest
rest_of (Inside inner rest) = rest

pub rest_bare : {a b : List ℕ} {x y : Shape} → Bare a x ≡ Bare b y → x ≡ y
unfolding rest_of
rest_bare e = ap rest_of e

pub rest_quoted : {a b : List ℕ} {x y : Shape} → Quoted a x ≡ Quoted b y → x ≡ y
unfolding rest_of
rest_quoted e = ap rest_of e

pub rest_inside : {a b x y : Shape} → Inside a x ≡ Inside b y → x ≡ y
unfolding rest_of
rest_inside e = ap rest_of e

pub inner_inside : {a b x y : Shape} → Inside a x ≡ Inside b y → a ≡ b
unfolding inner_of
inner_inside e = ap inner_of e

-- ---- lists of bytes

three : (a b c d : List ℕ) → (a ++ (b ++ c)) ++ d ≡ (a ++ b) ++ (c ++ d)
three a b c d = append_assoc a (b ++ c) d ∙ ap (λ z. a ++ z) (append_assoc b c d) ∙ sym (append_assoc a b (c ++ d))

sides : (o c : ℕ) (w t r back : List ℕ) → (w ++ o ∷ (t ++ c ∷ r)) ++ back ≡ (w ++ o ∷ (t ++ c ∷ [])) ++ (r ++ back)
sides o c w t r back =
    append_assoc w (o ∷ (t ++ c ∷ r)) back ∙ ap (λ z. w ++ o ∷ z) (append_assoc t (c ∷ r) back ∙ sym (append_assoc t (c ∷ []) (r ++ back)))
    ∙ sym (append_assoc w (o ∷ (t ++ c ∷ [])) (r ++ back))

length-sides : (o c : ℕ) (w t : List ℕ) → length (w ++ o ∷ (t ++ c ∷ [])) ≡ length w + (1 + (length t + 1))
length-sides o c w t = omega (arith, length-append w (o ∷ (t ++ c ∷ [])), length-append t (c ∷ []))

-- the front grows by what was passed
grown : (bytes front x old : List ℕ) → bytes ≡ front ++ (x ++ old) → bytes ≡ (front ++ x) ++ old
grown bytes front x old e = e ∙ sym (append_assoc front x old)

longer : (front x : List ℕ) (at to : ℕ) → length front ≡ at → at + length x ≡ to → length (front ++ x) ≡ to
longer front x at to e f = omega (arith, length-append front x)

-- ---- a zone

-- the last piece of a zone puts its rings at the tail
abbrev tail_piece : List ℕ → ℕ → List ℕ → Piece
tail_piece text stop put = record { from = solid_end text stop; to = solid_end text stop; put = put }

list_step : (text : List ℕ) (s : Spelling) (w put old back more : List ℕ) (inner rest : Spelling) (item : Item) (at to end stop : ℕ) (ps : List Piece) (f g : Bool)
    → solid_end text item.from ≡ at → item.to ≡ to → at + length (w ++ 40 ∷ (spelt_bytes inner ++ 41 ∷ [])) ≡ to → old ≡ (w ++ 40 ∷ (spelt_bytes inner ++ 41 ∷ spelt_bytes rest)) ++ back
    → (others : List Span) → Walked to end (map (old_fill text) others ++ tail_piece text stop put ∷ ps) (spelt_bytes rest ++ back) (bytes_with put (drop_fills rest) ++ more) → f ≡ g
    → Walked at end (map (old_fill text) (map span_of (cond f (item ∷ []) []) ++ others) ++ tail_piece text stop put ∷ ps) old
    (bytes_with put (cond g (drop_fills rest) (Nested w inner (drop_fills rest))) ++ more)
list_step text s w put old back more inner rest item at to end stop ps true true e t l o others h q =
    walk_by old (bytes_with put (drop_fills rest) ++ more) ((w ++ 40 ∷ (spelt_bytes inner ++ 41 ∷ [])) ++ (spelt_bytes rest ++ back)) ([] ++ (bytes_with put (drop_fills rest) ++ more)) at end
    (record { from = solid_end text item.from; to = item.to; put = [] } ∷ (map (old_fill text) others ++ tail_piece text stop put ∷ ps))
    (o ∙ sides 40 41 w (spelt_bytes inner) (spelt_bytes rest) back) refl
    (subst (λ n. Walked at end (record { from = solid_end text item.from; to = n; put = [] } ∷ (map (old_fill text) others ++ tail_piece text stop put ∷ ps))
    ((w ++ 40 ∷ (spelt_bytes inner ++ 41 ∷ [])) ++ (spelt_bytes rest ++ back)) ([] ++ (bytes_with put (drop_fills rest) ++ more))) (sym t)
    (walk_piece (w ++ 40 ∷ (spelt_bytes inner ++ 41 ∷ [])) [] (spelt_bytes rest ++ back) (bytes_with put (drop_fills rest) ++ more) (solid_end text item.from) at to end
    (map (old_fill text) others ++ tail_piece text stop put ∷ ps) e l h))
list_step text s w put old back more inner rest item at to end stop ps false false e t l o others h q =
    walk_by old (bytes_with put (Nested w inner (drop_fills rest)) ++ more) ((w ++ 40 ∷ (spelt_bytes inner ++ 41 ∷ [])) ++ (spelt_bytes rest ++ back))
    ((w ++ 40 ∷ (spelt_bytes inner ++ 41 ∷ [])) ++ (bytes_with put (drop_fills rest) ++ more)) at end (map (old_fill text) others ++ tail_piece text stop put ∷ ps)
    (o ∙ sides 40 41 w (spelt_bytes inner) (spelt_bytes rest) back) (sides 40 41 w (spelt_bytes inner) (bytes_with put (drop_fills rest)) more)
    (walk_skip (w ++ 40 ∷ (spelt_bytes inner ++ 41 ∷ [])) (spelt_bytes rest ++ back) (bytes_with put (drop_fills rest) ++ more) at to end (map (old_fill text) others ++ tail_piece text stop put ∷ ps) l h)
list_step text s w put old back more inner rest item at to end stop ps true false e t l o others h q = absurd (true≢false q)
list_step text s w put old back more inner rest item at to end stop ps false true e t l o others h q = absurd (false≢true q)

spans_among : List ℕ → Forest → List Span
spans_among text f = map span_of (filter (is_fill text) (filter is_list (items_of f)))

spans_step : (text : List ℕ) (from to : ℕ) (inner rest : Forest) → spans_among text (Group from to inner rest) ≡ map span_of (cond (is_fill text (list_item from to inner)) (list_item from to inner ∷ []) []) ++ spans_among text rest
unfolding spans_among
spans_step text from to inner rest = pick (is_fill text (list_item from to inner)) (filter (is_fill text) (filter is_list (items_of rest)))
  where
    pick : (b : Bool) (xs : List Item) → map span_of (cond b (list_item from to inner ∷ xs) xs) ≡ map span_of (cond b (list_item from to inner ∷ []) []) ++ map span_of xs
    pick true xs = refl
    pick false xs = refl

zone_walk : (text : List ℕ) (s : Spelling) (front back put more : List ℕ) (at stop end room : ℕ) (ps : List Piece)
    → text ≡ front ++ (spelt_bytes s ++ back) → length front ≡ at → IsSolid text at → IsTextSpelling room s → forest_shape text (placed at s) ≡ contents s → at + width s ≡ stop
    → Walked stop end ps back more
    → Walked at end (map (old_fill text) (spans_among text (placed at s)) ++ tail_piece text stop put ∷ ps) (spelt_bytes s ++ back) (bytes_with put (drop_fills s) ++ more)
unfolding spans_among
zone_walk text (Ends w) front back put more at stop end room ps e l s g c k h =
    let place : solid_end text stop ≡ at = ap (solid_end text) (sym k) ∙ white_before text front w back at e l s g in
    let rest : Walked at end ps (w ++ back) (w ++ more) = walk_skip w back more at stop end ps k h in
    walk_by (w ++ back) ((put ++ w) ++ more) ([] ++ (w ++ back)) (put ++ (w ++ more)) at end (tail_piece text stop put ∷ ps) refl (append_assoc put w more)
    (subst (λ n. Walked at end (record { from = solid_end text stop; to = n; put = put } ∷ ps) ([] ++ (w ++ back)) (put ++ (w ++ more))) (sym place)
    (walk_piece [] put (w ++ back) (w ++ more) (solid_end text stop) at at end ps place (omega arith) rest))
zone_walk text (Named w t rest) front back put more at stop end room ps e l s g c k h =
    let x = w ++ t in
    let f : text ≡ front ++ (x ++ (spelt_bytes rest ++ back)) = e ∙ ap (λ z. front ++ z) (three w t (spelt_bytes rest) back) in
    let lx : at + length (w ++ t) ≡ at + length w + length t = omega (arith, length-append w t) in
    let fw : text ≡ (front ++ w) ++ (t ++ (spelt_bytes rest ++ back)) =
    e ∙ ap (λ z. front ++ z) (append_assoc w (t ++ spelt_bytes rest) back ∙ ap (λ z. w ++ z) (append_assoc t (spelt_bytes rest) back)) ∙ sym (append_assoc front w (t ++ (spelt_bytes rest ++ back))) in
    walk_by ((w ++ (t ++ spelt_bytes rest)) ++ back) ((w ++ (t ++ bytes_with put (drop_fills rest))) ++ more) ((w ++ t) ++ (spelt_bytes rest ++ back)) ((w ++ t) ++ (bytes_with put (drop_fills rest) ++ more)) at end
    (map (old_fill text) (spans_among text (placed (at + length w + length t) rest)) ++ tail_piece text stop put ∷ ps)
    (three w t (spelt_bytes rest) back) (three w t (bytes_with put (drop_fills rest)) more)
    (walk_skip (w ++ t) (spelt_bytes rest ++ back) (bytes_with put (drop_fills rest) ++ more) at (at + length w + length t) end
    (map (old_fill text) (spans_among text (placed (at + length w + length t) rest)) ++ tail_piece text stop put ∷ ps) lx
    (zone_walk text rest (front ++ (w ++ t)) back put more (at + length w + length t) stop end room ps (grown text front (w ++ t) (spelt_bytes rest ++ back) f) (longer front (w ++ t) at (at + length w + length t) l lx)
    (behind_word text (front ++ w) t (spelt_bytes rest ++ back) (at + length w) (at + length w + length t) fw (longer front w at (at + length w) l refl) refl g.1 g.2) g.4 (rest_bare c) (omega (arith, k)) h))
zone_walk text (Strung w t rest) front back put more at stop end room ps e l s g c k h =
    let x = w ++ 34 ∷ (t ++ 34 ∷ []) in
    let f : text ≡ front ++ ((w ++ 34 ∷ (t ++ 34 ∷ [])) ++ (spelt_bytes rest ++ back)) = e ∙ ap (λ z. front ++ z) (sides 34 34 w t (spelt_bytes rest) back) in
    let lx : at + length (w ++ 34 ∷ (t ++ 34 ∷ [])) ≡ at + length w + (1 + (length t + 1)) = omega (arith, length-sides 34 34 w t) in
    let fq : text ≡ ((front ++ w) ++ 34 ∷ t) ++ 34 ∷ (spelt_bytes rest ++ back) =
    e ∙ ap (λ z. front ++ z) (append_assoc w (34 ∷ (t ++ 34 ∷ spelt_bytes rest)) back ∙ ap (λ z. w ++ 34 ∷ z) (append_assoc t (34 ∷ spelt_bytes rest) back))
    ∙ sym (append_assoc front w (34 ∷ (t ++ 34 ∷ (spelt_bytes rest ++ back)))) ∙ sym (append_assoc (front ++ w) (34 ∷ t) (34 ∷ (spelt_bytes rest ++ back))) in
    walk_by ((w ++ 34 ∷ (t ++ 34 ∷ spelt_bytes rest)) ++ back) ((w ++ 34 ∷ (t ++ 34 ∷ bytes_with put (drop_fills rest))) ++ more) ((w ++ 34 ∷ (t ++ 34 ∷ [])) ++ (spelt_bytes rest ++ back))
    ((w ++ 34 ∷ (t ++ 34 ∷ [])) ++ (bytes_with put (drop_fills rest) ++ more)) at end
    (map (old_fill text) (spans_among text (placed (at + length w + (1 + (length t + 1))) rest)) ++ tail_piece text stop put ∷ ps)
    (sides 34 34 w t (spelt_bytes rest) back) (sides 34 34 w t (bytes_with put (drop_fills rest)) more)
    (walk_skip (w ++ 34 ∷ (t ++ 34 ∷ [])) (spelt_bytes rest ++ back) (bytes_with put (drop_fills rest) ++ more) at (at + length w + (1 + (length t + 1))) end
    (map (old_fill text) (spans_among text (placed (at + length w + (1 + (length t + 1))) rest)) ++ tail_piece text stop put ∷ ps) lx
    (zone_walk text rest (front ++ (w ++ 34 ∷ (t ++ 34 ∷ []))) back put more (at + length w + (1 + (length t + 1))) stop end room ps (grown text front (w ++ 34 ∷ (t ++ 34 ∷ [])) (spelt_bytes rest ++ back) f)
    (longer front (w ++ 34 ∷ (t ++ 34 ∷ [])) at (at + length w + (1 + (length t + 1))) l lx)
    (behind_byte text ((front ++ w) ++ 34 ∷ t) (spelt_bytes rest ++ back) 34 (at + length w + (1 + length t)) (at + length w + (1 + (length t + 1))) fq
    (omega (arith, l, length-append (front ++ w) (34 ∷ t), length-append front w)) (omega arith) refl) g.2 (rest_quoted c) (omega (arith, k)) h))
zone_walk text (Nested w inner rest) front back put more at stop end room ps e l s g c k h =
    let from = at + length w in
    let to = at + length w + 1 + width inner + 1 in
    let f : text ≡ front ++ ((w ++ 40 ∷ (spelt_bytes inner ++ 41 ∷ [])) ++ (spelt_bytes rest ++ back)) = e ∙ ap (λ z. front ++ z) (sides 40 41 w (spelt_bytes inner) (spelt_bytes rest) back) in
    let lx : at + length (w ++ 40 ∷ (spelt_bytes inner ++ 41 ∷ [])) ≡ at + length w + 1 + width inner + 1 = omega (arith, length-sides 40 41 w (spelt_bytes inner), length-bytes inner) in
    let fw : text ≡ front ++ (w ++ (40 ∷ ((spelt_bytes inner ++ 41 ∷ spelt_bytes rest) ++ back))) = e ∙ ap (λ z. front ++ z) (append_assoc w (40 ∷ (spelt_bytes inner ++ 41 ∷ spelt_bytes rest)) back) in
    let fq : text ≡ ((front ++ w) ++ 40 ∷ spelt_bytes inner) ++ 41 ∷ (spelt_bytes rest ++ back) =
    e ∙ ap (λ z. front ++ z) (append_assoc w (40 ∷ (spelt_bytes inner ++ 41 ∷ spelt_bytes rest)) back ∙ ap (λ z. w ++ 40 ∷ z) (append_assoc (spelt_bytes inner) (41 ∷ spelt_bytes rest) back))
    ∙ sym (append_assoc front w (40 ∷ (spelt_bytes inner ++ 41 ∷ (spelt_bytes rest ++ back)))) ∙ sym (append_assoc (front ++ w) (40 ∷ spelt_bytes inner) (41 ∷ (spelt_bytes rest ++ back))) in
    let item = list_item (at + length w) (at + length w + 1 + width inner + 1) (placed (at + length w + 1) inner) in
    let more_walked : Walked (at + length w + 1 + width inner + 1) end (map (old_fill text) (spans_among text (placed (at + length w + 1 + width inner + 1) rest)) ++ tail_piece text stop put ∷ ps) (spelt_bytes rest ++ back)
    (bytes_with put (drop_fills rest) ++ more) =
    zone_walk text rest (front ++ (w ++ 40 ∷ (spelt_bytes inner ++ 41 ∷ []))) back put more (at + length w + 1 + width inner + 1) stop end room ps
    (grown text front (w ++ 40 ∷ (spelt_bytes inner ++ 41 ∷ [])) (spelt_bytes rest ++ back) f) (longer front (w ++ 40 ∷ (spelt_bytes inner ++ 41 ∷ [])) at (at + length w + 1 + width inner + 1) l lx)
    (behind_byte text ((front ++ w) ++ 40 ∷ spelt_bytes inner) (spelt_bytes rest ++ back) 41 (at + length w + 1 + width inner) (at + length w + 1 + width inner + 1) fq
    (omega (arith, l, length-append (front ++ w) (40 ∷ spelt_bytes inner), length-append front w, length-bytes inner)) refl refl) g.3 (rest_inside c) (omega (arith, k)) h in
    subst (λ ss. Walked at end (map (old_fill text) ss ++ tail_piece text stop put ∷ ps) ((w ++ 40 ∷ (spelt_bytes inner ++ 41 ∷ spelt_bytes rest)) ++ back)
    (bytes_with put (cond (is_old inner) (drop_fills rest) (Nested w inner (drop_fills rest))) ++ more))
    (sym (spans_step text (at + length w) (at + length w + 1 + width inner + 1) (placed (at + length w + 1) inner) (placed (at + length w + 1 + width inner + 1) rest)))
    (list_step text (Nested w inner rest) w put ((w ++ 40 ∷ (spelt_bytes inner ++ 41 ∷ spelt_bytes rest)) ++ back) back more inner rest item at (at + length w + 1 + width inner + 1) end stop ps
    (is_fill text item) (is_old inner) (white_before text front w (40 ∷ ((spelt_bytes inner ++ 41 ∷ spelt_bytes rest) ++ back)) at fw l s g.0) refl lx refl
    (spans_among text (placed (at + length w + 1 + width inner + 1) rest)) more_walked
    (fill_is text (at + length w) (at + length w + 1 + width inner + 1) (placed (at + length w + 1) inner) (contents inner) (inner_inside c)))

-- ---- rings of a zone

-- the rings of a zone, in the order in which they are written
abbrev pub rings_of : boards.Board → List Traced → ℕ → zones.Zone → List Ring
rings_of b traced z zone =
    flat_map (λ (l : ℕ). map (λ (corners : List Point). record { layer = layer_name b l; corners = corners }) (traced_of b traced (record { zone = z; layer = l })).rings) (layers_below zone.layers (length b.layers))

flat_both : {X Y : Type 0} (f : X → List Y) (xs ys : List X) → flat_map f (xs ++ ys) ≡ flat_map f xs ++ flat_map f ys
flat_both f [] ys = refl
flat_both f (x ∷ xs) ys = ap (λ z. f x ++ z) (flat_both f xs ys) ∙ sym (Rattle.std.proofs.Common.append_assoc (f x) (flat_map f xs) (flat_map f ys))

own_rings : (name : List ℕ) (rs : List (List Point)) → flat_map ring_bytes (map (λ (corners : List Point). record { layer = name; corners = corners }) rs) ≡ flat_map (ring_text name) rs
own_rings name [] = refl
own_rings name (r ∷ rs) = ap (λ z. ring_text name r ++ z) (own_rings name rs)

layered_rings : (b : boards.Board) (traced : List Traced) (z : ℕ) (ls : List ℕ)
    → flat_map ring_bytes (flat_map (λ (l : ℕ). map (λ (corners : List Point). record { layer = layer_name b l; corners = corners }) (traced_of b traced (record { zone = z; layer = l })).rings) ls)
    ≡ flat_map (λ (l : ℕ). flat_map (ring_text (layer_name b l)) (traced_of b traced (record { zone = z; layer = l })).rings) ls
layered_rings b traced z [] = refl
layered_rings b traced z (l ∷ ls) =
    flat_both ring_bytes (map (λ (corners : List Point). record { layer = layer_name b l; corners = corners }) (traced_of b traced (record { zone = z; layer = l })).rings)
    (flat_map (λ (l : ℕ). map (λ (corners : List Point). record { layer = layer_name b l; corners = corners }) (traced_of b traced (record { zone = z; layer = l })).rings) ls)
    ∙ ap (λ x. x ++ flat_map ring_bytes (flat_map (λ (l : ℕ). map (λ (corners : List Point). record { layer = layer_name b l; corners = corners }) (traced_of b traced (record { zone = z; layer = l })).rings) ls))
    (own_rings (layer_name b l) (traced_of b traced (record { zone = z; layer = l })).rings)
    ∙ ap (λ x. flat_map (ring_text (layer_name b l)) (traced_of b traced (record { zone = z; layer = l })).rings ++ x) (layered_rings b traced z ls)

rings_written : (b : boards.Board) (traced : List Traced) (z : ℕ) (zone : zones.Zone) → flat_map ring_bytes (rings_of b traced z zone) ≡ rings_text b traced z zone
rings_written b traced z zone = layered_rings b traced z (layers_below zone.layers (length b.layers))

-- ---- the plan of a board

abbrev pub plan_by : boards.Board → List Traced → ℕ → List (Option zones.Zone) → Plan
plan_by b traced z [] = []
plan_by b traced z (None ∷ os) = None ∷ plan_by b traced z os
plan_by b traced z (Some zone ∷ os) = Some (rings_of b traced z zone) ∷ plan_by b traced (suc z) os

-- what zone each list of a board is, where it is one that is read
abbrev pub zones_given : Context → List Item → List (Option zones.Zone)
zones_given c items = map (λ item. zone_from c item (on_board c.bytes item)) items

abbrev zones_among : Context → List Item → List zones.Zone
zones_among c items = filter_map (λ item. zone_from c item (on_board c.bytes item)) items

pub as_zone : (c : Context) (item : Item) (thing : Thing) → (zone_from c item thing ≡ None) ⊎ (zone_from c item thing ≡ Some (zone_of c item))
as_zone c item Zone = pick (is_read_zone c item)
  where
    pick : (b : Bool) → (cond b (Some (zone_of c item)) None ≡ None) ⊎ (cond b (Some (zone_of c item)) None ≡ Some (zone_of c item))
    pick true = inr refl
    pick false = inl refl
as_zone c item _ = inl refl

-- a list that isn't filled stays
list_passed : (w : List ℕ) (inner rest new : Spelling) (back : List ℕ) (at to end : ℕ) (ps : List Piece) → at + length (w ++ 40 ∷ (spelt_bytes inner ++ 41 ∷ [])) ≡ to
    → Walked to end ps (spelt_bytes rest ++ back) (spelt_bytes new ++ back)
    → Walked at end ps ((w ++ 40 ∷ (spelt_bytes inner ++ 41 ∷ spelt_bytes rest)) ++ back) ((w ++ 40 ∷ (spelt_bytes inner ++ 41 ∷ spelt_bytes new)) ++ back)
list_passed w inner rest new back at to end ps l h =
    walk_by ((w ++ 40 ∷ (spelt_bytes inner ++ 41 ∷ spelt_bytes rest)) ++ back) ((w ++ 40 ∷ (spelt_bytes inner ++ 41 ∷ spelt_bytes new)) ++ back)
    ((w ++ 40 ∷ (spelt_bytes inner ++ 41 ∷ [])) ++ (spelt_bytes rest ++ back)) ((w ++ 40 ∷ (spelt_bytes inner ++ 41 ∷ [])) ++ (spelt_bytes new ++ back)) at end ps
    (sides 40 41 w (spelt_bytes inner) (spelt_bytes rest) back) (sides 40 41 w (spelt_bytes inner) (spelt_bytes new) back)
    (walk_skip (w ++ 40 ∷ (spelt_bytes inner ++ 41 ∷ [])) (spelt_bytes rest ++ back) (spelt_bytes new ++ back) at to end ps l h)

zone_piece_list : (text : List ℕ) (c : Context) (item : Item) (rings : List ℕ) (stop : ℕ) (ps : List Piece) → c.bytes ≡ text → item.to - 1 ≡ stop
    → zone_pieces text (zone_of c item).spans rings ++ ps ≡ map (old_fill text) (spans_among text item.inner) ++ tail_piece text stop rings ∷ ps
unfolding zone_of spans_of spans_among
zone_piece_list text c item rings stop ps e f =
    ap (λ bytes. (map (old_fill text) (map span_of (filter (is_fill bytes) (lists_of item)))
    ++ record { from = solid_end bytes (item.to - 1); to = solid_end bytes (item.to - 1); put = rings } ∷ []) ++ ps) e
    ∙ ap (λ n. (map (old_fill text) (map span_of (filter (is_fill text) (lists_of item))) ++ record { from = solid_end text n; to = solid_end text n; put = rings } ∷ []) ++ ps) f
    ∙ Rattle.std.proofs.Common.append_assoc (map (old_fill text) (map span_of (filter (is_fill text) (lists_of item)))) (tail_piece text stop rings ∷ []) ps

filled : (c : Context) (w : List ℕ) (inner rest new : Spelling) (front back : List ℕ) (at end room : ℕ) (ps : List Piece) (from to : ℕ) (put : List ℕ) (rings : List Ring) (all : List Piece)
    → all ≡ map (old_fill c.bytes) (spans_among c.bytes (placed (at + length w + 1) inner)) ++ tail_piece c.bytes (at + length w + 1 + width inner) put ∷ ps
    → spelt_bytes (put_rings rings (drop_fills inner)) ≡ bytes_with put (drop_fills inner)
    → c.bytes ≡ front ++ ((w ++ 40 ∷ (spelt_bytes inner ++ 41 ∷ spelt_bytes rest)) ++ back) → length front ≡ at → IsTextSpelling room inner
    → forest_shape c.bytes (placed (at + length w + 1) inner) ≡ contents inner → Walked (at + length w + 1 + width inner + 1) end ps (spelt_bytes rest ++ back) (spelt_bytes new ++ back)
    → Walked at end all ((w ++ 40 ∷ (spelt_bytes inner ++ 41 ∷ spelt_bytes rest)) ++ back) ((w ++ 40 ∷ (spelt_bytes (put_rings rings (drop_fills inner)) ++ 41 ∷ spelt_bytes new)) ++ back)
filled c w inner rest new front back at end room ps from to put rings all a r e l g h k =
    let opened : (x : List ℕ) (y : List ℕ) → (w ++ 40 ∷ (x ++ 41 ∷ y)) ++ back ≡ (w ++ 40 ∷ []) ++ (x ++ 41 ∷ (y ++ back)) = λ x y.
    append_assoc w (40 ∷ (x ++ 41 ∷ y)) back ∙ ap (λ z. w ++ 40 ∷ z) (append_assoc x (41 ∷ y) back) ∙ sym (append_assoc w (40 ∷ []) (x ++ 41 ∷ (y ++ back))) in
    let n : at + length (w ++ 40 ∷ []) ≡ at + length w + 1 = omega (arith, length-append w (40 ∷ [])) in
    let here : c.bytes ≡ (front ++ (w ++ 40 ∷ [])) ++ (spelt_bytes inner ++ 41 ∷ (spelt_bytes rest ++ back)) =
    grown c.bytes front (w ++ 40 ∷ []) (spelt_bytes inner ++ 41 ∷ (spelt_bytes rest ++ back)) (e ∙ ap (λ z. front ++ z) (opened (spelt_bytes inner) (spelt_bytes rest))) in
    let paren : c.bytes ≡ (front ++ w) ++ 40 ∷ (spelt_bytes inner ++ 41 ∷ (spelt_bytes rest ++ back)) =
    here ∙ append_assoc front (w ++ 40 ∷ []) (spelt_bytes inner ++ 41 ∷ (spelt_bytes rest ++ back)) ∙ ap (λ z. front ++ z) (append_assoc w (40 ∷ []) (spelt_bytes inner ++ 41 ∷ (spelt_bytes rest ++ back)))
    ∙ sym (append_assoc front w (40 ∷ (spelt_bytes inner ++ 41 ∷ (spelt_bytes rest ++ back)))) in
    let behind : Walked (at + length w + 1 + width inner) end ps (41 ∷ (spelt_bytes rest ++ back)) (41 ∷ (spelt_bytes new ++ back)) =
    walk_skip (41 ∷ []) (spelt_bytes rest ++ back) (spelt_bytes new ++ back) (at + length w + 1 + width inner) (at + length w + 1 + width inner + 1) end ps refl k in
    let walk = zone_walk c.bytes inner (front ++ (w ++ 40 ∷ [])) (41 ∷ (spelt_bytes rest ++ back)) put (41 ∷ (spelt_bytes new ++ back)) (at + length w + 1) (at + length w + 1 + width inner) end room ps here
    (longer front (w ++ 40 ∷ []) at (at + length w + 1) l n) (behind_byte c.bytes (front ++ w) (spelt_bytes inner ++ 41 ∷ (spelt_bytes rest ++ back)) 40 (at + length w) (at + length w + 1) paren (longer front w at (at + length w) l refl) refl refl)
    g h refl behind in
    subst (λ qs. Walked at end qs ((w ++ 40 ∷ (spelt_bytes inner ++ 41 ∷ spelt_bytes rest)) ++ back) ((w ++ 40 ∷ (spelt_bytes (put_rings rings (drop_fills inner)) ++ 41 ∷ spelt_bytes new)) ++ back)) (sym a)
    (walk_by ((w ++ 40 ∷ (spelt_bytes inner ++ 41 ∷ spelt_bytes rest)) ++ back) ((w ++ 40 ∷ (spelt_bytes (put_rings rings (drop_fills inner)) ++ 41 ∷ spelt_bytes new)) ++ back)
    ((w ++ 40 ∷ []) ++ (spelt_bytes inner ++ 41 ∷ (spelt_bytes rest ++ back))) ((w ++ 40 ∷ []) ++ (bytes_with put (drop_fills inner) ++ 41 ∷ (spelt_bytes new ++ back))) at end
    (map (old_fill c.bytes) (spans_among c.bytes (placed (at + length w + 1) inner)) ++ tail_piece c.bytes (at + length w + 1 + width inner) put ∷ ps)
    (opened (spelt_bytes inner) (spelt_bytes rest)) (ap (λ y. (w ++ 40 ∷ (y ++ 41 ∷ spelt_bytes new)) ++ back) r ∙ opened (bytes_with put (drop_fills inner)) (spelt_bytes new))
    (walk_skip (w ++ 40 ∷ []) (spelt_bytes inner ++ 41 ∷ (spelt_bytes rest ++ back)) (bytes_with put (drop_fills inner) ++ 41 ∷ (spelt_bytes new ++ back)) at (at + length w + 1) end
    (map (old_fill c.bytes) (spans_among c.bytes (placed (at + length w + 1) inner)) ++ tail_piece c.bytes (at + length w + 1 + width inner) put ∷ ps) n walk))

-- a zone is filled
zone_filled : (c : Context) (b : boards.Board) (traced : List Traced) (z : ℕ) (w : List ℕ) (inner rest new : Spelling) (front back : List ℕ) (at end room : ℕ) (ps : List Piece)
    → c.bytes ≡ front ++ ((w ++ 40 ∷ (spelt_bytes inner ++ 41 ∷ spelt_bytes rest)) ++ back) → length front ≡ at → IsTextSpelling room inner
    → forest_shape c.bytes (placed (at + length w + 1) inner) ≡ contents inner → Walked (at + length w + 1 + width inner + 1) end ps (spelt_bytes rest ++ back) (spelt_bytes new ++ back)
    → Walked at end
    (zone_pieces c.bytes (zone_of c (list_item (at + length w) (at + length w + 1 + width inner + 1) (placed (at + length w + 1) inner))).spans
    (rings_text b traced z (zone_of c (list_item (at + length w) (at + length w + 1 + width inner + 1) (placed (at + length w + 1) inner)))) ++ ps)
    ((w ++ 40 ∷ (spelt_bytes inner ++ 41 ∷ spelt_bytes rest)) ++ back)
    ((w ++ 40 ∷ (spelt_bytes (put_rings (rings_of b traced z (zone_of c (list_item (at + length w) (at + length w + 1 + width inner + 1) (placed (at + length w + 1) inner)))) (drop_fills inner)) ++ 41 ∷ spelt_bytes new)) ++ back)
zone_filled c b traced z w inner rest new front back at end room ps e l g h k =
    let item = list_item (at + length w) (at + length w + 1 + width inner + 1) (placed (at + length w + 1) inner) in
    let put : List ℕ = rings_text b traced z (zone_of c (list_item (at + length w) (at + length w + 1 + width inner + 1) (placed (at + length w + 1) inner))) in
    let rings : List Ring = rings_of b traced z (zone_of c (list_item (at + length w) (at + length w + 1 + width inner + 1) (placed (at + length w + 1) inner))) in
    filled c w inner rest new front back at end room ps item.from (at + length w + 1 + width inner + 1) put rings
    (zone_pieces c.bytes (zone_of c (list_item (at + length w) (at + length w + 1 + width inner + 1) (placed (at + length w + 1) inner))).spans put ++ ps)
    (zone_piece_list c.bytes c (list_item (at + length w) (at + length w + 1 + width inner + 1) (placed (at + length w + 1) inner)) put (at + length w + 1 + width inner) ps refl (omega arith))
    (put_bytes rings (drop_fills inner) ∙ ap (λ y. bytes_with y (drop_fills inner)) (rings_written b traced z (zone_of c (list_item (at + length w) (at + length w + 1 + width inner + 1) (placed (at + length w + 1) inner)))))
    e l g h k

ends : (n end : ℕ) → n ≤ end → ArePiecesInOrder n end []
unfolding ArePiecesInOrder
ends n end l = l

nothing : (n : ℕ) (xs : List ℕ) → replaced n [] xs ≡ xs
unfolding replaced
nothing n xs = refl

root_walk : (c : Context) (b : boards.Board) (traced : List Traced) (s : Spelling) (front back : List ℕ) (at stop end room z : ℕ)
    → c.bytes ≡ front ++ (spelt_bytes s ++ back) → length front ≡ at → IsTextSpelling room s → forest_shape c.bytes (placed at s) ≡ contents s → at + width s ≡ stop → stop ≤ end
    → Walked at end (pieces_from c.bytes b traced z (zones_among c (filter is_list (items_of (placed at s))))) (spelt_bytes s ++ back)
    (spelt_bytes (refill (plan_by b traced z (zones_given c (filter is_list (items_of (placed at s))))) s) ++ back)
root_walk c b traced (Ends w) front back at stop end room z e l g h k m = record { order = ends at end (omega (arith, k, m)); made = nothing at (w ++ back) }
root_walk c b traced (Named w t rest) front back at stop end room z e l g h k m =
    let lx : at + length (w ++ t) ≡ at + length w + length t = omega (arith, length-append w t) in
    let f : c.bytes ≡ front ++ ((w ++ t) ++ (spelt_bytes rest ++ back)) = e ∙ ap (λ y. front ++ y) (three w t (spelt_bytes rest) back) in
    let lists = filter is_list (items_of (placed (at + length w + length t) rest)) in
    walk_by ((w ++ (t ++ spelt_bytes rest)) ++ back) ((w ++ (t ++ spelt_bytes (refill (plan_by b traced z (zones_given c lists)) rest))) ++ back) ((w ++ t) ++ (spelt_bytes rest ++ back))
    ((w ++ t) ++ (spelt_bytes (refill (plan_by b traced z (zones_given c lists)) rest) ++ back)) at end (pieces_from c.bytes b traced z (zones_among c lists))
    (three w t (spelt_bytes rest) back) (three w t (spelt_bytes (refill (plan_by b traced z (zones_given c lists)) rest)) back)
    (walk_skip (w ++ t) (spelt_bytes rest ++ back) (spelt_bytes (refill (plan_by b traced z (zones_given c lists)) rest) ++ back) at (at + length w + length t) end (pieces_from c.bytes b traced z (zones_among c lists)) lx
    (root_walk c b traced rest (front ++ (w ++ t)) back (at + length w + length t) stop end room z (grown c.bytes front (w ++ t) (spelt_bytes rest ++ back) f)
    (longer front (w ++ t) at (at + length w + length t) l lx) g.4 (rest_bare h) (omega (arith, k)) m))
root_walk c b traced (Strung w t rest) front back at stop end room z e l g h k m =
    let lx : at + length (w ++ 34 ∷ (t ++ 34 ∷ [])) ≡ at + length w + (1 + (length t + 1)) = omega (arith, length-sides 34 34 w t) in
    let f : c.bytes ≡ front ++ ((w ++ 34 ∷ (t ++ 34 ∷ [])) ++ (spelt_bytes rest ++ back)) = e ∙ ap (λ y. front ++ y) (sides 34 34 w t (spelt_bytes rest) back) in
    let lists = filter is_list (items_of (placed (at + length w + (1 + (length t + 1))) rest)) in
    walk_by ((w ++ 34 ∷ (t ++ 34 ∷ spelt_bytes rest)) ++ back) ((w ++ 34 ∷ (t ++ 34 ∷ spelt_bytes (refill (plan_by b traced z (zones_given c lists)) rest))) ++ back)
    ((w ++ 34 ∷ (t ++ 34 ∷ [])) ++ (spelt_bytes rest ++ back)) ((w ++ 34 ∷ (t ++ 34 ∷ [])) ++ (spelt_bytes (refill (plan_by b traced z (zones_given c lists)) rest) ++ back)) at end
    (pieces_from c.bytes b traced z (zones_among c lists))
    (sides 34 34 w t (spelt_bytes rest) back) (sides 34 34 w t (spelt_bytes (refill (plan_by b traced z (zones_given c lists)) rest)) back)
    (walk_skip (w ++ 34 ∷ (t ++ 34 ∷ [])) (spelt_bytes rest ++ back) (spelt_bytes (refill (plan_by b traced z (zones_given c lists)) rest) ++ back) at (at + length w + (1 + (length t + 1))) end
    (pieces_from c.bytes b traced z (zones_among c lists)) lx
    (root_walk c b traced rest (front ++ (w ++ 34 ∷ (t ++ 34 ∷ []))) back (at + length w + (1 + (length t + 1))) stop end room z (grown c.bytes front (w ++ 34 ∷ (t ++ 34 ∷ [])) (spelt_bytes rest ++ back) f)
    (longer front (w ++ 34 ∷ (t ++ 34 ∷ [])) at (at + length w + (1 + (length t + 1))) l lx) g.2 (rest_quoted h) (omega (arith, k)) m))
root_walk c b traced (Nested w inner rest) front back at stop end room z e l g h k m =
    let lx : at + length (w ++ 40 ∷ (spelt_bytes inner ++ 41 ∷ [])) ≡ at + length w + 1 + width inner + 1 = omega (arith, length-sides 40 41 w (spelt_bytes inner), length-bytes inner) in
    let f : c.bytes ≡ front ++ ((w ++ 40 ∷ (spelt_bytes inner ++ 41 ∷ [])) ++ (spelt_bytes rest ++ back)) = e ∙ ap (λ y. front ++ y) (sides 40 41 w (spelt_bytes inner) (spelt_bytes rest) back) in
    let fg = grown c.bytes front (w ++ 40 ∷ (spelt_bytes inner ++ 41 ∷ [])) (spelt_bytes rest ++ back) f in
    let lg = longer front (w ++ 40 ∷ (spelt_bytes inner ++ 41 ∷ [])) at (at + length w + 1 + width inner + 1) l lx in
    elim (as_zone c (list_item (at + length w) (at + length w + 1 + width inner + 1) (placed (at + length w + 1) inner))
    (on_board c.bytes (list_item (at + length w) (at + length w + 1 + width inner + 1) (placed (at + length w + 1) inner)))) [
      | inl none ↦ subst (λ (o : Option zones.Zone). Walked at end
          (pieces_from c.bytes b traced z (cons_option o (zones_among c (filter is_list (items_of (placed (at + length w + 1 + width inner + 1) rest))))))
          ((w ++ 40 ∷ (spelt_bytes inner ++ 41 ∷ spelt_bytes rest)) ++ back)
          (spelt_bytes (refill (plan_by b traced z (o ∷ zones_given c (filter is_list (items_of (placed (at + length w + 1 + width inner + 1) rest))))) (Nested w inner rest)) ++ back)) (sym none)
          (list_passed w inner rest (refill (plan_by b traced z (zones_given c (filter is_list (items_of (placed (at + length w + 1 + width inner + 1) rest))))) rest) back at
          (at + length w + 1 + width inner + 1) end
          (pieces_from c.bytes b traced z (zones_among c (filter is_list (items_of (placed (at + length w + 1 + width inner + 1) rest))))) lx
          (root_walk c b traced rest (front ++ (w ++ 40 ∷ (spelt_bytes inner ++ 41 ∷ []))) back (at + length w + 1 + width inner + 1) stop end room z fg lg g.3 (rest_inside h) (omega (arith, k)) m))
      | inr some ↦ subst (λ (o : Option zones.Zone). Walked at end
          (pieces_from c.bytes b traced z (cons_option o (zones_among c (filter is_list (items_of (placed (at + length w + 1 + width inner + 1) rest))))))
          ((w ++ 40 ∷ (spelt_bytes inner ++ 41 ∷ spelt_bytes rest)) ++ back)
          (spelt_bytes (refill (plan_by b traced z (o ∷ zones_given c (filter is_list (items_of (placed (at + length w + 1 + width inner + 1) rest))))) (Nested w inner rest)) ++ back)) (sym some)
          (zone_filled c b traced z w inner rest (refill (plan_by b traced (suc z) (zones_given c (filter is_list (items_of (placed (at + length w + 1 + width inner + 1) rest))))) rest) front back at end (room - 1)
          (pieces_from c.bytes b traced (suc z) (zones_among c (filter is_list (items_of (placed (at + length w + 1 + width inner + 1) rest))))) e l g.2 (inner_inside h)
          (root_walk c b traced rest (front ++ (w ++ 40 ∷ (spelt_bytes inner ++ 41 ∷ []))) back (at + length w + 1 + width inner + 1) stop end room (suc z) fg lg g.3 (rest_inside h) (omega (arith, k)) m))
    ]

-- ---- the whole text

in_no_footprint : (c : Context) (footprint item : Item) → zone_from c item (thing_of c.bytes (record { item = item; site = InFootprint footprint })) ≡ None
unfolding thing_of
in_no_footprint c footprint item =
    pick (is_headed c.bytes (codes "pad") item) (is_headed c.bytes (codes "zone") item) (head_begins c.bytes (codes "fp_") item || is_headed c.bytes (codes "image") item)
  where
    pick : (x y w : Bool) → zone_from c item (if x then Pad footprint else (if y then FootprintZone else (if w then FootprintDrawing else Other))) ≡ None
    pick true y w = refl
    pick false true w = refl
    pick false false true = refl
    pick false false false = refl

abbrev zone_of_placed : Context → Placed → Option zones.Zone
zone_of_placed c p = zone_from c p.item (thing_of c.bytes p)

footprint_items : (c : Context) (footprint : Item) (items : List Item) → filter_map (zone_of_placed c) (map (λ i. record { item = i; site = InFootprint footprint }) items) ≡ []
footprint_items c footprint [] = refl
footprint_items c footprint (i ∷ items) =
    ap (λ o. cons_option o (filter_map (zone_of_placed c) (map (λ j. record { item = j; site = InFootprint footprint }) items))) (in_no_footprint c footprint i) ∙ footprint_items c footprint items

footprint_none : (c : Context) (item : Item) → filter_map (zone_of_placed c) (in_footprint c.bytes item) ≡ []
footprint_none c item = pick (is_headed c.bytes (codes "footprint") item)
  where
    pick : (b : Bool) → filter_map (zone_of_placed c) (cond b (map (λ i. record { item = i; site = InFootprint item }) (lists_of item)) []) ≡ []
    pick true = footprint_items c item (lists_of item)
    pick false = refl

own_zones : (c : Context) (items : List Item) → filter_map (zone_of_placed c) (flat_map (with_own c.bytes) items) ≡ zones_among c items
unfolding thing_of
own_zones c [] = refl
own_zones c (i ∷ items) =
    let more : filter_map (zone_of_placed c) (in_footprint c.bytes i ++ flat_map (with_own c.bytes) items) ≡ zones_among c items =
    filter_map-append (zone_of_placed c) (in_footprint c.bytes i) (flat_map (with_own c.bytes) items)
    ∙ ap (λ xs. xs ++ filter_map (zone_of_placed c) (flat_map (with_own c.bytes) items)) (footprint_none c i) ∙ own_zones c items in
    ap (cons_option (zone_from c i (on_board c.bytes i))) more

board_zones : (c : Context) (root : Item) → all_of zone_from c (items_of_board c.bytes root) ≡ zones_among c (lists_of root)
unfolding items_of_board thing_of
board_zones c root = own_zones c (lists_of root)

-- the plan of the board that a text spells
abbrev pub plan_of : List ℕ → Item → Rules → List Traced → Plan
plan_of text root rules traced = plan_by (board_of text root rules) traced 0 (zones_given (context_of text root) (lists_of root))

written_by : (c : Context) (b : boards.Board) (traced : List Traced) (root : Item) (w v : List ℕ) (s : Spelling) → b.zones ≡ zones_among c (lists_of root) → root.inner ≡ placed (0 + length w + 1) s
    → c.bytes ≡ spelt_bytes (Nested w s (Ends v)) → IsTextSpelling 63 s → forest_shape c.bytes (placed (0 + length w + 1) s) ≡ contents s
    → replaced 0 (pieces_from c.bytes b traced 0 b.zones) c.bytes ≡ spelt_bytes (Nested w (refill (plan_by b traced 0 (zones_given c (lists_of root))) s) (Ends v))
written_by c b traced root w v s zs inner e g h =
    let plan = plan_by b traced 0 (zones_given c (lists_of root)) in
    let same : lists_of root ≡ filter is_list (items_of (placed (0 + length w + 1) s)) = ap (λ f. filter is_list (items_of f)) inner in
    let here : c.bytes ≡ (w ++ 40 ∷ []) ++ (spelt_bytes s ++ 41 ∷ v) = e ∙ sym (append_assoc w (40 ∷ []) (spelt_bytes s ++ 41 ∷ v)) in
    let n : 0 + length (w ++ 40 ∷ []) ≡ 0 + length w + 1 = omega (arith, length-append w (40 ∷ [])) in
    let walk : Walked (0 + length w + 1) (0 + length w + 1 + width s) (pieces_from c.bytes b traced 0 (zones_among c (filter is_list (items_of (placed (0 + length w + 1) s))))) (spelt_bytes s ++ 41 ∷ v)
    (spelt_bytes (refill (plan_by b traced 0 (zones_given c (filter is_list (items_of (placed (0 + length w + 1) s))))) s) ++ 41 ∷ v) =
    root_walk c b traced s (w ++ 40 ∷ []) (41 ∷ v) (0 + length w + 1) (0 + length w + 1 + width s) (0 + length w + 1 + width s) 63 0 here (omega (arith, n)) g h refl (omega arith) in
    let whole : Walked 0 (0 + length w + 1 + width s) (pieces_from c.bytes b traced 0 (zones_among c (filter is_list (items_of (placed (0 + length w + 1) s))))) ((w ++ 40 ∷ []) ++ (spelt_bytes s ++ 41 ∷ v))
    ((w ++ 40 ∷ []) ++ (spelt_bytes (refill (plan_by b traced 0 (zones_given c (filter is_list (items_of (placed (0 + length w + 1) s))))) s) ++ 41 ∷ v)) =
    walk_skip (w ++ 40 ∷ []) (spelt_bytes s ++ 41 ∷ v) (spelt_bytes (refill (plan_by b traced 0 (zones_given c (filter is_list (items_of (placed (0 + length w + 1) s))))) s) ++ 41 ∷ v) 0 (0 + length w + 1)
    (0 + length w + 1 + width s) (pieces_from c.bytes b traced 0 (zones_among c (filter is_list (items_of (placed (0 + length w + 1) s))))) n walk in
    ap (λ y. replaced 0 (pieces_from c.bytes b traced 0 y) c.bytes) (zs ∙ ap (zones_among c) same)
    ∙ ap (replaced 0 (pieces_from c.bytes b traced 0 (zones_among c (filter is_list (items_of (placed (0 + length w + 1) s)))))) here
    ∙ whole.made
    ∙ append_assoc w (40 ∷ []) (spelt_bytes (refill (plan_by b traced 0 (zones_given c (filter is_list (items_of (placed (0 + length w + 1) s))))) s) ++ 41 ∷ v)
    ∙ ap (λ y. w ++ 40 ∷ (spelt_bytes (refill (plan_by b traced 0 (zones_given c y)) s) ++ 41 ∷ v)) (sym same)

-- where the list of the board is spelt so, the text with its rings is that of the refilled spelling
pub written : (text : List ℕ) (root : Item) (rules : Rules) (traced : List Traced) (w v : List ℕ) (s : Spelling) → root.inner ≡ placed (0 + length w + 1) s
    → text ≡ spelt_bytes (Nested w s (Ends v)) → IsTextSpelling 63 s → forest_shape text (placed (0 + length w + 1) s) ≡ contents s
    → text_with_rings text (board_of text root rules) traced ≡ spelt_bytes (Nested w (refill (plan_of text root rules traced) s) (Ends v))
unfolding text_with_rings board_pieces board_of context_of
written text root rules traced w v s inner e g h = written_by (context_of text root) (board_of text root rules) traced root w v s (board_zones (context_of text root) root) inner e g h
