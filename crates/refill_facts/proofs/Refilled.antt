-- What is written of a board, filled again, is the same bytes.
use Rattle.std.proofs.Common.{◌≡◌, ◌∙◌, refl, ap, sym, subst, ℕ, zero, suc, ◌+◌, ◌-◌, ◌⊎◌, inl, inr, Bool, true, false, ◌&&◌, ◌||◌, not, ◌==◌, cond, List, [], ◌∷◌, ◌++◌, map, length, get_or, codes, arith, append-nil, slice_range, Option, None, Some, option_map}
use Rattle.std.specs.Prelude.{filter, flat_map, if◌then◌else◌}
use Rattle.std.specs.List.{All}
use Rattle.std.specs.Str.{IsUtf8}
use Rattle.std.proofs.lemmas.Bool.{and_parts, false≢true, true≢false}
use Rattle.std.proofs.lemmas.Bool.Decides.{nat_tests}
use Rattle.std.proofs.lemmas.Str.{IsUtf8-nil}
use Rattle.std.proofs.lemmas.List.{take_all}
use Rattle.grid_num.specs.declared.Point.{Point}
use Rattle.classes.specs.Classes.{IsOneOf}
use Rattle.sexpr_text.specs.declared.NodeKind.TheVariants as kinds
use Rattle.sexpr_text.specs.Grammar.{Forest}
use Rattle.sexpr_text.specs.Grammar.Forest.{Nil, Group}
use Rattle.sexpr_text.specs.Items.{Item, items_of, is_headed}
use Rattle.sexpr_text.specs.Trees.{IsRoot}
use Rattle.board_text.specs.Lists.{is_list, lists_of}
use Rattle.board_text.specs.Fields.{has_list, head_begins}
use Rattle.board_text.specs.Items.{Context, context_of}
use Rattle.board_text.specs.Layers.{copper_layers}
use Rattle.board_text.specs.Things.{Thing, Layers, Net, Track, CurvedTrack, Via, Footprint, RuleArea, Zone, Drawing, Other, on_board, is_picture}
use Rattle.board_language.specs.declared.board.Zone as zones
use Rattle.board_language.specs.declared.board.Rules.{Rules}
use Rattle.board_language.specs.Clearances.{AreSoundRules}
use Rattle.board_language.specs.Board as boards
use Rattle.board_language.specs.Zones.{is_fill, is_read_zone, zone_of}
use Rattle.board_language.specs.Reading.{zone_from, board_of, IsAccepted}
use Rattle.board_facts.proofs.Accepted.{accepted}
use Rattle.fill_rules.specs.Tasks.{Task, layers_below, ranked}
use Rattle.fill_rules.specs.Nodes.{rank_in}
use Rattle.fill_rules.specs.Made.{Made}
use Rattle.fills.specs.Fills.{AreBoardFills}
use Rattle.rings.specs.Rings.{Traced, IsRingInRange, not_traced}
use Rattle.output_rules.specs.Traced.{AreTracedOf}
use Rattle.output_rules.specs.Output.{traced_of, layer_name, text_with_rings}
use Rattle.text_shapes.specs.Shapes.{forest_shape}
use Rattle.text_shapes.specs.Seen.{is_named}
use Rattle.text_shapes.specs.Spellings.{Spelling, spelt_bytes, width, contents, placed, IsTextSpelling}
use Rattle.text_shapes.specs.Spellings.Spelling.{Ends, Named, Strung, Nested}
use Rattle.text_shapes.proofs.Seen.{heads_seen}
use Rattle.text_shapes.proofs.Spellings.{Spells, spells, length-bytes}
use Rattle.text_shapes.proofs.Spelled.{spell, spell_bytes, spell_contents, spell_placed, spell_good, length-piece}
use Rattle.text_shapes.proofs.Utf8.{AreUtf8, utf8_parts, utf8_whole, contents_utf8, AllUtf8}
use Rattle.same_boards.specs.Contents.{board_contents, HaveSameContents, Each}
use Rattle.same_boards.specs.Alike.{unplaced_zone, AreAlike}
use Rattle.same_boards.proofs.Each.{each_maps}
use Rattle.same_boards.proofs.Roots.{Listed, lists_each, context_same}
use Rattle.same_boards.proofs.Boards.{listed_zone, same_board, same_accepted}
use Rattle.same_boards.proofs.Fills.{same_ranks, same_fills}
use Rattle.refill_facts.specs.Apart.{is_word_at, are_apart, AreFillsApart}
use Rattle.refill_facts.specs.Laws.{IsSameAgain, RefilledLaw}
use Rattle.refill_facts.proofs.Names.{every_at, layers_utf8}
use Rattle.refill_facts.proofs.Refill.{Ring, Plan, is_bare, AreApart, Fits, AreWritable, PlanWritable, refill, refill_contents, refill_twice, refill_good, refill_utf8}
use Rattle.refill_facts.proofs.Writing.{fill_is, rest_bare, rest_quoted, rest_inside, inner_inside, rings_of, plan_by, zones_given, plan_of, written}

-- ---- which lists are zones that are read

abbrev is_zone_thing : Thing → Bool
is_zone_thing Zone = true
is_zone_thing t = false

zone_head : (l n t r v f z k d : Bool)
    → (if l then Layers else (if n then Net else (if t then Track else (if r then CurvedTrack else (if v then Via else (if f then Footprint else (if z then cond k RuleArea Zone else cond d Drawing Other))))))) ≡ Zone
    → z ≡ true
zone_head true n t r v f z k d e = absurd (false≢true (ap is_zone_thing e))
zone_head false true t r v f z k d e = absurd (false≢true (ap is_zone_thing e))
zone_head false false true r v f z k d e = absurd (false≢true (ap is_zone_thing e))
zone_head false false false true v f z k d e = absurd (false≢true (ap is_zone_thing e))
zone_head false false false false true f z k d e = absurd (false≢true (ap is_zone_thing e))
zone_head false false false false false true z k d e = absurd (false≢true (ap is_zone_thing e))
zone_head false false false false false false true k d e = refl
zone_head false false false false false false false k true e = absurd (false≢true (ap is_zone_thing e))
zone_head false false false false false false false k false e = absurd (false≢true (ap is_zone_thing e))

zone_headed : (text : List ℕ) (i : Item) → on_board text i ≡ Zone → is_headed text (codes "zone") i ≡ true
zone_headed text i e =
    zone_head (is_headed text (codes "layers") i) (is_headed text (codes "net") i) (is_headed text (codes "segment") i) (is_headed text (codes "arc") i) (is_headed text (codes "via") i)
    (is_headed text (codes "footprint") i) (is_headed text (codes "zone") i) (has_list text (codes "keepout") i) (head_begins text (codes "gr_") i || is_picture text i) e

is_zone : (c : Context) (item : Item) (thing : Thing) → (zone_from c item thing ≡ None) ⊎ ((zone_from c item thing ≡ Some (zone_of c item)) × (thing ≡ Zone) × (is_read_zone c item ≡ true))
is_zone c item Zone = pick (is_read_zone c item) refl
  where
    pick : (b : Bool) → is_read_zone c item ≡ b
        → (cond b (Some (zone_of c item)) None ≡ None) ⊎ ((cond b (Some (zone_of c item)) None ≡ Some (zone_of c item)) × (Zone ≡ Zone) × (is_read_zone c item ≡ true))
    pick true e = inr (refl, refl, e)
    pick false e = inl refl
is_zone c item _ = inl refl

-- ---- no word directly behind an old fill

same_number : (n : ℕ) → (n + 0 == n) ≡ true
same_number n = grind (arith, nat_tests)

bare_word : (rest : Spelling) (to : ℕ) → is_bare rest ≡ true → is_word_at to (placed to rest) ≡ true
bare_word (Ends w) to h = absurd (false≢true h)
bare_word (Named [] t rest) to h = same_number to
bare_word (Named (c ∷ w) t rest) to h = absurd (false≢true h)
bare_word (Strung w t rest) to h = absurd (false≢true h)
bare_word (Nested w inner rest) to h = absurd (false≢true h)

abbrev list_item : ℕ → ℕ → Forest → Item
list_item from to inner = record { kind = kinds.List; from = from; to = to; inner = inner }

apart_from : (text : List ℕ) (s : Spelling) (at : ℕ) → forest_shape text (placed at s) ≡ contents s → are_apart text (placed at s) ≡ true → AreApart s
apart_from text (Ends w) at h a = tt
apart_from text (Named w t rest) at h a = apart_from text rest (at + length w + length t) (rest_bare h) a
apart_from text (Strung w t rest) at h a = apart_from text rest (at + length w + (1 + (length t + 1))) (rest_quoted h) a
apart_from text (Nested w inner rest) at h a =
    let to = at + length w + 1 + width inner + 1 in
    let p = and_parts _ (are_apart text (placed (at + length w + 1 + width inner + 1) rest)) a in
    let same = fill_is text (at + length w) (at + length w + 1 + width inner + 1) (placed (at + length w + 1) inner) (contents inner) (inner_inside h) in (
      λ old. by_bare (is_bare rest) refl (is_fill text (list_item (at + length w) (at + length w + 1 + width inner + 1) (placed (at + length w + 1) inner)))
          (is_word_at (at + length w + 1 + width inner + 1) (placed (at + length w + 1 + width inner + 1) rest)) (same ∙ old) p.0 (bare_word rest (at + length w + 1 + width inner + 1)),
      apart_from text rest (at + length w + 1 + width inner + 1) (rest_inside h) p.1,
    )
  where
    by_bare : (b : Bool) → is_bare rest ≡ b → (f g : Bool) → f ≡ true → not (f && g) ≡ true → (is_bare rest ≡ true → g ≡ true) → is_bare rest ≡ false
    by_bare false e f g x y k = e
    by_bare true e f g x y k = absurd (false≢true (sym (ap not (ap (λ z. z && g) x ∙ k e)) ∙ y))

-- ---- the plan fits

abbrev AreZonesApart : Context → List Item → Type 0
AreZonesApart c items = (zone : Item) → IsOneOf zone items → on_board c.bytes zone ≡ Zone → is_read_zone c zone ≡ true → are_apart c.bytes zone.inner ≡ true

behind_apart : (c : Context) (item : Item) (items : List Item) → AreZonesApart c (item ∷ items) → AreZonesApart c items
unfolding IsOneOf
behind_apart c item items h zone i t r = h zone (inr i) t r

first_apart : (c : Context) (item : Item) (items : List Item) → AreZonesApart c (item ∷ items) → on_board c.bytes item ≡ Zone → is_read_zone c item ≡ true → are_apart c.bytes item.inner ≡ true
unfolding IsOneOf
first_apart c item items h t r = h item (inl refl) t r

fits : (c : Context) (b : boards.Board) (traced : List Traced) (s : Spelling) (at z : ℕ) → forest_shape c.bytes (placed at s) ≡ contents s → AreZonesApart c (filter is_list (items_of (placed at s)))
    → Fits (plan_by b traced z (zones_given c (filter is_list (items_of (placed at s))))) s
fits c b traced (Ends w) at z h a = tt
fits c b traced (Named w t rest) at z h a = fits c b traced rest (at + length w + length t) z (rest_bare h) a
fits c b traced (Strung w t rest) at z h a = fits c b traced rest (at + length w + (1 + (length t + 1))) z (rest_quoted h) a
fits c b traced (Nested w inner rest) at z h a =
    let more = behind_apart c (list_item (at + length w) (at + length w + 1 + width inner + 1) (placed (at + length w + 1) inner))
    (filter is_list (items_of (placed (at + length w + 1 + width inner + 1) rest))) a in
    elim (is_zone c (list_item (at + length w) (at + length w + 1 + width inner + 1) (placed (at + length w + 1) inner))
    (on_board c.bytes (list_item (at + length w) (at + length w + 1 + width inner + 1) (placed (at + length w + 1) inner)))) [
      | inl none ↦ subst (λ (o : Option zones.Zone). Fits (plan_by b traced z (o ∷ zones_given c (filter is_list (items_of (placed (at + length w + 1 + width inner + 1) rest))))) (Nested w inner rest)) (sym none)
          (tt, fits c b traced rest (at + length w + 1 + width inner + 1) z (rest_inside h) more)
      | inr some ↦ subst (λ (o : Option zones.Zone). Fits (plan_by b traced z (o ∷ zones_given c (filter is_list (items_of (placed (at + length w + 1 + width inner + 1) rest))))) (Nested w inner rest)) (sym some.0) (
        (
          sym (heads_seen c.bytes (codes "zone") (list_item (at + length w) (at + length w + 1 + width inner + 1) (placed (at + length w + 1) inner)) ∙ ap (is_named (codes "zone")) (inner_inside h))
              ∙ zone_headed c.bytes (list_item (at + length w) (at + length w + 1 + width inner + 1) (placed (at + length w + 1) inner)) some.1,
          apart_from c.bytes inner (at + length w + 1) (inner_inside h)
              (first_apart c (list_item (at + length w) (at + length w + 1 + width inner + 1) (placed (at + length w + 1) inner))
              (filter is_list (items_of (placed (at + length w + 1 + width inner + 1) rest))) a some.1 some.2),
        ),
        fits c b traced rest (at + length w + 1 + width inner + 1) (suc z) (rest_inside h) more,
      )
    ]

-- ---- its rings can be written

near_there : (traced : List Traced) → All (λ (t : Traced). All IsRingInRange t.rings) traced → (i : ℕ) → All IsRingInRange (get_or traced i not_traced).rings
near_there [] h i = λ k d l. absurd (omega (arith, l))
near_there (t ∷ traced) h zero = h 0 t (omega arith)
near_there (t ∷ traced) h (suc i) = near_there traced (λ k d l. h (suc k) d (omega (arith, l))) i

both_writable : (xs ys : List Ring) → AreWritable xs → AreWritable ys → AreWritable (xs ++ ys)
both_writable [] ys h k = k
both_writable (x ∷ xs) ys h k = (h.0, both_writable xs ys h.1 k)

layer_writable : (name : List ℕ) (rings : List (List Point)) → IsUtf8 name → All IsRingInRange rings → AreWritable (map (λ (corners : List Point). record { layer = name; corners = corners }) rings)
layer_writable name [] u h = tt
layer_writable name (r ∷ rings) u h = (record { near = h 0 r (omega arith); name = u }, layer_writable name rings u (λ k d l. h (suc k) d (omega (arith, l))))

rings_writable : (b : boards.Board) (traced : List Traced) (z : ℕ) → ((l : ℕ) → IsUtf8 (layer_name b l)) → All (λ (t : Traced). All IsRingInRange t.rings) traced → (ls : List ℕ)
    → AreWritable (flat_map (λ (l : ℕ). map (λ (corners : List Point). record { layer = layer_name b l; corners = corners }) (traced_of b traced (record { zone = z; layer = l })).rings) ls)
rings_writable b traced z u h [] = tt
rings_writable b traced z u h (l ∷ ls) =
    both_writable (map (λ (corners : List Point). record { layer = layer_name b l; corners = corners }) (traced_of b traced (record { zone = z; layer = l })).rings)
    (flat_map (λ (l : ℕ). map (λ (corners : List Point). record { layer = layer_name b l; corners = corners }) (traced_of b traced (record { zone = z; layer = l })).rings) ls)
    (layer_writable (layer_name b l) (traced_of b traced (record { zone = z; layer = l })).rings (u l) (near_there traced h (rank_in (record { zone = z; layer = l }) (ranked b))))
    (rings_writable b traced z u h ls)

plan_writable : (b : boards.Board) (traced : List Traced) → ((l : ℕ) → IsUtf8 (layer_name b l)) → All (λ (t : Traced). All IsRingInRange t.rings) traced → (z : ℕ) (os : List (Option zones.Zone))
    → PlanWritable (plan_by b traced z os)
plan_writable b traced u h z [] = tt
plan_writable b traced u h z (None ∷ os) = plan_writable b traced u h z os
plan_writable b traced u h z (Some zone ∷ os) = (rings_writable b traced z u h (layers_below zone.layers (length b.layers)), plan_writable b traced u h (suc z) os)

-- ---- boards that are alike have one plan

rings_by : List (List ℕ) → List Task → List Traced → ℕ → ℕ → List Ring
rings_by layers ts traced z ls =
    flat_map (λ (l : ℕ). map (λ (corners : List Point). record { layer = get_or layers l []; corners = corners }) (get_or traced (rank_in (record { zone = z; layer = l }) ts) not_traced).rings)
    (layers_below ls (length layers))

rings_same : (b d : boards.Board) (traced : List Traced) (z : ℕ) (y x : zones.Zone) → b.layers ≡ d.layers → ranked b ≡ ranked d → unplaced_zone y ≡ unplaced_zone x → rings_of b traced z y ≡ rings_of d traced z x
unfolding rings_by
rings_same b d traced z y x e f g =
    ap (λ layers. rings_by layers (ranked b) traced z y.layers) e ∙ ap (λ ts. rings_by d.layers ts traced z y.layers) f ∙ ap (λ (u : zones.Zone). rings_by d.layers (ranked d) traced z u.layers) g

abbrev SameGiven : Option zones.Zone → Option zones.Zone → Type 0
SameGiven o p = option_map unplaced_zone o ≡ option_map unplaced_zone p

plan_same : (b d : boards.Board) (traced : List Traced) → b.layers ≡ d.layers → ranked b ≡ ranked d → (z : ℕ) (os ps : List (Option zones.Zone)) → Each SameGiven os ps → plan_by b traced z os ≡ plan_by d traced z ps
plan_same b d traced e f z [] [] h = refl
plan_same b d traced e f z [] (p ∷ ps) h = absurd h
plan_same b d traced e f z (o ∷ os) [] h = absurd h
plan_same b d traced e f z (None ∷ os) (None ∷ ps) h = ap (λ y. None ∷ y) (plan_same b d traced e f z os ps h.1)
plan_same b d traced e f z (None ∷ os) (Some x ∷ ps) h = absurd (false≢true (ap Rattle.std.specs.Option.is_some h.0))
plan_same b d traced e f z (Some y ∷ os) (None ∷ ps) h = absurd (true≢false (ap Rattle.std.specs.Option.is_some h.0))
plan_same b d traced e f z (Some y ∷ os) (Some x ∷ ps) h =
    ap (λ rs. Some rs ∷ plan_by b traced (suc z) os) (rings_same b d traced z y x e f (Rattle.std.proofs.lemmas.Option.same_Some (unplaced_zone y) (unplaced_zone x) h.0))
    ∙ ap (λ more. Some (rings_of d traced z x) ∷ more) (plan_same b d traced e f (suc z) os ps h.1)

given_each : (c d : Context) (k : c.copper ≡ d.copper) (n : c.nets ≡ d.nets) (xs ys : List Item) → Each (Listed c.bytes d.bytes) xs ys → Each SameGiven (zones_given c xs) (zones_given d ys)
given_each c d k n xs ys h =
    each_maps (Listed c.bytes d.bytes) SameGiven (λ item. zone_from c item (on_board c.bytes item)) (λ item. zone_from d item (on_board d.bytes item)) (λ i j e. listed_zone c d k n i j e) xs ys h

plans_same : (text out : List ℕ) (root last : Item) (rules : Rules) (traced : List Traced) → HaveSameContents text root out last → plan_of text root rules traced ≡ plan_of out last rules traced
unfolding context_of
plans_same text out root last rules traced e =
    let a = same_board text out root last rules e in
    let s = context_same text out root last e in
    plan_same (board_of text root rules) (board_of out last rules) traced a.layers (same_ranks (board_of text root rules) (board_of out last rules) a) 0
    (zones_given (context_of text root) (lists_of root)) (zones_given (context_of out last) (lists_of last))
    (given_each (context_of text root) (context_of out last) s.copper s.nets (lists_of root) (lists_of last) (lists_each text out root last e))

-- ---- the text as a spelling

-- a text is spelt by what stands before its list, inside it, and behind it
record IsSpelt (text : List ℕ) (root : Item) : Type 0 where
  front : List ℕ
  inner : Spelling
  back : List ℕ
  is : text ≡ spelt_bytes (Nested front inner (Ends back))
  good : IsTextSpelling 64 (Nested front inner (Ends back))
  root_is : root.inner ≡ placed (0 + length front + 1) inner
  shaped : forest_shape text root.inner ≡ contents inner

all_of : (text : List ℕ) → slice_range text 0 (length text) ≡ text
all_of text = take_all (length text - 0) text (omega arith)

spelt : (text : List ℕ) (root : Item) → IsRoot text root → IsSpelt text root
spelt text root r =
    let i = r.spelt.items in
    let n : 0 + length (slice_range text 0 root.from) + 1 ≡ root.from + 1 = omega (arith, length-piece text 0 root.from i.0.order i.0.within, i.0.order) in
    record {
      front = slice_range text 0 root.from;
      inner = spell text (root.from + 1) (root.to - 1) root.inner;
      back = slice_range text root.to (length text);
      is = sym (spell_bytes text 64 0 (length text) (Group root.from root.to root.inner Nil) i ∙ all_of text);
      good = spell_good text 64 0 (length text) (Group root.from root.to root.inner Nil) i;
      root_is = sym (ap (λ m. placed m (spell text (root.from + 1) (root.to - 1) root.inner)) n ∙ spell_placed text 63 (root.from + 1) (root.to - 1) root.inner i.2);
      shaped = sym (spell_contents text (root.from + 1) (root.to - 1) root.inner);
    }

-- ---- the law

layer_names_utf8 : (text : List ℕ) (root : Item) (rules : Rules) → AllUtf8 (forest_shape text root.inner) → (l : ℕ) → IsUtf8 (layer_name (board_of text root rules) l)
unfolding board_of context_of
layer_names_utf8 text root rules u l = every_at IsUtf8 [] IsUtf8-nil (copper_layers text root) (layers_utf8 text root u) l

zones_apart : (text : List ℕ) (root : Item) → AreFillsApart text root → AreZonesApart (context_of text root) (lists_of root)
unfolding context_of
zones_apart text root h = h

fits_root : (text : List ℕ) (root : Item) (rules : Rules) (traced : List Traced) (p : IsSpelt text root) → AreFillsApart text root → Fits (plan_of text root rules traced) p.inner
unfolding context_of
fits_root text root rules traced p h =
    subst (λ f. Fits (plan_by (board_of text root rules) traced 0 (zones_given (context_of text root) (filter is_list (items_of f)))) p.inner) (sym p.root_is)
    (fits (context_of text root) (board_of text root rules) traced p.inner (0 + length p.front + 1) 0 (ap (forest_shape text) (sym p.root_is) ∙ p.shaped)
    (subst (λ f. AreZonesApart (context_of text root) (filter is_list (items_of f))) p.root_is (zones_apart text root h)))

-- the list of a spelling
list_of : List ℕ → Spelling → Item
list_of w s = record { kind = kinds.List; from = 0 + length w; to = 0 + length w + 1 + width s + 1; inner = placed (0 + length w + 1) s }

-- a text that is put together so spells that list
record IsMade (out : List ℕ) (w v : List ℕ) (s : Spelling) : Type 0 where
  is_root : IsRoot out (list_of w s)
  shaped : forest_shape out (placed (0 + length w + 1) s) ≡ contents s

put_together : (out w v : List ℕ) (s : Spelling) → out ≡ spelt_bytes (Nested w s (Ends v)) → IsTextSpelling 64 (Nested w s (Ends v)) → AreUtf8 (Nested w s (Ends v)) → IsMade out w v s
unfolding list_of
put_together out w v s e g u =
    let f : out ≡ spelt_bytes (Nested w s (Ends v)) ++ [] = e ∙ sym (append-nil (spelt_bytes (Nested w s (Ends v)))) in
    let n : 0 + width (Nested w s (Ends v)) ≡ length out = omega (arith, length-bytes (Nested w s (Ends v)), ap length e) in
    let h : Spells out 64 0 (length out) (Nested w s (Ends v)) = spells (Nested w s (Ends v)) out [] [] 64 0 (length out) f refl n g tt in
    record {
      is_root = record { list = refl; spelt = record { utf8 = subst IsUtf8 (sym f) (utf8_whole (Nested w s (Ends v)) 64 [] g u IsUtf8-nil); list = tt; items = h.items } };
      shaped = inner_inside h.shaped;
    }

module _ (text : List ℕ) (root : Item) (rules : Rules) (fills : List Made) (traced : List Traced) (r : IsRoot text root) (apart : AreFillsApart text root)
    (near : All (λ (t : Traced). All IsRingInRange t.rings) traced) (p : IsSpelt text root)
  where
    plan : Plan
    plan = plan_of text root rules traced

    utf8 : AreUtf8 (Nested p.front p.inner (Ends p.back))
    utf8 =
        (utf8_parts (Nested p.front p.inner (Ends p.back)) 64 [] p.good tt
        (subst IsUtf8 (p.is ∙ sym (append-nil (spelt_bytes (Nested p.front p.inner (Ends p.back))))) r.spelt.utf8)).0

    names : (l : ℕ) → IsUtf8 (layer_name (board_of text root rules) l)
    names l = layer_names_utf8 text root rules (subst AllUtf8 (sym p.shaped) (contents_utf8 p.inner utf8.0)) l

    plan_fits : Fits plan p.inner
    unfolding plan
    plan_fits = fits_root text root rules traced p apart

    can_write : PlanWritable plan
    unfolding plan
    can_write = plan_writable (board_of text root rules) traced names near 0 (zones_given (context_of text root) (lists_of root))

    out : List ℕ
    out = text_with_rings text (board_of text root rules) traced

    out_is : out ≡ spelt_bytes (Nested p.front (refill plan p.inner) (Ends p.back))
    unfolding out plan
    out_is =
        written text root rules traced p.front p.back p.inner p.root_is p.is p.good.2 (ap (forest_shape text) (sym p.root_is) ∙ p.shaped)

    good : IsTextSpelling 64 (Nested p.front (refill plan p.inner) (Ends p.back))
    good = (p.good.0, p.good.1, refill_good 63 plan p.inner (omega arith) plan_fits can_write p.good.2, p.good.3)

    made : IsMade out p.front p.back (refill plan p.inner)
    made = put_together out p.front p.back (refill plan p.inner) out_is good (refill_utf8 plan p.inner can_write utf8.0, tt)

    last : Item
    last = list_of p.front (refill plan p.inner)

    contents_same : HaveSameContents text root out last
    unfolding last list_of
    contents_same = ap board_contents p.shaped ∙ sym (refill_contents plan p.inner plan_fits) ∙ ap board_contents (sym made.shaped)

    same_bytes : text_with_rings out (board_of out last rules) traced ≡ out
    unfolding last list_of plan out
    same_bytes =
        written out last rules traced p.front p.back (refill plan p.inner) refl out_is good.2 made.shaped
        ∙ ap (λ q. spelt_bytes (Nested p.front (refill q (refill plan p.inner)) (Ends p.back))) (sym (plans_same text out root last rules traced contents_same))
        ∙ ap (λ s. spelt_bytes (Nested p.front s (Ends p.back))) (refill_twice plan p.inner)
        ∙ sym out_is

    refilled_by : AreSoundRules rules → IsAccepted text root → AreBoardFills (board_of text root rules) fills → AreTracedOf fills traced → IsSameAgain text root rules fills traced (text_with_rings text (board_of text root rules) traced)
    unfolding out last
    refilled_by sound ok are traced_are =
        let ok_out : IsAccepted out last = same_accepted text out root last contents_same ok in
        let alike : AreAlike (board_of text root rules) (board_of out last rules) = same_board text out root last rules contents_same in
        record {
          last = last;
          is_root = made.is_root;
          accepted = ok_out;
          alike = alike;
          fills_are = same_fills (board_of text root rules) (board_of out last rules) (accepted text root rules sound ok) (accepted out last rules sound ok_out) alike fills are;
          traced_are = traced_are;
          same = same_bytes;
        }

pub refilled : RefilledLaw
refilled text root rules fills traced sound r ok apart are traced_are near = refilled_by text root rules fills traced r apart near (spelt text root r) sound ok are traced_are
