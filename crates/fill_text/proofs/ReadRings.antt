-- The fills of all zones, and the rings of all tasks.
use Rattle.std.proofs.Common.{◌≡◌, refl, sym, ap, ◌∙◌, subst, ℕ, ◌+◌, ◌<◌, List, [], ◌∷◌, ◌++◌, length, map, get_or, take, arith}
use Rattle.std.proofs.lemmas.List.{length-map, get_or-map, map_push}
use Rattle.grid_num.specs.declared.Point.{Point}
use Rattle.sexpr_text.specs.Items.{Item}
use Rattle.sexpr_text.specs.Parts.{Part, part_of}
use Rattle.sexpr_text.specs.Trees.{IsRoot}
use Rattle.board_text.specs.Items.{context_of}
use Rattle.board_text.proofs.Walks.{get_same}
use Rattle.board_language.specs.declared.board.Zone.{Zone}
use Rattle.board_language.specs.declared.board.Rules.{Rules}
use Rattle.board_language.specs.Board.{Board}
use Rattle.board_language.specs.Zones.{zone_of}
use Rattle.board_language.specs.Reading.{board_of}
use Rattle.edit_language.specs.Edited.{IsBoardOf}
use Rattle.edit_language.proofs.OneRoot.{one_root}
use Rattle.output_rules.specs.Output.{layer_name}
use Rattle.fill_text.specs.FillLists.{bad_among, names_of_set, rings_on, zones_in, no_list, bad_of_zone}
use Rattle.fill_text.proofs.ZoneLists.{zone_lists}
use Rattle.fill_text.proofs.TasksSaid.{item_more}

layers_are : (bytes : List ℕ) (root : Item) (rules : Rules) → (board_of bytes root rules).layers ≡ (context_of bytes root).copper
unfolding board_of
layers_are bytes root rules = refl

module _ (bytes : List ℕ) (root : Item) (rules : Rules) (b : Board) (zones : List Part) (is : b ≡ board_of bytes root rules) (are : zones ≡ map (part_of bytes) (zones_in bytes root)) where
  lists_many : length zones ≡ length (zones_in bytes root)
  lists_many = ap length are ∙ length-map (zones_in bytes root) (part_of bytes)

  -- a list for each zone
  pub zones_many : length zones ≡ length b.zones
  zones_many =
      lists_many ∙ sym (length-map (zones_in bytes root) (zone_of (context_of bytes root))) ∙ ap length (sym (zone_lists bytes root rules))
      ∙ ap (λ (c : Board). length c.zones) (sym is)

  module _ (k : ℕ) (l : k < length zones) (p : Part) (there : p ≡ get_or zones k p) where
    list : Item
    list = get_or (zones_in bytes root) k no_list

    in_lists : k < length (zones_in bytes root)
    in_lists = let m = lists_many in omega (arith, l, m)

    pub part_is : p ≡ part_of bytes (get_or (zones_in bytes root) k no_list)
    part_is = there ∙ ap (λ ps. get_or ps k p) are ∙ get_or-map (part_of bytes) (zones_in bytes root) k no_list p in_lists

    zone_is : (z : Zone) → z ≡ get_or b.zones k z → z ≡ zone_of (context_of bytes root) (get_or (zones_in bytes root) k no_list)
    zone_is z e =
        e ∙ ap (λ (c : Board). get_or c.zones k z) is ∙ ap (λ zs. get_or zs k z) (zone_lists bytes root rules)
        ∙ get_or-map (zone_of (context_of bytes root)) (zones_in bytes root) k no_list z in_lists

    -- the zone's fills that can't be read, as they are found
    pub bad_is : (z : Zone) → z ≡ get_or b.zones k z → bad_among p.bytes (names_of_set b.layers z.layers) p.item ≡ bad_of_zone (context_of bytes root) (get_or (zones_in bytes root) k no_list)
    unfolding context_of
    bad_is z e =
        ap (λ (q : Part). bad_among q.bytes (names_of_set b.layers z.layers) q.item) part_is
        ∙ ap (λ (y : Zone). bad_among bytes (names_of_set b.layers y.layers) (get_or (zones_in bytes root) k no_list)) (zone_is z e)
        ∙ ap (λ ls. bad_among bytes (names_of_set ls (zone_of (context_of bytes root) (get_or (zones_in bytes root) k no_list)).layers) (get_or (zones_in bytes root) k no_list))
        (ap (λ (c : Board). c.layers) is ∙ layers_are bytes root rules)

    -- the rings of a task, as they are read
    pub rings_are : (n l : ℕ) (name other : List ℕ) → n ≡ l → n < length b.layers → name ≡ other → other ≡ get_or b.layers n other
        → rings_on p.bytes name p.item ≡ rings_on bytes (layer_name b l) (get_or (zones_in bytes root) k no_list)
    rings_are n l name other m i e f =
        ap (λ (q : Part). rings_on q.bytes name q.item) part_is
        ∙ ap (λ s. rings_on bytes s (get_or (zones_in bytes root) k no_list)) (e ∙ f ∙ get_same b.layers n other [] i ∙ ap (layer_name b) m)

-- the rings of one task more
pub task_more : {V T U : Type 0} (content : V → List (List Point)) (shown : T → U) (F : U → List (List Point)) (ts : List T) (us : List U) (k : ℕ) (t : T) (v : V) (done new : List V)
    → map shown ts ≡ us → k < length ts → t ≡ get_or ts k t → map content done ≡ map F (take k us) → content v ≡ F (shown t) → new ≡ done ++ v ∷ [] → map content new ≡ map F (take (k + 1) us)
task_more content shown F ts us k t v done new e l et h ev en =
    let m : length (map shown ts) ≡ length ts = length-map ts shown in
    let n : length (map shown ts) ≡ length us = ap length e in
    item_more F us k (shown t) (content v) (map content done) (map content new) (omega (arith, l, m, n)) h
    (ev ∙ ap (λ w. F (shown w)) et ∙ ap F (sym (get_or-map shown ts k t (shown t) l) ∙ ap (λ ws. get_or ws k (shown t)) e))
    (ap (map content) en ∙ map_push content done v)

-- the board of the text is that of its root
pub board_there : (text : List ℕ) (p : Part) (b : Board) (tree : Item) → IsRoot text tree → p.bytes ≡ text → p.item ≡ tree → (rules : Rules) × IsBoardOf text rules b
    → (rules : Rules) × (b ≡ board_of p.bytes p.item rules)
board_there text p b tree r eb ei h =
    (h.0, h.1.board_is ∙ ap (λ i. board_of text i h.0) (one_root text h.1.root tree h.1.is_root r ∙ sym ei) ∙ ap (λ bs. board_of bs p.item h.0) (sym eb))

-- what is said of the root that was found is said of each root of the text
pub of_each_root : (text : List ℕ) (p : Part) (tree : Item) (P : List ℕ → Item → Type 0) → IsRoot text tree → p.bytes ≡ text → p.item ≡ tree → P p.bytes p.item → (root : Item) → IsRoot text root → P text root
of_each_root text p tree P r eb ei h root s =
    subst (P text) (ei ∙ one_root text tree root r s) (subst (λ bs. P bs p.item) eb h)
