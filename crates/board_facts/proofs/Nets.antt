-- The nets that a board declares are read of its items of this kind, each of one.
use Rattle.std.proofs.Common.{◌≡◌, refl, sym, ap, ◌∙◌, ℕ, Bool, true, false, cond, List, ◌∷◌, ◌||◌, filter, None}
use Rattle.std.specs.Prelude.{codes, if◌then◌else◌, filter_map, flat_map}
use Rattle.std.specs.List.{cons_option}
use Rattle.std.proofs.lemmas.Bool.{false≢true}
use Rattle.sexpr_text.specs.declared.NodeKind.TheVariants as kinds
use Rattle.sexpr_text.specs.Grammar.{Forest}
use Rattle.sexpr_text.specs.Grammar.Forest.{Nil, Word, Text, Group}
use Rattle.sexpr_text.specs.Items.{Item, items_of, head_of, is_headed}
use Rattle.board_text.specs.Lists.{is_list}
use Rattle.board_text.specs.Fields.{has_list, head_begins}
use Rattle.board_text.specs.Things.{Layers, Net, Track, CurvedTrack, Via, Footprint, RuleArea, Zone, Drawing, Other, on_board, is_picture, with_own, items_of_board, thing_of}
use Rattle.board_text.specs.Items.{declared_net, declared_nets}
use Rattle.board_language.specs.Offences.{net_as, nets_among}
use Rattle.board_facts.proofs.Footprints.{other_name}
use Rattle.board_facts.proofs.OnBoard.{IsOfBoard, next_got}

nets_of_board : (bytes : List ℕ) → IsOfBoard (net_as bytes)
nets_of_board bytes = record { pad = λ item footprint. refl; zone = λ item. refl; drawing = λ item. refl; other = λ item. refl }

-- a list is a net where its head says so
by_tests : (bytes : List ℕ) (item : Item) (l n t a v f z k d : Bool) → (n ≡ true → l ≡ false)
    → net_as bytes item (if l then Layers else (if n then Net else (if t then Track else (if a then CurvedTrack else (if v then Via else (if f then Footprint else (if z then cond k RuleArea Zone else cond d Drawing Other)))))))
    ≡ cond n (declared_net bytes item) None
by_tests bytes item true true t a v f z k d h = absurd (false≢true (sym (h refl)))
by_tests bytes item true false t a v f z k d h = refl
by_tests bytes item false true t a v f z k d h = refl
by_tests bytes item false false true a v f z k d h = refl
by_tests bytes item false false false true v f z k d h = refl
by_tests bytes item false false false false true f z k d h = refl
by_tests bytes item false false false false false true z k d h = refl
by_tests bytes item false false false false false false true true d h = refl
by_tests bytes item false false false false false false true false d h = refl
by_tests bytes item false false false false false false false k true h = refl
by_tests bytes item false false false false false false false k false h = refl

net_of_list : (bytes : List ℕ) (item : Item) → net_as bytes item (on_board bytes item) ≡ cond (is_headed bytes (codes "net") item) (declared_net bytes item) None
net_of_list bytes item =
    by_tests bytes item (is_headed bytes (codes "layers") item) (is_headed bytes (codes "net") item) (is_headed bytes (codes "segment") item) (is_headed bytes (codes "arc") item)
    (is_headed bytes (codes "via") item) (is_headed bytes (codes "footprint") item) (is_headed bytes (codes "zone") item) (has_list bytes (codes "keepout") item)
    (head_begins bytes (codes "gr_") item || is_picture bytes item) (λ e. other_name bytes (codes "net") (codes "layers") (head_of item) refl e)

in_lists : (bytes : List ℕ) (f : Forest) → nets_among bytes (flat_map (with_own bytes) (filter is_list (items_of f))) ≡ filter_map (declared_net bytes) (filter (is_headed bytes (codes "net")) (items_of f))
unfolding nets_among
in_lists bytes Nil = refl
in_lists bytes (Word from to rest) = in_lists bytes rest
in_lists bytes (Text from to rest) = in_lists bytes rest
in_lists bytes (Group from to inner rest) =
    let list : Item = record { kind = kinds.List; from = from; to = to; inner = inner } in
    let more = filter_map (declared_net bytes) (filter (is_headed bytes (codes "net")) (items_of rest)) in
    next_got bytes (net_as bytes) list (filter is_list (items_of rest)) (nets_of_board bytes)
    ∙ ap (λ o. cons_option o (nets_among bytes (flat_map (with_own bytes) (filter is_list (items_of rest))))) (net_of_list bytes list)
    ∙ ap (cons_option (cond (is_headed bytes (codes "net") list) (declared_net bytes list) None)) (in_lists bytes rest)
    ∙ by_head list (is_headed bytes (codes "net") list)
  where
    by_head : (list : Item) (b : Bool) → cons_option (cond b (declared_net bytes list) None) (filter_map (declared_net bytes) (filter (is_headed bytes (codes "net")) (items_of rest)))
        ≡ filter_map (declared_net bytes) (cond b (list ∷ filter (is_headed bytes (codes "net")) (items_of rest)) (filter (is_headed bytes (codes "net")) (items_of rest)))
    by_head list true = refl
    by_head list false = refl

pub nets_read : (bytes : List ℕ) (root : Item) → nets_among bytes (items_of_board bytes root) ≡ declared_nets bytes root
unfolding nets_among items_of_board declared_nets thing_of
nets_read bytes root = in_lists bytes root.inner
