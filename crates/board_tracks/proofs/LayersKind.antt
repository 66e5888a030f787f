-- What offends in the board's layers, from what was found part by part.
use Rattle.std.proofs.Common.{◌≡◌, ℕ, Bool, List, [], ◌∷◌, length, map, filter, filter_map, refl, sym, ap, ◌∙◌, Option}
use Rattle.std.specs.Prelude.{is_none, nat_lt}
use Rattle.std.specs.List.{list_any}
use Rattle.grid_num.specs.declared.read.NumFault.{NumFault}
use Rattle.sexpr_text.specs.Items.{Item}
use Rattle.sexpr_text.specs.Parts.{Part, part_of}
use Rattle.board_language.specs.declared.offence.OffenceKind.{OffenceKind}
use Rattle.board_language.specs.declared.offence.OffenceKind.TheVariants as kinds
use Rattle.board_text.specs.Items.{Context}
use Rattle.board_text.specs.Layers.{Name, has_double, is_copper, layers_in, name_of_layer, layer_fault, layer_names_in, layers_fault}
use Rattle.board_text.specs.Numbers.{first_of}
use Rattle.board_language.specs.Offences.{first_kind, layers_kind, number_offence, when}
use Rattle.board_items.proofs.LayersOf.{any_lacks, first_fault, names_are}

-- the first kind of what was found, part by part
pub kind_is : (c : Context) (item : Item) (layers : List Part) (lacks double : Bool) (fault : Option NumFault) (names copper : List Name) (n : ℕ) (missing number' doubled many kind : Option OffenceKind)
    → layers ≡ map (part_of c.bytes) (layers_in item)
    → lacks ≡ list_any (λ p. is_none (name_of_layer p.bytes p.item)) layers → fault ≡ first_of (map (λ p. layer_fault p.bytes p.item) layers)
    → names ≡ filter_map (λ p. name_of_layer p.bytes p.item) layers → double ≡ has_double names → copper ≡ filter is_copper names → n ≡ length copper
    → missing ≡ when kinds.MissingPart lacks → number' ≡ number_offence fault → doubled ≡ when kinds.DoubleLayer double → many ≡ when kinds.TooMany (nat_lt 32 n)
    → kind ≡ first_kind (missing ∷ number' ∷ doubled ∷ many ∷ []) → kind ≡ layers_kind c item
unfolding layers_kind
kind_is c item layers lacks double fault names copper n missing number' doubled many kind e l f ns d k m km kn kd kt r =
    let lacks' : lacks ≡ list_any (λ x. is_none (name_of_layer c.bytes x)) (layers_in item) = l ∙ ap (list_any (λ p. is_none (name_of_layer p.bytes p.item))) e ∙ any_lacks c.bytes (layers_in item) in
    let fault' : fault ≡ layers_fault c.bytes item = f ∙ ap (λ ps. first_of (map (λ p. layer_fault p.bytes p.item) ps)) e ∙ first_fault c.bytes item in
    let names' : names ≡ layer_names_in c.bytes item = names_are c.bytes item layers names e ns in
    let double' : double ≡ has_double (layer_names_in c.bytes item) = d ∙ ap has_double names' in
    let n' : n ≡ length (filter is_copper (layer_names_in c.bytes item)) = m ∙ ap length (k ∙ ap (filter is_copper) names') in
    r ∙ (λ i. first_kind ((km ∙ ap (when kinds.MissingPart) lacks') i ∷ (kn ∙ ap number_offence fault') i ∷ (kd ∙ ap (when kinds.DoubleLayer) double') i ∷ (kt ∙ ap (λ x. when kinds.TooMany (nat_lt 32 x)) n') i ∷ []))
