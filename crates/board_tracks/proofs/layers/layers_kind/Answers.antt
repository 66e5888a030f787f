use Rattle.std.proofs.Common.{◌∙◌, ap, filter, filter_map, map}
use Rattle.std.specs.Prelude.{is_none}
use Rattle.std.specs.List.{list_any}
use Rattle.board_text.specs.Layers.{has_double, is_copper, name_of_layer, layer_fault}
use Rattle.board_text.specs.Numbers.{first_of}
use Rattle.board_items.specs.Known.{context}
use Rattle.board_tracks.proofs.LayersKind.{kind_is}
use Rattle.board_tracks.proofs.layers.layers_kind.Goals as goal

pub returns : goal.returns
returns c =
    kind_is (context c.args.item.now.bytes c.args.known.now) c.args.item.now.item c.in_ok-layers.layers.items c.in_ok-lacks.lacks c.in_ok-double.double c.in_ok-fault.fault (map (λ t. t.items) c.in_ok-names.names.items) c.in_ok-copper.copper
    c.len.result c.when.result c.number_kind.result c.when-2.result c.when-3.result c.first_kind.result
    c.in_ok-layers.ensures
    (c.in_ok-lacks.ensures ∙ ap (list_any (λ p. is_none (name_of_layer p.bytes p.item))) c.deref.ensures.value)
    (c.in_ok-fault.ensures ∙ ap (λ ps. first_of (map (λ p. layer_fault p.bytes p.item) ps)) c.deref-2.ensures.value)
    (c.in_ok-names.ensures ∙ ap (filter_map (λ p. name_of_layer p.bytes p.item)) c.deref-3.ensures.value)
    (c.in_ok-double.ensures ∙ ap (λ vs. has_double (map (λ t. t.items) vs)) c.deref-4.ensures.value)
    (c.in_ok-copper.ensures ∙ ap (λ vs. filter is_copper (map (λ t. t.items) vs)) c.deref-5.ensures.value)
    c.len.ensures c.when.ensures c.number_kind.ensures c.when-2.ensures c.when-3.ensures c.first_kind.ensures
