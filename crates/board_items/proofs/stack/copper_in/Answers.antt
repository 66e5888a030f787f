use Rattle.std.proofs.Common.{◌≡◌, ◌∙◌, ap, filter, filter_map, map, subst}
use Rattle.std.specs.Prelude.{IfOk}
use Rattle.board_text.specs.Layers.{is_copper, name_of_layer}
use Rattle.board_items.proofs.LayersOf.{names_are}
use Rattle.board_items.proofs.stack.copper_in.Goals as goal

pub returns : goal.returns
returns c =
    subst (λ ns. IfOk c.copper_among.result (λ names. names ≡ filter is_copper ns))
    (ap (map (λ t. t.items)) c.deref-2.ensures.value ∙ names_are c.args.item.now.bytes c.args.item.now.item c.in_ok-layers.layers.items (map (λ t. t.items) c.in_ok-names.names.items) c.in_ok-layers.ensures
    (c.in_ok-names.ensures ∙ ap (filter_map (λ p. name_of_layer p.bytes p.item)) c.deref.ensures.value))
    c.copper_among.ensures
