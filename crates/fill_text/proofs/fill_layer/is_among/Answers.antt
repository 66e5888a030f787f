use Rattle.std.proofs.Common.{◌∙◌, ap, sym, get_or, [], ◌||◌}
use Rattle.std.specs.Str.{bytes_eq}
use Rattle.fill_text.proofs.Passing.{layer_tried}
use Rattle.fill_text.proofs.fill_layer.is_among.Goals as goal
use Rattle.fill_text.proofs.fill_layer.is_among.Goals.{then-found, else-found}

pub each-preserved : goal.each-preserved
each-preserved c =
    let tried = layer_tried (λ other. bytes_eq other c.args.name.now) (λ n. get_or c.args.layers.now n []) c.args.set c.each.layer c.each.found c.is_named-named.result c.each.invariant c.is_named-named.ensures in
    elim c.if-found.branch [
      | then-found w ↦ w.found-is ∙ w.if-found.true ∙ ap (λ b. b || c.is_named-named.result) (sym w.if-found.true) ∙ tried
      | else-found w ↦ w.found-is ∙ ap (λ b. b || c.is_named-named.result) (sym w.if-found.false) ∙ tried
    ]
