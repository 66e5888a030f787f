use Rattle.std.proofs.Common.{◌∙◌}
use Rattle.copper_shape.proofs.Areas.{if_ok}
use Rattle.copper_shape.proofs.Chords.{edge_is, holds_segment, holds_disc}
use Rattle.copper_shape.proofs.edge.edge_hulls.Goals as goal

pub returns : goal.returns
returns c =
    let e = c.args.edge.now in
    let same = edge_is e.from e.to e.bow c.copper_of.result.core c.copper_of.result.radius c.copper_of.ensures.core c.copper_of.ensures.radius in
    record {
      value = if_ok _ _ c.hulls.result (λ hulls is. is ∙ same) c.hulls.ensures.value;
      segment = if_ok _ _ c.hulls.result (λ hulls is. holds_segment e.from e.to e.bow hulls.items (is ∙ same)) c.hulls.ensures.value;
      disc = if_ok _ _ c.hulls.result (λ hulls is. holds_disc e.from e.to e.bow hulls.items (is ∙ same)) c.hulls.ensures.value;
      reach = c.hulls.ensures.reach;
    }
