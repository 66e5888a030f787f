use Rattle.std.proofs.Common.{sym}
use Rattle.fill_text.specs.Zone.{layer_text}
use Rattle.fill_text.proofs.Layers.{layer_more}
use Rattle.fill_text.proofs.zone.zone_text.Goals as goal

pub each-preserved : goal.each-preserved
each-preserved c =
    rw (layer_more (layer_text c.args.it.now.board.now.board c.args.it.now.traced.now c.args.zone) _ c.each.layer, sym c.each.invariant, sym c.has_layer.ensures)
    c.in_ok-text.ensures
