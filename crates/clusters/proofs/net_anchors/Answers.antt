use Rattle.std.proofs.Common.{map}
use Rattle.std.specs.Arc.{arc_value}
use Rattle.clusters.proofs.Ends.{anchors_range, anchors_nearby}
use Rattle.clusters.proofs.net_anchors.Goals as goal

pub returns-clause-near : goal.returns-clause-near
returns-clause-near c =
    anchors_nearby c.in_ok-anchors.anchors.items
    (anchors_range c.args.board.now.board c.sound.ensures (map arc_value c.args.fills.now) c.requires.fills _ c.args.net c.in_ok-anchors.anchors.items c.in_ok-anchors.ensures)

pub returns-clause-range : goal.returns-clause-range
returns-clause-range c =
    anchors_range c.args.board.now.board c.sound.ensures (map arc_value c.args.fills.now) c.requires.fills _ c.args.net c.in_ok-anchors.anchors.items c.in_ok-anchors.ensures
