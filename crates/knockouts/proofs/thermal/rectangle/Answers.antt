use Rattle.std.proofs.Common.{w64, to_z, of_z}
use Rattle.std.proofs.lemmas.Int.{to_z-of_z}
use Rattle.knockouts.proofs.Boxes.{box_read}
use Rattle.knockouts.proofs.thermal.rectangle.Goals as goal

pub returns : goal.returns
returns c =
    box_read c.args.left c.args.right c.args.top c.args.bottom
    (to_z w64 (of_z w64 c.args.left)) (to_z w64 (of_z w64 c.args.right)) (to_z w64 (of_z w64 c.args.top)) (to_z w64 (of_z w64 c.args.bottom)) c.of_points.result
    (to_z-of_z w64 c.args.left c.ranges.left) (to_z-of_z w64 c.args.right c.ranges.right) (to_z-of_z w64 c.args.top c.ranges.top) (to_z-of_z w64 c.args.bottom c.ranges.bottom)
    c.requires.wide c.requires.high c.of_points.ensures.holds c.of_points.ensures.least c.of_points.ensures.oct
