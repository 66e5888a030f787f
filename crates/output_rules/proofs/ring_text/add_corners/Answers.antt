use Rattle.std.proofs.Common.{refl, arith, ◌<◌, length}
use Rattle.std.specs.List.{flat_map}
use Rattle.output_rules.specs.Rings.{corner_text}
use Rattle.output_rules.proofs.Joined.{added_item, found_item}
use Rattle.output_rules.proofs.ring_text.add_corners.Goals as goal

pub corners-preserved : goal.corners-preserved
corners-preserved c =
    let within : c.corners.corner-index < length c.args.corners.now = omega arith in
    added_item (flat_map corner_text) corner_text (λ x ys. refl) c.args.corners.now c.corners.corner-index _ c.corners.out.items c.add_corner.new.out.items _
    within (found_item c.args.corners.now c.corners.corner-index _ within) c.in_ok-add_corner.ensures c.corners.invariant
