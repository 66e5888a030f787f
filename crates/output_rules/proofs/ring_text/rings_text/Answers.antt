use Rattle.std.proofs.Common.{refl, arith, ◌<◌, length}
use Rattle.std.specs.List.{flat_map}
use Rattle.output_rules.specs.Rings.{ring_text}
use Rattle.output_rules.proofs.Joined.{added_item}
use Rattle.output_rules.proofs.ring_text.rings_text.Goals as goal

pub rings-preserved : goal.rings-preserved
rings-preserved c =
    let within : c.rings.ring-index < length c.args.rings.now = omega arith in
    added_item (flat_map (ring_text c.args.layer.now)) (ring_text c.args.layer.now) (λ x ys. refl)
    c.args.rings.now c.rings.ring-index c.ring-item.result c.rings.out.items c.add_ring.new.out.items _
    within c.ring-item.is c.in_ok-add_ring.ensures c.rings.invariant
