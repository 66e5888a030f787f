use Rattle.std.proofs.Common.{refl, arith, ◌<◌, length, map}
use Rattle.std.specs.List.{flat_map}
use Rattle.output_rules.specs.Report.{net_text}
use Rattle.output_rules.specs.Shown.{net_shown}
use Rattle.output_rules.proofs.Joined.{added_item}
use Rattle.output_rules.proofs.report.add_nets.Goals as goal

pub nets-preserved : goal.nets-preserved
nets-preserved c =
    let within : c.nets.net-index < length c.args.nets.now = omega arith in
    added_item (λ xs. flat_map net_text (map net_shown xs)) (λ x. net_text (net_shown x)) (λ x ys. refl) c.args.nets.now c.nets.net-index c.net-item.result c.nets.out.items c.add_net.new.out.items _
    within c.net-item.is c.in_ok-add_net.ensures c.nets.invariant
