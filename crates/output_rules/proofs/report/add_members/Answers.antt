use Rattle.std.proofs.Common.{refl, arith, ◌<◌, length}
use Rattle.std.specs.List.{flat_map}
use Rattle.output_rules.specs.Report.{member_text}
use Rattle.output_rules.proofs.Joined.{added_item, found_item}
use Rattle.output_rules.proofs.report.add_members.Goals as goal

pub members-preserved : goal.members-preserved
members-preserved c =
    let within : c.members.member-index < length c.args.members.now = omega arith in
    added_item (flat_map member_text) member_text (λ x ys. refl) c.args.members.now c.members.member-index _ c.members.out.items c.add_numbered.new.out.items _
    within (found_item c.args.members.now c.members.member-index _ within) c.in_ok-add_numbered.ensures c.members.invariant
