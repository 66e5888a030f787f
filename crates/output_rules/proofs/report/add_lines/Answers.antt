use Rattle.std.proofs.Common.{refl, arith, ◌<◌, length}
use Rattle.std.specs.List.{flat_map}
use Rattle.output_rules.specs.Report.{line_text}
use Rattle.output_rules.proofs.Joined.{added_item, found_item}
use Rattle.output_rules.proofs.report.add_lines.Goals as goal

pub lines-preserved : goal.lines-preserved
lines-preserved c =
    let within : c.lines.line-index < length c.args.lines.now = omega arith in
    added_item (flat_map line_text) line_text (λ x ys. refl) c.args.lines.now c.lines.line-index _ c.lines.out.items c.add_line.new.out.items _
    within (found_item c.args.lines.now c.lines.line-index _ within) c.in_ok-add_line.ensures c.lines.invariant
