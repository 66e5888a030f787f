use Rattle.std.proofs.Common.{◌≡◌, ◌++◌, drop}
use Rattle.std.specs.List.{flat_map}
use Rattle.output_rules.specs.Report.{line_text}
use Rattle.output_rules.proofs.report.add_lines.Given as goal

-- what was added, and what those that are left add, is all
abbrev pub invariant-lines : goal.invariant-lines
invariant-lines l = l.out.items ++ flat_map line_text (drop l.line-index l.lines) ≡ l.fn.out.items ++ flat_map line_text l.lines
