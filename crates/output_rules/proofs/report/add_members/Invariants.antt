use Rattle.std.proofs.Common.{◌≡◌, ◌++◌, drop}
use Rattle.std.specs.List.{flat_map}
use Rattle.output_rules.specs.Report.{member_text}
use Rattle.output_rules.proofs.report.add_members.Given as goal

-- what was added, and what those that are left add, is all
abbrev pub invariant-members : goal.invariant-members
invariant-members l = l.out.items ++ flat_map member_text (drop l.member-index l.members) ≡ l.fn.out.items ++ flat_map member_text l.members
