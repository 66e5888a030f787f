use Rattle.std.proofs.Common.{◌≡◌, ◌++◌, drop, map}
use Rattle.std.specs.List.{flat_map}
use Rattle.output_rules.specs.Report.{net_text}
use Rattle.output_rules.specs.Shown.{net_shown}
use Rattle.output_rules.proofs.report.add_nets.Given as goal

-- what was added, and what those that are left add, is all
abbrev pub invariant-nets : goal.invariant-nets
invariant-nets l = l.out.items ++ flat_map net_text (map net_shown (drop l.net-index l.nets)) ≡ l.fn.out.items ++ flat_map net_text (map net_shown l.nets)
