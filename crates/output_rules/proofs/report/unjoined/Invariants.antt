use Rattle.std.proofs.Common.{◌≡◌, ◌+◌, drop, map}
use Rattle.output_rules.specs.Report.{unjoined}
use Rattle.output_rules.specs.Shown.{net_shown}
use Rattle.output_rules.proofs.report.unjoined.Given as goal

-- what was counted, and the lines of the nets that are left, are all
abbrev pub invariant-nets : goal.invariant-nets
invariant-nets l = l.count + unjoined (map net_shown (drop l.net-index l.nets)) ≡ unjoined (map net_shown l.nets)
