use Rattle.std.proofs.Common.{◌≡◌, ◌<◌, ◌^◌, map, take}
use Rattle.output_rules.specs.Report.{unjoined}
use Rattle.output_rules.specs.Shown.{net_shown}
use Rattle.fill_text.proofs.report.counted.Given as goal

abbrev pub invariant-nets : goal.invariant-nets
invariant-nets l = record { count : l.count ≡ unjoined (map net_shown (take l.net-index l.nets)); most : l.count < 2 ^ 64 }
