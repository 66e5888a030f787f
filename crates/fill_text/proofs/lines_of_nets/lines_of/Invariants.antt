use Rattle.std.proofs.Common.{◌≡◌, map, take}
use Rattle.std.specs.List.{All}
use Rattle.output_rules.specs.Report.{IsLineInRange}
use Rattle.output_rules.specs.Reported.{line_of_pair}
use Rattle.fill_text.proofs.lines_of_nets.lines_of.Given as goal

abbrev pub invariant-each : goal.invariant-each
invariant-each l = record {
  lines : l.lines.items ≡ map (line_of_pair l.anchors) (take l.pair-index l.pairs);
  range : All IsLineInRange l.lines.items;
}
