use Rattle.std.proofs.Common.{map, take}
use Rattle.std.specs.List.{All}
use Rattle.std.specs.Arc.{arc_value}
use Rattle.output_rules.specs.Reported.{AreNetLines}
use Rattle.output_rules.specs.Shown.{net_shown, IsNetInRange}
use Rattle.fill_text.proofs.lines_of_nets.net_lines.Given as goal

abbrev pub invariant-each : goal.invariant-each
invariant-each l = record {
  lines : AreNetLines l.board.board (map arc_value l.fills) l.labelling.label.items (take l.k l.nets.items) (map net_shown l.lines.items);
  range : All IsNetInRange l.lines.items;
}
