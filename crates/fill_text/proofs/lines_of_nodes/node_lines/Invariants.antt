use Rattle.std.proofs.Common.{◌≡◌, map, take}
use Rattle.std.specs.Arc.{arc_value}
use Rattle.fill_rules.specs.Nodes.{nodes_of}
use Rattle.output_rules.specs.Reported.{node_line}
use Rattle.fill_text.specs.Inner.Numbers.{IsNumbered}
use Rattle.fill_text.proofs.lines_of_nodes.node_lines.Given as goal

abbrev pub invariant-each : goal.invariant-each
invariant-each l = record {
  lines : l.lines.items ≡ map (node_line l.board.board (map arc_value l.fills)) (take l.k (nodes_of l.board.board (map arc_value l.fills)));
  numbered : IsNumbered (map arc_value l.fills) l.numbered.fill l.numbered.numbers.items;
}
