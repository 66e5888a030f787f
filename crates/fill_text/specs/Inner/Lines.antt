-- What is said of a fill.
use Rattle.std.specs.Prelude.{suc, length}
use Rattle.board_language.specs.Board.{Board}
use Rattle.rings.specs.Rings.{Traced}
use Rattle.fill_rules.specs.Tasks.{task_zone}
use Rattle.fill_rules.specs.Made.{Made}
use Rattle.fill_rules.specs.Nodes.{firsts_from}
use Rattle.output_rules.specs.declared.report.TaskLine.{TaskLine}
use Rattle.output_rules.specs.Output.{layer_name}

-- of a fill with its outlines: its zone, counted from 1, with its line, its layer, and how many parts and rings it has
abbrev pub line_of_fill : Board → Made → Traced → TaskLine
line_of_fill b f out =
    record {
      zone = suc f.task.zone;
      line = (task_zone b f.task).line;
      layer = layer_name b f.task.layer;
      parts = length (firsts_from 0 f.parts);
      polygons = length out.rings;
      area2 = out.area2;
    }
