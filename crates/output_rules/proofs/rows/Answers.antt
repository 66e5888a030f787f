use Rattle.std.proofs.Common.{refl}
use Rattle.std.specs.Fmt.{digits}
use Rattle.board_text.specs.Items.{solid_end}
use Rattle.fill_rules.specs.Tasks.{ranked, task_zone}
use Rattle.output_rules.specs.Pieces.{replaced}
use Rattle.output_rules.specs.Output.{text_without_fills, text_with_rings, board_pieces}
use Rattle.output_rules.specs.Report.{nodes_text, unjoined, report_text}
use Rattle.output_rules.proofs.rows.Goals as goal

pub returns : goal.returns
unfolding digits solid_end ranked task_zone replaced text_without_fills text_with_rings board_pieces nodes_text unjoined report_text
returns c = record { quotes = refl; without = refl; written = refl; zones = refl; nets = refl; order = refl; members = refl }
