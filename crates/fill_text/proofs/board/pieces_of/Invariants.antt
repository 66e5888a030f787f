use Rattle.std.proofs.Common.{◌≡◌, ◌++◌, map, drop}
use Rattle.output_rules.specs.Output.{pieces_from}
use Rattle.output_rules.specs.Shown.{piece_shown}
use Rattle.fill_text.proofs.board.pieces_of.Given as goal

abbrev pub invariant-each : goal.invariant-each
invariant-each l =
    map piece_shown l.pieces.items
    ++ pieces_from l.text l.it.board.now.board l.it.traced.now l.zone (drop l.zone l.it.board.now.board.zones)
    ≡ pieces_from l.text l.it.board.now.board l.it.traced.now 0 l.it.board.now.board.zones
