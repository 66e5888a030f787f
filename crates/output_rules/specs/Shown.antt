-- What contracts see of the values that are written.
use Rattle.std.specs.Prelude.{List}
use Rattle.std.specs.List.{All}
use Rattle.output_rules.specs.Pieces.{Piece}
use Rattle.output_rules.specs.declared.pieces.Piece as code
use Rattle.output_rules.specs.declared.report.NetLines as nets
use Rattle.output_rules.specs.Report.{NetLines, IsLineInRange}

-- a piece, with its bytes as a list
abbrev pub piece_shown : code.Piece → Piece
piece_shown p = record { from = p.from; to = p.to; put = p.put.items }

-- the lines of a net, with its clusters and lines as lists
abbrev pub net_shown : nets.NetLines → NetLines
net_shown n = record { net = n.net; clusters = n.clusters.items; lines = n.lines.items }

-- the ends of all lines of its ratsnest lie within 500 mm
abbrev pub IsNetInRange : nets.NetLines → Type 0
IsNetInRange n = All IsLineInRange n.lines.items
