use Rattle.std.proofs.Common.{◌≡◌, ◌++◌, drop, map}
use Rattle.output_rules.specs.Output.{old_fill}
use Rattle.output_rules.specs.Shown.{piece_shown}
use Rattle.output_rules.proofs.pieces.zone_pieces.Given as goal

-- the pieces so far, and those of the fills that are left, are all
abbrev pub invariant-fills : goal.invariant-fills
invariant-fills l = map piece_shown l.pieces.items ++ map (old_fill l.text) (drop l.fill-index l.fill-items) ≡ map (old_fill l.text) l.fill-items
