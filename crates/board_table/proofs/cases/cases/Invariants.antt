use Rattle.std.proofs.Common.{◌≡◌, ◌-◌, ◌≤◌, length, take}
use Rattle.std.specs.List.{flat_map}
use Rattle.board_table.specs.Cases.{case_text}
use Rattle.board_table.proofs.cases.cases.Given as goal

abbrev pub invariant-cases : goal.invariant-cases
invariant-cases l = (flat_map case_text l.found.items ≡ take l.at l.text) × (l.at ≤ length l.text)

abbrev pub decreases-cases : goal.decreases-cases
decreases-cases l = length l.text - l.at
