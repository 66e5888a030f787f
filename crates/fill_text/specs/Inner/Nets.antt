-- The nets of a report, one by one.
use Rattle.std.specs.Prelude.{◌≡◌, ◌↔◌, ℕ, List}
use Rattle.classes.specs.Classes.{IsOneOf}
use Rattle.ratsnest.specs.declared.Pair.{Pair}
use Rattle.ratsnest.specs.Ratsnest.{IsTree}
use Rattle.board_language.specs.Board.{Board}
use Rattle.fill_rules.specs.Ranking.{IsSortedBy}
use Rattle.fill_rules.specs.Made.{Made}
use Rattle.fill_rules.specs.Clusters.{net_anchors}
use Rattle.output_rules.specs.Laws.{IsBelow}
use Rattle.output_rules.specs.Report.{NetLines}
use Rattle.output_rules.specs.Reported.{net_lines}

-- they are those of the list, upward and each once
pub record AreEachOnce (ns once : List ℕ) : Type 0 where
  pub sorted : IsSortedBy IsBelow once
  pub same : (n : ℕ) → IsOneOf n once ↔ IsOneOf n ns

-- they are the clusters of the net, and the lines of its ratsnest
pub record AreLinesOfNet (b : Board) (fills : List Made) (labels : List ℕ) (net : ℕ) (n : NetLines) : Type 0 where
  pub pairs : List Pair
  pub tree : IsTree (net_anchors b fills labels net) pairs
  pub is : n ≡ net_lines b fills labels net pairs
