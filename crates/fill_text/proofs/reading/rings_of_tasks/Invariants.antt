use Rattle.std.proofs.Common.{◌≡◌, map, take}
use Rattle.std.specs.List.{All}
use Rattle.rings.specs.Rings.{IsRingInRange}
use Rattle.fill_rules.specs.Tasks.{ranked}
use Rattle.fill_text.specs.FillLists.{rings_of_task}
use Rattle.fill_text.proofs.reading.rings_of_tasks.Given as goal

abbrev pub invariant-each : goal.invariant-each
invariant-each l = record {
  value : map (λ rings. rings.items) l.all.items ≡ map (rings_of_task l.root.bytes l.root.item l.board.board) (take l.k (ranked l.board.board));
  range : All (λ rings. All IsRingInRange rings.items) l.all.items;
}
