use Rattle.std.proofs.Common.{◌≡◌, ◌++◌, ◌+◌, ◌≤◌, map, length, Some}
use Rattle.std.specs.Prelude.{vec_capacity}
use Rattle.std.specs.List.{All}
use Rattle.std.specs.Arc.{arc_value}
use Rattle.fill_pool.specs.Inner.Slots.{filled, IsFull}
use Rattle.fill_pool.proofs.copies.into_all.Given as goal

abbrev pub invariant-each : goal.invariant-each
invariant-each l = record {
  same : map Some (map arc_value l.all.items) ++ map filled l.fill-iterator.rest.items ≡ map Some (map arc_value l.fn.all.items) ++ map filled l.fn.fills.items;
  full : All IsFull (map filled l.fill-iterator.rest.items);
  room : length l.all.items + length l.fill-iterator.rest.items ≤ vec_capacity l.all;
}
