use Rattle.std.proofs.Common.{◌≡◌, ℕ, ◌<◌, map, take}
use Rattle.std.specs.List.{All}
use Rattle.clusters.specs.Inner.Patches.{IsPatch}
use Rattle.clusters.specs.Inner.Copper.{patch_of}
use Rattle.clusters.proofs.patches.patches_of_shape.Given as goal

abbrev pub invariant-each : goal.invariant-each
invariant-each l = record {
  patches : l.patches.items ≡ map (patch_of l.owner l.shape) (take l.hull-index l.hull-items);
  each : (n : ℕ) → l.owner.node < n → All (IsPatch n) l.patches.items;
}
