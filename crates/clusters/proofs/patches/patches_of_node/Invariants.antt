use Rattle.std.proofs.Common.{◌≡◌, ℕ, ◌<◌, take}
use Rattle.std.specs.Prelude.{flat_map}
use Rattle.std.specs.List.{All}
use Rattle.clusters.specs.Inner.Patches.{IsPatch}
use Rattle.clusters.specs.Inner.Copper.{shape_patches}
use Rattle.clusters.proofs.patches.patches_of_node.Given as goal

abbrev pub invariant-each : goal.invariant-each
invariant-each l = record {
  patches : l.patches.items ≡ flat_map (shape_patches l.owner) (take l.shape-index l.shapes);
  each : (n : ℕ) → l.owner.node < n → All (IsPatch n) l.patches.items;
}
