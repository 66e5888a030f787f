use Rattle.std.proofs.Common.{◌≡◌, take}
use Rattle.clusters.specs.Inner.Links.{patch_hulls}
use Rattle.clusters.proofs.node_links.patch_hulls.Given as goal

abbrev pub invariant-each : goal.invariant-each
invariant-each l = l.hulls.items ≡ patch_hulls (take l.patch-index l.patches)
