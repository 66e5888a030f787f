use Rattle.std.proofs.Common.{drop}
use Rattle.sexpr_text.specs.Items.{Item, children_of}
use Rattle.sexpr_text.specs.Flat.{IsNode}
use Rattle.sexpr_text.proofs.Told.{Left}
use Rattle.sexpr_text.proofs.tree.Tree.find.Given as goal

abbrev pub invariant-each : goal.invariant-each
invariant-each l = (item : Item) → IsNode l.self l.id item → Left l.self l.bytes l.name (drop l.child-index l.children) (children_of item)
