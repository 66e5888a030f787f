use Rattle.sexpr_text.proofs.Told.{left_first, left_next, left_here, left_none}
use Rattle.sexpr_text.proofs.tree.Tree.find.Goals as goal

pub each-init : goal.each-init
each-init c item h = left_first c.args.self.now c.args.bytes.now c.args.name.now c.children-children.result.now item (c.children-children.ensures.item item h)

pub each-preserved : goal.each-preserved
each-preserved c item h = left_next c.args.self.now c.args.bytes.now c.args.name.now c.children-children.result.now c.each.child-index _ _ c.each-test.true (c.each.invariant item h) c.is_headed.ensures c.if-is_headed.false

pub returns-then-is_headed-clause-item : goal.returns-then-is_headed-clause-item
returns-then-is_headed-clause-item c item h = left_here c.args.self.now c.args.bytes.now c.args.name.now c.children-children.result.now c.each.child-index _ _ c.each-test.true (c.each.invariant item h) c.is_headed.ensures c.if-is_headed.true

pub returns-clause-item : goal.returns-clause-item
returns-clause-item c item h = left_none c.args.self.now c.args.bytes.now c.args.name.now c.children-children.result.now c.each.child-index _ c.each-test.false (c.each.invariant item h)
