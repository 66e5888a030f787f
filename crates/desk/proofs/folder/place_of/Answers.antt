use Rattle.std.proofs.Common.{arith}
use Rattle.desk.proofs.Entries.{others_more, first_here}
use Rattle.desk.proofs.folder.place_of.Goals as goal

pub returns-then-is_named-clause-found : goal.returns-then-is_named-clause-found
returns-then-is_named-clause-found c = first_here c.args.files.now c.each.at c.args.name.now c.index-files-at.result c.each-test.true c.index-files-at.is (c.is_named.ensures.yes c.if-is_named.true) c.each.invariant.1

pub each-preserved : goal.each-preserved
each-preserved c = (omega arith, others_more c.args.files.now c.each.at c.args.name.now c.index-files-at.result c.each-test.true c.index-files-at.is (c.is_named.ensures.no c.if-is_named.false) c.each.invariant.1)
