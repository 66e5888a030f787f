use Rattle.std.proofs.Common.{sym, subst}
use Rattle.std.specs.List.{All}
use Rattle.std.proofs.lemmas.List.Elements.{All-push}
use Rattle.output_rules.specs.Report.{IsLineInRange}
use Rattle.output_rules.specs.Reported.{line_of_pair}
use Rattle.fill_text.proofs.NetsSaid.{ends_there}
use Rattle.fill_text.proofs.TasksSaid.{item_more}
use Rattle.fill_text.proofs.lines_of_nets.lines_of.Goals as goal

pub line_of-requires-clause-first : goal.line_of-requires-clause-first
line_of-requires-clause-first c = (ends_there c.tree_law.ensures c.args.anchors.now c.args.pairs.now c.requires.tree c.each.pair-index _ c.each-test.true).0

pub line_of-requires-clause-second : goal.line_of-requires-clause-second
line_of-requires-clause-second c = (ends_there c.tree_law.ensures c.args.anchors.now c.args.pairs.now c.requires.tree c.each.pair-index _ c.each-test.true).1

pub each-preserved : goal.each-preserved
each-preserved c =
    let e = c.in_ok-push.ensures.items in
    record {
      lines = item_more (line_of_pair c.args.anchors.now) c.args.pairs.now c.each.pair-index _ c.line_of.result c.each.lines.items c.push.new.self.items c.each-test.true c.each.invariant.lines c.line_of.ensures.line e;
      range = subst (All IsLineInRange) (sym e) (All-push IsLineInRange c.each.lines.items c.line_of.result c.each.invariant.range c.line_of.ensures.range);
    }
