use Rattle.std.proofs.Common.{arith}
use Rattle.board_model.proofs.LineFeeds.{counted, line_is}
use Rattle.board_model.proofs.lines.line_behind.Goals as goal

pub each-init : goal.each-init
each-init c = record { few = c.requires.most; count = counted c.args.bytes.now c.args.from c.args.line c.requires.line }

pub returns-clause-value : goal.returns-clause-value
returns-clause-value c = line_is c.args.bytes.now c.each.place c.args.to c.each.line (omega (arith, c.each-test.false, c.each.auto.place-end)) c.each.invariant.count
