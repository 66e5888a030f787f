use Rattle.std.proofs.Common.{arith}
use Rattle.std.proofs.lemmas.Int.{ints}
use Rattle.scan_runs.proofs.PartLaws.{no_parts, parts_more, parts_end}
use Rattle.scan_runs.proofs.part.parts_of.Goals as goal

pub octs-init : goal.octs-init
octs-init c = rw c.in_ok-parts.ensures.items (no_parts _ c.args.more)

pub octs-preserved : goal.octs-preserved
octs-preserved c =
    parts_more c.oct-item.result c.args.octs.now c.octs.oct-index _ c.args.more c.octs.parts.items c.add_part.new.out.items c.octs-test.true c.oct-item.is c.octs.invariant
    (c.in_ok-add_part.ensures.yes c.if-not-branch.false)

pub returns-clause-some : goal.returns-clause-some
returns-clause-some c = parts_end c.args.octs.now c.octs.oct-index c.args.top _ c.args.more c.octs.parts.items c.octs-test.false (omega (arith, ints)) c.octs.invariant
