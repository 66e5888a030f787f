use Rattle.std.proofs.Common.{arith, refl}
use Rattle.std.proofs.lemmas.Int.{ints}
use Rattle.scan_runs.proofs.Groups.{longer_later_strip}
use Rattle.scan_runs.proofs.group.longer.Goals as goal

pub returns : goal.returns
returns c = longer_later_strip c.args.last c.args.strip.now _ c.args.steps.items c.requires.strip c.requires.last c.requires.steps (omega (arith, c.if-last-eq0.false)) (omega (arith, ints, c.requires.last.top)) refl refl
