use Rattle.std.proofs.lemmas.List.Elements.{All-push}
use Rattle.outline_slab.specs.Rules.{IsInSpan}
use Rattle.geometry_table.proofs.outlines.with.Goals as goal

pub returns : goal.returns
returns c = rw c.in_ok-push.ensures.items (All-push IsInSpan c.args.points.items c.args.p c.requires.points c.requires.p)
