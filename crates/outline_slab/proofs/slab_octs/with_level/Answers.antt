use Rattle.std.proofs.Common.{arith}
use Rattle.std.proofs.lemmas.Int.{ints}
use Rattle.std.proofs.lemmas.List.Elements.{All-push}
use Rattle.plane.specs.Plane.{IsOct}
use Rattle.outline_slab.specs.Inner.Side.{side_edge}
use Rattle.outline_slab.proofs.Octs.{level_pushed}
use Rattle.outline_slab.proofs.Filled.{stout_kept}
use Rattle.outline_slab.proofs.slab_octs.with_level.Goals as goal

pub returns-clause-points : goal.returns-clause-points
returns-clause-points c = λ p. rw c.in_ok-push.ensures.items (level_pushed c.args.octs.items c.side_oct.result (side_edge c.args.side) p (omega (arith, ints)) (c.side_oct.ensures.points p))

pub returns-clause-octs : goal.returns-clause-octs
returns-clause-octs c = rw c.in_ok-push.ensures.items (All-push IsOct c.args.octs.items c.side_oct.result c.requires.octs c.side_oct.ensures.oct)

pub returns-clause-kept : goal.returns-clause-kept
returns-clause-kept c = stout_kept c.args.octs.items _ c.side_oct.result c.in_ok-push.ensures.items
