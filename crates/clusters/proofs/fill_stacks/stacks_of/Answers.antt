use Rattle.std.proofs.Common.{sym, subst, map}
use Rattle.std.specs.List.{All}
use Rattle.std.specs.Arc.{arc_value}
use Rattle.std.proofs.lemmas.List.Elements.{All-push}
use Rattle.octagon.specs.Room.{IsAround}
use Rattle.fill_rules.specs.Made.{no_fill}
use Rattle.clusters.specs.Inner.Stacks.{AreNearStacks}
use Rattle.clusters.proofs.Rooms.{read_near}
use Rattle.clusters.proofs.StackParts.{stacks_more, seen_points}
use Rattle.clusters.proofs.fill_stacks.stacks_of.Goals as goal

pub stacks_of_fill-requires-clause-near : goal.stacks_of_fill-requires-clause-near
stacks_of_fill-requires-clause-near c =
    subst (All (IsAround 250000000)) (sym c.pieces_of.ensures)
    (read_near c.args.board.now.board c.sound.ensures (map arc_value c.args.fills.now) c.requires c.each.rank c.fill_at-fill.result.now (c.fill_at-fill.ensures no_fill))

pub each-preserved : goal.each-preserved
each-preserved c = record {
  stacks = rw (c.in_ok-push.ensures.items)
      (stacks_more (map arc_value c.args.fills.now) c.each.rank c.each.all.items c.fill_at-fill.result.now c.in_ok-stacks.stacks (c.fill_at-fill.ensures no_fill)
      (seen_points c.fill_at-fill.result.now c.pieces_of.result.now c.parts_of.result.now c.in_ok-stacks.stacks c.pieces_of.ensures c.parts_of.ensures c.in_ok-stacks.ensures.points)
      c.each.invariant.stacks);
  near = rw (c.in_ok-push.ensures.items) (All-push AreNearStacks c.each.all.items c.in_ok-stacks.stacks c.each.invariant.near c.in_ok-stacks.ensures.near);
}
