use Rattle.std.proofs.Common.{◌∙◌, ap}
use Rattle.board_items.specs.Stamps.{stamped}
use Rattle.board_items.proofs.StampTables.{found_is}
use Rattle.board_items.proofs.stamps.Stamps.find.Goals as goal

pub returns-in-Some : goal.returns-in-Some
returns-in-Some c = c.in-Some.ensures.value ∙ found_is (λ v. v.items) c.args.stamp.now c.self.inside.things.entries ∙ ap (λ table. stamped table c.args.stamp.now) c.self.view_is

pub returns-in-None : goal.returns-in-None
returns-in-None c = c.in-None.ensures.value ∙ found_is (λ v. v.items) c.args.stamp.now c.self.inside.things.entries ∙ ap (λ table. stamped table c.args.stamp.now) c.self.view_is
