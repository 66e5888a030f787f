use Rattle.std.proofs.Common.{◌∙◌, ap}
use Rattle.board_text.specs.Layers.{is_among}
use Rattle.board_items.specs.Stamps.{stamps_of}
use Rattle.board_items.proofs.StampTables.{among_is}
use Rattle.board_items.proofs.stamps.Stamps.has.Goals as goal

pub returns : goal.returns
returns c =
    c.contains_key.ensures ∙ among_is (λ v. v.items) c.args.stamp.now c.self.inside.things.entries ∙ ap (λ table. is_among (stamps_of table) c.args.stamp.now) c.self.view_is
