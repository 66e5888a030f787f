use Rattle.std.proofs.Common.{◌≡◌, ◌∙◌, ap, sym, false}
use Rattle.std.specs.Str.{bytes_eq}
use Rattle.indexmap.proofs.CallerLemmas.{insert_entry-new}
use Rattle.board_text.specs.Layers.{is_among}
use Rattle.board_items.specs.Stamps.{stamps_of, with_stamp}
use Rattle.board_items.proofs.StampTables.{none_found, pairs, put_more}
use Rattle.board_items.proofs.stamps.Stamps.put.Goals as goal

pub returns-in_ok-insert-clause-ok : goal.returns-in_ok-insert-clause-ok
returns-in_ok-insert-clause-ok c =
    let new : is_among (stamps_of (pairs (λ v. v.items) c.self.inside.things.entries)) c.args.stamp.items ≡ false =
    ap (λ table. is_among (stamps_of table) c.args.stamp.items) c.self.view_is ∙ ap (is_among (stamps_of c.args.self.now)) (sym c.as_slice.ensures.value) ∙ sym c.has.ensures ∙ c.if-not-has.true in
    put_more (λ v. v.items) c.self.inside.things.entries c.insert.new.self.entries c.args.stamp c.args.thing new
    (c.in_ok-insert.ensures.entries
    ∙ insert_entry-new (λ a b. bytes_eq a.items b.items) c.self.inside.things c.args.stamp c.args.thing (none_found (λ v. v.items) c.args.stamp.items c.self.inside.things.entries new))
    ∙ ap (λ table. with_stamp table c.args.stamp.items c.args.thing) c.self.view_is
