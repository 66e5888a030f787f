use Rattle.std.proofs.Common.{◌∙◌, ap, not, ◌||◌}
use Rattle.std.specs.Str.{bytes_eq}
use Rattle.board_text.specs.Layers.{is_among}
use Rattle.board_items.proofs.Doubles.{found_is, more_seen}
use Rattle.board_items.proofs.seen.Seen.put.Goals as goal

pub returns-clause-first : goal.returns-clause-first
returns-clause-first c =
    c.in_ok-new.ensures.added
    ∙ ap not (found_is (λ v. v.items) c.self.inside.names.keys c.args.name.items ∙ ap (λ names. is_among names c.args.name.items) c.self.view_is)

pub returns-clause-kept : goal.returns-clause-kept
returns-clause-kept c =
    λ other.
    more_seen (λ v. v.items) c.self.inside.names.keys c.insert.new.self.keys c.args.name other c.in_ok-new.ensures.keys
    ∙ ap (λ names. bytes_eq c.args.name.items other || is_among names other) c.self.view_is
