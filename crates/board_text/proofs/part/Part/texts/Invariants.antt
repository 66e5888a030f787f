use Rattle.std.proofs.Common.{◌≡◌, ◌++◌, map, filter_map, drop}
use Rattle.sexpr_text.specs.Items.{children_of}
use Rattle.board_text.specs.Fields.{text_of, texts_of}
use Rattle.board_text.proofs.part.Part.texts.Given as goal

abbrev pub invariant-each : goal.invariant-each
invariant-each l = map (λ t. t.items) l.texts.items ++ filter_map (text_of l.self.bytes) (drop l.place (children_of l.self.item)) ≡ texts_of l.self.bytes l.self.item
