use Rattle.std.proofs.Common.{◌≡◌, ◌&&◌, drop}
use Rattle.std.specs.Prelude.{codes}
use Rattle.std.specs.List.{list_any}
use Rattle.sexpr_text.specs.Items.{is_headed}
use Rattle.board_language.specs.Pads.{is_read_pad}
use Rattle.board_items.specs.Known.{context}
use Rattle.board_pads.proofs.read.has_one.Given as goal

abbrev pub invariant-each : goal.invariant-each
invariant-each l =
    list_any (λ p. is_headed p.bytes (codes "pad") p.item && is_read_pad (context p.bytes l.known) p.item) (drop l.list-index l.lists)
    ≡ list_any (λ p. is_headed p.bytes (codes "pad") p.item && is_read_pad (context p.bytes l.known) p.item) l.lists
