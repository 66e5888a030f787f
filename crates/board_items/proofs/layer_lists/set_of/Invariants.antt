use Rattle.std.proofs.Common.{◌≡◌, ◌-◌, drop, length, map}
use Rattle.board_text.specs.Layers.{bits, is_among}
use Rattle.board_items.proofs.layer_lists.set_of.Given as goal

abbrev pub invariant-each : goal.invariant-each
invariant-each l = l.set ≡ bits (map (λ v. is_among (map (λ t. t.items) l.meant) v.items) (drop (length l.copper - l.step) l.copper))
