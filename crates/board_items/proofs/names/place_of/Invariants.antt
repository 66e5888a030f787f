use Rattle.std.proofs.Common.{◌≡◌, ◌+◌, not, drop}
use Rattle.std.specs.List.{prefix_len}
use Rattle.std.specs.Str.{bytes_eq}
use Rattle.board_items.proofs.names.place_of.Given as goal

abbrev pub invariant-each : goal.invariant-each
invariant-each l = record {
  place : l.place ≡ l.other-index;
  count : l.other-index + prefix_len (λ v. not (bytes_eq v.items l.name)) (drop l.other-index l.names) ≡ prefix_len (λ v. not (bytes_eq v.items l.name)) l.names;
}
