use Rattle.std.proofs.Common.{◌≡◌, drop}
use Rattle.std.specs.List.{list_any}
use Rattle.std.specs.Str.{bytes_eq}
use Rattle.board_text.proofs.text.has_text.Given as goal

abbrev pub invariant-each : goal.invariant-each
invariant-each l = list_any (λ v. bytes_eq v.items l.text) (drop l.other-index l.texts) ≡ list_any (λ v. bytes_eq v.items l.text) l.texts
