use Rattle.std.proofs.Common.{◌≡◌, ◌&&◌, not, drop}
use Rattle.std.specs.List.{list_any}
use Rattle.board_text.specs.Numbers.{is_decimal, is_zero}
use Rattle.board_pads.proofs.form.has_other.Given as goal

abbrev pub invariant-each : goal.invariant-each
invariant-each l = list_any (λ t. is_decimal t.items && not (is_zero t.items)) (drop l.text-index l.texts) ≡ list_any (λ t. is_decimal t.items && not (is_zero t.items)) l.texts
