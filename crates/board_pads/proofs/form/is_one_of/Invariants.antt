use Rattle.std.proofs.Common.{◌≡◌, drop, map}
use Rattle.std.specs.Prelude.{option_map}
use Rattle.std.specs.List.{list_any}
use Rattle.board_text.specs.Fields.{is_text}
use Rattle.board_pads.proofs.form.is_one_of.Given as goal

abbrev pub invariant-each : goal.invariant-each
invariant-each l = list_any (λ name. is_text name.now (option_map (λ v. v.items) l.found)) (drop l.name-index l.names) ≡ list_any (λ name. is_text name.now (option_map (λ v. v.items) l.found)) l.names
