use Rattle.std.proofs.Common.{◌≡◌, ◌++◌, false, drop}
use Rattle.sexpr_text.specs.Items.{unescaped}
use Rattle.sexpr_text.proofs.content.unescape.Given as goal

abbrev pub invariant-each : goal.invariant-each
invariant-each l = l.content.items ++ unescaped l.escaped (drop l.byte-index l.inside) ≡ unescaped false l.inside
