use Rattle.std.proofs.Common.{◌≡◌, ◌++◌, drop}
use Rattle.output_rules.specs.Rings.{quoted}
use Rattle.output_rules.proofs.ring_text.add_quoted.Given as goal

-- what was added, and what the bytes that are left add, is all
abbrev pub invariant-bytes : goal.invariant-bytes
invariant-bytes l = l.out.items ++ quoted (drop l.byte-index l.name) ≡ l.fn.out.items ++ quoted l.name
