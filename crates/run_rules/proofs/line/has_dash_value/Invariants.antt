use Rattle.std.proofs.Common.{◌≡◌, map, drop}
use Rattle.std.specs.String.{string_bytes}
use Rattle.run_rules.specs.Inner.Line as inner
use Rattle.run_rules.proofs.line.has_dash_value.Given as goal

-- the words that are left answer as all do
abbrev pub invariant-words : goal.invariant-words
invariant-words l = inner.has_dash_value (map string_bytes (drop l.place l.words)) ≡ inner.has_dash_value (map string_bytes l.words)
