use Rattle.std.proofs.Common.{take}
use Rattle.scan_runs.specs.Strips.{IsSpan}
use Rattle.scan_runs.proofs.span.span_of.Given as goal

abbrev pub invariant-octs : goal.invariant-octs
invariant-octs l = IsSpan (take l.oct-index l.octs) l.span.top l.span.bottom
