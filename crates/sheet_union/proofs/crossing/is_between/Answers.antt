use Rattle.std.proofs.Common.{◌∙◌}
use Rattle.sheet_union.proofs.Plain.{between_then, between_else}
use Rattle.sheet_union.proofs.crossing.is_between.Goals as goal

pub returns-then-low-value : goal.returns-then-low-value
returns-then-low-value c = between_then c.args.low c.args.value c.args.high c.requires.low c.requires.high c.ranges.value c.if-low-value.true

pub returns-else-low-value : goal.returns-else-low-value
returns-else-low-value c = c.if-low-value.false ∙ between_else c.args.low c.args.value c.args.high c.requires.low c.ranges.value c.if-low-value.false
