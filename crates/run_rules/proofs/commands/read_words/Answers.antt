use Rattle.std.proofs.Common.{◌∙◌, sym}
use Rattle.run_rules.proofs.Dashes.{dash_refused}
use Rattle.run_rules.proofs.commands.read_words.Goals as goal

pub returns-then-has_dash_value : goal.returns-then-has_dash_value
returns-then-has_dash_value c = dash_refused c.args.words.now c.in-len1-up.len_at_least (sym c.has_dash_value.ensures ∙ c.if-has_dash_value.true)
