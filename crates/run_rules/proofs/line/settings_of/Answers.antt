use Rattle.std.proofs.Common.{◌∙◌}
use Rattle.clap.specs.Words.{found_of}
use Rattle.clap.proofs.WalkLemmas.{first_value-rows}
use Rattle.run_rules.proofs.line.settings_of.Goals as goal

pub returns : goal.returns
returns c =
    let row = first_value-rows (found_of c.args.matches.now) in
    λ i. record { threads = (c.get_str.ensures ∙ row _) i; clearance = (c.get_str-2.ensures ∙ row _) i; edge_clearance = (c.get_str-3.ensures ∙ row _) i }
