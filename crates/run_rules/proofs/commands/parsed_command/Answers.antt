use Rattle.std.proofs.Common.{◌∙◌, ap, sym, subst, List, [], map}
use Rattle.std.specs.Prelude.{option_map, unwrap_or}
use Rattle.clap.specs.Words.{found_of, rows_of}
use Rattle.clap.proofs.WalkLemmas.{raw_values-rows}
use Rattle.run_rules.specs.Words.{GivenWord, Settings, command_of}
use Rattle.run_rules.specs.Read.{IsAnswerOf}
use Rattle.run_rules.specs.Inner.Line.{given_in_rows}
use Rattle.run_rules.proofs.commands.parsed_command.Goals as goal

pub returns-in-Some : goal.returns-in-Some
returns-in-Some c =
    let found = ap (λ o. unwrap_or o []) (ap (option_map (λ s. map (λ v. v.now) s.now)) (sym c.in-Some.is) ∙ c.get_strs.ensures ∙ raw_values-rows (found_of c.args.matches.now) _) in
    subst (λ (names : List GivenWord). IsAnswerOf c.command_of.result (command_of c.args.command.now names (given_in_rows (rows_of (found_of c.args.matches.now))).settings)) found
    (subst (λ (s : Settings). IsAnswerOf c.command_of.result (command_of c.args.command.now (map (λ n. n.now) c.in-Some.names.now) s)) c.settings_of-settings.ensures c.command_of.ensures)

pub returns-in-None : goal.returns-in-None
returns-in-None c =
    let found = ap (λ o. unwrap_or o []) (ap (option_map (λ s. map (λ v. v.now) s.now)) (sym c.in-None.is) ∙ c.get_strs.ensures ∙ raw_values-rows (found_of c.args.matches.now) _) in
    subst (λ (names : List GivenWord). IsAnswerOf c.command_of-in-None.result (command_of c.args.command.now names (given_in_rows (rows_of (found_of c.args.matches.now))).settings)) found
    (subst (λ (s : Settings). IsAnswerOf c.command_of-in-None.result (command_of c.args.command.now [] s)) c.settings_of-settings.ensures c.command_of-in-None.ensures)
