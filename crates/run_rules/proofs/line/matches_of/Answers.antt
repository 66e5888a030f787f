use Rattle.std.proofs.Common.{◌≡◌, ◌∙◌, ◌<◌, ap, sym, subst, true, length, map, drop, arith}
use Rattle.std.proofs.lemmas.List.{length-map}
use Rattle.std.specs.String.{string_bytes}
use Rattle.clap.specs.Words.{app_of, found_of, rows_of, kind_of, is_simple, is_simple_and_free}
use Rattle.run_rules.specs.Inner.Line.{error_of, IsRefusalOf}
use Rattle.run_rules.proofs.LineRules.{is_free, is_plain_line}
use Rattle.run_rules.proofs.LineParses.{all_readable, matches_give, faults_refuse}
use Rattle.run_rules.proofs.line.matches_of.Goals as goal

pub returns-in-Ok : goal.returns-in-Ok
returns-in-Ok c =
    let named : 0 < length (map string_bytes c.args.words.now) = omega (arith, length-map c.args.words.now string_bytes, c.requires.named) in
    let free : is_simple_and_free (app_of c.in_ok-line.field-0) ≡ true = ap is_simple_and_free c.in_ok-line.ensures ∙ is_free in
    let simple : is_simple (app_of c.in_ok-line.field-0) ≡ true = ap is_simple c.in_ok-line.ensures ∙ is_plain_line in
    matches_give (app_of c.in_ok-line.field-0) c.in_ok-line.ensures (map string_bytes c.args.words.now) named (all_readable c.args.words.now) c.requires.told
    (rows_of (found_of c.in-Ok.matches)) (c.in-Ok.ensures.kinds free) (c.in-Ok.ensures.matches simple).0

pub returns-in-Err : goal.returns-in-Err
returns-in-Err c =
    let named : 0 < length (map string_bytes c.args.words.now) = omega (arith, length-map c.args.words.now string_bytes, c.requires.named) in
    let free : is_simple_and_free (app_of c.in_ok-line.field-0) ≡ true = ap is_simple_and_free c.in_ok-line.ensures ∙ is_free in
    subst (IsRefusalOf (drop 1 (map string_bytes c.args.words.now))) (sym (c.words_error.ensures ∙ ap error_of c.kind.ensures))
    (faults_refuse (app_of c.in_ok-line.field-0) c.in_ok-line.ensures (map string_bytes c.args.words.now) named (all_readable c.args.words.now) c.requires.told
    (kind_of c.in-Err.error) (c.in-Err.ensures.kinds free))
