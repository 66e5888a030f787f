use Rattle.std.proofs.Common.{◌≡◌, ◌∙◌, ap, ap₂, true, rules, codes}
use Rattle.clap.specs.Words.{app_of, rule_of, new_app, with_rule}
use Rattle.clap.specs.Simple.{app_of_fields, on_top}
use Rattle.run_rules.specs.Inner.Line as inner
use Rattle.run_rules.proofs.line.line.Goals as goal

pub returns : goal.returns
returns c =
    let bare : app_of c.disable_help_flag.result ≡ on_top (λ s. record s { disable_help_flag = true }) (new_app (codes "zonefill")) =
    ap app_of_fields c.disable_help_flag.ensures ∙ ap (on_top (λ s. record s { disable_help_flag = true })) c.new-2.ensures.app in
    let names : rule_of c.action-names.result ≡ inner.names_rule = search rules in
    c.in_ok-line.ensures.shape c.option-3.ensures.local
    ∙ ap₂ with_rule (c.in_ok-arg-3.ensures.shape c.option-2.ensures.local
    ∙ ap₂ with_rule (c.in_ok-arg-2.ensures.shape c.option.ensures.local
    ∙ ap₂ with_rule (c.in_ok-arg.ensures.shape (search rules) ∙ ap₂ with_rule bare names) c.option.ensures.rule) c.option-2.ensures.rule) c.option-3.ensures.rule
