use Rattle.std.proofs.Common.{rules, ap, ap₂, true, ◌≡◌, ◌∙◌}
use Rattle.std.proofs.lemmas.Result.{IfOk-weaker}
use Rattle.clap.specs.Simple.{app_of_fields, on_top}
use Rattle.clap.specs.Words.{app_of, rule_of, with_rule}
use Rattle.lt_words.specs.Command.{bare_app, mode_rule, file_rule, summary_rule, limit_rule}
use Rattle.lt_words.proofs.command.lt_command.Goals as goal

pub returns : goal.returns
returns c =
    let mode_is : rule_of c.required-mode.result ≡ mode_rule = search rules in
    let file_is : rule_of c.action-file.result ≡ file_rule = search rules in
    let summary_is : rule_of c.action-summary.result ≡ summary_rule = search rules in
    let limit_is : rule_of c.long-limit.result ≡ limit_rule = search rules in
    let bare_is : app_of c.disable_version_flag.result ≡ bare_app =
    ap app_of_fields c.disable_version_flag.ensures
    ∙ ap (on_top (λ s. record s { disable_version_flag = true })) (ap app_of_fields c.disable_help_flag.ensures
    ∙ ap (on_top (λ s. record s { disable_help_flag = true })) (ap app_of_fields c.no_binary_name.ensures
    ∙ ap (on_top (λ s. record s { no_binary_name = true })) c.new-5.ensures.app)) in
    let one_is : app_of c.in_ok-arg.field-0 ≡ with_rule bare_app mode_rule =
    c.in_ok-arg.ensures.shape (search rules) ∙ ap₂ with_rule bare_is mode_is in
    let two_is : app_of c.in_ok-arg-2.field-0 ≡ with_rule (with_rule bare_app mode_rule) file_rule =
    c.in_ok-arg-2.ensures.shape (search rules) ∙ ap₂ with_rule one_is file_is in
    let three_is : app_of c.in_ok-arg-3.field-0 ≡ with_rule (with_rule (with_rule bare_app mode_rule) file_rule) summary_rule =
    c.in_ok-arg-3.ensures.shape (search rules) ∙ ap₂ with_rule two_is summary_is in
    IfOk-weaker c.arg-4.result _ _ (λ r h. h.shape (search rules) ∙ ap₂ with_rule three_is limit_is) c.arg-4.ensures
