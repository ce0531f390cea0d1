use Rattle.std.proofs.Common.{◌∙◌, ◌++◌, ◌∷◌, [], ap, sym}
use Rattle.lt_definitions.specs.Types.{same_name}
use Rattle.lt_transport_definitions.specs.RuleForm.{TransferRule}
use Rattle.lt_relations.proofs.RegisteringLemmas.{stays, grows}
use Rattle.lt_rules.specs.Told.{rule_told}
use Rattle.lt_rules.specs.Registering.{has_label}
use Rattle.lt_rules.proofs.rule_base.RuleBase.keep_rule.Goals as goal

pub returns-then-has_label-clause-ok : goal.returns-then-has_label-clause-ok
returns-then-has_label-clause-ok c =
    stays (λ (e : TransferRule). same_name c.args.rule.label e.label) (rule_told c.args.rule) c.args.self.now (sym c.has_label.ensures ∙ c.if-has_label.true)

pub put-requires : goal.put-requires
put-requires c = ap (λ (r : TransferRule). has_label c.args.self.now r.label) c.in_ok-rule.ensures ∙ sym c.has_label.ensures ∙ c.if-has_label.false

pub returns-clause-ok : goal.returns-clause-ok
returns-clause-ok c =
    c.in_ok-put.ensures.ok ∙ ap (λ (r : TransferRule). c.args.self.now ++ r ∷ []) c.in_ok-rule.ensures
    ∙ grows (λ (e : TransferRule). same_name c.args.rule.label e.label) (rule_told c.args.rule) c.args.self.now (sym c.has_label.ensures ∙ c.if-has_label.false)
