use Rattle.std.proofs.Common.{◌∙◌, ap}
use Rattle.lt_rules.specs.RuleIndexes.{rules_of}
use Rattle.lt_rules.proofs.rule_base.RuleBase.candidates.Goals as goal

pub returns : goal.returns
returns c =
    let x = c.args.constant.now in
    c.get.ensures ∙ c.self.invariant.1 x ∙ ap (λ rules. rules_of rules x) c.self.view_is
